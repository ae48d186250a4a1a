-- What holds of each list that a crash may leave stays so where calls write elsewhere.
use Rattle.std.proofs.Common.{ℕ, Bool, true, false, List, [], ◌∷◌, sym, subst, inl, inr}
use Rattle.std.specs.List.{AllByRecursion}
use Rattle.device.specs.Device.{LeavesOnly}
use Rattle.device.specs.Did.{Did}
use Rattle.device.specs.Work.{Work, TornFromWork}
use Rattle.device.specs.declared.device.Device.{Ghosts}
use Rattle.device.proofs.Public.{leaves_at_start, leaves_weaker, leaves_then}
use Rattle.log_commits.specs.Calls.{DidAll}

-- it holds at each moment, and from then on
pub record Stays {D : Type 0} (disk : Ghosts D) (P : List ℕ → Type 0) (old new : D) : Type 0 where
  pub crash : LeavesOnly disk.moment disk.left_since old new P
  pub left : (c : List ℕ) → disk.may_leave new c → P c

module _ {D : Type 0} (disk : Ghosts D)
    (since_now : (device : D) (c : List ℕ) → disk.left_since device (disk.moment device) c → disk.may_leave device c)
    (P : List ℕ → Type 0) (Safe : Work → Type 0)
    (torn : (work : Work) (lists : List ℕ → Type 0) → Safe work → ((c : List ℕ) → lists c → P c) → (c : List ℕ)
    → TornFromWork work lists c → P c) where
  one_stays : (work : Work) (done : Bool) (old new : D) → Safe work → ((c : List ℕ) → disk.may_leave old c → P c)
      → Did disk old work done new → Stays disk P old new
  one_stays work done old new safe has did = record {
    crash = leaves_weaker did.time (torn work (disk.may_leave old) safe has);
    left = λ c may. torn work (disk.may_leave old) safe has c (did.left c may);
  }

  pub all_stay : (works : List Work) (done : Bool) (old new : D) → AllByRecursion Safe works
      → ((c : List ℕ) → disk.may_leave old c → P c) → DidAll disk old works done new → Stays disk P old new
  all_stay [] done old new safe has did =
      let same : Stays disk P old old = record {
        crash = leaves_at_start (λ c left. has c (since_now old c left));
        left = has;
      } in
      subst (Stays disk P old) (sym did.0) same
  all_stay (work ∷ more) done old new safe has (inl failed) = one_stays work false old new safe.0 has failed.0
  all_stay (work ∷ more) done old new safe has (inr both) =
      let one = one_stays work true old both.0 safe.0 has both.1 in
      let rest = all_stay more done both.0 new safe.1 one.left both.2 in
      record { crash = leaves_then one.crash rest.crash; left = rest.left }
