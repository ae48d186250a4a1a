-- The open batches are carried out one after another, the oldest first.
use Rattle.std.proofs.Common.{◌≡◌, ◌≢◌, ◌≤◌, ◌⊎◌, inl, inr, ℕ, ◌+◌, ◌*◌, List, [], ◌∷◌, ◌++◌}
use Rattle.std.proofs.Common.{if◌then◌else◌, length, get_or, Result, Ok, Err, OnOk, is_ok}
use Rattle.std.proofs.Common.{refl, sym, ap, ◌∙◌, subst, arith}
use Rattle.std.specs.List.{AllByRecursion}
use Rattle.std.proofs.lemmas.Bool.{true≢false, false≢true, cases_eq}
use Rattle.std.proofs.lemmas.List.Sums.{sum_by-append}
use Rattle.device.specs.Count.{raised}
use Rattle.device.specs.Device.{LeavesOnly}
use Rattle.device.specs.declared.device.Device.{Ghosts}
use Rattle.device.proofs.Moments.{leaves_at_start, leaves_on}
use Rattle.page_entry.specs.declared.refusal.Refusal.{Refusal}
use Rattle.page_entry.specs.declared.refusal.Refusal.TheVariants.{Device}
use Rattle.volume_codec.specs.Layout.{GeometryValue}
use Rattle.volume_codec.specs.Super.{SuperValue, geometry_of}
use Rattle.volume_codec.specs.Recovery.{Batch}
use Rattle.volume_codec.proofs.Layouts.{gate_block-low}
use Rattle.journal.specs.WriteOut.{IsBatch}
use Rattle.journal.specs.Finished.{IsOutside, gate_byte, HoldsVolume, RecoversSame, Finishes}
use Rattle.journal.proofs.Public.{recovers_of}
use Rattle.recovery.specs.Counts.{HasCause, IsAccounted}
use Rattle.recovery.specs.inside.Carrying.{AreShut, IsCarrying, CarriesOut}
use Rattle.recovery.specs.inside.Reading.{carry_calls}
use Rattle.recovery.proofs.Writing.{raised_rises}

-- what holds of each element and of the last
pub each_unpush : {X : Type 0} (P : X → Type 0) (xs : List X) (x : X) → AllByRecursion P (xs ++ x ∷ [])
    → AllByRecursion P xs × P x
each_unpush P [] x each = (tt, each.0)
each_unpush P (y ∷ xs) x each = let rest = each_unpush P xs x each.1 in ((each.0, rest.0), rest.1)

-- what holds where the one call succeeded holds where another did that succeeded or failed with it
on_ok_as : (P : Type 0) {T U E F : Type 0} (a : Result T E) (b : Result U F) → is_ok a ≡ is_ok b → OnOk a P → OnOk b P
on_ok_as P (Ok x) (Ok y) alike p = p
on_ok_as P (Ok x) (Err f) alike p = absurd (true≢false alike)
on_ok_as P (Err e) (Ok y) alike p = absurd (false≢true alike)
on_ok_as P (Err e) (Err f) alike p = tt

-- a batch that was finished, or wasn't, whatever the value and the fault of the answer are
pub finishes_as : {D T U E F : Type 0} {disk : Ghosts D} {g : GeometryValue} {batch : Batch} {old new : D}
    (a : Result T E) (b : Result U F) → is_ok a ≡ is_ok b → Finishes disk g batch old a new
    → Finishes disk g batch old b new
finishes_as {disk = disk} {old = old} {new = new} a b alike f = record {
  finished = λ v newer contents same holds. on_ok_as _ a b alike (f.finished v newer contents same holds);
  closed = λ honest. on_ok_as _ a b alike (f.closed honest);
  time = f.time;
  honest = f.honest;
  same_length = f.same_length;
  calls = λ small. on_ok_as _ a b alike (f.calls small);
  most = f.most;
  faults = f.faults ∙ ap (λ ok. if ok then disk.faults_met old else raised (disk.faults_met old)) alike;
}

pub finished_kept : {D : Type 0} {disk : Ghosts D} {g : GeometryValue} {batch : Batch} {old new : D}
    → Finishes {T = Unit {0}} {E = Refusal} disk g batch old (Ok tt) new
    → IsAccounted {X = Unit {0}} disk old (Ok tt) new
finished_kept f = record { honest = f.honest; len = f.same_length; cause = f.faults }

pub failed_kept : {D : Type 0} {disk : Ghosts D} {g : GeometryValue} {batch : Batch} {old new : D} {e : Refusal}
    → e ≡ Device → Finishes {T = Unit {0}} {E = Refusal} disk g batch old (Err e) new
    → IsAccounted {X = Unit {0}} disk old (Err e) new
failed_kept {disk = disk} {old = old} {new = new} {e = e} is f = record {
  honest = f.honest;
  len = f.same_length;
  cause = subst (λ (r : Refusal). HasCause (disk.faults_met old) (disk.faults_met new) r) (sym is)
      (raised_rises (disk.faults_met old) (disk.faults_met new) f.faults);
}

-- a gate that is closed is closed still, and one more
shut_more : (g : GeometryValue) (done : List Batch) (batch : Batch) (old mid new : List ℕ)
    → AllByRecursion (IsBatch g) done → AreShut g done old mid
    → get_or new (gate_byte g.slots batch) 0 ≡ 0
    → ((i : ℕ) → IsOutside g i → i ≢ gate_byte g.slots batch → get_or new i 0 ≡ get_or mid i 0)
    → AreShut g (batch ∷ done) old new
shut_more g done batch old mid new are shut gate others = record {
  gates = (gate, each done are shut.gates);
  others = λ i out none. others i out none.0 ∙ shut.others i out none.1;
}
  where
    still : (d : Batch) → IsBatch g d → get_or mid (gate_byte g.slots d) 0 ≡ 0
        → (gate_byte g.slots d ≡ gate_byte g.slots batch) ⊎ (gate_byte g.slots d ≢ gate_byte g.slots batch)
        → get_or new (gate_byte g.slots d) 0 ≡ 0
    still d is was (inl same) = ap (λ i. get_or new i 0) same ∙ gate
    still d is was (inr apart) = others (gate_byte g.slots d)
        (inl (let low = gate_block-low g.layout g.slots d.journal is.there in omega (arith, low))) apart ∙ was

    each : (ds : List Batch) → AllByRecursion (IsBatch g) ds
        → AllByRecursion (λ d. get_or mid (gate_byte g.slots d) 0 ≡ 0) ds
        → AllByRecursion (λ d. get_or new (gate_byte g.slots d) 0 ≡ 0) ds
    each [] are was = tt
    each (d ∷ ds) are was =
        (still d are.0 was.0 (cases_eq (gate_byte g.slots d) (gate_byte g.slots batch)), each ds are.1 was.1)

module _ {D : Type 0} (disk : Ghosts D) (g : GeometryValue) (all : List Batch) (start : D) where
  -- before any
  pub carrying_none : ((c : List ℕ) → disk.left_since start (disk.moment start) c → disk.may_leave start c)
      → IsCarrying disk g all all [] start start
  carrying_none now = record {
    held = λ v contents same holds. holds;
    time = λ v contents same holds. leaves_at_start (λ c since. let is = holds.synced c (now c since) in record {
      recovers = subst (Rattle.volume_codec.specs.Recovery.Recovers v contents) (sym is)
          (recovers_of v all contents (disk.seen start) holds.recovers);
      same_length = ap length is;
      past = λ i from. ap (λ (l : List ℕ). get_or l i 0) is;
    });
    shut = λ honest. record { gates = tt; others = λ i out none. refl };
    calls = λ small. omega arith;
  }

  module _ (seen_is_left : (device : D) → disk.is_honest device → disk.may_leave device (disk.seen device))
      (now_is_since : (device : D) (t : ℕ) (c : List ℕ) → t ≤ disk.moment device → disk.may_leave device c
      → disk.left_since device t c)
      (waiting done : List Batch) (batch : Batch) (now next : D)
      (carrying : IsCarrying disk g all (waiting ++ batch ∷ []) done start now) where
    -- a crash while one more is finished
    pub time_more : {T E : Type 0} (result : Result T E) → Finishes disk g batch now result next
        → (v : SuperValue) (contents : ℕ → List ℕ) → geometry_of v ≡ g → HoldsVolume disk v all contents start
        → LeavesOnly disk.moment disk.left_since start next (RecoversSame v contents (disk.seen start))
    time_more result finishes v contents same holds =
        let so_far = carrying.time v contents same holds in
        let held = carrying.held v contents same holds in
        let here = so_far.each (disk.seen now)
        (now_is_since now (disk.moment start) (disk.seen now) so_far.later (seen_is_left now held.honest)) in
        leaves_on so_far (finishes.time v waiting contents same held) (λ c left. record {
          recovers = left.recovers;
          same_length = left.same_length ∙ here.same_length;
          past = λ i from. left.past i from ∙ here.past i from;
        })

    -- one more
    pub carrying_more : {E : Type 0} → AllByRecursion (IsBatch g) done → (disk.is_honest start → disk.is_honest now)
        → Finishes {T = Unit {0}} {E = E} disk g batch now (Ok tt) next
        → IsCarrying disk g all waiting (batch ∷ done) start next
    carrying_more are honest finishes = record {
      held = λ v contents same holds. finishes.finished v waiting contents same (carrying.held v contents same holds);
      time = time_more (Ok tt) finishes;
      shut = λ h. let closed = finishes.closed (honest h) in shut_more g done batch (disk.seen start) (disk.seen now)
          (disk.seen next) are (carrying.shut h) closed.gate closed.others;
      calls = λ small. let sum : carry_calls (batch ∷ done) ≡ 0 + (2 * length batch.homes + 3) + carry_calls done =
          sum_by-append (λ (b : Batch). 2 * length b.homes + 3) (batch ∷ []) done in
          omega (arith, small, sum, carrying.calls, finishes.calls);
    }

    -- or a call failed
    pub carrying_failed : {T E : Type 0} (e : E) → all ≡ (waiting ++ batch ∷ []) ++ done
        → Finishes {T = T} {E = E} disk g batch now (Err e) next
        → CarriesOut {T = T} {E = E} disk g all start (Err e) next
    carrying_failed e split finishes = record {
      done = tt;
      time = time_more (Err e) finishes;
      most = λ small.
          let its_calls : List Batch → ℕ = λ bs. carry_calls bs in
          let sum = ap its_calls split
          ∙ sum_by-append (λ (b : Batch). 2 * length b.homes + 3) (waiting ++ batch ∷ []) done in
          let more = sum_by-append (λ (b : Batch). 2 * length b.homes + 3) waiting (batch ∷ []) in
          let one : carry_calls (batch ∷ []) ≡ 0 + (2 * length batch.homes + 3) = refl in
          omega (arith, small, sum, more, one, carrying.calls, finishes.most);
    }

  -- all of them
  pub carrying_all : {E : Type 0} (done : List Batch) (now : D) → all ≡ [] ++ done
      → IsCarrying disk g all [] done start now → CarriesOut {T = Unit {0}} {E = E} disk g all start (Ok tt) now
  carrying_all done now split carrying = record {
    done = subst (λ (ds : List Batch). IsCarrying disk g all [] ds start now) (sym split) carrying;
    time = carrying.time;
    most = λ small. let same = ap carry_calls split in omega (arith, small, same, carrying.calls);
  }
