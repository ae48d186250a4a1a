-- Calls of a pager, one after another.
use Rattle.std.proofs.Common.{◌≡◌, ◌⊎◌, ℕ, List, refl, ap, subst, ◌∙◌, ◌≢◌, inl, inr, arith}
use Rattle.std.specs.Prelude.{⊤, Result, Ok, Err}
use Rattle.std.proofs.lemmas.Result.{IfErr-weaker}
use Rattle.device.specs.declared.device.Device.{Ghosts}
use Rattle.device.proofs.Public.{leaves_at_start, leaves_weaker, leaves_then, ok_map}
use Rattle.kept_blocks.specs.Blocks.{Blocks}
use Rattle.log_codec.specs.Chain.{LogRecovers}
use Rattle.log_codec.specs.declared.sealing.Sealing.TheVariants.{ByByte}
use Rattle.log_codec.specs.Log.{LogValue}
use Rattle.log_commits.specs.Tail.{HoldsUpTo}
use Rattle.log_commits.proofs.Public.{recovers_by_byte, up_to}
use Rattle.log_commits.specs.declared.fault.CommitFault.TheVariants as commits
use Rattle.log_store.specs.declared.fault.StoreFault.TheVariants.{Commit}
use Rattle.log_pager.specs.declared.fault.PagerFault.{PagerFault}
use Rattle.log_pager.specs.declared.fault.PagerFault.TheVariants.{Store}
use Rattle.log_pager.specs.Pager.{LogPagerValue, IsPagerOver, contents_put}
use Rattle.log_room.specs.Room.{commits_of}
use Rattle.log_room.specs.inside.Leading.{Commits, HasStepped, IsHonestOver, KeepsEnd, KeepsEndBy, Leads, MakesSteps}
use Rattle.log_room.specs.inside.Leading.{PutsContents, StaysOver}

module _ {D : Type 0} (disk : Ghosts D) where
  pub nothing_stepped : ((device : D) (c : List ℕ) → disk.left_since device (disk.moment device) c
      → disk.may_leave device c) → (s : LogPagerValue D) → HasStepped disk s s
  nothing_stepped since_now s = record {
    leads = record {
      log = refl;
      len = refl;
      honest = (λ well. well, λ well. well);
      later = omega arith;
      held = λ contents is.
          leaves_at_start (λ c left. up_to s.store.tail contents c
          (is.over.store.holds c (since_now s.device c left)).held);
      leaves = λ contents is byte. leaves_at_start (λ c left. inl (recovers_by_byte s.store.tail contents c byte
          (is.over.store.holds c (since_now s.device c left)).held));
      first = λ text has. record { crash = leaves_at_start (λ c left. has c (since_now s.device c left)); left = has };
    };
    staged = refl;
    end = record { number = refl; ends = λ ended. ended };
    keeps = λ contents is. is.over;
  }

  module _ (a b : LogPagerValue D) (stepped : HasStepped disk a b) where
    over_then : (contents : ℕ → List ℕ) → IsHonestOver disk a contents → IsHonestOver disk b contents
    over_then contents is = record {
      honest = stepped.leads.honest.1 is.honest;
      over = stepped.keeps contents is;
    }

    leads_then : (c : LogPagerValue D) → Leads disk b c → Leads disk a c
    leads_then c next = record {
      log = next.log ∙ stepped.leads.log;
      len = next.len ∙ stepped.leads.len;
      honest = (
        λ well. stepped.leads.honest.0 (next.honest.0 well),
        λ well. next.honest.1 (stepped.leads.honest.1 well),
      );
      later = omega (arith, stepped.leads.later, next.later);
      held = λ contents is.
          let P : LogValue → ℕ → List ℕ → Type 0 = λ g n x. HoldsUpTo g n contents x in
          leaves_then (stepped.leads.held contents is)
          (leaves_weaker (next.held contents (over_then contents is)) (λ x has.
          subst (λ (g : LogValue). P g a.store.tail.number x) stepped.leads.log
          (subst (λ n. P b.store.tail.log n x) stepped.end.number has)));
      leaves = λ contents is byte.
          let P : LogValue → Blocks → List ℕ → Type 0 = λ g put x.
          LogRecovers g contents x ⊎ LogRecovers g (contents_put contents put) x in
          leaves_then (stepped.leads.leaves contents is byte)
          (leaves_weaker (next.leaves contents (over_then contents is)
          (ap (λ (g : LogValue). g.sealing) stepped.leads.log ∙ byte)) (λ x has.
          subst (λ (g : LogValue). P g a.staged x) stepped.leads.log
          (subst (λ (put : Blocks). P b.store.tail.log put x) stepped.staged has)));
      first = λ text has.
          let before = stepped.leads.first text has in
          let after = next.first text before.left in
          record { crash = leaves_then before.crash after.crash; left = after.left };
    }

    puts_then : (c : LogPagerValue D) → PutsContents disk b c → PutsContents disk a c
    puts_then c puts contents is =
        subst (λ (put : Blocks). IsPagerOver disk c (contents_put contents put)) stepped.staged
        (puts contents (over_then contents is))

    end_then : (c : LogPagerValue D) → KeepsEnd disk b c → KeepsEnd disk a c
    end_then c next = record {
      number = next.number ∙ stepped.end.number;
      ends = λ ended. next.ends (stepped.end.ends ended);
    }

    stays_then : (c : LogPagerValue D) (fault : PagerFault) → StaysOver disk b c fault → StaysOver disk a c fault
    stays_then c fault stays not_commit not_move contents is =
        stays not_commit not_move contents (over_then contents is)

    -- what was put is kept
    abbrev Keeps : LogPagerValue D → PagerFault → Type 0
    Keeps s fault = (fault ≢ Store (Commit commits.Device)) ⊎ (s.store.tail.log.sealing ≡ ByByte)

    pub steps_then : {X : Type 0} (result : Result X PagerFault) (c : LogPagerValue D) → MakesSteps disk b result c
        → MakesSteps disk a result c
    steps_then result c next = record {
      leads = leads_then c next.leads;
      staged = next.staged ∙ stepped.staged;
      end = end_then c next.end;
      keeps = ok_map result (λ keeps contents is. keeps contents (over_then contents is)) next.keeps;
      stays = IfErr-weaker result (StaysOver disk b c) (StaysOver disk a c) (stays_then c) next.stays;
    }

    pub commits_then : (result : Result ⊤ PagerFault) (c : LogPagerValue D) → Commits disk b result c
        → Commits disk a result c
    commits_then result c next = record {
      leads = leads_then c next.leads;
      value = next.value;
      kept = IfErr-weaker result (λ fault. Keeps b fault → c.staged ≡ b.staged)
          (λ fault. Keeps a fault → c.staged ≡ a.staged)
          (λ fault kept is. kept (elim is [
            | inl other ↦ inl other
            | inr byte ↦ inr (ap (λ (g : LogValue). g.sealing) stepped.leads.log ∙ byte)
          ]) ∙ stepped.staged) next.kept;
      puts = ok_map result (λ puts contents is. puts_then c puts contents is) next.puts;
      numbers = ok_map result (λ is.
          let put : commits_of b.staged ≡ commits_of a.staged = ap commits_of stepped.staged in
          omega (arith, is, stepped.end.number, put)) next.numbers;
      ends = ok_map result (λ ends contents is ended.
          ends contents (over_then contents is) (stepped.end.ends ended)) next.ends;
      stays = IfErr-weaker result (StaysOver disk b c) (StaysOver disk a c) (stays_then c) next.stays;
      end = IfErr-weaker result (KeepsEndBy disk b c) (KeepsEndBy disk a c)
          (λ fault keeps not_commit. end_then c (keeps not_commit)) next.end;
    }

-- steps that were made
pub as_stepped : {D X : Type 0} {disk : Ghosts D} {old new : LogPagerValue D} {result : Result X PagerFault} {x : X}
    → result ≡ Ok x → MakesSteps disk old result new → HasStepped disk old new
as_stepped {X = X} {disk} {old} {new} is made =
    let ok = subst (λ (r : Result X PagerFault). MakesSteps disk old r new) is made in
    record { leads = ok.leads; staged = ok.staged; end = ok.end; keeps = ok.keeps }

-- a commit for which the log had no room changed nothing
pub busy_stepped : {D : Type 0} {disk : Ghosts D} {old new : LogPagerValue D} {result : Result ⊤ PagerFault}
    → result ≡ Err (Store (Commit commits.Busy)) → Commits disk old result new → HasStepped disk old new
busy_stepped {disk = disk} {old} {new} is made =
    let busy = subst (λ (r : Result ⊤ PagerFault). Commits disk old r new) is made in
    record {
      leads = busy.leads;
      staged = busy.kept (inl (λ same. cc));
      end = busy.end (λ same. cc);
      keeps = busy.stays (λ same. cc) (λ same. cc);
    }

-- steps that failed
pub steps_stopped : {D X Y : Type 0} {disk : Ghosts D} {old new : LogPagerValue D} {result : Result X PagerFault}
    {fault : PagerFault} → result ≡ Err fault → MakesSteps disk old result new
    → MakesSteps {X = Y} disk old (Err fault) new
steps_stopped {X = X} {disk = disk} {old} {new} is made =
    let failed = subst (λ (r : Result X PagerFault). MakesSteps disk old r new) is made in
    record { leads = failed.leads; staged = failed.staged; end = failed.end; keeps = tt; stays = failed.stays }

-- steps that stopped since each commit is home
pub idle_steps : {D X : Type 0} {disk : Ghosts D} {old new : LogPagerValue D} (fault : PagerFault)
    → HasStepped disk old new → MakesSteps {X = X} disk old (Err fault) new
idle_steps fault stepped = record {
  leads = stepped.leads;
  staged = stepped.staged;
  end = stepped.end;
  keeps = tt;
  stays = λ not_commit not_step. stepped.keeps;
}

-- steps of which the last moved the start
pub moved_steps : {D : Type 0} {disk : Ghosts D} {old new : LogPagerValue D} → HasStepped disk old new
    → MakesSteps {X = ⊤} disk old (Ok tt) new
moved_steps stepped = record {
  leads = stepped.leads;
  staged = stepped.staged;
  end = stepped.end;
  keeps = stepped.keeps;
  stays = tt;
}
