-- Where the calls of a request lead: one after another.
use Rattle.std.proofs.Common.{◌≡◌, ◌≤◌, List, [], ◌∷◌, ◌++◌, Bool, true, false, refl, sym, ◌∙◌, subst, arith}
use Rattle.std.proofs.Common.{inl, inr}
use Rattle.deferred_disk.specs.Deferred.{Deferred, as_memory, carried_moment, IsSuppliedWell}
use Rattle.device.specs.Memory.{moment_of}
use Rattle.device.specs.Work.{Work}
use Rattle.device.specs.inside.Laws.{since_now_of}
use Rattle.device.proofs.Public.{leaves_at_start, leaves_weaker, leaves_then}
use Rattle.recovery.specs.Reading.{IsOnlyRead}
use Rattle.history.specs.History.{Event}
use Rattle.log_commits.specs.Calls.{DidAll}
use Rattle.log_files.specs.State.{LogFilesState}
use Rattle.log_histories.proofs.Public.{gone_on}
use Rattle.embedded.specs.Recorded.{deferred_disk}
use Rattle.embedded_log.specs.Runs.{HasRunLog, HasServedLog}
use Rattle.embedded_log.specs.Runs.{Unfailed, StoppedInCommit, StoppedInStep}
use Rattle.embedded_log.specs.inside.Leading.{LeadsLog, RunsLog}

-- ---- a device that is only read

pub not_read : (d : Deferred) → IsOnlyRead deferred_disk d d
not_read d = record {
  same = refl;
  left = λ c left. left;
  keeps = λ honest c left. left;
  time = leaves_at_start (λ c since. since_now_of (as_memory d) c since);
  honest = (λ well. well, λ well. well);
}

pub then_read : (a b c : Deferred) → IsOnlyRead deferred_disk a b → IsOnlyRead deferred_disk b c
    → IsOnlyRead deferred_disk a c
then_read a b c first second = record {
  same = second.same ∙ first.same;
  left = λ l may. first.left l (second.left l may);
  keeps = λ honest l may. second.keeps (first.honest.1 honest) l (first.keeps honest l may);
  time = leaves_then first.time (leaves_weaker second.time first.left);
  honest = (λ well. first.honest.0 (second.honest.0 well), λ well. second.honest.1 (first.honest.1 well));
}

-- ---- device calls

-- what device calls that were made, or failed, leave of the counts
pub record GoesForth (old new : Deferred) : Type 0 where
  pub later : moment_of (as_memory old) ≤ moment_of (as_memory new)
  pub carried : carried_moment new ≡ carried_moment old

pub goes_forth : (works : List Work) (done : Bool) (old new : Deferred) → DidAll deferred_disk old works done new
    → GoesForth old new
goes_forth [] done old new it =
    subst (λ (d : Deferred). GoesForth old d) (sym it.0) (record { later = omega arith; carried = refl })
goes_forth (work ∷ works) done old new (inl failed) =
    record { later = failed.0.time.later; carried = failed.0.carried }
goes_forth (work ∷ works) done old new (inr (mid, did, more)) =
    let rest = goes_forth works done mid new more in
    record { later = omega (arith, did.time.later, rest.later); carried = rest.carried ∙ did.carried }

-- ---- calls one after another

pub leads_nowhere : (s : LogFilesState Deferred) → LeadsLog s s
leads_nowhere s = record {
  well = λ well. well;
  carried = refl;
  goes = λ well start before run. (before, Unfailed before s run);
  stuck = λ well spent. (not_read s.pager.device, spent);
}

-- calls that didn't fail
pub leads_of : (E : List Event → Type 0) (old new : LogFilesState Deferred) → RunsLog E old new
    → (IsSuppliedWell new.pager.device → old.pager.store.tail.spent ≡ true
    → IsOnlyRead deferred_disk old.pager.device new.pager.device × (new.pager.store.tail.spent ≡ true))
    → LeadsLog old new
leads_of E old new it stuck = record {
  well = it.well;
  carried = it.carried;
  goes = λ well start before run. let went = it.runs well start before run in (went.0, Unfailed went.0 new went.2);
  stuck = stuck;
}

pub served_on : {start : LogFilesState Deferred} {events : List Event} {old : LogFilesState Deferred}
    (new : LogFilesState Deferred) → LeadsLog old new → IsSuppliedWell new.pager.device
    → HasServedLog start events old → (after : List Event) × HasServedLog start after new
served_on {start} new leads well (Unfailed events old run) = leads.goes well start events run
served_on new leads well (StoppedInCommit events last old mid call read spent run) =
    let stuck = leads.stuck well spent in (
      _,
      StoppedInCommit events last new mid call (then_read mid old.pager.device new.pager.device read stuck.0) stuck.1
          run,
    )
served_on new leads well (StoppedInStep events last old mid call read spent run) =
    let stuck = leads.stuck well spent in (
      _,
      StoppedInStep events last new mid call (then_read mid old.pager.device new.pager.device read stuck.0) stuck.1
          run,
    )

pub leads_on : (a b c : LogFilesState Deferred) → LeadsLog a b → LeadsLog b c → LeadsLog a c
leads_on a b c first second = record {
  well = λ well. first.well (second.well well);
  carried = second.carried ∙ first.carried;
  goes = λ well start before run.
      served_on c second well (first.goes (second.well well) start before run).1;
  stuck = λ well spent.
      let one = first.stuck (second.well well) spent in
      let two = second.stuck well one.1 in
      (then_read a.pager.device b.pager.device c.pager.device one.0 two.0, two.1);
}

pub not_both : (b : Bool) → b ≡ true → b ≡ false → ⊥
not_both true is not = absurd (cc)
not_both false is not = absurd (cc)

-- no device call has failed
pub run_of : {start : LogFilesState Deferred} {events : List Event} {s : LogFilesState Deferred}
    → s.pager.store.tail.spent ≡ false → HasServedLog start events s → HasRunLog start events s
run_of whole (Unfailed events s run) = run
run_of whole (StoppedInCommit events last s mid call read spent run) =
    absurd (not_both s.pager.store.tail.spent spent whole)
run_of whole (StoppedInStep events last s mid call read spent run) =
    absurd (not_both s.pager.store.tail.spent spent whole)

pub runs_on : (E : List Event → Type 0) (a b c : LogFilesState Deferred) → b.pager.store.tail.spent ≡ false
    → LeadsLog a b → RunsLog E b c → RunsLog E a c
runs_on E a b c whole first second = record {
  well = λ well. first.well (second.well well);
  carried = second.carried ∙ first.carried;
  runs = λ well start before run.
      let went = first.goes (second.well well) start before run in
      second.runs well start went.0 (run_of whole went.1);
}

-- ---- one call

-- it went, as long as each block was supplied as it was
pub runs_by : (E : List Event → Type 0) (old new : LogFilesState Deferred) (more : List Event)
    → ((before : List Event) → E (before ++ more)) → (IsSuppliedWell new.pager.device → IsSuppliedWell old.pager.device)
    → carried_moment new.pager.device ≡ carried_moment old.pager.device
    → (IsSuppliedWell new.pager.device → HasRunLog old more new) → RunsLog E old new
runs_by E old new more holds well carried goes = record {
  well = well;
  carried = carried;
  runs = λ is start before run.
      (before ++ more, holds before, (gone_on deferred_disk start before old run (goes is)).0);
}

-- it led nowhere, where a device call had failed
pub unlike : (old new : LogFilesState Deferred) → old.pager.store.tail.spent ≡ false
    → IsSuppliedWell new.pager.device → old.pager.store.tail.spent ≡ true
    → IsOnlyRead deferred_disk old.pager.device new.pager.device × (new.pager.store.tail.spent ≡ true)
unlike old new whole well spent = absurd (not_both old.pager.store.tail.spent spent whole)
