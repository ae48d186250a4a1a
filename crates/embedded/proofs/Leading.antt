-- Where the calls of a request lead: calls of a pager, as long as each block was supplied as it was.
use Rattle.std.proofs.Common.{◌≡◌, ℕ, ◌+◌, List, [], ◌∷◌, ◌++◌, refl, sym, ◌∙◌, ap, subst, inl, inr, None, eqb}
use Rattle.std.proofs.lemmas.Bool.{cases_eq, eq-eqb, cond-true}
use Rattle.std.specs.Prelude.{⊤, Bool, Result, Ok, Err, IfOk, IfErr, Contains}
use Rattle.std.proofs.lemmas.List.Elements.{Contains-append_right, Contains-push}
use Rattle.deferred_disk.specs.Deferred.{Deferred, carried_moment, IsSuppliedWell}
use Rattle.journal.specs.declared.flushed.Flushed.{Flushed}
use Rattle.journal.specs.declared.flushed.Flushed.TheVariants as flushed
use Rattle.recovery.specs.Reading.{IsOnlyRead}
use Rattle.page_entry.specs.declared.numbers.FilePage.{FilePage}
use Rattle.page_entry.specs.declared.refusal.Refusal.{Refusal}
use Rattle.history.specs.History.{Event, SetLength, Mark, Acknowledge}
use Rattle.kept_blocks.specs.Blocks.{Blocks}
use Rattle.pager.specs.State.{PagerState, file_length}
use Rattle.pager.specs.Calls.{after_commit, after_put, committed_with, set_length_refusal, after_length, resized_to}
use Rattle.pager.specs.Calls.{last_page}
use Rattle.pager.specs.Histories.{IsPut, IsBegunCommit, marked_with, acknowledged_by}
use Rattle.pager.specs.Histories.{HasGone, Stays, ThenPut, ThenCommitted, ThenStepped, ThenRead, ThenResized}
use Rattle.pager.proofs.Public.{gone_on}
use Rattle.embedded.specs.Embedded.{over_device}
use Rattle.embedded.specs.Recorded.{deferred_disk}
use Rattle.embedded.specs.Steps.{MakesStep, MakesSteps, NoStep, ThenStep, Without, IsWrittenOut, Commits}
use Rattle.embedded.specs.Steps.{RefusesCommit, NeverBegins, FailsBefore, FailsWithin}
use Rattle.embedded.specs.Steps.{WritesOut, RefusesSteps, IsBroken, Fails}

-- Calls led from one pager to another, whose events have this; and no device call of the host was taken back.
pub record Leads (E : List Event → Type 0) (old new : PagerState Deferred) : Type 0 where
  pub well : IsSuppliedWell new.device → IsSuppliedWell old.device
  pub goes : IsSuppliedWell new.device → (events : List Event) × E events × HasGone deferred_disk old events new
  pub carried : carried_moment new.device ≡ carried_moment old.device

abbrev pub Any : List Event → Type 0
Any events = ⊤

abbrev pub Acknowledges : ℕ → List Event → Type 0
Acknowledges mark events = Contains events (Acknowledge mark)

pub leads_nowhere : (s : PagerState Deferred) → Leads Any s s
leads_nowhere s = record { well = λ well. well; goes = λ well. ([], tt, Stays); carried = refl }

-- further calls follow
module _ (E F G : List Event → Type 0) (both : (e f : List Event) → E e → F f → G (e ++ f))
    (a b c : PagerState Deferred) where
  pub leads_then : Leads E a b → Leads F b c → Leads G a c
  leads_then first next = record {
    well = λ well. first.well (next.well well);
    goes = λ well.
        let one = first.goes (next.well well) in
        let two = next.goes well in (
          one.0 ++ two.0,
          both one.0 two.0 one.1 two.1,
          gone_on deferred_disk a one.0 b one.2 two.2,
        );
    carried = next.carried ∙ first.carried;
  }

pub leads_on : (a b c : PagerState Deferred) → Leads Any a b → Leads Any b c → Leads Any a c
leads_on = leads_then Any Any Any (λ e f one two. tt)

pub leads_before : (mark : ℕ) (a b c : PagerState Deferred) → Leads Any a b → Leads (Acknowledges mark) b c
    → Leads (Acknowledges mark) a c
leads_before mark = leads_then Any (Acknowledges mark) (Acknowledges mark)
    (λ e f one two. Contains-append_right e f (Acknowledge mark) two)

-- ---- one call

pub leads_put : (s : PagerState Deferred) (owner : FilePage) (bytes : List ℕ) → IsPut s owner bytes
    → Leads Any s (after_put s owner bytes)
leads_put s owner bytes put = record {
  well = λ well. well;
  goes = λ well. (_, tt, ThenPut [] s owner bytes put Stays);
  carried = refl;
}

-- a commit leaves the device as it is
same_device : (s : PagerState Deferred) (blocks : Blocks) → (committed_with s blocks).device ≡ s.device
same_device s [] = refl
same_device s (block ∷ blocks) = refl

leads_begun : (E : List Event → Type 0) (s : PagerState Deferred) → E (marked_with (s.marks + 1) s.staged)
    → IsBegunCommit s → Leads E s (after_commit s)
leads_begun E s holds commit = record {
  well = λ well. subst IsSuppliedWell (same_device s s.staged) well;
  goes = λ well. (_, holds, ThenCommitted [] s commit Stays);
  carried = ap carried_moment (same_device s s.staged);
}

pub leads_read : (s : PagerState Deferred) (after : Deferred)
    → (IsSuppliedWell after → IsOnlyRead deferred_disk s.device after)
    → (IsSuppliedWell after → IsSuppliedWell s.device) → carried_moment after ≡ carried_moment s.device
    → Leads Any s (over_device s after)
leads_read s after read well carried = record {
  well = well;
  goes = λ is. ([], tt, ThenRead [] s after (read is) Stays);
  carried = carried;
}

-- a new length
pub leads_length : (s new : PagerState Deferred) (file to : ℕ) → set_length_refusal s file to ≡ None
    → (IsSuppliedWell s.device
    → new ≡ after_length s file to (last_page s (deferred_disk.seen s.device) file) new.device)
    → IsOnlyRead deferred_disk s.device new.device → carried_moment new.device ≡ carried_moment s.device
    → Leads Any s new
leads_length s new file to allowed set read carried = record {
  well = read.honest.0;
  goes = λ well. elim (cases_eq to (file_length s.lengths file)) [
    | inl same ↦ (
      [],
      tt,
      subst (λ (t : PagerState Deferred). HasGone deferred_disk s [] t)
          (sym (set (read.honest.0 well) ∙ cond-true (eqb to (file_length s.lengths file)) s
          (resized_to s file to (last_page s (deferred_disk.seen s.device) file) new.device)
          (eq-eqb to (file_length s.lengths file) same))) Stays,
    )
    | inr other ↦ (
      _,
      tt,
      subst (λ (t : PagerState Deferred).
          HasGone deferred_disk s (SetLength file (file_length s.lengths file) to ∷ []) t)
          (sym (set (read.honest.0 well)))
          (ThenResized [] s file to new.device (record { admitted = allowed; other = other; read = read }) Stays),
    )
  ];
  carried = carried;
}

leads_step : (E : List Event → Type 0) (s new : PagerState Deferred) (answer : Flushed) → E (acknowledged_by answer)
    → MakesStep s answer new → Leads E s new
leads_step E s new answer holds step =
    let well : IsSuppliedWell new.device → IsSuppliedWell s.device = step.did.honest.0 in
    record {
      well = well;
      goes = λ is. (
        acknowledged_by answer,
        holds,
        subst (λ (t : PagerState Deferred). HasGone deferred_disk s (acknowledged_by answer) t) (sym step.value)
            (ThenStepped [] s answer new.device (record {
              whole = step.whole;
              some = step.some;
              a_block = step.a_block;
              answered = step.answered;
              honest = well is;
              did = step.did;
            }) Stays),
      );
      carried = step.did.carried;
    }

pub leads_one : (s new : PagerState Deferred) (answer : Flushed) → MakesStep s answer new → Leads Any s new
leads_one s new answer step = leads_step Any s new answer tt step

-- ---- the calls of a request

pub leads_steps : (holds : PagerState Deferred → Flushed → Type 0) (s : PagerState Deferred) {n : ℕ}
    {new : PagerState Deferred} → MakesSteps holds s n new → Leads Any s new
leads_steps holds s NoStep = leads_nowhere s
leads_steps holds s (ThenStep n last new answer succeeds is step steps) =
    leads_on s last new (leads_steps holds s steps) (leads_one last new answer step)

written : (mark : ℕ) (s new : PagerState Deferred) (blocks : Blocks) → s.staged ≡ blocks → mark ≡ s.marks + 1
    → IsBegunCommit s → IsWrittenOut blocks mark (after_commit s) new → Leads (Acknowledges mark) s new
written mark s new [] none is commit ends =
    subst (λ (t : PagerState Deferred). Leads (Acknowledges mark) s t) (sym ends)
    (leads_begun (Acknowledges mark) s
    (subst (λ (b : Blocks). Acknowledges mark (marked_with (s.marks + 1) b)) (sym none)
    (subst (λ (n : ℕ). Acknowledges mark (Mark n ∷ Acknowledge n ∷ [])) is
    (Contains-push (Mark mark ∷ []) (Acknowledge mark)))) commit)
written mark s new (block ∷ blocks) some is commit (n, last, steps, step) =
    leads_before mark s (after_commit s) new (leads_begun Any s tt commit)
    (leads_before mark (after_commit s) last new (leads_steps (Without mark) (after_commit s) steps)
    (leads_step (Acknowledges mark) last new (flushed.Committed mark) (Contains-push [] (Acknowledge mark)) step))

pub leads_commit : (mark : ℕ) (old new : PagerState Deferred) → Commits old mark new
    → Leads (Acknowledges mark) old new
leads_commit mark old new it =
    leads_before mark old it.begins new (leads_steps _ old it.earlier)
    (written mark it.begins new it.begins.staged refl it.mark_is it.commit it.written)

pub leads_refused : (old : PagerState Deferred) {why : Refusal} {new : PagerState Deferred}
    → RefusesCommit old why new → Leads Any old new
leads_refused old (NeverBegins waits why new earlier against busy) = leads_steps _ old earlier
leads_refused old (FailsBefore waits last new earlier busy step) =
    leads_on old last new (leads_steps _ old earlier) (leads_one last new flushed.Device step)
leads_refused old (FailsWithin waits begins n last new earlier commit some steps step) =
    leads_on old begins new (leads_steps _ old earlier)
    (leads_on begins (after_commit begins) new (leads_begun Any begins tt commit)
    (leads_on (after_commit begins) last new (leads_steps _ (after_commit begins) steps)
    (leads_one last new flushed.Device step)))

pub leads_unfinished : (most : ℕ) (old : PagerState Deferred) {why : Refusal} {new : PagerState Deferred}
    → RefusesSteps most old why new → Leads Any old new
leads_unfinished most old (IsBroken broken) = leads_nowhere old
leads_unfinished most old (Fails n last new few steps step) =
    leads_on old last new (leads_steps _ old steps) (leads_one last new flushed.Device step)

-- steps, or a refusal of some
pub leads_some : (most : ℕ) (old new : PagerState Deferred) (result : Result Bool Refusal)
    → IfOk result (λ left. WritesOut most old left new) → IfErr result (λ why. RefusesSteps most old why new)
    → Leads Any old new
leads_some most old new (Ok left) some refused = leads_steps _ old some.steps
leads_some most old new (Err why) some refused = leads_unfinished most old refused
