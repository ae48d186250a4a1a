-- Steps of the write-outs, by what the journal answers.
use Rattle.machine.proofs.Names.{ℕ, ◌≡◌, ◌≢◌, ◌⊎◌, Bool, true, false, not, cond, List, [], Option, Some, None}
use Rattle.machine.proofs.Names.{refl, sym, ap, subst, ⊎_elim, MatchBool, Torn, Ghosts, Did, did_nothing, Refusal}
use Rattle.machine.proofs.Names.{Flushed, Work, WriteAt, CopyBlock, Sync, Nothing, worked, TornByWork, has_done}
use Rattle.machine.proofs.Names.{WriteOutsValue, is_page_next, next_answer, outs_after, is_running, ShootdownState}
use Rattle.machine.proofs.Names.{is_there, state_of, not_running, State, reason_against, after_record}
use Rattle.machine.proofs.Names.{work_asked, FlushMade, Acts, has_failed, step_work, AnswersBy, reply_of_flush}
use Rattle.machine.proofs.Names.{memory_after, checkpoint_after, released_memory, released_pages}
use Rattle.page_entry.specs.declared.refusal.Refusal.TheVariants as refusals
use Rattle.journal.specs.declared.flushed.Flushed.TheVariants as flushed
use Rattle.machine.specs.declared.act.Act.TheVariants as acts
use Rattle.machine.specs.declared.act.Reply.TheVariants as replies
use Rattle.machine.specs.inside.Layers.{reply_to as reply_by}

-- the state after a step that the journal answers so
abbrev pub stepped : State → Flushed → State
stepped s answer = record s {
  hardware = record s.hardware { memory = memory_after answer (is_page_next s) s.checkpoint s.hardware.memory };
  checkpoint = checkpoint_after answer (is_page_next s) s.checkpoint;
  write_outs = outs_after s.write_outs answer;
}

-- the same where a record was written or wasn't
with_record : (s : State) (writes : Bool) (outs new : WriteOutsValue) → outs ≡ new
    → record s {
      hardware = record s.hardware { memory = released_memory writes s.checkpoint s.hardware.memory };
      checkpoint = released_pages writes s.checkpoint;
      write_outs = outs;
    }
    ≡ record (cond writes (after_record s) s) { write_outs = new }
with_record s true outs new is = ap (λ (o : WriteOutsValue). record (after_record s) { write_outs = o }) is
with_record s false outs new is = ap (λ (o : WriteOutsValue). record s { write_outs = o }) is

not_torn : (at n : ℕ) (disk : List ℕ) → Torn at n disk disk
not_torn at n disk = record { before = refl; after = refl; same_length = refl }

nothing_torn : (work : Work) → TornByWork work [] []
nothing_torn (WriteAt at bytes) = not_torn at _ []
nothing_torn (CopyBlock from to) = not_torn _ _ []
nothing_torn Sync = refl
nothing_torn Nothing = refl

module _ (honest : Type 0) (s : State) (disk disk' : List ℕ) (p : ℕ) (allowed : reason_against s p acts.Flush ≡ None)
    (some : s.write_outs.batches ≢ []) where
  made : (answer : Flushed) (new : State) → answer ≡ next_answer s.write_outs
      → new ≡ record (cond (is_page_next s) (after_record s) s)
      { write_outs = outs_after s.write_outs (next_answer s.write_outs) }
      → (d : List ℕ) → FlushMade s d p answer new (worked d (work_asked s))
  made answer new is done d =
      record { allowed = allowed; some = some; answered = sym is; done = done; disk_done = refl }

  own : (answer : Flushed) (new : State) → ((d : List ℕ) → FlushMade s d p answer new (worked d (work_asked s)))
      → disk' ≡ worked disk (work_asked s) → FlushMade s disk p answer new disk'
  own answer new all is = subst (FlushMade s disk p answer new) (sym is) (all disk)

  -- a step that is made
  by_step : (answer : Flushed) (new : State) → answer ≡ next_answer s.write_outs
      → new ≡ record (cond (is_page_next s) (after_record s) s)
      { write_outs = outs_after s.write_outs (next_answer s.write_outs) }
      → (honest → disk' ≡ worked disk (work_asked s))
      → AnswersBy honest (λ d d'. FlushMade s d p answer new d') disk disk'
  by_step answer new is done seen =
      let all = made answer new is done in
      record { some_disk = ([], worked [] (work_asked s), all []); own_disk = λ h. own answer new all (seen h) }

  -- by the journal's answer, which isn't that it was broken before
  pub flushes_by : (answer : Flushed) → (answer ≡ next_answer s.write_outs) ⊎ (answer ≡ flushed.Device)
      → answer ≢ flushed.Broken
      → (honest → MatchBool (has_done answer) (disk' ≡ worked disk (work_asked s))
      (TornByWork (work_asked s) disk disk'))
      → AnswersBy honest
      (λ d d'. Acts s d p acts.Flush (reply_by (reply_of_flush answer)) (stepped s answer) d') disk disk'
  flushes_by flushed.Going answered whole seen =
      let is : flushed.Going ≡ next_answer s.write_outs = ⊎_elim (λ e. e) (λ e. absurd (cc)) answered in
      by_step flushed.Going (stepped s flushed.Going) is
      (with_record s (is_page_next s) _ _ (ap (outs_after s.write_outs) is)) seen
  flushes_by (flushed.Committed mark) answered whole seen =
      let is : flushed.Committed mark ≡ next_answer s.write_outs = ⊎_elim (λ e. e) (λ e. absurd (cc)) answered in
      by_step (flushed.Committed mark) (stepped s (flushed.Committed mark)) is
      (with_record s (is_page_next s) _ _ (ap (outs_after s.write_outs) is)) seen
  flushes_by (flushed.Done mark) answered whole seen =
      let is : flushed.Done mark ≡ next_answer s.write_outs = ⊎_elim (λ e. e) (λ e. absurd (cc)) answered in
      by_step (flushed.Done mark) (stepped s (flushed.Done mark)) is
      (with_record s (is_page_next s) _ _ (ap (outs_after s.write_outs) is)) seen
  flushes_by flushed.Device answered whole seen = record {
    some_disk =
        ([], [], record { allowed = allowed; some = some; done = refl; disk_torn = nothing_torn (work_asked s) });
    own_disk = λ h. record { allowed = allowed; some = some; done = refl; disk_torn = seen h };
  }
  flushes_by flushed.Broken answered whole seen = absurd (whole refl)

-- what a step asks of the device and whether a call of it failed, by its reply
pub answer_work : (s : State) (answer : Flushed) → answer ≢ flushed.Broken
    → step_work s acts.Flush (reply_by (reply_of_flush answer)) ≡ work_asked s
answer_work s flushed.Going whole = refl
answer_work s (flushed.Committed mark) whole = refl
answer_work s (flushed.Done mark) whole = refl
answer_work s flushed.Device whole = refl
answer_work s flushed.Broken whole = absurd (whole refl)

pub answer_done : (answer : Flushed) → has_done answer ≡ not (has_failed (reply_by (reply_of_flush answer)))
answer_done flushed.Going = refl
answer_done (flushed.Committed mark) = refl
answer_done (flushed.Done mark) = refl
answer_done flushed.Device = refl
answer_done flushed.Broken = refl

-- ---- refused before the device is asked

abbrev pub IsCalm : Refusal → Type 0
IsCalm refusals.Device = ⊥
IsCalm why = Unit {0}

pub flushes_refused : (s : State) (p : ℕ) (why : Refusal) (d : List ℕ) → IsCalm why
    → reason_against s p acts.Flush ≡ Some why → Acts s d p acts.Flush (replies.Refused why) s d
flushes_refused s p refusals.Device d calm is = absurd calm
flushes_refused s p why d calm is = ((is, refl), refl)

-- nothing is asked of the device then
pub flush_untouched : {D : Type 0} (disk : Ghosts D)
    (since_now : (device : D) (c : List ℕ) → disk.left_since device (disk.moment device) c → disk.may_leave device c)
    (s : State) (why : Refusal) (device : D) → IsCalm why
    → Did disk device (step_work s acts.Flush (replies.Refused why)) (not (has_failed (replies.Refused why))) device
flush_untouched disk since_now s refusals.Device device calm = absurd calm
flush_untouched disk since_now s why device calm = did_nothing disk device (since_now device)

pub calm-not_running : (s : ShootdownState) (p : ℕ) (why : Refusal) → not_running s p ≡ Some why → IsCalm why
calm-not_running s p why is = by (is_there s p) (is_running (state_of s p)) is
  where
    calm_as : (known : Refusal) → IsCalm known → ◌≡◌ {A = Option Refusal} (Some known) (Some why) → IsCalm why
    calm_as known calm e = let same : known ≡ why = cc in subst IsCalm same calm

    by : (there running : Bool)
        → cond (not there) (Some refusals.Einval) (cond running None (Some refusals.Stalled)) ≡ Some why → IsCalm why
    by false running e = calm_as refusals.Einval tt e
    by true false e = calm_as refusals.Stalled tt e
    by true true e = absurd (cc)
