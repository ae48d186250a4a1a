-- What is decided of a fault, by where its page is.
use Rattle.std.proofs.Common.{ℕ, ◌≡◌, ◌*◌, ◌&&◌, not, leb, Bool, true, false, cond, List, [], Option, Some, None}
use Rattle.std.proofs.Common.{is_none, Result, Ok, Err, MatchResult, IfOk, is_ok, refl, sym, ap, subst, ◌∙◌, inl, inr}
use Rattle.std.specs.List.{All}
use Rattle.std.proofs.lemmas.Bool.{cond-true, cond-false, and_left, and_right, and_from}
use Rattle.std.proofs.lemmas.Bool.{and_parts, false≢true, cases_Bool, not-true}
use Rattle.std.proofs.lemmas.List.Elements.{All-contains}
use Rattle.page_entry.specs.declared.numbers.FilePage.{FilePage}
use Rattle.page_entry.specs.declared.refusal.Refusal.{Refusal}
use Rattle.page_entry.specs.declared.refusal.Refusal.TheVariants as refusals
use Rattle.mappings.specs.Places.{may_write}
use Rattle.frames.specs.Frames.{FramesState, has_free}
use Rattle.checkpoint.specs.Checkpoint.{CheckpointState, Holds, is_frozen, is_held, same_page}
use Rattle.checkpoint.specs.Backing.{page_at}
use Rattle.checkpoint.proofs.Public.{Passing-list_any, same_page-true, list_any-has_page}
use Rattle.fault.specs.declared.page_fault.PageFault.{PageFault}
use Rattle.fault.specs.declared.plan.Plan.{Plan}
use Rattle.fault.specs.declared.plan.Plan.TheVariants.{Keep, Copy, Read}
use Rattle.fault.specs.Fault.{is_in_memory, copies_out, CopiesOut}
use Rattle.fault.specs.Fixing.{refusal_of, reads_home}
use Rattle.fault.specs.inside.Frame.{IsPlanned, IsReadIn, IsInFrame}

-- a frozen page is in memory
frozen_in_memory : (memory : FramesState) (c : CheckpointState) (owner : FilePage)
    → All (λ page. is_in_memory memory page ≡ true) c.frozen → is_frozen c owner ≡ true
    → is_in_memory memory owner ≡ true
frozen_in_memory memory c owner all frozen =
    let found = Passing-list_any (same_page owner) c.frozen frozen in
    ap (is_in_memory memory) (same_page-true owner found.item found.passes)
    ∙ All-contains (λ page. is_in_memory memory page ≡ true) c.frozen found.item all found.there

module _ (memory : FramesState) (c : CheckpointState) (fault : PageFault)
    (allowed : (fault.write && not (may_write fault.place.rights)) ≡ false)
    (inside : leb fault.length (4096 * fault.place.page) ≡ false) where
  -- a page that isn't in memory takes no copy
  pub copies_out-absent : All (λ page. is_in_memory memory page ≡ true) c.frozen
      → is_in_memory memory (page_at fault.place) ≡ false
      → copies_out memory c (page_at fault.place) fault.write ≡ false
  copies_out-absent all absent =
      and_right fault.write (is_held memory c (page_at fault.place))
      (elim (cases_Bool (is_frozen c (page_at fault.place))) [
        | inl frozen ↦ absurd (false≢true (sym absent ∙ frozen_in_memory memory c (page_at fault.place) all frozen))
        | inr no_frozen ↦ and_left (is_frozen c (page_at fault.place)) _ no_frozen
      ])

  -- the reasons against a page that is in memory
  refusal_of-found : (copies : Bool) → copies ≡ copies_out memory c (page_at fault.place) fault.write
      → is_in_memory memory (page_at fault.place) ≡ true
      → refusal_of memory c fault ≡ cond (copies && not (has_free memory.copies)) (Some refusals.Held) None
  refusal_of-found copies is there =
      let other : Option Refusal =
      cond (not (has_free memory.frames)) (Some refusals.NoFrame) (cond fault.broken (Some refusals.Device) None) in
      cond-false (fault.write && not (may_write fault.place.rights)) _ _ allowed
      ∙ cond-false (leb fault.length (4096 * fault.place.page)) _ _ inside
      ∙ ap (λ b. cond (b && not (has_free memory.copies)) (Some refusals.Held)
      (cond (is_in_memory memory (page_at fault.place)) None other)) (sym is)
      ∙ ap (λ b. cond (copies && not (has_free memory.copies)) (Some refusals.Held) (cond b None other)) there

  -- what is planned for it
  pub planned-found : (frame : ℕ) (copies : Bool)
      → copies ≡ copies_out memory c (page_at fault.place) fault.write → Holds memory frame (page_at fault.place)
      → IsPlanned memory c fault (cond copies (Copy frame) (Keep frame))
  planned-found frame true is holds = (
    holds,
    sym is,
    refusal_of-found true is (list_any-has_page memory.frames (page_at fault.place) frame holds)
        ∙ turned (has_free memory.copies),
  )
    where
      turned : (b : Bool) → cond (not b) (Some refusals.Held) None ≡ cond b None (Some refusals.Held)
      turned true = refl
      turned false = refl
  planned-found frame false is holds =
      (holds, sym is, refusal_of-found false is (list_any-has_page memory.frames (page_at fault.place) frame holds))

  -- the reasons against a page that isn't
  pub refusal_of-absent : is_in_memory memory (page_at fault.place) ≡ false
      → copies_out memory c (page_at fault.place) fault.write ≡ false
      → refusal_of memory c fault
      ≡ cond (not (has_free memory.frames)) (Some refusals.NoFrame) (cond fault.broken (Some refusals.Device) None)
  refusal_of-absent absent no_copy =
      cond-false (fault.write && not (may_write fault.place.rights)) _ _ allowed
      ∙ cond-false (leb fault.length (4096 * fault.place.page)) _ _ inside
      ∙ cond-false (copies_out memory c (page_at fault.place) fault.write && not (has_free memory.copies)) _ _
      (and_left (copies_out memory c (page_at fault.place) fault.write) (not (has_free memory.copies)) no_copy)
      ∙ cond-false (is_in_memory memory (page_at fault.place)) None _ absent

  -- what is planned for it
  pub planned-absent : (r : Result Plan Refusal) → is_in_memory memory (page_at fault.place) ≡ false
      → copies_out memory c (page_at fault.place) fault.write ≡ false
      → r
      ≡ cond (not (has_free memory.frames)) (Err refusals.NoFrame) (cond fault.broken (Err refusals.Device) (Ok Read))
      → MatchResult r (IsPlanned memory c fault) (λ why. refusal_of memory c fault ≡ Some why)
  planned-absent r absent no_copy is =
      subst (λ r. MatchResult r (IsPlanned memory c fault) (λ why. refusal_of memory c fault ≡ Some why)) (sym is)
      (by_cases (has_free memory.frames) fault.broken (refusal_of-absent absent no_copy))
    where
      by_cases : (free broken : Bool)
          → refusal_of memory c fault
          ≡ cond (not free) (Some refusals.NoFrame) (cond broken (Some refusals.Device) None)
          → MatchResult (cond (not free) (Err refusals.NoFrame) (cond broken (Err refusals.Device) (Ok Read)))
          (IsPlanned memory c fault) (λ why. refusal_of memory c fault ≡ Some why)
      by_cases false broken e = e
      by_cases true true e = e
      by_cases true false e = (
        and_from (is_none (refusal_of memory c fault)) (not (is_in_memory memory (page_at fault.place))) (ap is_none e)
            (ap not absent),
        no_copy,
      )

none_of : {X : Type 0} (o : Option X) → is_none o ≡ true → o ≡ None
none_of None e = refl
none_of (Some x) e = cc

module _ (honest : Type 0) (disk : List ℕ) (memory : FramesState) (c : CheckpointState) (fault : PageFault) where
  -- a page that is in memory isn't read
  not_read : (frame : ℕ) → Holds memory frame (page_at fault.place) → reads_home memory c fault ≡ true → ⊥
  not_read frame holds reads =
      let parts =
      and_parts (is_none (refusal_of memory c fault)) (not (is_in_memory memory (page_at fault.place))) reads in
      false≢true (sym (not-true (is_in_memory memory (page_at fault.place)) parts.1)
      ∙ list_any-has_page memory.frames (page_at fault.place) frame holds)

  -- a frame has the page, and stays as it is
  pub in_frame-kept : (frame : ℕ) → IsPlanned memory c fault (Keep frame)
      → IsInFrame honest disk memory c fault frame memory
  in_frame-kept frame planned = record {
    allowed = planned.2;
    bytes = [];
    read = λ reads. absurd (not_read frame planned.0 reads);
    mid = memory;
    brought = inl (planned.0, refl);
    copied = subst (λ b. CopiesOut b memory frame memory) (sym planned.1) refl;
  }

  -- a frame has it, and its bytes are copied
  pub in_frame-copied : (frame : ℕ) (r : Result ℕ Refusal) (new : FramesState) → IsPlanned memory c fault (Copy frame)
      → IfOk r (λ kept. (kept ≡ frame) × CopiesOut true memory frame new) → is_ok r ≡ has_free memory.copies
      → IfOk r (λ f. IsInFrame honest disk memory c fault f new)
  in_frame-copied frame (Err why) new planned copied ok = tt
  in_frame-copied frame (Ok kept) new planned copied ok =
      subst (λ f. IsInFrame honest disk memory c fault f new) (sym copied.0) (record {
        allowed = planned.2 ∙ cond-true (has_free memory.copies) None (Some refusals.Held) (sym ok);
        bytes = [];
        read = λ reads. absurd (not_read frame planned.0 reads);
        mid = memory;
        brought = inl (planned.0, refl);
        copied = subst (λ b. CopiesOut b memory frame new) (sym planned.1) copied.1;
      })

  -- it is read into a free one
  pub in_frame-read : (r : Result ℕ Refusal) (new : FramesState)
      → IsPlanned memory c fault Read → IfOk r (λ f. IsReadIn honest disk memory fault f new)
      → IfOk r (λ f. IsInFrame honest disk memory c fault f new)
  in_frame-read (Err why) new planned read = tt
  in_frame-read (Ok frame) new planned read =
      let parts =
      and_parts (is_none (refusal_of memory c fault)) (not (is_in_memory memory (page_at fault.place))) planned.0 in
      record {
        allowed = none_of (refusal_of memory c fault) parts.0;
        bytes = read.bytes;
        read = λ _. read.read;
        mid = new;
        brought = inr (not-true (is_in_memory memory (page_at fault.place)) parts.1, read.free, read.taken);
        copied = subst (λ b. CopiesOut b new frame new) (sym planned.1) refl;
      }
