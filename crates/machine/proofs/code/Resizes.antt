-- What a change of a file's length asks of frames and pages, and why it is refused.
use Rattle.machine.proofs.Names.{ℕ, ◌≡◌, ◌≢◌, ◌-◌, ◌*◌, ◌/◌, ◌%◌, ◌^◌, ◌<◌}
use Rattle.machine.proofs.Names.{◌≤◌, Bool, true, false, not, eqb, ltb}
use Rattle.machine.proofs.Names.{cond, cond-true, cond-false, [], ◌∷◌}
use Rattle.machine.proofs.Names.{length, Option, Some, None, is_none, count_by}
use Rattle.machine.proofs.Names.{refl, sym, ap, ◌∙◌, subst, arith, Ok, ltb-false, ne_eqb, eq-eqb, Refusal, FilePage}
use Rattle.machine.proofs.Names.{Holds, HandsOut, not_free, pages_of, State, capacity_of}
use Rattle.machine.proofs.Names.{length_of, IsSound, IsResizable, lacks_last_page}
use Rattle.machine.proofs.Names.{length_refusal, resize_refusal, reason_against}
use Rattle.spaces.specs.declared.change.Change.TheVariants as changes
use Rattle.machine.specs.declared.act.Act.TheVariants as acts
use Rattle.machine.proofs.sound.Ended.{prepared_change}
use Rattle.history.proofs.Public.{total_pages-within}
use Rattle.machine.proofs.Names.{◌&&◌, is_some, lt-ltb, IfSome, IfNone, HasNoFrame, frame_at, page_of, is_in_memory}
use Rattle.machine.proofs.code.Parts.{may_change, in_memory-found}
use Rattle.machine.proofs.code.Refusals.{passed, alone}

-- ---- a length that a file may have

-- it is at most 2^44
pub small_capacity : (s : State) → IsSound s → (file : ℕ) → file < length s.table.files → capacity_of s file ≤ 2 ^ 44
small_capacity s sound file there = omega (arith, total_pages-within s.table.files file there, sound.fits.few_blocks)

-- and the page in which it ends has a number of 32 bits
pub small_page : (s : State) → IsSound s → (file : ℕ) → file < length s.table.files → length_of s file / 4096 < 2 ^ 32
small_page s sound file there =
    omega (arith, sound.within file, total_pages-within s.table.files file there, sound.fits.few_blocks)

-- what `is_none` answers, said by its contract
pub none_answered : (found : Option ℕ) (answer : Bool) → is_some found ≡ not answer → answer ≡ is_none found
none_answered None true same = refl
none_answered None false same = absurd (cc)
none_answered (Some n) false same = refl
none_answered (Some n) true same = absurd (cc)

-- a growth from inside a page lacks it exactly where no frame is found for it
pub lacks_by : (s : State) (file to old page : ℕ) (found : Option ℕ) → old ≡ length_of s file → page ≡ old / 4096
    → old < to → (old % 4096 ≡ 0 → ⊥)
    → IfSome found (λ frame. page_of (frame_at s.hardware.memory frame) ≡ Some (record { file = file; page = page }))
    → IfNone found (HasNoFrame s.hardware.memory (record { file = file; page = page }))
    → is_none found ≡ lacks_last_page s file to
lacks_by s file to old page found is page_is grows inside some none =
    let owner : FilePage = record { file = file; page = page } in
    let there = in_memory-found s.hardware.memory owner found some none in
    none_is found ∙ ap not (sym there) ∙ ap
    (λ n. not (is_in_memory s.hardware.memory (record { file = file; page = n }))) (page_is ∙ ap (λ n. n / 4096) is)
    ∙ sym (both (ltb (length_of s file) to) (eqb (length_of s file % 4096) 0) _
    (lt-ltb (length_of s file) to (omega (arith, is, grows)))
    (ne_eqb (length_of s file % 4096) 0 (λ e. inside (ap (λ n. n % 4096) is ∙ e))))
  where
    none_is : (o : Option ℕ) → is_none o ≡ not (is_some o)
    none_is None = refl
    none_is (Some n) = refl

    both : (grows whole last : Bool) → grows ≡ true → whole ≡ false → (grows && not whole && last) ≡ last
    both true false last first second = refl
    both true true last first second = absurd (cc)
    both false whole last first second = absurd (cc)

-- ---- the change of the length that a processor began

module _ (s : State) (p file to : ℕ) (sound : IsSound s)
    (held : HandsOut s.hardware.shootdown p (Ok (Some (changes.SetLength file to)))) where
  pub resizable_held : IsResizable s file to
  resizable_held = prepared_change s p (changes.SetLength file to) sound
      (may_change s p (changes.SetLength file to) held)

  pub pages_inside : (frame : ℕ) (owner : FilePage) → Holds s.hardware.memory frame owner → owner.file ≡ file
      → 4096 * owner.page < length_of s file
  pages_inside frame owner holds same =
      subst (λ k. 4096 * owner.page < length_of s k) same (sound.memory.in_files frame owner holds).inside

  pub room_for : pages_of to - pages_of (length_of s file) ≤ count_by is_none s.hardware.memory.frames
  room_for = ltb-false (count_by is_none s.hardware.memory.frames)
      (pages_of to - pages_of (length_of s file)) resizable_held.room

  pub both_small : (length_of s file ≤ 2 ^ 44) × (to ≤ 2 ^ 44)
  both_small =
      let most = small_capacity s sound file resizable_held.there in
      (omega (arith, most, sound.within file), omega (arith, most, resizable_held.within))

-- ---- reasons

-- against a length that the file has already: those of the length alone
pub same_length_reason : (s : State) (p file to : ℕ) → not_free s.hardware.shootdown p ≡ None
    → length_refusal s file to ≡ None → to ≡ length_of s file
    → reason_against s p (acts.SetLength file to) ≡ None
same_length_reason s p file to free fine same =
    let other = cond (eqb to (length_of s file)) None (resize_refusal s file to) in
    passed (not_free s.hardware.shootdown p) (length_refusal s file to ∷ other ∷ []) None free
    (passed (length_refusal s file to) (other ∷ []) None fine (alone other
    ∙ cond-true (eqb to (length_of s file)) None (resize_refusal s file to) (eq-eqb to (length_of s file) same)))

-- against another: these, then those of the change
pub other_length_reason : (s : State) (p file to : ℕ) (reason : Option Refusal) → not_free s.hardware.shootdown p ≡ None
    → length_refusal s file to ≡ None → to ≢ length_of s file
    → resize_refusal s file to ≡ reason → reason_against s p (acts.SetLength file to) ≡ reason
other_length_reason s p file to reason free fine differs is =
    let other = cond (eqb to (length_of s file)) None (resize_refusal s file to) in
    passed (not_free s.hardware.shootdown p) (length_refusal s file to ∷ other ∷ []) reason free
    (passed (length_refusal s file to) (other ∷ []) reason fine (alone other ∙ cond-false
    (eqb to (length_of s file)) None (resize_refusal s file to) (ne_eqb to (length_of s file) differs) ∙ is))
