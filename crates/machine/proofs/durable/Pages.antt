-- Which pages frames and copies have, with what bytes, and what frozen pages had at their mark, after each change.
use Rattle.machine.proofs.Names.{ℕ, ◌≡◌, ◌≢◌, true, false, List, slice_get, Option, Some, None, refl, sym, ap, ◌∙◌, inl}
use Rattle.machine.proofs.Names.{inr, ◌⊎◌, ◌<◌, ◌||◌, zero, suc, cond, [], ◌∷◌, length, map, get_or, set, arith, not}
use Rattle.machine.proofs.Names.{subst, cases_eq, false_from_ne_true, false≢true, cond-true, cond-false, both_ways}
use Rattle.machine.proofs.Names.{and_parts, and_from, or_parts, or_left, or_right, cases_Bool, not-true, not_from_false}
use Rattle.machine.proofs.Names.{FilePage, FramesState, Frame, frame_at, bytes_of, overwrite, overwrite_frame}
use Rattle.machine.proofs.Names.{with_page, with_bytes, without_frame, page_of, with_copy, frame_at-free}
use Rattle.machine.proofs.Names.{frame_at-with_page_same, frame_at-with_page_other, frame_at-with_bytes_same}
use Rattle.machine.proofs.Names.{frame_at-without_frame_same, frame_at-without_frame_other, same_page-true}
use Rattle.machine.proofs.Names.{same_page-refl, has_page-list_any, Holds, same_page, is_of_page}
use Rattle.machine.proofs.Names.{freed_copy, is_copied, is_frozen, is_held, is_in_memory, Contains, list_any}
use Rattle.machine.proofs.Names.{bytes_with, MayLeave, bytes_at_mark, All-contains, slice_get_within}
use Rattle.machine.proofs.Names.{get_or_from_slice_get, HasBlock, State, home_of, IsSound}
use Rattle.history.proofs.Public.{some_same, none_some}
use Rattle.machine.proofs.sound.Frames.{in_memory_held, held_in_memory, page_of-overwrite}
use Rattle.machine.proofs.sound.Records.{bytes_with-at, bytes_with-none}
use Rattle.machine.proofs.durable.Uncommitted.{frozen_block}

-- ---- the same page

pub cases_page : (a b : FilePage) → (a ≡ b) ⊎ (a ≡ b → ⊥)
cases_page a b =
    elim (same_page a b) as (λ x. same_page a b ≡ x → (a ≡ b) ⊎ (a ≡ b → ⊥)) [
      | true ↦ λ e. inl (same_page-true a b e)
      | false ↦ λ e. inr (λ same. false≢true (sym e ∙ ap (same_page a) (sym same) ∙ same_page-refl a))
    ] refl

-- pages that aren't the same differ by file or by number
pub differ : (a b : FilePage) → (a ≡ b → ⊥) → a.file ≡ b.file → a.page ≡ b.page → ⊥
differ a b other file page = other (λ i. record { file = file i; page = page i })

-- ---- whether a page is in memory

-- a page in memory is in a frame
pub holder : (owner : FilePage) (frames : List (Option Frame)) → list_any (is_of_page owner) frames ≡ true
    → (k : ℕ) × (page_of (get_or frames k None) ≡ Some owner)
holder owner frames is = let h = has_page-list_any frames owner is in (h.number, h.holds)

pub held_by_none : (memory : FramesState) (owner : FilePage) → is_in_memory memory owner ≡ false → (frame : ℕ)
    → Holds memory frame owner → ⊥
held_by_none memory owner absent frame holds = false≢true (sym absent ∙ in_memory_held memory frame owner holds)

pub not_in_memory : (memory : FramesState) (owner : FilePage) → ((frame : ℕ) → Holds memory frame owner → ⊥)
    → is_in_memory memory owner ≡ false
not_in_memory memory owner none =
    false_from_ne_true (is_in_memory memory owner) (λ is. let h = held_in_memory memory owner is in none h.0 h.1)

-- where frames hold what they held, what isn't in memory wasn't
pub absent_before : (old new : FramesState)
    → ((frame : ℕ) (owner : FilePage) → Holds old frame owner → Holds new frame owner) → (owner : FilePage)
    → is_in_memory new owner ≡ false → is_in_memory old owner ≡ false
absent_before old new keeps owner absent =
    not_in_memory old owner (λ frame holds. held_by_none new owner absent frame (keeps frame owner holds))

-- ---- bytes are written into a frame

bytes_of-overwrite : (f : Option Frame) (at : ℕ) (bytes : List ℕ) (owner : FilePage) → page_of f ≡ Some owner
    → bytes_of (overwrite_frame f at bytes) ≡ overwrite (bytes_of f) at bytes
bytes_of-overwrite None at bytes owner is = absurd (cc)
bytes_of-overwrite (Some f) at bytes owner is = refl

-- the bytes of a frame in use are overwritten there
pub bytes_of-with_bytes : (memory : FramesState) (frame at : ℕ) (bytes : List ℕ) (owner : FilePage)
    → Holds memory frame owner → bytes_of (frame_at (with_bytes memory frame at bytes) frame)
    ≡ overwrite (bytes_of (frame_at memory frame)) at bytes
bytes_of-with_bytes memory frame at bytes owner holds = ap bytes_of (frame_at-with_bytes_same memory frame at bytes)
    ∙ bytes_of-overwrite (frame_at memory frame) at bytes owner holds

-- ---- a page is brought into a frame

-- what a page that comes into memory leaves of the frames, and what it adds
pub record IsBrought (old : FramesState) (owner : FilePage) (bytes : List ℕ) (new : FramesState) : Type 0 where
  -- a frame holds what it held, and the same bytes, or it was free and has the page
  pub kept : (frame : ℕ) (o : FilePage) → Holds old frame o → Holds new frame o
  pub cases : (frame : ℕ) (o : FilePage) → Holds new frame o
      → (Holds old frame o × (bytes_of (frame_at new frame) ≡ bytes_of (frame_at old frame)))
      ⊎ ((is_in_memory old owner ≡ false) × (frame_at old frame ≡ None) × (o ≡ owner)
      × (bytes_of (frame_at new frame) ≡ bytes))

pub is_brought : (old : FramesState) (owner : FilePage) (bytes : List ℕ) (frame : ℕ) → is_in_memory old owner ≡ false
    → slice_get old.frames frame ≡ Some None → IsBrought old owner bytes (with_page old frame owner bytes)
is_brought old owner bytes frame absent is_free =
    let free : frame_at old frame ≡ None = frame_at-free old frame is_free in
    record {
      kept = λ k o holds.
          let other : k ≢ frame = λ same.
          absurd (none_some o (sym (ap (λ n. page_of (frame_at old n)) same ∙ ap page_of free) ∙ holds)) in
          ap page_of (frame_at-with_page_other old frame owner bytes k other) ∙ holds;
      cases = λ k o holds.
          elim (cases_eq k frame) [
            | inl same ↦
                let now = ap (frame_at (with_page old frame owner bytes)) same
                ∙ frame_at-with_page_same old frame owner bytes is_free in
                inr (
                  absent,
                  ap (frame_at old) same ∙ free,
                  some_same o owner (sym holds ∙ ap page_of now),
                  ap bytes_of now,
                )
            | inr other ↦
                let now = frame_at-with_page_other old frame owner bytes k other in
                inl (sym (ap page_of now) ∙ holds, ap bytes_of now)
          ];
    }

-- ---- a frame becomes free

pub held_without : (memory : FramesState) (frame k : ℕ) (owner : FilePage) → Holds (without_frame memory frame) k owner
    → (k ≢ frame) × (frame_at (without_frame memory frame) k ≡ frame_at memory k)
held_without memory frame k owner holds =
    let other : k ≢ frame = λ same.
    absurd (let none : page_of (frame_at (without_frame memory frame) k) ≡ None = ap (λ n. page_of (frame_at
    (without_frame memory frame) n)) same ∙ ap page_of (frame_at-without_frame_same memory frame) in cc) in
    (other, frame_at-without_frame_other memory frame k other)

-- ---- the bytes of a page as they were at its mark

pub same_page-other : (a b : FilePage) → (a ≡ b → ⊥) → same_page a b ≡ false
same_page-other a b other = false_from_ne_true (same_page a b) (λ e. other (same_page-true a b e))

-- ---- what has a page

pub of_page-held : (owner : FilePage) (f : Option Frame) → page_of f ≡ Some owner → is_of_page owner f ≡ true
of_page-held owner None e = absurd (none_some owner e)
of_page-held owner (Some f) e = ap (same_page owner) (some_same f.page owner e) ∙ same_page-refl owner

pub of_page-other : (owner other : FilePage) (f : Option Frame) → page_of f ≡ Some other → (owner ≡ other → ⊥)
    → is_of_page owner f ≡ false
of_page-other owner other None e differs = refl
of_page-other owner other (Some f) e differs =
    ap (same_page owner) (some_same f.page other e) ∙ same_page-other owner other differs

-- ---- the bytes of a page in a list of frames

some_of_page : (owner : FilePage) (f : Frame) (rest : List (Option Frame)) (other : List ℕ)
    → same_page owner f.page ≡ false → bytes_with owner (Some f ∷ rest) other ≡ bytes_with owner rest other
some_of_page owner f rest other e = cond-false (same_page owner f.page) f.bytes (bytes_with owner rest other) e

-- what isn't of the page is skipped
pub bytes_with-skip : (owner : FilePage) (x : Option Frame) (rest : List (Option Frame)) (other : List ℕ)
    → is_of_page owner x ≡ false → bytes_with owner (x ∷ rest) other ≡ bytes_with owner rest other
bytes_with-skip owner None rest other e = refl
bytes_with-skip owner (Some f) rest other e = some_of_page owner f rest other e

-- where one has it, nothing else counts
pub bytes_with-one : (owner : FilePage) (frames : List (Option Frame)) (a b : List ℕ)
    → list_any (is_of_page owner) frames ≡ true → bytes_with owner frames a ≡ bytes_with owner frames b
bytes_with-one owner [] a b e = absurd (both_ways false refl e)
bytes_with-one owner (None ∷ xs) a b e = bytes_with-one owner xs a b e
bytes_with-one owner (Some f ∷ xs) a b e = elim (cases_Bool (same_page owner f.page)) [
  | inl is ↦ cond-true (same_page owner f.page) f.bytes (bytes_with owner xs a) is
      ∙ sym (cond-true (same_page owner f.page) f.bytes (bytes_with owner xs b) is)
  | inr other ↦ some_of_page owner f xs a other ∙ bytes_with-one owner xs a b
      (ap (λ t. t || list_any (is_of_page owner) xs) (sym other) ∙ e) ∙ sym (some_of_page owner f xs b other)
]

-- a change at a place that neither had the page nor has it
pub bytes_with-set : (owner : FilePage) (frames : List (Option Frame)) (k : ℕ) (x : Option Frame) (other : List ℕ)
    → is_of_page owner (get_or frames k None) ≡ false → is_of_page owner x ≡ false
    → bytes_with owner (set frames k x) other ≡ bytes_with owner frames other
bytes_with-set owner [] k x other was is = refl
bytes_with-set owner (y ∷ ys) zero x other was is =
    bytes_with-skip owner x ys other is ∙ sym (bytes_with-skip owner y ys other was)
bytes_with-set owner (None ∷ ys) (suc k) x other was is = bytes_with-set owner ys k x other was is
bytes_with-set owner (Some f ∷ ys) (suc k) x other was is =
    ap (λ (rest : List ℕ). cond (same_page owner f.page) f.bytes rest) (bytes_with-set owner ys k x other was is)

-- a copy that is made of the page where none is
pub bytes_with-put : (owner : FilePage) (copies : List (Option Frame)) (k : ℕ) (x : Option Frame) (other : List ℕ)
    → k < length copies → list_any (is_of_page owner) copies ≡ false → page_of x ≡ Some owner
    → bytes_with owner (set copies k x) other ≡ bytes_of x
bytes_with-put owner [] k x other lt none is = absurd (omega arith)
bytes_with-put owner (y ∷ ys) zero None other lt none is = absurd (none_some owner is)
bytes_with-put owner (y ∷ ys) zero (Some f) other lt none is =
    cond-true (same_page owner f.page) f.bytes (bytes_with owner ys other) (of_page-held owner (Some f) is)
bytes_with-put owner (y ∷ ys) (suc k) x other lt none is =
    let parts = or_parts (is_of_page owner y) (list_any (is_of_page owner) ys) none in
    bytes_with-skip owner y (set ys k x) other parts.0 ∙ bytes_with-put owner ys k x other (omega arith) parts.1 is

-- copies of another page become free
pub bytes_with-freed : (owner first : FilePage) (copies : List (Option Frame)) (other : List ℕ) → (owner ≡ first → ⊥)
    → bytes_with owner (map (freed_copy first) copies) other ≡ bytes_with owner copies other
bytes_with-freed owner first [] other differs = refl
bytes_with-freed owner first (None ∷ copies) other differs = bytes_with-freed owner first copies other differs
bytes_with-freed owner first (Some f ∷ copies) other differs = elim (cases_Bool (same_page first f.page)) [
  | inl is ↦ ap (λ (x : Option Frame). bytes_with owner (x ∷ map (freed_copy first) copies) other)
      (cond-true (same_page first f.page) None (Some f) is)
      ∙ bytes_with-freed owner first copies other differs
      ∙ sym (some_of_page owner f copies other
      (same_page-other owner f.page (λ e. differs (e ∙ sym (same_page-true first f.page is)))))
  | inr keeps ↦ ap (λ (x : Option Frame). bytes_with owner (x ∷ map (freed_copy first) copies) other)
      (cond-false (same_page first f.page) None (Some f) keeps)
      ∙ ap (λ (rest : List ℕ). cond (same_page owner f.page) f.bytes rest)
      (bytes_with-freed owner first copies other differs)
]

-- the bytes of a frame that alone has the page
pub bytes_with-held : (memory : FramesState) (frame : ℕ) (owner : FilePage)
    → ((a b : ℕ) (o : FilePage) → Holds memory a o → Holds memory b o → a ≡ b) → Holds memory frame owner
    → bytes_with owner memory.frames [] ≡ bytes_of (frame_at memory frame)
bytes_with-held memory frame owner alone held =
    let at = bytes_with-at owner memory.frames [] (in_memory_held memory frame owner held) in
    at.2 ∙ ap (λ k. bytes_of (get_or memory.frames k None)) (alone at.0 frame owner at.1 held)

-- ---- frozen pages

pub frozen_contains : (owner : FilePage) (pages : List FilePage) → list_any (same_page owner) pages ≡ true
    → Contains pages owner
frozen_contains owner [] e = absurd (both_ways false refl e)
frozen_contains owner (x ∷ xs) e = elim (cases_Bool (same_page owner x)) [
  | inl is ↦ (0, omega arith, sym (same_page-true owner x is))
  | inr other ↦ (let later = frozen_contains owner xs (ap (λ b. b || list_any (same_page owner) xs) (sym other) ∙ e) in
      (suc later.0, omega (arith, later.1), later.2))
]

pub contains_frozen : (owner : FilePage) (pages : List FilePage) → Contains pages owner
    → list_any (same_page owner) pages ≡ true
contains_frozen owner [] has = absurd (omega (arith, has.1))
contains_frozen owner (x ∷ xs) (zero, lt, is) =
    or_left (same_page owner x) (list_any (same_page owner) xs) (ap (same_page owner) is ∙ same_page-refl owner)
contains_frozen owner (x ∷ xs) (suc k, lt, is) =
    or_right (same_page owner x) (list_any (same_page owner) xs) (contains_frozen owner xs (k, omega arith, is))

-- ---- what frozen pages had at their mark stays

other_page : (owner page : FilePage) → same_page owner page ≡ false → owner ≡ page → ⊥
other_page owner page other e =
    both_ways (same_page owner page) other (ap (same_page owner) (sym e) ∙ same_page-refl owner)

module _ (s : State) (sound : IsSound s) where
  abbrev memory : FramesState
  memory = s.hardware.memory

  -- these frames have of a frozen page what the machine has
  abbrev Keeps : FramesState → FilePage → Type 0
  Keeps now owner = bytes_at_mark now owner ≡ bytes_at_mark memory owner

  -- a frozen page is in memory
  frozen_there : (owner : FilePage) → Contains s.checkpoint.frozen owner → is_in_memory memory owner ≡ true
  frozen_there owner has =
      All-contains (λ (o : FilePage). is_in_memory memory o ≡ true) s.checkpoint.frozen owner sound.memory.frozen has

  -- bytes are written to a page that isn't held
  pub write_leaves : (page : FilePage) (frame at : ℕ) (bytes : List ℕ) → Holds memory frame page
      → is_held memory s.checkpoint page ≡ false
      → (owner : FilePage) → Contains s.checkpoint.frozen owner → Keeps (with_bytes memory frame at bytes) owner
  write_leaves page frame at bytes held thawed owner frozen =
      let written = overwrite_frame (frame_at memory frame) at bytes in
      elim (cases_Bool (same_page owner page)) [
        | inl same ↦
            (let is : owner ≡ page = same_page-true owner page same in
            let copied : is_copied memory owner ≡ true = elim (cases_Bool (is_copied memory owner)) [
              | inl is_it ↦ is_it
              | inr not_yet ↦
                  absurd (both_ways (is_held memory s.checkpoint owner) (ap (is_held memory s.checkpoint) is ∙ thawed)
                  (and_from (is_frozen s.checkpoint owner) (not (is_copied memory owner)) (contains_frozen owner
                  s.checkpoint.frozen frozen) (not_from_false (is_copied memory owner) not_yet)))
            ] in
            bytes_with-one owner memory.copies (bytes_with owner (set memory.frames frame written) [])
            (bytes_with owner memory.frames []) copied)
        | inr other ↦
            (let differs = other_page owner page other in
            ap (bytes_with owner memory.copies)
            (bytes_with-set owner memory.frames frame written []
            (of_page-other owner page (frame_at memory frame) held differs)
            (of_page-other owner page written (page_of-overwrite (frame_at memory frame) at bytes ∙ held) differs)))
      ]

  -- a page is brought into a frame
  pub brought_leaves : (page : FilePage) (bytes : List ℕ) (frame : ℕ) → is_in_memory memory page ≡ false
      → slice_get memory.frames frame ≡ Some None
      → (owner : FilePage) → Contains s.checkpoint.frozen owner → Keeps (with_page memory frame page bytes) owner
  brought_leaves page bytes frame absent free owner has =
      let differs : owner ≡ page → ⊥ = λ e.
      both_ways (is_in_memory memory page) absent (ap (is_in_memory memory) (sym e) ∙ frozen_there owner has) in
      let brought : Option Frame = Some (record { page = page; bytes = bytes }) in
      ap (bytes_with owner memory.copies)
      (bytes_with-set owner memory.frames frame brought [] (ap (is_of_page owner)
      (get_or_from_slice_get memory.frames frame None None free)) (of_page-other owner page brought refl differs))

  -- a copy is made of a held page
  pub copy_leaves : (page : FilePage) (frame copy : ℕ) → is_held memory s.checkpoint page ≡ true
      → Holds memory frame page → slice_get memory.copies copy ≡ Some None
      → (owner : FilePage) → Contains s.checkpoint.frozen owner → Keeps (with_copy memory copy frame) owner
  copy_leaves page frame copy held there free owner has =
      let parts = and_parts (is_frozen s.checkpoint page) (not (is_copied memory page)) held in
      let frames = bytes_with owner memory.frames [] in
      elim (cases_Bool (same_page owner page)) [
        | inl same ↦
            (let is : owner ≡ page = same_page-true owner page same in
            let not_copied : is_copied memory owner ≡ false =
            ap (is_copied memory) is ∙ not-true (is_copied memory page) parts.1 in
            let here : Holds memory frame owner = there ∙ ap (λ (o : FilePage). Some o) (sym is) in
            bytes_with-put owner memory.copies copy (frame_at memory frame) frames
            (slice_get_within memory.copies copy None free) not_copied here
            ∙ sym (bytes_with-none owner memory.copies frames not_copied
            ∙ bytes_with-held memory frame owner sound.memory.memory.one_frame here))
        | inr other ↦
            bytes_with-set owner memory.copies copy (frame_at memory frame) frames
            (ap (is_of_page owner) (get_or_from_slice_get memory.copies copy None None free))
            (of_page-other owner page (frame_at memory frame) there (other_page owner page other))
      ]

  -- a page leaves memory
  pub reclaimed_leaves : (page : FilePage) (frame : ℕ) → MayLeave s page frame → (owner : FilePage)
      → Contains s.checkpoint.frozen owner → Keeps (without_frame memory frame) owner
  reclaimed_leaves page frame leaves owner has =
      let differs : owner ≡ page → ⊥ = λ e. leaves.written
      (subst (λ (o : FilePage). HasBlock s.write_outs (home_of s.table o)) e (frozen_block s sound owner has)) in
      ap (bytes_with owner memory.copies) (bytes_with-set owner memory.frames frame None []
      (of_page-other owner page (frame_at memory frame) leaves.held differs) refl)
