-- Entries stay backed where a frozen page's record is written, and where what was gathered is protected.
use Rattle.std.proofs.Common.{ℕ, zero, suc, ◌≡◌, ◌<◌, ◌||◌, Bool, true, false, cond, List, [], ◌∷◌, length, map}
use Rattle.std.proofs.Common.{drop, get_or, Option, Some, None, refl, sym, ap, subst, ◌∙◌, inl, inr, ⊎_elim, arith}
use Rattle.std.specs.List.{list_any}
use Rattle.std.specs.FinMap as maps
use Rattle.std.proofs.lemmas.Bool.{or_left, or_right, cases_Bool, false_from_ne_true, false≢true, or_parts}
use Rattle.page_entry.specs.Entry.{Mapped, protected_of}
use Rattle.page_entry.specs.declared.numbers.FilePage.{FilePage}
use Rattle.mappings.specs.Places.{Places}
use Rattle.frames.specs.Frames.{FramesState, Frame, IsBefore}
use Rattle.spaces.specs.Spaces.{Spaces, entry_at}
use Rattle.spaces.specs.Changes.{protected_where}
use Rattle.checkpoint.specs.Checkpoint.{CheckpointState, Holds, AreRising, same_page, is_of_page}
use Rattle.checkpoint.specs.Checkpoint.{freed_copy, is_noted, is_frozen, is_held, without_copy_of}
use Rattle.checkpoint.specs.Checkpoint.{released, AreCopiesOfFrozen, Gathers, ProtectsNoted, without_notes}
use Rattle.checkpoint.specs.Backing.{AreBacked, page_at}
use Rattle.checkpoint.proofs.Lists.{Passing-list_any}
use Rattle.checkpoint.proofs.PagesInUse.{same_page-true, same_page-sym}
use Rattle.checkpoint.proofs.Searches.{before_each}
use Rattle.checkpoint.proofs.BackingLaws.{AreBacked-moved, is_held-not_frozen, is_held-copied, not_held-cases}

before_itself : (a : FilePage) → IsBefore a a → ⊥
before_itself a (inl less) = omega arith
before_itself a (inr same) = let less = same.1 in omega arith

-- a page isn't frozen twice
first_not_later : (first : FilePage) (rest : List FilePage) → AreRising (first ∷ rest)
    → list_any (same_page first) rest ≡ false
first_not_later first rest rising =
    false_from_ne_true (list_any (same_page first) rest) (λ e.
    let found = Passing-list_any (same_page first) rest e in
    let there = found.there in
    let same : get_or rest there.0 found.item ≡ first = there.2 ∙ sym (same_page-true first found.item found.passes) in
    before_itself first (subst (IsBefore first) same (before_each first rest rising there.0 found.item there.1)))

-- copies of other pages stay
copied_still : (owner first : FilePage) (copies : List (Option Frame))
    → same_page owner first ≡ false → list_any (is_of_page owner) copies ≡ true
    → list_any (is_of_page owner) (map (freed_copy first) copies) ≡ true
copied_still owner first [] other copied = copied
copied_still owner first (None ∷ copies) other copied = copied_still owner first copies other copied
copied_still owner first (Some f ∷ copies) other copied =
    elim (cases_Bool (same_page owner f.page)) [
      | inl here ↦
          let not_first : same_page first f.page ≡ false =
          ap (same_page first) (sym (same_page-true owner f.page here))
          ∙ same_page-sym first owner
          ∙ other in
          ap
          (λ b. is_of_page owner (cond b None (Some f)) || list_any (is_of_page owner) (map (freed_copy first) copies))
          not_first
          ∙ or_left (same_page owner f.page) (list_any (is_of_page owner) (map (freed_copy first) copies)) here
      | inr elsewhere ↦
          or_right (is_of_page owner (freed_copy first (Some f)))
          (list_any (is_of_page owner) (map (freed_copy first) copies))
          (copied_still owner first copies other
          (ap (λ b. b || list_any (is_of_page owner) copies) (sym elsewhere) ∙ copied))
    ]

still_not_held : (memory : FramesState) (c : CheckpointState)
    (first : FilePage) (rest : List FilePage) (owner : FilePage)
    → AreRising (first ∷ rest) → is_held memory (record c { frozen = first ∷ rest }) owner ≡ false
    → is_held (without_copy_of memory first) (record c { frozen = rest }) owner ≡ false
still_not_held memory c first rest owner rising held =
    ⊎_elim
    (λ no_frozen. is_held-not_frozen (without_copy_of memory first) (record c { frozen = rest }) owner
    (or_parts (same_page owner first) (list_any (same_page owner) rest) no_frozen).1)
    (λ copied. elim (cases_Bool (same_page owner first)) [
      | inl same ↦
          is_held-not_frozen (without_copy_of memory first) (record c { frozen = rest }) owner
          (ap (λ o. list_any (same_page o) rest) (same_page-true owner first same) ∙ first_not_later first rest rising)
      | inr other ↦ is_held-copied (without_copy_of memory first) (record c { frozen = rest }) owner
          (copied_still owner first memory.copies other copied)
    ])
    (not_held-cases memory (record c { frozen = first ∷ rest }) owner held)

backed_by_parts : (memory : FramesState) (notes : List Bool) (frozen : List FilePage) (spaces : Spaces) (d : FilePage)
    → 0 < length frozen → AreRising frozen → AreBacked memory (record { notes = notes; frozen = frozen }) spaces
    → AreBacked (without_copy_of memory (get_or frozen 0 d)) (record { notes = notes; frozen = drop 1 frozen }) spaces
backed_by_parts memory notes [] spaces d some rising = absurd (omega arith)
backed_by_parts memory notes (first ∷ rest) spaces d some rising =
    AreBacked-moved (λ pcid page entry owner present holds. holds)
    (λ owner held. still_not_held memory (record { notes = notes; frozen = rest }) first rest owner rising held)

-- the first frozen page's record is written
pub AreBacked-released : (memory : FramesState) (c : CheckpointState) (spaces : Spaces) (d : FilePage)
    → 0 < length c.frozen → AreRising c.frozen → AreBacked memory c spaces
    → AreBacked (without_copy_of memory (get_or c.frozen 0 d)) (released c) spaces
AreBacked-released memory c spaces d some rising = backed_by_parts memory c.notes c.frozen spaces d some rising

-- the same, by what a release leaves
pub AreBacked-release : (memory new : FramesState) (c d : CheckpointState) (spaces : Spaces) (page : FilePage)
    → 0 < length c.frozen → AreRising c.frozen → page ≡ get_or c.frozen 0 page
    → new ≡ without_copy_of memory page → d ≡ released c → AreBacked memory c spaces
    → AreBacked new d spaces
AreBacked-release memory new c d spaces page some rising first freed is backed =
    subst (λ m. AreBacked m d spaces) (sym (freed ∙ ap (without_copy_of memory) first))
    (subst (λ e. AreBacked (without_copy_of memory (get_or c.frozen 0 page)) e spaces) (sym is)
    (AreBacked-released memory c spaces page some rising backed))

get_or-map_freed : (page : FilePage) (copies : List (Option Frame)) (k : ℕ)
    → get_or (map (freed_copy page) copies) k None ≡ freed_copy page (get_or copies k None)
get_or-map_freed page [] k = refl
get_or-map_freed page (c ∷ copies) zero = refl
get_or-map_freed page (c ∷ copies) (suc k) = get_or-map_freed page copies k

-- a copy that stays keeps another page's bytes
copy_stays : (page : FilePage) (copy : Option Frame) (frame : Frame) → freed_copy page copy ≡ Some frame
    → (copy ≡ Some frame) × (same_page frame.page page ≡ false)
copy_stays page None frame e = absurd (cc)
copy_stays page (Some f) frame e =
    elim (same_page page f.page) as (λ b. same_page page f.page ≡ b → cond b None (Some f) ≡ Some frame
    → (Some f ≡ Some frame) × (same_page frame.page page ≡ false)) [
      | true ↦ λ _ never. absurd (cc)
      | false ↦ λ other is. (is, ap (λ (o : Option Frame). page_test o) (sym is) ∙ same_page-sym f.page page ∙ other)
    ] refl e
  where
    page_test : Option Frame → Bool
    page_test None = false
    page_test (Some f) = same_page f.page page

later_frozen : (frozen : List FilePage) (page owner : FilePage) → page ≡ get_or frozen 0 page
    → 0 < length frozen → same_page owner page ≡ false → list_any (same_page owner) frozen ≡ true
    → list_any (same_page owner) (drop 1 frozen) ≡ true
later_frozen [] page owner first some other there = absurd (omega arith)
later_frozen (f ∷ rest) page owner first some other there =
    ap (λ b. b || list_any (same_page owner) rest) (sym (ap (same_page owner) (sym first) ∙ other)) ∙ there

-- after a release each copy still keeps a frozen page's bytes
pub AreCopiesOfFrozen-release : (memory new : FramesState) (c d : CheckpointState) (page : FilePage)
    → 0 < length c.frozen → page ≡ get_or c.frozen 0 page
    → new ≡ without_copy_of memory page → d ≡ released c → AreCopiesOfFrozen memory c
    → AreCopiesOfFrozen new d
AreCopiesOfFrozen-release memory new c d page some first freed is are copy frame there =
    let stays = copy_stays page (get_or memory.copies copy None) frame (sym (get_or-map_freed page memory.copies copy)
    ∙ ap (λ (m : FramesState). get_or m.copies copy None) (sym freed) ∙ there) in
    ap (λ (e : CheckpointState). is_frozen e frame.page) is
    ∙ later_frozen c.frozen page frame.page first some stays.1 (are copy frame stays.0)

-- ---- what was gathered is protected

-- an entry that is protected: it maps the frame that it mapped, and is writable only where its frame isn't noted and it
-- was
pub record IsProtectedFrom (noted : ℕ → Bool) (old : Option Mapped) (new : Mapped) : Type 0 where
  pub was : Mapped
  pub is : old ≡ Some was
  pub same_frame : new.frame ≡ was.frame
  pub unnoted : new.writable ≡ true → (noted was.frame ≡ false) × (was.writable ≡ true)

protected_from : (noted : ℕ → Bool) (old : Option Mapped) (new : Mapped) → protected_where noted old ≡ Some new
    → IsProtectedFrom noted old new
protected_from noted None new e = absurd (cc)
protected_from noted (Some was) new e =
    elim (noted was.frame) as (λ b. noted was.frame ≡ b → cond b (protected_of (Some was)) (Some was) ≡ Some new
    → IsProtectedFrom noted (Some was) new) [
      | true ↦ λ _ e.
          let same : new ≡ record was { writable = false; dirty = false } =
          one (record was { writable = false; dirty = false }) new e in
          record {
            was = was;
            is = refl;
            same_frame = ap (λ (m : Mapped). m.frame) same;
            unnoted = λ writable. absurd (false≢true (sym (ap (λ (m : Mapped). m.writable) same) ∙ writable));
          }
      | false ↦ λ unnoted e.
          let same : new ≡ was = one was new e in
          record {
            was = was;
            is = refl;
            same_frame = ap (λ (m : Mapped). m.frame) same;
            unnoted = λ writable. (unnoted, sym (ap (λ (m : Mapped). m.writable) same) ∙ writable);
          }
    ] refl e
  where
    one : (a b : Mapped) → Some a ≡ Some b → b ≡ a
    one a b e = cc

-- a page that a frame without a note has isn't frozen by what was gathered
not_frozen_unnoted : (spaces : Spaces) (memory : FramesState)
    (before c : CheckpointState) (freezes : Bool) (pages : List FilePage)
    → Gathers spaces memory before c freezes pages
    → ((a b : ℕ) (owner : FilePage) → Holds memory a owner → Holds memory b owner → a ≡ b)
    → (frame : ℕ) (owner : FilePage) → Holds memory frame owner → is_noted c frame ≡ false
    → is_frozen c owner ≡ false
not_frozen_unnoted spaces memory before c freezes pages gathers alone frame owner holds unnoted =
    ap (list_any (same_page owner)) gathers.frozen ∙ by_freezes freezes
  where
    by_freezes : (freezes : Bool) → list_any (same_page owner) (cond freezes pages []) ≡ false
    by_freezes false = refl
    by_freezes true =
        false_from_ne_true (list_any (same_page owner) pages) (λ e.
        let found = Passing-list_any (same_page owner) pages e in
        let dirty = (gathers.gathered.dirty found.item).0 found.there in
        let there : Holds memory dirty.0 owner =
        dirty.1
        ∙ ap (λ page. Some page) (sym (same_page-true owner found.item found.passes)) in
        let noted = (gathers.noted dirty.0).1 dirty.2 in
        let same = alone frame dirty.0 owner holds there in
        false≢true (sym unnoted ∙ ap (is_noted c) same ∙ noted))

-- entries of newly frozen pages aren't writable any more
pub AreBacked-protected : (spaces new : Spaces) (memory : FramesState)
    (before c : CheckpointState) (freezes : Bool) (pages : List FilePage)
    → Gathers spaces memory before c freezes pages
    → ((a b : ℕ) (owner : FilePage) → Holds memory a owner → Holds memory b owner → a ≡ b)
    → ProtectsNoted c spaces new → AreBacked memory before spaces
    → AreBacked memory (without_notes c) new
AreBacked-protected spaces new memory before c freezes pages gathers alone protects backed pcid page entry present =
    let from =
    protected_from (is_noted c) (entry_at spaces pcid page) entry (sym (protects.entries pcid page) ∙ present) in
    let was = backed pcid page from.was from.is in
    let held : Holds memory entry.frame (page_at was.place) =
    subst (λ frame. Holds memory frame (page_at was.place)) (sym from.same_frame) was.held in
    record {
      place = was.place;
      mapped = ap (λ (places : Places). maps.get places page) (protects.same_places pcid) ∙ was.mapped;
      held = held;
      allowed = λ writable. was.allowed (from.unnoted writable).1;
      thawed = λ writable. is_held-not_frozen memory (without_notes c) (page_at was.place)
          (not_frozen_unnoted spaces memory before c freezes pages gathers alone from.was.frame
          (page_at was.place) was.held (from.unnoted writable).0);
    }
