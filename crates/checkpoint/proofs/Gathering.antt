-- The pages of the frames that are noted: found by the frames' numbers and then sorted, or found in the order of all
-- frames in use.
use Rattle.std.proofs.Common.{ℕ, zero, suc, ◌≡◌, ◌<◌, ◌≤◌, ◌+◌, Bool, true, false, cond, List}
use Rattle.std.proofs.Common.{[], ◌∷◌, ◌++◌, length, get_or, drop, Contains, Option, sum_by}
use Rattle.std.proofs.Common.{Some, None, IsSome, refl, sym, ap, subst, ◌∙◌, inl, inr, ⊎_elim, arith}
use Rattle.std.specs.List.Sorted.{IsPermutation, IsSorted}
use Rattle.std.specs.Option.{option_to_list}
use Rattle.std.specs.Ordering.{is_lt}
use Rattle.std.proofs.lemmas.Bool.{cond-true, cases_lt, cases_eq}
use Rattle.std.proofs.lemmas.Bool.Decides.{nat_tests}
use Rattle.std.proofs.lemmas.List.{append-nil, drop_all, get_or_default, get_or_past}
use Rattle.std.proofs.lemmas.List.Elements.{Contains-append_left, Contains-append_right, Contains-append_cases}
use Rattle.std.proofs.lemmas.List.Elements.{Contains-get_or}
use Rattle.std.proofs.lemmas.List.Sorted.{Contains-permutation, IsPermutation-sym, sum_by-IsPermutation}
use Rattle.std.proofs.lemmas.List.Sums.{sum_by-cons, sum_by-append}
use Rattle.page_entry.specs.declared.numbers.FilePage.{FilePage}
use Rattle.frames.specs.Frames.{FramesState, Frame, frame_at, AreFrames, AreInOrder, IsBefore, HasPageBefore, page_of}
use Rattle.spaces.specs.Spaces.{Spaces}
use Rattle.checkpoint.specs.Checkpoint.{CheckpointState, Holds, AreRising, Gathers, same_page}
use Rattle.checkpoint.specs.inside.Notes.{AreNoted, AreNotedPages, IsAnyPage, noted_in, noted_page, noted_at}
use Rattle.checkpoint.proofs.Lists.{Contains-head, Contains-tail}
use Rattle.checkpoint.proofs.BackingLaws.{Holds-within}
use Rattle.checkpoint.proofs.PagesInUse.{same_page-true, same_page-refl}
use Rattle.checkpoint.proofs.Searches.{order_of}

-- a frame that is noted gives its page
noted_page-from : (memory : FramesState) (notes : List Bool) (frame : ℕ) (owner : FilePage)
    → noted_page memory notes frame ≡ Some owner
    → (noted_in notes frame ≡ true) × Holds memory frame owner
noted_page-from memory notes frame owner e =
    elim (noted_in notes frame)
    as (λ b. noted_in notes frame ≡ b → cond b (page_of (frame_at memory frame)) None ≡ Some owner
    → (noted_in notes frame ≡ true) × Holds memory frame owner) [
      | true ↦ λ noted holds. (noted, holds)
      | false ↦ λ _ never. absurd (cc)
    ] refl e

noted_page-holds : (memory : FramesState) (notes : List Bool) (frame : ℕ) (owner : FilePage)
    → noted_in notes frame ≡ true → Holds memory frame owner
    → noted_page memory notes frame ≡ Some owner
noted_page-holds memory notes frame owner noted holds =
    cond-true (noted_in notes frame) (page_of (frame_at memory frame)) None noted
    ∙ holds

-- an element of a list of at most one
only : (o : Option FilePage) (owner : FilePage) → Contains (option_to_list o) owner → o ≡ Some owner
only None owner (k, within, is) = absurd (omega arith)
only (Some page) owner (zero, within, is) = ap (λ p. Some p) is
only (Some page) owner (suc k, within, is) = absurd (omega arith)

only-there : (o : Option FilePage) (owner : FilePage) → o ≡ Some owner → Contains (option_to_list o) owner
only-there None owner e = absurd (cc)
only-there (Some page) owner e =
    let same : page ≡ owner = cc in subst (λ p. Contains (page ∷ []) p) same (Contains-head page [])

-- each of the pages is that of a noted frame, and each noted frame has its page among them
noted_at-from : (memory : FramesState) (notes : List Bool) (at : ℕ → ℕ) (n : ℕ) (owner : FilePage)
    → Contains (noted_at memory notes at n) owner
    → (place : ℕ) × (place < n) × (noted_page memory notes (at place) ≡ Some owner)
noted_at-from memory notes at zero owner (k, within, is) = absurd (omega arith)
noted_at-from memory notes at (suc n) owner there =
    ⊎_elim
    (λ before. let h = noted_at-from memory notes at n owner before in (h.0, omega (arith, h.1), h.2))
    (λ here. (n, omega arith, only (noted_page memory notes (at n)) owner here))
    (Contains-append_cases (noted_at memory notes at n) (option_to_list (noted_page memory notes (at n))) owner there)

noted_at-there : (memory : FramesState) (notes : List Bool) (at : ℕ → ℕ) (n place : ℕ) (owner : FilePage)
    → place < n → noted_page memory notes (at place) ≡ Some owner → Contains (noted_at memory notes at n) owner
noted_at-there memory notes at zero place owner within gives = absurd (omega arith)
noted_at-there memory notes at (suc n) place owner within gives =
    let last = option_to_list (noted_page memory notes (at n)) in
    elim (cases_eq place n) [
      | inl same ↦ Contains-append_right (noted_at memory notes at n) last owner
          (only-there (noted_page memory notes (at n)) owner
          (ap (λ k. noted_page memory notes (at k)) (sym same) ∙ gives))
      | inr other ↦ Contains-append_left (noted_at memory notes at n) last owner
          (noted_at-there memory notes at n place owner (omega (arith, other)) gives)
    ]

-- how often a page is in a list
abbrev weight : Bool → ℕ
weight same = cond same 1 0

abbrev times : FilePage → List FilePage → ℕ
times owner pages = sum_by (λ page. weight (same_page owner page)) pages

times-cons : (owner page : FilePage) (pages : List FilePage)
    → times owner (page ∷ pages) ≡ weight (same_page owner page) + times owner pages
times-cons owner page pages = sum_by-cons (λ p. weight (same_page owner p)) page pages

times-append : (owner : FilePage) (pages others : List FilePage)
    → times owner (pages ++ others) ≡ times owner pages + times owner others
times-append owner pages others = sum_by-append (λ p. weight (same_page owner p)) pages others

-- where it isn't, it is there no time
times-none : (owner : FilePage) (pages : List FilePage) → (Contains pages owner → ⊥) → times owner pages ≡ 0
times-none owner [] none = refl
times-none owner (page ∷ pages) none =
    elim (same_page owner page)
    as (λ b. same_page owner page ≡ b → times owner (page ∷ pages) ≡ 0) [
      | true ↦ λ same. absurd (none (subst (λ p. Contains (page ∷ pages) p) (sym (same_page-true owner page same))
          (Contains-head page pages)))
      | false ↦ λ other. omega (
        arith,
        times-cons owner page pages,
        ap weight other,
        times-none owner pages (λ there. none (Contains-tail page pages owner there)),
      )
    ] refl

-- a page is in one frame alone, so that none is there twice
times-once : (memory : FramesState) (notes : List Bool) → AreFrames memory → (n : ℕ) (owner : FilePage)
    → times owner (noted_at memory notes (λ k. k) n) ≤ 1
times-once memory notes are zero owner = omega arith
times-once memory notes are (suc n) owner =
    elim (noted_page memory notes n)
    as (λ o. noted_page memory notes n ≡ o → times owner (noted_at memory notes (λ k. k) n ++ option_to_list o) ≤ 1) [
      | None ↦ λ _.
          omega (arith, times-append owner (noted_at memory notes (λ k. k) n) [], times-once memory notes are n owner)
      | Some page ↦ λ is. one page is (times-once memory notes are n owner)
    ] refl
  where
    one : (page : FilePage) → noted_page memory notes n ≡ Some page → times owner (noted_at memory notes (λ k. k) n) ≤ 1
        → times owner (noted_at memory notes (λ k. k) n ++ page ∷ []) ≤ 1
    one page is before =
        let both = times-append owner (noted_at memory notes (λ k. k) n) (page ∷ []) in
        let last = times-cons owner page [] in
        elim (same_page owner page)
        as (λ b. same_page owner page ≡ b → times owner (noted_at memory notes (λ k. k) n ++ page ∷ []) ≤ 1) [
          | true ↦ λ same.
              let holds : Holds memory n owner =
              (noted_page-from memory notes n page is).1 ∙ ap (λ p. Some p) (sym (same_page-true owner page same)) in
              let none = times-none owner (noted_at memory notes (λ k. k) n) (λ there.
              let h = noted_at-from memory notes (λ k. k) n owner there in
              let same_frame = are.one_frame h.0 n owner (noted_page-from memory notes h.0 owner h.2).1 holds in
              omega (arith, h.1, same_frame)) in
              omega (arith, both, last, none, ap weight same)
          | false ↦ λ other. omega (arith, both, last, before, ap weight other)
        ] refl

-- of two pages that aren't the same, the one that isn't greater comes before
before_from_order : (a b : FilePage) → is_lt (order_of b a) ≡ false → same_page a b ≡ false → IsBefore a b
before_from_order a b least other =
    elim (cases_lt a.file b.file) [
      | inl less ↦ inl less
      | inr no_less ↦ inr (grind (arith, nat_tests), grind (arith, nat_tests))
    ]

-- sorted pages rise, where none is there twice
rising_sorted : (pages : List FilePage) → IsSorted order_of pages → ((owner : FilePage) → times owner pages ≤ 1)
    → AreRising pages
rising_sorted [] sorted once = tt
rising_sorted (a ∷ []) sorted once = tt
rising_sorted (a ∷ b ∷ pages) sorted once = (
  before_from_order a b (sorted 0 a (omega arith) (omega arith)) (elim (same_page a b)
      as (λ v. same_page a b ≡ v → same_page a b ≡ false) [
        | true ↦ λ same. absurd (omega (
          arith,
          once a,
          times-cons a a (b ∷ pages),
          times-cons a b pages,
          ap weight (same_page-refl a),
          ap weight same,
        ))
        | false ↦ λ differ. differ
      ] refl),
  rising_sorted (b ∷ pages) (λ k d least within.
      ap (λ m. is_lt (order_of (get_or (a ∷ b ∷ pages) m d) (get_or (b ∷ pages) k d)))
      (let next : suc (k + 1) ≡ suc k + 1 = omega arith in next)
      ∙ sorted (suc k) d (omega arith) (omega (arith, within)))
      (λ owner. omega (arith, times-cons owner a (b ∷ pages), once owner)),
)

-- the pages of the frames that are noted, once sorted, are exactly those
pub AreNotedPages-sorted : (memory : FramesState) (notes : List Bool) (found pages : List FilePage)
    → AreFrames memory → found ≡ noted_at memory notes (λ frame. frame) (length memory.frames)
    → IsPermutation found pages → IsSorted order_of pages
    → AreNotedPages memory notes pages
AreNotedPages-sorted memory notes found pages are listed moved sorted =
    let all = length memory.frames in record {
      rising = rising_sorted pages sorted (λ owner. omega (
        arith,
        sum_by-IsPermutation (λ p. weight (same_page owner p)) found pages moved,
        ap (times owner) listed,
        times-once memory notes are all owner,
      ));
      noted = λ owner. (
        λ there.
            let h = noted_at-from memory notes (λ k. k) all owner (subst (λ ps. Contains ps owner) listed
            (Contains-permutation pages found owner (IsPermutation-sym found pages moved) there)) in
            let from = noted_page-from memory notes h.0 owner h.2 in
            (h.0, from.1, from.0),
        λ h. Contains-permutation found pages owner moved (subst (λ ps. Contains ps owner) (sym listed)
            (noted_at-there memory notes (λ k. k) all h.0 owner (Holds-within memory h.0 owner h.1)
            (noted_page-holds memory notes h.0 owner h.2 h.1))),
      );
    }

-- rising pages, with one more that comes after each
rising_last : (pages : List FilePage) (page : FilePage) → AreRising pages
    → ((a : FilePage) → Contains pages a → IsBefore a page) → AreRising (pages ++ page ∷ [])
rising_last [] page rising before = tt
rising_last (a ∷ []) page rising before = (before a (Contains-head a []), tt)
rising_last (a ∷ b ∷ pages) page rising before = (
  rising.0,
  rising_last (b ∷ pages) page rising.1 (λ c there. before c (Contains-tail a (b ∷ pages) c there)),
)

-- of frames whose pages rise, those that are noted have rising pages
rising_at : (memory : FramesState) (notes : List Bool) (at : ℕ → ℕ) (n : ℕ)
    → ((i j : ℕ) → i < j → j < n → HasPageBefore memory (at i) (at j)) → AreRising (noted_at memory notes at n)
rising_at memory notes at zero before = tt
rising_at memory notes at (suc n) before =
    let earlier = rising_at memory notes at n (λ i j less within. before i j less (omega (arith, within))) in
    elim (noted_page memory notes (at n))
    as (λ o. noted_page memory notes (at n) ≡ o → AreRising (noted_at memory notes at n ++ option_to_list o)) [
      | None ↦ λ _. subst AreRising (sym (append-nil (noted_at memory notes at n))) earlier
      | Some page ↦ λ is. rising_last (noted_at memory notes at n) page earlier (λ a there.
          let h = noted_at-from memory notes at n a there in
          before h.0 n h.1 (omega arith) a page (noted_page-from memory notes (at h.0) a h.2).1
          (noted_page-from memory notes (at n) page is).1)
    ] refl

-- the frame at a place of the order
abbrev pub in_turn : List ℕ → ℕ → ℕ
in_turn order place = get_or order place 0

-- it is one of all frames
pub in_turn-within : (memory : FramesState) (order : List ℕ) (place : ℕ) → AreInOrder memory order
    → place < length order → in_turn order place < length memory.frames
in_turn-within memory order place in_order within =
    let frame = in_turn order place in
    let used = (in_order.used frame).0 (Contains-get_or order place 0 within) in
    elim (cases_lt frame (length memory.frames)) [
      | inl before ↦ before
      | inr past ↦ absurd (let none = get_or_past memory.frames frame None past in cc)
    ]

-- a frame that has a page is in use
in_use-Holds : (memory : FramesState) (frame : ℕ) (owner : FilePage) → Holds memory frame owner
    → IsSome (frame_at memory frame)
in_use-Holds memory frame owner holds = used (frame_at memory frame) holds
  where
    used : (f : Option Frame) → page_of f ≡ Some owner → IsSome f
    used None e = cc
    used (Some f) e = refl

-- the pages of the frames that are noted, taken in the order of all frames in use, are exactly those
pub AreNotedPages-in_order : (memory : FramesState) (notes : List Bool) (order : List ℕ) (pages : List FilePage)
    → AreInOrder memory order → pages ≡ noted_at memory notes (in_turn order) (length order)
    → AreNotedPages memory notes pages
AreNotedPages-in_order memory notes order pages in_order listed = record {
  rising = subst AreRising (sym listed) (rising_at memory notes (in_turn order) (length order)
      (λ i j less within. in_order.rising i j 0 less within));
  noted = λ owner. (
    λ there.
        let h = noted_at-from memory notes (in_turn order) (length order) owner
        (subst (λ ps. Contains ps owner) listed there) in
        let from = noted_page-from memory notes (in_turn order h.0) owner h.2 in
        (in_turn order h.0, from.1, from.0),
    λ h.
        let there = (in_order.used h.0).1 (in_use-Holds memory h.0 owner h.1) in
        subst (λ ps. Contains ps owner) (sym listed)
        (noted_at-there memory notes (in_turn order) (length order) there.0 owner there.1
        (ap (noted_page memory notes) (get_or_default order there.0 0 h.0 there.1 ∙ there.2)
        ∙ noted_page-holds memory notes h.0 owner h.2 h.1)),
  );
}

-- where dirty entries are noted, and the pages of what is noted are listed, the dirty pages are gathered
pub Gathers-noted : (spaces : Spaces) (memory : FramesState) (old new : CheckpointState)
    (freezes : Bool) (pages : List FilePage) (released : ℕ) (notes : List Bool)
    → AreNoted spaces IsAnyPage old.notes notes → AreNotedPages memory notes pages
    → new.notes ≡ notes → new.frozen ≡ drop released pages → released ≡ cond freezes 0 (length pages)
    → Gathers spaces memory old new freezes pages
Gathers-noted spaces memory old new freezes pages released notes noted listed same frozen so_many = record {
  gathered = record {
    rising = listed.rising;
    dirty = λ owner. (
      λ there. let h = (listed.noted owner).0 there in (h.0, h.1, (noted.noted h.0).0 h.2),
      λ h. (listed.noted owner).1 (h.0, h.1, (noted.noted h.0).1 h.2),
    );
  };
  same_length = ap length same ∙ noted.same_length;
  noted = λ frame. (
    λ is. (noted.noted frame).0 (ap (λ xs. noted_in xs frame) (sym same) ∙ is),
    λ dirty. ap (λ xs. noted_in xs frame) same ∙ (noted.noted frame).1 dirty,
  );
  frozen = frozen ∙ ap (λ n. drop n pages) so_many ∙ left freezes pages;
}
  where
    left : (freezes : Bool) (pages : List FilePage) → drop (cond freezes 0 (length pages)) pages ≡ cond freezes pages []
    left true pages = refl
    left false pages = drop_all (length pages) pages (omega arith)
