-- The list of the frames in use, after each change of the frames.
use Rattle.std.proofs.Common.{◌≡◌, ◌≢◌, ◌⊎◌, ◌+◌, ◌-◌, ◌<◌, ◌≤◌, ℕ, zero, suc, Bool, true, false}
use Rattle.std.proofs.Common.{cond, List, [], ◌∷◌, length, get_or, set, ltb, All, replicate, Contains}
use Rattle.std.proofs.Common.{Option, Some, None, is_some, is_none, IsSome, IfSome, IfNone, count_by}
use Rattle.std.proofs.Common.{slice_get, refl, sym, ap, subst, ◌∙◌, inl, inr, ⊎_elim, arith}
use Rattle.std.specs.List.{AllPairs, insert, remove}
use Rattle.std.proofs.lemmas.Bool.{cases_lt, cases_eq, false≢true}
use Rattle.std.proofs.lemmas.Bool.Decides.{nat_tests}
use Rattle.std.proofs.lemmas.List.{get_or_default, get_or_past, length-set, length-replicate}
use Rattle.std.proofs.lemmas.List.Edits.{get_or-insert_at, get_or-insert_below, get_or-insert_above}
use Rattle.std.proofs.lemmas.List.Edits.{length-insert, get_or-remove_below, get_or-remove_above, length-remove}
use Rattle.std.proofs.lemmas.List.Quantifiers.{all_pairs_remove}
use Rattle.std.proofs.lemmas.List.Sums.{sum_by-cons}
use Rattle.std.proofs.lemmas.Option.{slice_get_within}
use Rattle.page_entry.specs.declared.numbers.FilePage.{FilePage}
use Rattle.frames.specs.Frames.{Frame, FramesState, frame_at, page_of, bytes_of, overwrite_frame, has_free}
use Rattle.frames.specs.Frames.{has_used, with_page, without_frame, with_bytes, HasNoFrame, HasPageFrom}
use Rattle.frames.specs.Frames.{HasNoneFrom, HasNoCopy, HasPageBefore, IsBefore, IsPage, AreFrames, AreInOrder}
use Rattle.frames.specs.inside.Pages.{comes_before}
use Rattle.frames.specs.inside.Order.{IsListed, IsPlaceOf}
use Rattle.frames.proofs.Orders.{IsBefore-irreflexive, IsBefore-total, IsBefore-comes_before, comes_before-IsBefore}
use Rattle.frames.proofs.FramesLaws.{frame_at-free, frame_at-with_page_same, frame_at-with_page_other}
use Rattle.frames.proofs.FramesLaws.{frame_at-without_frame_same, frame_at-without_frame_other}
use Rattle.frames.proofs.FramesLaws.{page_of-with_bytes, in_use-with_bytes}
use Rattle.frames.proofs.AreFramesLaws.{AreFrames-with_page, AreFrames-without_frame}
use Rattle.frames.proofs.AreFramesLaws.{AreFrames-with_bytes, AreFrames-with_copy}

-- the page of what is in use
pub page_in_use : (f : Option Frame) → IsSome f → (page : FilePage) × (page_of f ≡ Some page)
page_in_use None used = absurd (cc)
page_in_use (Some f) used = (f.page, refl)

pub in_use_with_page : (f : Option Frame) (page : FilePage) → page_of f ≡ Some page → IsSome f
in_use_with_page None page has = absurd (cc)
in_use_with_page (Some f) page has = refl

one_page : (a b : FilePage) → Some a ≡ Some b → a ≡ b
one_page a b e = cc

-- how much one that passes a test, or fails it, counts
abbrev weight : Bool → ℕ
weight b = cond b 1 0

count_cons : {X : Type 0} (p : X → Bool) (x : X) (xs : List X) → count_by p (x ∷ xs) ≡ weight (p x) + count_by p xs
count_cons p x xs = sum_by-cons (λ z. weight (p z)) x xs

-- how many are in use, after a write of one
count_by-set : {X : Type 0} (p : X → Bool) (xs : List X) (k : ℕ) (x d : X) → k < length xs
    → count_by p (set xs k x) + weight (p (get_or xs k d)) ≡ count_by p xs + weight (p x)
count_by-set p [] k x d within = absurd (omega arith)
count_by-set p (y ∷ ys) zero x d within = omega (arith, count_cons p x ys, count_cons p y ys)
count_by-set p (y ∷ ys) (suc k) x d within =
    omega (arith, count_cons p y ys, count_cons p y (set ys k x), count_by-set p ys k x d (omega arith))

-- what is free and what is in use are all
pub free_and_used : {X : Type 0} (xs : List (Option X)) → count_by is_none xs + count_by is_some xs ≡ length xs
free_and_used [] = refl
free_and_used (None ∷ xs) = omega (arith, free_and_used xs, count_cons is_none None xs, count_cons is_some None xs)
free_and_used (Some x ∷ xs) =
    omega (arith, free_and_used xs, count_cons is_none (Some x) xs, count_cons is_some (Some x) xs)

-- something is free exactly where a frame is counted as free
pub has_free-counted : {X : Type 0} (xs : List (Option X)) → has_free xs ≡ ltb 0 (count_by is_none xs)
has_free-counted [] = refl
has_free-counted (None ∷ xs) =
    let one = count_cons is_none None xs in
    let some : 0 < count_by is_none (None ∷ xs) = omega (arith, one) in
    grind (arith, nat_tests)
has_free-counted (Some x ∷ xs) =
    let same : count_by is_none (Some x ∷ xs) ≡ count_by is_none xs = omega (arith, count_cons is_none (Some x) xs) in
    rw same (has_free-counted xs)

-- something is in use exactly where a frame is counted as in use
pub has_used-counted : {X : Type 0} (xs : List (Option X)) → has_used xs ≡ ltb 0 (count_by is_some xs)
has_used-counted [] = refl
has_used-counted (None ∷ xs) =
    let same : count_by is_some (None ∷ xs) ≡ count_by is_some xs = omega (arith, count_cons is_some None xs) in
    rw same (has_used-counted xs)
has_used-counted (Some x ∷ xs) =
    let one = count_cons is_some (Some x) xs in
    let some : 0 < count_by is_some (Some x ∷ xs) = omega (arith, one) in
    grind (arith, nat_tests)

-- fewer are in use where one that was is free
pub used_less : (s : FramesState) (frame : ℕ) → IsSome (frame_at s frame)
    → count_by is_some (without_frame s frame).frames < count_by is_some s.frames
used_less s frame used =
    ⊎_elim
    (λ within. omega (arith, count_by-set is_some s.frames frame None None within, ap weight used))
    (λ past. absurd (let none = get_or_past s.frames frame None past in cc))
    (cases_lt frame (length s.frames))

-- and one fewer is free where one that was is in use
pub free_less : (s : FramesState) (frame : ℕ) (page : FilePage) (bytes : List ℕ) → slice_get s.frames frame ≡ Some None
    → count_by is_none (with_page s frame page bytes).frames + 1 ≡ count_by is_none s.frames
free_less s frame page bytes free =
    omega (
      arith,
      count_by-set is_none s.frames frame (Some (record { page = page; bytes = bytes })) None
          (slice_get_within s.frames frame None free),
      ap (λ f. weight (is_none f)) (frame_at-free s frame free),
    )

-- what is listed after an insert
contains_insert : (xs : List ℕ) (i x n : ℕ) → i ≤ length xs → Contains (insert xs i x) n → (n ≡ x) ⊎ Contains xs n
contains_insert xs i x n within (k, below, is) =
    let long = length-insert xs i x within in
    ⊎_elim
    (λ less. inr (k, omega arith, sym (get_or-insert_below xs i x n k less within) ∙ is))
    (λ from. ⊎_elim
    (λ here. inl (sym is ∙ ap (λ m. get_or (insert xs i x) m n) here ∙ get_or-insert_at xs i x n within))
    (λ later.
    let at : k - 1 + 1 ≡ k = omega arith in
    inr (
      k - 1,
      omega arith,
      sym (get_or-insert_above xs i x n (k - 1) (omega arith) within) ∙ ap (λ m. get_or (insert xs i x) m n) at ∙ is,
    ))
    (cases_eq k i))
    (cases_lt k i)

contains_insert_new : (xs : List ℕ) (i x : ℕ) → i ≤ length xs → Contains (insert xs i x) x
contains_insert_new xs i x within = (i, omega (arith, length-insert xs i x within), get_or-insert_at xs i x x within)

contains_insert_old : (xs : List ℕ) (i x n : ℕ) → i ≤ length xs → Contains xs n → Contains (insert xs i x) n
contains_insert_old xs i x n within (k, below, is) =
    let long = length-insert xs i x within in
    ⊎_elim
    (λ less. (k, omega arith, get_or-insert_below xs i x n k less within ∙ is))
    (λ from. (k + 1, omega arith, get_or-insert_above xs i x n k from within ∙ is))
    (cases_lt k i)

-- each of the two is the new one or was there, and all keep their order
all_pairs_insert : (R : ℕ → ℕ → Type 0) (xs : List ℕ) (n y : ℕ) → n ≤ length xs → AllPairs R xs
    → ((k d : ℕ) → k < n → R (get_or xs k d) y) → ((k d : ℕ) → n ≤ k → k < length xs → R y (get_or xs k d))
    → AllPairs R (insert xs n y)
all_pairs_insert R xs n y l h before after i j d lt within =
    let long = length-insert xs n y l in
    let low : (k : ℕ) → k < n → get_or (insert xs n y) k d ≡ get_or xs k d =
    λ k less. get_or-insert_below xs n y d k less l in
    let high : (k : ℕ) → n < k → get_or (insert xs n y) k d ≡ get_or xs (k - 1) d = λ k later.
    let at : k - 1 + 1 ≡ k = omega arith in
    ap (λ m. get_or (insert xs n y) m d) (sym at) ∙ get_or-insert_above xs n y d (k - 1) (omega arith) l in
    let here : (k : ℕ) → k ≡ n → get_or (insert xs n y) k d ≡ y =
    λ k same. ap (λ m. get_or (insert xs n y) m d) same ∙ get_or-insert_at xs n y d l in
    elim (cases_lt j n) [
      | inl jn ↦ rw (low i (omega arith), low j jn) (h i j d lt (omega arith))
      | inr nj ↦ elim (cases_eq j n) [
        | inl j_new ↦ rw (low i (omega arith), here j j_new) (before i d (omega arith))
        | inr j_later ↦
            let past : n < j = omega (arith, j_later) in
            elim (cases_lt i n) [
              | inl below ↦ rw (low i below, high j past) (h i (j - 1) d (omega arith) (omega arith))
              | inr ni ↦ elim (cases_eq i n) [
                | inl i_new ↦ rw (here i i_new, high j past) (after (j - 1) d (omega arith) (omega arith))
                | inr i_later ↦
                    let past_i : n < i = omega (arith, i_later) in
                    rw (high i past_i, high j past) (h (i - 1) (j - 1) d (omega arith) (omega arith))
              ]
            ]
      ]
    ]

-- what is listed after a removal
contains_remove : (xs : List ℕ) (i n : ℕ) → i < length xs → Contains (remove xs i) n
    → (k : ℕ) × (k < length xs) × (k ≢ i) × (get_or xs k n ≡ n)
contains_remove xs i n within (k, below, is) =
    let long = length-remove xs i within in
    ⊎_elim
    (λ less.
    (k, omega arith, λ same. absurd (omega (arith, same)), sym (get_or-remove_below xs i n k less within) ∙ is))
    (λ from.
    (k + 1, omega arith, λ same. absurd (omega (arith, same)), sym (get_or-remove_above xs i n k from within) ∙ is))
    (cases_lt k i)

contains_remove_other : (xs : List ℕ) (i n k : ℕ) → i < length xs → k < length xs → k ≢ i → get_or xs k n ≡ n
    → Contains (remove xs i) n
contains_remove_other xs i n k within below differs is =
    let long = length-remove xs i within in
    ⊎_elim
    (λ less. (k, omega arith, get_or-remove_below xs i n k less within ∙ is))
    (λ from.
    let later : i < k = omega (arith, differs) in
    let at : k - 1 + 1 ≡ k = omega arith in
    (k - 1, omega arith, get_or-remove_above xs i n (k - 1) (omega arith) within ∙ ap (λ m. get_or xs m n) at ∙ is))
    (cases_lt k i)

module _ (s : FramesState) (order : List ℕ) (listed : AreInOrder s order) where
  -- a listed frame is in use
  listed_in_use : (k d : ℕ) → k < length order → IsSome (frame_at s (get_or order k d))
  listed_in_use k d within =
      (listed.used (get_or order k d)).0 (k, within, get_or_default order k (get_or order k d) d within)

  -- the frame that has a page is at the page's place
  pub place_of_page : (page : FilePage) (place frame : ℕ)
      → IsPlaceOf s.frames order page place → page_of (frame_at s frame) ≡ Some page
      → (place < length order) × ((d : ℕ) → get_or order place d ≡ frame)
  place_of_page page place frame is has =
      let there = (listed.used frame).1 (in_use_with_page (frame_at s frame) page has) in
      let k = there.0 in
      let found : get_or order k 0 ≡ frame = get_or_default order k 0 frame there.1 ∙ there.2 in
      let not_before : k < place → ⊥ = λ less.
      let before = is.parts.0 k 0 (omega arith) less in
      let itself : comes_before (Some page) page ≡ true =
      ap (λ o. comes_before o page) (sym (ap (λ n. page_of (frame_at s n)) found ∙ has))
      ∙ before in
      IsBefore-irreflexive page (IsBefore-comes_before page page itself) in
      let not_after : place < k → ⊥ = λ later.
      let a = page_in_use _ (listed_in_use place 0 (omega (arith, there.1))) in
      let first : IsBefore a.0 page =
      listed.rising place k 0 later there.1 a.0 page a.1 (ap (λ n. page_of (frame_at s n)) found ∙ has) in
      let never = is.parts.1 place 0 (omega arith) (omega (arith, there.1)) in
      false≢true (sym never ∙ ap (λ o. comes_before o page) a.1 ∙ comes_before-IsBefore a.0 page first) in
      let here : k ≡ place =
      ⊎_elim (λ less. absurd (not_before less))
      (λ from. ⊎_elim (λ later. absurd (not_after later)) (λ le. omega arith) (cases_lt place k))
      (cases_lt k place) in (
        omega (arith, there.1, here),
        λ d. get_or_default order place d 0 (omega (arith, there.1, here)) ∙ ap (λ n. get_or order n 0) (sym here)
            ∙ found,
      )

  -- where the frame at a page's place hasn't the page, none has it
  pub no_frame_elsewhere : (page : FilePage) (place d : ℕ) → IsPlaceOf s.frames order page place
      → page_of (frame_at s (get_or order place d)) ≢ Some page
      → HasNoFrame s page
  no_frame_elsewhere page place d is differs frame has =
      let here = place_of_page page place frame is has in
      differs (ap (λ n. page_of (frame_at s n)) (here.1 d) ∙ has)

  -- the frame at a page's place has this page or a later one, if it has one of the file
  pub has_page_from : (page owner : FilePage) (place frame : ℕ) → IsPlaceOf s.frames order page place
      → place < length order → ((d : ℕ) → get_or order place d ≡ frame)
      → page_of (frame_at s frame) ≡ Some owner → owner.file ≡ page.file
      → HasPageFrom s page frame
  has_page_from page owner place frame is within at has same =
      let never = is.parts.1 place 0 (omega arith) within in
      let not_before : comes_before (Some owner) page ≡ false =
      ap (λ o. comes_before o page) (sym (ap (λ n. page_of (frame_at s n)) (at 0) ∙ has))
      ∙ never in
      record {
        owner = owner;
        has = has;
        same_file = same;
        from =
            ⊎_elim (λ less. absurd (false≢true (sym not_before ∙ comes_before-IsBefore owner page (inr (same, less)))))
            (λ from. from) (cases_lt owner.page page.page);
      }

  -- where the frame at a page's place has a page of another file, or there is none, no frame has such a page
  pub has_none_from : (page : FilePage) (place : ℕ) → IsPlaceOf s.frames order page place
      → (place < length order
      → (other : FilePage) × (page_of (frame_at s (get_or order place 0)) ≡ Some other) × (other.file ≢ page.file))
      → HasNoneFrom s page
  has_none_from page place is differs frame owner has same =
      let there = (listed.used frame).1 (in_use_with_page (frame_at s frame) owner has) in
      let k = there.0 in
      let found : get_or order k 0 ≡ frame = get_or_default order k 0 frame there.1 ∙ there.2 in
      let at_k : page_of (frame_at s (get_or order k 0)) ≡ Some owner = ap (λ n. page_of (frame_at s n)) found ∙ has in
      ⊎_elim
      (λ before.
      let first = IsBefore-comes_before owner page
      (ap (λ o. comes_before o page) (sym at_k) ∙ is.parts.0 k 0 (omega arith) before) in
      ⊎_elim (λ less. absurd (omega (arith, same))) (λ later. later.1) first)
      (λ from.
      let other = differs (omega (arith, there.1)) in
      ⊎_elim
      (λ here. absurd (other.2 (ap (λ (p : FilePage). p.file)
      (one_page other.0 owner (sym other.1 ∙ ap (λ n. page_of (frame_at s (get_or order n 0))) (sym here) ∙ at_k))
      ∙ same)))
      (λ elsewhere.
      let rising = listed.rising place k 0 (omega (arith, elsewhere)) there.1 other.0 owner other.1 at_k in
      let never = is.parts.1 place 0 (omega arith) (omega (arith, there.1)) in
      let not_before : comes_before (Some other.0) page ≡ false = ap (λ o. comes_before o page) (sym other.1) ∙ never in
      let not_lower : other.0.file < page.file → ⊥ =
      λ less. false≢true (sym not_before ∙ comes_before-IsBefore other.0 page (inl less)) in
      ⊎_elim
      (λ lower. ⊎_elim (λ less. absurd (not_lower less)) (λ le. absurd (omega (arith, lower, same, le)))
      (cases_lt other.0.file page.file))
      (λ beside. absurd (other.2 (beside.0 ∙ same)))
      rising)
      (cases_eq k place))
      (cases_lt k place)

-- a frame gets a page that no frame has, and is listed at the page's place
pub IsListed-with_page : (s : FramesState) (order : List ℕ)
    (room frame : ℕ) (page : FilePage) (bytes : List ℕ) (place : ℕ)
    → IsListed s order room → slice_get s.frames frame ≡ Some None
    → HasNoFrame s page → IsPage bytes → IsPlaceOf s.frames order page place
    → IsListed (with_page s frame page bytes) (insert order place frame) room
IsListed-with_page s order room frame page bytes place listed free none is at =
    let within : frame < length s.frames = slice_get_within s.frames frame None free in
    let was : frame_at s frame ≡ None = frame_at-free s frame free in
    let new = with_page s frame page bytes in
    let now = frame_at-with_page_same s frame page bytes free in
    let old : (n : ℕ) → n ≢ frame → frame_at new n ≡ frame_at s n =
    λ n differs. frame_at-with_page_other s frame page bytes n differs in
    let other : (n : ℕ) → IsSome (frame_at s n) → n ≢ frame =
    λ n used same. absurd (used_of_none (frame_at s frame) was (subst (λ n. IsSome (frame_at s n)) same used)) in
    let pages : (n : ℕ) (a : FilePage) → IsSome (frame_at s n)
    → page_of (frame_at new n) ≡ Some a → page_of (frame_at s n) ≡ Some a =
    λ n a used has. ap page_of (sym (old n (other n used))) ∙ has in
    let count = count_by-set is_some s.frames frame (Some (record { page = page; bytes = bytes })) None within in
    let zero_was : weight (is_some (get_or s.frames frame None)) ≡ 0 = ap (λ f. weight (is_some f)) was in
    record {
      are = AreFrames-with_page s frame page bytes none is listed.are;
      in_order = record {
        used = λ n. (
          λ there. ⊎_elim
              (λ same. subst (λ n. IsSome (frame_at new n)) (sym same) (ap is_some now))
              (λ before. let used = (listed.in_order.used n).0 before in ap is_some (old n (other n used)) ∙ used)
              (contains_insert order place frame n at.within there),
          λ used. ⊎_elim
              (λ same. subst (λ n. Contains (insert order place frame) n) (sym same)
              (contains_insert_new order place frame at.within))
              (λ differs. contains_insert_old order place frame n at.within
              ((listed.in_order.used n).1 (ap is_some (sym (old n differs)) ∙ used)))
              (cases_eq n frame),
        );
        rising = all_pairs_insert (HasPageBefore new) order place frame at.within
            (λ i j d less below a b ha hb.
            listed.in_order.rising i j d less below a b
            (pages _ a (listed_in_use s order listed.in_order i d (omega arith)) ha)
            (pages _ b (listed_in_use s order listed.in_order j d below) hb))
            (λ k d less a b ha hb.
            let used = listed_in_use s order listed.in_order k d (omega (arith, at.within)) in
            let before = at.parts.0 k d (omega arith) less in
            let b_is : page ≡ b = one_page page b (ap page_of (sym now) ∙ hb) in
            subst (λ b. IsBefore a b) b_is
            (IsBefore-comes_before a page (ap (λ o. comes_before o page) (sym (pages _ a used ha)) ∙ before)))
            (λ k d from below a b ha hb.
            let used = listed_in_use s order listed.in_order k d below in
            let never = at.parts.1 k d from below in
            let a_is : page ≡ a = one_page page a (ap page_of (sym now) ∙ ha) in
            let has = pages _ b used hb in
            subst (λ a. IsBefore a b) a_is (⊎_elim
            (λ first. first)
            (λ first.
            absurd (false≢true (sym never ∙ ap (λ o. comes_before o page) has ∙ comes_before-IsBefore b page first)))
            (IsBefore-total page b (λ same. none _ (has ∙ ap (λ p. Some p) (sym same))))));
      };
      counted = omega (arith, listed.counted, count, zero_was, length-insert order place frame at.within);
      enough = omega (arith, listed.enough, length-set s.frames frame (Some (record { page = page; bytes = bytes })));
    }
  where
    used_of_none : {X : Type 0} (f : Option X) → f ≡ None → IsSome f → ⊥
    used_of_none f none used = absurd (cc)

-- a listed frame becomes free, and is taken off the list
pub IsListed-without_frame : (s : FramesState) (order : List ℕ) (room frame : ℕ) (page : FilePage) (place : ℕ)
    → IsListed s order room → page_of (frame_at s frame) ≡ Some page → IsPlaceOf s.frames order page place
    → IsListed (without_frame s frame) (remove order place) room
IsListed-without_frame s order room frame page place listed has at =
    let here = place_of_page s order listed.in_order page place frame at has in
    let new = without_frame s frame in
    let gone = frame_at-without_frame_same s frame in
    let old : (n : ℕ) → n ≢ frame → frame_at new n ≡ frame_at s n =
    λ n differs. frame_at-without_frame_other s frame n differs in
    let other : (n : ℕ) → IsSome (frame_at new n) → n ≢ frame =
    λ n used same. absurd (used_of_none (frame_at new frame) gone (subst (λ n. IsSome (frame_at new n)) same used)) in
    let pages : (n : ℕ) (a : FilePage) → page_of (frame_at new n) ≡ Some a → page_of (frame_at s n) ≡ Some a =
    λ n a has. ap page_of (sym (old n (other n (in_use_with_page _ a has)))) ∙ has in
    let used = in_use_with_page _ page has in
    let count = count_by-set is_some s.frames frame None None (within_by_use s.frames frame used) in
    let one_was : weight (is_some (get_or s.frames frame None)) ≡ 1 = ap weight used in
    record {
      are = AreFrames-without_frame s frame listed.are;
      in_order = record {
        used = λ n. (
          λ there.
              let k = contains_remove order place n here.0 there in
              let old_used = (listed.in_order.used n).0 (k.0, k.1, k.3) in
              let differs : n ≢ frame = λ same. alone n k.0 k.1 k.2 k.3 old_used same in
              ap is_some (old n differs) ∙ old_used,
          λ used.
              let differs = other n used in
              let there = (listed.in_order.used n).1 (ap is_some (sym (old n differs)) ∙ used) in
              contains_remove_other order place n there.0 here.0 there.1
              (λ same. differs (sym there.2 ∙ ap (λ m. get_or order m n) same ∙ here.1 n)) there.2,
        );
        rising = λ i j d less below a b ha hb. all_pairs_remove (HasPageBefore s) order place here.0
            listed.in_order.rising i j d less below a b (pages _ a ha) (pages _ b hb);
      };
      counted = omega (arith, listed.counted, count, one_was, length-remove order place here.0);
      enough = omega (arith, listed.enough, length-set s.frames frame None);
    }
  where
    used_of_none : {X : Type 0} (f : Option X) → f ≡ None → IsSome f → ⊥
    used_of_none f none used = absurd (cc)

    within_by_use : {X : Type 0} (xs : List (Option X)) (k : ℕ) → IsSome (get_or xs k None) → k < length xs
    within_by_use [] k used = absurd (cc)
    within_by_use (x ∷ xs) zero used = omega arith
    within_by_use (x ∷ xs) (suc k) used = let later : k < length xs = within_by_use xs k used in omega arith

    alone : (n k : ℕ) → k < length order → k ≢ place → get_or order k n ≡ n → IsSome (frame_at s n) → n ≡ frame → ⊥
    alone n k below differs is used same =
        let here = place_of_page s order listed.in_order page place frame at has in
        let has_n : page_of (frame_at s (get_or order k n)) ≡ Some page =
        ap (λ m. page_of (frame_at s m)) (is ∙ same)
        ∙ has in
        let has_place : page_of (frame_at s (get_or order place n)) ≡ Some page =
        ap (λ m. page_of (frame_at s m)) (here.1 n)
        ∙ has in
        ⊎_elim
        (λ less. IsBefore-irreflexive page (listed.in_order.rising k place n less here.0 page page has_n has_place))
        (λ from. IsBefore-irreflexive page
        (listed.in_order.rising place k n (omega (arith, differs)) below page page has_place has_n))
        (cases_lt k place)

-- bytes are written into a frame
pub IsListed-with_bytes : (s : FramesState) (order : List ℕ) (room frame at : ℕ) (bytes : List ℕ)
    → IsListed s order room → at + length bytes ≤ 4096 → All (λ byte. byte < 256) bytes
    → IsListed (with_bytes s frame at bytes) order room
IsListed-with_bytes s order room frame at bytes listed within small =
    let new = with_bytes s frame at bytes in
    let pages = page_of-with_bytes s frame at bytes in
    record {
      are = AreFrames-with_bytes s frame at bytes within small listed.are;
      in_order = record {
        used = λ n. (
          λ there. in_use-with_bytes s frame at bytes n ∙ (listed.in_order.used n).0 there,
          λ used. (listed.in_order.used n).1 (sym (in_use-with_bytes s frame at bytes n) ∙ used),
        );
        rising = λ i j d less below a b ha hb. listed.in_order.rising i j d less below a b
            (sym (pages (get_or order i d)) ∙ ha) (sym (pages (get_or order j d)) ∙ hb);
      };
      counted = listed.counted ∙ sym (counted s.frames frame);
      enough = omega (arith, listed.enough, length-set s.frames frame (overwrite_frame (frame_at s frame) at bytes));
    }
  where
    same_use : (f : Option Frame) → is_some (overwrite_frame f at bytes) ≡ is_some f
    same_use None = refl
    same_use (Some f) = refl

    counted : (xs : List (Option Frame)) (k : ℕ)
        → count_by is_some (set xs k (overwrite_frame (get_or xs k None) at bytes)) ≡ count_by is_some xs
    counted [] k = refl
    counted (x ∷ xs) zero =
        let same : weight (is_some (overwrite_frame x at bytes)) ≡ weight (is_some x) = ap weight (same_use x) in
        omega (arith, same, count_cons is_some x xs, count_cons is_some (overwrite_frame x at bytes) xs)
    counted (x ∷ xs) (suc k) =
        omega (
          arith,
          counted xs k,
          count_cons is_some x xs,
          count_cons is_some x (set xs k (overwrite_frame (get_or xs k None) at bytes)),
        )

-- the copies change
pub IsListed-copies : (s : FramesState) (copies : List (Option Frame)) (order : List ℕ) (room : ℕ)
    → IsListed s order room → AreFrames (record s { copies = copies })
    → IsListed (record s { copies = copies }) order room
IsListed-copies s copies order room listed are = record {
  are = are;
  in_order = record { used = listed.in_order.used; rising = listed.in_order.rising };
  counted = listed.counted;
  enough = listed.enough;
}

-- no frame is in use
pub IsListed-all_free : (s : FramesState) (frames room : ℕ)
    → s.frames ≡ replicate frames None → frames ≤ room → AreFrames s
    → IsListed s [] room
IsListed-all_free s frames room free enough are = record {
  are = are;
  in_order = record {
    used = λ n. (
      λ never. absurd (let less : never.0 < 0 = never.1 in omega arith),
      λ used. let none = ap (λ fs. get_or fs n None) free ∙ get_or_none frames n in absurd (cc),
    );
    rising = λ i j d less within. absurd (omega arith);
  };
  counted = sym (ap (count_by is_some) free ∙ none_used frames);
  enough = omega (arith, enough, ap length free, length-replicate {A = Option Frame} frames None);
}
  where
    get_or_none : (n k : ℕ) → get_or (replicate {A = Option Frame} n None) k None ≡ None
    get_or_none zero k = refl
    get_or_none (suc n) zero = refl
    get_or_none (suc n) (suc k) = get_or_none n k

    none_used : (n : ℕ) → count_by is_some (replicate {A = Option Frame} n None) ≡ 0
    none_used zero = refl
    none_used (suc n) = omega (arith, count_cons is_some None (replicate {A = Option Frame} n None), none_used n)

-- where a frame is free there is room for one more
pub room_for_one : (s : FramesState) (order : List ℕ) (room : ℕ) → IsListed s order room → has_free s.frames ≡ true
    → length order < room
room_for_one s order room listed free =
    let some : ltb 0 (count_by is_none s.frames) ≡ true = sym (has_free-counted s.frames) ∙ free in
    let all = free_and_used s.frames in
    let counted = listed.counted in let enough = listed.enough in
    grind (arith, nat_tests)

-- a frame in use is its page and its bytes
frame_is : (f : Option Frame) (page : FilePage) (bytes : List ℕ) → page_of f ≡ Some page → bytes ≡ bytes_of f
    → f ≡ Some (record { page = page; bytes = bytes })
frame_is None page bytes has same = absurd (cc)
frame_is (Some f) page bytes has same =
    let p = one_page f.page page has in
    λ i. Some (record { page = p i; bytes = sym same i })

-- a try to copy a frame
pub IsListed-copied : (s : FramesState) (order : List ℕ) (room frame : ℕ)
    (page : FilePage) (bytes : List ℕ) (number : Option ℕ) (new : List (Option Frame))
    → IsListed s order room → page_of (frame_at s frame) ≡ Some page → bytes ≡ bytes_of (frame_at s frame)
    → HasNoCopy s page → IfSome number (λ k. new ≡ set s.copies k (Some (record { page = page; bytes = bytes })))
    → IfNone number (new ≡ s.copies)
    → IsListed (record s { copies = new }) order room
IsListed-copied s order room frame page bytes None new listed has same none copied kept = rw kept listed
IsListed-copied s order room frame page bytes (Some k) new listed has same none copied kept =
    let is = frame_is (frame_at s frame) page bytes has same in
    rw (copied, ← is) (IsListed-copies s _ order room listed (AreFrames-with_copy s k frame
    (λ other h. subst (λ p. HasNoCopy s p) (one_page page other (sym has ∙ h)) none) listed.are))
