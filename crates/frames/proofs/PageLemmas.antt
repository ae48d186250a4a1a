-- What a number's page is, where numbered pages are kept as numbers and bytes, and what a change of one number changes.
use Rattle.std.proofs.Common.{◌≡◌, ◌≢◌, ◌+◌, ◌-◌, ◌<◌, ◌≤◌, ℕ, cond, zero, suc, true, false, List, []}
use Rattle.std.proofs.Common.{◌∷◌, ◌++◌, length, get_or, set, take, drop, replicate, Option, Some, None}
use Rattle.std.proofs.Common.{is_some, is_none, IsSome, count_by, refl, sym, ap, ◌∙◌, inl, inr, arith}
use Rattle.std.proofs.lemmas.List.{set-get_or, get_or_past, length-set, append_assoc}
use Rattle.std.proofs.lemmas.List.Folds.{list_any_at}
use Rattle.std.proofs.lemmas.List.Sums.{count_by-le-length, sum_by-cons}
use Rattle.std.proofs.lemmas.Bool.{cases_lt, cases_eq}
use borrow.Rule.Slice.PartMut.{post_of, Post-is}
use Rattle.page_entry.specs.declared.numbers.FilePage.{FilePage}
use Rattle.frames.specs.Frames.{has_free, has_used, bytes_of, page_of, overwrite, overwrite_frame}
use Rattle.frames.specs.inside.Pages.{frame_of, frames_by, IsKept}
use Rattle.slab.specs.Slab.{Slab, get, Updates}

pub length-frames_by : (page_at : ℕ → Option FilePage) (bytes : List (List ℕ))
    → length (frames_by page_at bytes) ≡ length bytes
length-frames_by page_at [] = refl
length-frames_by page_at (page ∷ bytes) = ap (λ n. suc n) (length-frames_by (λ k. page_at (suc k)) bytes)

pub get_or-frames_by : (page_at : ℕ → Option FilePage) (bytes : List (List ℕ)) (k : ℕ) → k < length bytes
    → get_or (frames_by page_at bytes) k None ≡ frame_of (page_at k) (get_or bytes k [])
get_or-frames_by page_at [] k h = absurd (omega arith)
get_or-frames_by page_at (page ∷ bytes) zero h = refl
get_or-frames_by page_at (page ∷ bytes) (suc k) h = get_or-frames_by (λ n. page_at (suc n)) bytes k (omega arith)

is_some-frame_of : (o : Option FilePage) (page : List ℕ) → is_some (frame_of o page) ≡ is_some o
is_some-frame_of None page = refl
is_some-frame_of (Some o) page = refl

is_none-frame_of : (o : Option FilePage) (page : List ℕ) → is_none (frame_of o page) ≡ is_none o
is_none-frame_of None page = refl
is_none-frame_of (Some o) page = refl

-- a number in use is one of a page
pub in_use_within : (page_at : ℕ → Option FilePage) (bytes : List (List ℕ)) (k : ℕ)
    → IsSome (get_or (frames_by page_at bytes) k None)
    → k < length bytes
in_use_within page_at [] k h = absurd (cc)
in_use_within page_at (page ∷ bytes) zero h = omega arith
in_use_within page_at (page ∷ bytes) (suc k) h =
    let r : k < length bytes = in_use_within (λ n. page_at (suc n)) bytes k h in
    omega arith

-- and it has a page
pub in_use_page : (page_at : ℕ → Option FilePage) (bytes : List (List ℕ)) (k : ℕ)
    → IsSome (get_or (frames_by page_at bytes) k None)
    → IsSome (page_at k)
in_use_page page_at bytes k h =
    let e = get_or-frames_by page_at bytes k (in_use_within page_at bytes k h) in
    sym (ap is_some e ∙ is_some-frame_of (page_at k) (get_or bytes k [])) ∙ h

-- one number gets another page, or none, and other bytes
pub frames_by-update : (old new : ℕ → Option FilePage) (bytes : List (List ℕ)) (k : ℕ) (page : List ℕ)
    → ((n : ℕ) → n ≢ k → new n ≡ old n)
    → frames_by new (set bytes k page) ≡ set (frames_by old bytes) k (frame_of (new k) page)
frames_by-update old new [] k page others = refl
frames_by-update old new (first ∷ bytes) zero page others =
    ap (λ rest. frame_of (new 0) page ∷ rest)
    (frames_by-same (λ n. old (suc n)) (λ n. new (suc n)) bytes (λ n. others (suc n) (λ e. absurd (omega (arith, e)))))
  where
    frames_by-same : (old new : ℕ → Option FilePage) (bytes : List (List ℕ)) → ((n : ℕ) → new n ≡ old n)
        → frames_by new bytes ≡ frames_by old bytes
    frames_by-same old new [] same = refl
    frames_by-same old new (page ∷ bytes) same =
        rw (same 0, frames_by-same (λ n. old (suc n)) (λ n. new (suc n)) bytes (λ n. same (suc n)))
frames_by-update old new (first ∷ bytes) (suc k) page others =
    rw (
      others 0 (λ e. absurd (omega (arith, e))),
      frames_by-update (λ n. old (suc n)) (λ n. new (suc n)) bytes k page
          (λ n differs. others (suc n) (λ e. differs (omega (arith, e)))),
    )

-- one number loses its page, and the bytes stay
pub frames_by-give : (old new : ℕ → Option FilePage) (bytes : List (List ℕ)) (k : ℕ)
    → ((n : ℕ) → n ≢ k → new n ≡ old n) → new k ≡ None
    → frames_by new bytes ≡ set (frames_by old bytes) k None
frames_by-give old new bytes k others gone =
    ap (frames_by new) (sym (set-get_or bytes k []))
    ∙ frames_by-update old new bytes k (get_or bytes k []) others
    ∙ ap (λ o. set (frames_by old bytes) k (frame_of o (get_or bytes k []))) gone

-- a number that has bytes and no page is free
pub has_free-frames_by : (page_at : ℕ → Option FilePage) (bytes : List (List ℕ)) (k : ℕ)
    → k < length bytes → page_at k ≡ None
    → has_free (frames_by page_at bytes) ≡ true
has_free-frames_by page_at bytes k within gone =
    list_any_at is_none (frames_by page_at bytes) k None (omega (arith, length-frames_by page_at bytes))
    (ap is_none (get_or-frames_by page_at bytes k within ∙ ap (λ o. frame_of o (get_or bytes k [])) gone))

-- where each number has a page, none is free
pub none_free-frames_by : (page_at : ℕ → Option FilePage) (bytes : List (List ℕ))
    → ((k : ℕ) → k < length bytes → IsSome (page_at k))
    → has_free (frames_by page_at bytes) ≡ false
none_free-frames_by page_at [] all = refl
none_free-frames_by page_at (page ∷ bytes) all =
    let later = none_free-frames_by (λ n. page_at (suc n)) bytes (λ k h. all (suc k) (omega arith)) in
    let first = is_none_first (page_at 0) (all 0 (omega arith)) in
    rw (is_none-frame_of (page_at 0) page, first, later)
  where
    is_none_first : (o : Option FilePage) → IsSome o → is_none o ≡ false
    is_none_first None h = absurd (cc)
    is_none_first (Some o) h = refl

-- a number that has bytes and a page is in use
pub has_used-frames_by : (page_at : ℕ → Option FilePage) (bytes : List (List ℕ)) (k : ℕ)
    → k < length bytes → IsSome (page_at k)
    → has_used (frames_by page_at bytes) ≡ true
has_used-frames_by page_at bytes k within used =
    list_any_at is_some (frames_by page_at bytes) k None (omega (arith, length-frames_by page_at bytes))
    (ap is_some (get_or-frames_by page_at bytes k within) ∙ is_some-frame_of (page_at k) (get_or bytes k []) ∙ used)

-- where no number has a page, none is in use
pub none_used-frames_by : (page_at : ℕ → Option FilePage) (bytes : List (List ℕ))
    → ((k : ℕ) → k < length bytes → is_some (page_at k) ≡ false)
    → has_used (frames_by page_at bytes) ≡ false
none_used-frames_by page_at [] none = refl
none_used-frames_by page_at (page ∷ bytes) none =
    let later = none_used-frames_by (λ n. page_at (suc n)) bytes (λ k h. none (suc k) (omega arith)) in
    rw (is_some-frame_of (page_at 0) page, none 0 (omega arith), later)

-- where as many slots are in use as there are numbers, each number is in use
pub all_in_use : (slots : List (Option FilePage)) (room : ℕ)
    → length slots ≤ room → count_by is_some slots ≡ room → (k : ℕ) → k < room
    → IsSome (get_or slots k None)
all_in_use [] room short full k h = absurd (omega (arith, full))
all_in_use (None ∷ slots) room short full k h =
    absurd (omega (arith, full, sum_by-cons (λ o. cond (is_some o) 1 0) None slots, count_by-le-length is_some slots))
all_in_use (Some o ∷ slots) room short full zero h = refl
all_in_use (Some o ∷ slots) room short full (suc k) h =
    let step = sum_by-cons (λ x. cond (is_some x) 1 0) (Some o) slots in
    all_in_use slots (room - 1) (omega arith) (omega (arith, full, step)) k (omega arith)

-- a number that the slab may give out, and that nobody has, is one of a page
pub vacant_within : {pages : Slab FilePage} {bytes : List (List ℕ)} (kept : IsKept pages bytes) (k : ℕ)
    → k < pages.capacity → get pages k ≡ None
    → k < length bytes
vacant_within {pages} {bytes} kept k below vacant =
    elim (cases_lt k (length bytes)) [
      | inl within ↦ within
      | inr past ↦ let here : IsSome (get pages k) = kept.reserved k past below in absurd (cc)
    ]

-- another page of a page, or none, leaves the numbers past the pages as they are
pub IsKept-give : {old new : Slab FilePage} {bytes : List (List ℕ)}
    (kept : IsKept old bytes) (k : ℕ) (slot : Option FilePage)
    → k < length bytes → Updates old new k slot → new.capacity ≡ old.capacity
    → IsKept new bytes
IsKept-give {old} {new} {bytes} kept k slot within updates same = record {
  numbered = kept.numbered;
  room = rw same kept.room;
  reserved = λ number past below.
      let differs : number ≢ k = omega arith in
      rw (updates.others number differs) (kept.reserved number past (rw same at below));
}

-- other bytes of one page leave the rest as it is
pub IsKept-set : {pages : Slab FilePage} {bytes : List (List ℕ)} (kept : IsKept pages bytes) (k : ℕ) (page : List ℕ)
    → IsKept pages (set bytes k page)
IsKept-set {pages} {bytes} kept k page = record {
  numbered = omega (arith, kept.numbered, length-set bytes k page);
  room = omega (arith, kept.room, length-set bytes k page);
  reserved = λ number past below. kept.reserved number (omega (arith, length-set bytes k page)) below;
}

bytes_of-frame_of : (o : Option FilePage) (page : List ℕ) → IsSome o → bytes_of (frame_of o page) ≡ page
bytes_of-frame_of None page h = absurd (cc)
bytes_of-frame_of (Some o) page h = refl

-- the bytes of a page in use
pub bytes_of-frames_by : (page_at : ℕ → Option FilePage) (bytes : List (List ℕ)) (k : ℕ)
    → IsSome (get_or (frames_by page_at bytes) k None)
    → bytes_of (get_or (frames_by page_at bytes) k None) ≡ get_or bytes k []
bytes_of-frames_by page_at bytes k h =
    ap bytes_of (get_or-frames_by page_at bytes k (in_use_within page_at bytes k h))
    ∙ bytes_of-frame_of (page_at k) (get_or bytes k []) (in_use_page page_at bytes k h)

page_of-frame_of : (o : Option FilePage) (page : List ℕ) → page_of (frame_of o page) ≡ o
page_of-frame_of None page = refl
page_of-frame_of (Some o) page = refl

-- the page of a file for a number
pub page_of-frames_by : (page_at : ℕ → Option FilePage) (bytes : List (List ℕ)) (k : ℕ) → k < length bytes
    → page_of (get_or (frames_by page_at bytes) k None) ≡ page_at k
page_of-frames_by page_at bytes k h =
    ap page_of (get_or-frames_by page_at bytes k h)
    ∙ page_of-frame_of (page_at k) (get_or bytes k [])

-- a number past the pages has none
pub page_of-past : (page_at : ℕ → Option FilePage) (bytes : List (List ℕ)) (k : ℕ) → length bytes ≤ k
    → page_of (get_or (frames_by page_at bytes) k None) ≡ None
page_of-past page_at bytes k h =
    ap page_of (get_or_past (frames_by page_at bytes) k None (omega (arith, length-frames_by page_at bytes)))

overwrite_frame-frame_of : (o : Option FilePage) (page : List ℕ) (at : ℕ) (part : List ℕ)
    → overwrite_frame (frame_of o page) at part ≡ frame_of o (overwrite page at part)
overwrite_frame-frame_of None page at part = refl
overwrite_frame-frame_of (Some o) page at part = refl

-- one page gets other bytes from a place on
pub frames_by-overwrite : (page_at : ℕ → Option FilePage) (bytes : List (List ℕ)) (k at : ℕ) (part : List ℕ)
    → k < length bytes
    → frames_by page_at (set bytes k (overwrite (get_or bytes k []) at part))
    ≡ set (frames_by page_at bytes) k (overwrite_frame (get_or (frames_by page_at bytes) k None) at part)
frames_by-overwrite page_at bytes k at part h =
    frames_by-update page_at page_at bytes k _ (λ n differs. refl)
    ∙ ap (λ f. set (frames_by page_at bytes) k f)
    (sym (ap (λ f. overwrite_frame f at part) (get_or-frames_by page_at bytes k h)
    ∙ overwrite_frame-frame_of (page_at k) (get_or bytes k []) at part))

-- pages that nobody has are free
pub frames_by-none : (page_at : ℕ → Option FilePage) (bytes : List (List ℕ))
    → ((k : ℕ) → k < length bytes → page_at k ≡ None)
    → frames_by page_at bytes ≡ replicate (length bytes) None
frames_by-none page_at [] none = refl
frames_by-none page_at (page ∷ bytes) none =
    rw (none 0 (omega arith), frames_by-none (λ n. page_at (suc n)) bytes (λ k h. none (suc k) (omega arith)))

-- The numbers below `count` are given back from the highest on: those from `next` on nobody has, and all others are in
-- use.
pub record GivesBack (pages : Slab FilePage) (count next : ℕ) : Type 0 where
  pub room : count ≤ pages.capacity
  pub free : (number : ℕ) → next ≤ number → number < count → get pages number ≡ None
  pub rest : (number : ℕ) → number < pages.capacity → (next ≤ number → number < count → ⊥) → IsSome (get pages number)

pub GivesBack-start : {pages : Slab FilePage} (count : ℕ) → count ≤ pages.capacity
    → ((number : ℕ) → number < pages.capacity → IsSome (get pages number))
    → GivesBack pages count count
GivesBack-start count room all = record {
  room = room;
  free = λ number from below. absurd (omega arith);
  rest = λ number within _. all number within;
}

pub GivesBack-step : {old new : Slab FilePage} (count next : ℕ) → GivesBack old count next
    → 0 < next → next ≤ count → Updates old new (next - 1) None → new.capacity ≡ old.capacity
    → GivesBack new count (next - 1)
GivesBack-step {old} {new} count next given some below updates same = record {
  room = rw same given.room;
  free = λ number from within.
      elim (cases_eq number (next - 1)) [
        | inl here ↦ rw here updates.changed
        | inr differs ↦ updates.others number differs ∙ given.free number (omega arith) within
      ];
  rest = λ number within kept.
      let differs : number ≢ next - 1 = λ here. kept (omega arith) (omega arith) in
      rw (updates.others number differs)
      (given.rest number (rw same at within) (λ from under. kept (omega arith) under));
}

-- the page of which a part was written
pub overwrite-parts : (page : List ℕ) (at : ℕ) (bytes part : List ℕ) → part ≡ bytes
    → take at page ++ (part ++ post_of at (at + length bytes - at) page) ≡ overwrite page at bytes
overwrite-parts page at bytes part same =
    rw (same, Post-is at (at + length bytes) page (omega arith))
    (sym (append_assoc (take at page) bytes (drop (at + length bytes) page)))
