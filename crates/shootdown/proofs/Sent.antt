-- A change sends invalidations for all that it affects.
use Rattle.std.proofs.Common.{◌≡◌, ℕ, ◌+◌, ◌-◌, ◌<◌, ◌≤◌, Bool, true, false, cond, ◌==◌, ◌&&◌}
use Rattle.std.proofs.Common.{◌||◌, ltb, nat_le, List, [], ◌∷◌, map, get_or, refl, ap, ◌∙◌, arith}
use Rattle.std.specs.List.{list_any, range_with_len}
use Rattle.std.proofs.lemmas.Bool.{and_parts, and_from, eq-eqb, leb-true, ltb-true, or_left}
use Rattle.std.proofs.lemmas.List.Folds.{list_any_at}
use Rattle.std.proofs.lemmas.List.FromFn.{length-range_with_len, get_or-range_with_len}
use Rattle.page_entry.specs.declared.numbers.FilePage.{FilePage}
use Rattle.mappings.specs.declared.page_range.PageRange.{PageRange}
use Rattle.mappings.specs.Places.{is_among}
use Rattle.pcid_tlb.specs.declared.Invpcid.TheVariants.{IndividualAddress, SingleContext}
use Rattle.spaces.specs.declared.change.Change.{Change}
use Rattle.spaces.specs.declared.change.Change.TheVariants.{Unmap, Protect, Reclaim, SetLength, Checkpoint}
use Rattle.spaces.specs.Spaces.{Spaces}
use Rattle.spaces.specs.Changes.{has_entry_of, entries_of, affects}
use Rattle.spaces.proofs.Public.{Contains-entries_of}
use Rattle.shootdown.specs.Processors.{drops_page, queue_drops}
use Rattle.shootdown.specs.Shootdown.{range_actions, entry_actions, actions_of}

any-map : {X Y : Type 0} (p : Y → Bool) (f : X → Y) (xs : List X) → list_any p (map f xs) ≡ list_any (λ x. p (f x)) xs
any-map p f [] = refl
any-map p f (x ∷ xs) = ap (λ b. p (f x) || b) (any-map p f xs)

-- ---- a range

among_parts : (first count page : ℕ) → is_among first count page ≡ true → (first ≤ page) × (page < first + count)
among_parts first count page among =
    let parts = and_parts (nat_le first page) (ltb page (first + count)) among in
    (leb-true first page parts.0, ltb-true page (first + count) parts.1)

sent_of_range : (pcid : ℕ) (range : PageRange) (q page : ℕ)
    → (q == pcid && is_among range.first range.count page) ≡ true
    → queue_drops (range_actions pcid range) q page ≡ true
sent_of_range pcid range q page affected = go (nat_le range.count 4)
  where
    here : (q == pcid) ≡ true
    here = (and_parts (q == pcid) (is_among range.first range.count page) affected).0

    within : (range.first ≤ page) × (page < range.first + range.count)
    within = among_parts range.first range.count page
        (and_parts (q == pcid) (is_among range.first range.count page) affected).1

    go : (b : Bool)
        → queue_drops (cond b (map (IndividualAddress pcid) (range_with_len range.first range.count))
        (SingleContext pcid ∷ [])) q page ≡ true
    go true =
        let i = page - range.first in
        let below : i < range.count = let w = within in omega arith in
        let same : page ≡ get_or (range_with_len range.first range.count) i 0 =
        let w = within in omega (arith, get_or-range_with_len range.first range.count i 0 below) in
        any-map (λ a. drops_page a q page) (IndividualAddress pcid) (range_with_len range.first range.count)
        ∙ list_any_at (λ x. q == pcid && page == x) (range_with_len range.first range.count) i 0
        (omega (arith, length-range_with_len range.first range.count))
        (and_from (q == pcid) (page == get_or (range_with_len range.first range.count) i 0) here (eq-eqb page _ same))
    go false = or_left (q == pcid) false here

-- ---- the entries of a page of a file

sent_of_entries : (spaces : Spaces) (owner : FilePage) (q page : ℕ) → has_entry_of spaces owner q page ≡ true
    → queue_drops (entry_actions spaces owner) q page ≡ true
sent_of_entries spaces owner q page affected =
    let there = Contains-entries_of spaces owner q page affected in
    let drops : ℕ × ℕ → Bool = λ entry. q == entry.0 && page == entry.1 in
    any-map (λ a. drops_page a q page) (λ entry. IndividualAddress entry.0 entry.1) (entries_of spaces owner)
    ∙ list_any_at drops (entries_of spaces owner) there.0 (q, page) there.1
    (ap drops there.2 ∙ and_from (q == q) (page == page) (eq-eqb q q refl) (eq-eqb page page refl))

-- ---- every change

-- what a change affects, one of its invalidations drops
pub sent : (spaces : Spaces) (change : Change) (q page : ℕ) → affects spaces change q page ≡ true
    → queue_drops (actions_of spaces change) q page ≡ true
sent spaces (Unmap pcid range) q page affected = sent_of_range pcid range q page affected
sent spaces (Protect pcid range rights) q page affected = sent_of_range pcid range q page affected
sent spaces (Reclaim owner) q page affected = sent_of_entries spaces owner q page affected
sent spaces (SetLength file length) q page affected = refl
sent spaces Checkpoint q page affected = refl
