-- Entries of pages past a length of their file, which are taken away page by page.
use Rattle.std.proofs.Common.{◌≡◌, ◌⊎◌, ℕ, ◌*◌, ◌≤◌, inl, inr, Bool, true, false, cond}
use Rattle.std.proofs.Common.{◌==◌, nat_le, Option, Some, None, refl, sym, ap, ◌∙◌, arith}
use Rattle.std.specs.FinMap as maps
use Rattle.std.proofs.lemmas.Bool.{false≢true, and_parts, and_from, eqb-true, le-leb}
use Rattle.page_entry.specs.declared.numbers.FilePage.{FilePage}
use Rattle.mappings.specs.declared.place.Place.{Place}
use Rattle.mappings.specs.Places.{Places}
use Rattle.spaces.specs.Spaces.{Spaces, entry_at, place_at, EditsEntries}
use Rattle.spaces.specs.Changes.{is_place_of, is_place_past, without_entries_of, without_past, ClearsPast}

-- none is taken away
pub ClearsPast-refl : (file length : ℕ) (spaces : Spaces) → ClearsPast file length spaces spaces
ClearsPast-refl file length spaces =
    record { same_spaces = λ q. refl; same_places = λ q. refl; entries = λ q at. inl refl }

-- a place in one page of a file that is past a length
is_past_of : (owner : FilePage) (length : ℕ) (place : Option Place)
    → length ≤ 4096 * owner.page → is_place_of owner place ≡ true
    → is_place_past owner.file length place ≡ true
is_past_of owner length None past is = absurd (false≢true is)
is_past_of owner length (Some place) past is =
    let parts = and_parts (place.file == owner.file) (place.page == owner.page) is in
    let same : place.page ≡ owner.page = eqb-true place.page owner.page parts.1 in
    and_from (place.file == owner.file) (nat_le length (4096 * place.page)) parts.0
    (le-leb length (4096 * place.page) (omega (arith, same, past)))

-- those of one page past the length are taken away, too
pub ClearsPast-more : (file length : ℕ) (old now new : Spaces) (owner : FilePage) → owner.file ≡ file
    → length ≤ 4096 * owner.page → ClearsPast file length old now → EditsEntries (without_entries_of owner now) now new
    → ClearsPast file length old new
ClearsPast-more file length old now new owner same past clears edits = record {
  same_spaces = λ q. edits.same_spaces q ∙ clears.same_spaces q;
  same_places = λ q. edits.same_places q ∙ clears.same_places q;
  entries = λ q at. by_test q at (is_place_of owner (place_at now q at)) refl (edits.entries q at);
}
  where
    place_kept : (q at : ℕ) → place_at now q at ≡ place_at old q at
    place_kept q at = ap (λ (places : Places). maps.get places at) (clears.same_places q)

    by_test : (q at : ℕ) (b : Bool) → is_place_of owner (place_at now q at) ≡ b
        → entry_at new q at ≡ cond b None (entry_at now q at)
        → (entry_at new q at ≡ entry_at old q at)
        ⊎ ((entry_at new q at ≡ None) × (is_place_past file length (place_at old q at) ≡ true))
    by_test q at true is none =
        inr (
          none,
          ap (λ f. is_place_past f length (place_at old q at)) (sym same)
              ∙ is_past_of owner length (place_at old q at) past (ap (is_place_of owner) (sym (place_kept q at)) ∙ is),
        )
    by_test q at false other kept = elim (clears.entries q at) [
      | inl same ↦ inl (kept ∙ same)
      | inr gone ↦ inr (kept ∙ gone.0, gone.1)
    ]

-- where no page past the length has an entry any more, all are taken away
pub EditsEntries-without_past : (file length : ℕ) (old new : Spaces) → ClearsPast file length old new
    → ((pcid page : ℕ) → is_place_past file length (place_at new pcid page) ≡ true → entry_at new pcid page ≡ None)
    → EditsEntries (without_past file length old) old new
EditsEntries-without_past file length old new clears none = record {
  same_spaces = clears.same_spaces;
  same_places = clears.same_places;
  entries = λ q at. by_test q at (is_place_past file length (place_at old q at)) refl;
}
  where
    place_kept : (q at : ℕ) → place_at new q at ≡ place_at old q at
    place_kept q at = ap (λ (places : Places). maps.get places at) (clears.same_places q)

    by_test : (q at : ℕ) (b : Bool) → is_place_past file length (place_at old q at) ≡ b
        → entry_at new q at ≡ cond b None (entry_at old q at)
    by_test q at true past = none q at (ap (is_place_past file length) (place_kept q at) ∙ past)
    by_test q at false before = elim (clears.entries q at) [
      | inl same ↦ same
      | inr gone ↦ absurd (false≢true (sym before ∙ gone.1))
    ]
