-- Where a change affects and touches no more than before.
use Rattle.std.proofs.Common.{◌≡◌, ◌≢◌, ℕ, ◌⊎◌, inl, inr, Bool, true, false, cond, ◌&&◌, ◌||◌, eqb}
use Rattle.std.proofs.Common.{List, [], ◌∷◌, Option, None, is_some, unwrap_or, refl, sym, ap, ◌∙◌}
use Rattle.std.specs.List.{list_any}
use Rattle.std.specs.Ordering.{nat_cmp}
use Rattle.std.specs.Cmp.{nat_cmp_total, unsigned_tied}
use Rattle.std.specs.FinMap as maps
use Rattle.std.proofs.lemmas.Bool.{and_parts, and_from, cases_eq, or_cases, or_left, or_right, eq-eqb, ne_eqb}
use Rattle.page_entry.specs.declared.numbers.FilePage.{FilePage}
use Rattle.mappings.specs.Places.{Places, pages_mapping}
use Rattle.spaces.specs.declared.change.Change.{Change}
use Rattle.spaces.specs.declared.change.Change.TheVariants.{Unmap, Protect, Reclaim, SetLength, Checkpoint}
use Rattle.spaces.specs.Spaces.{Spaces, AddressSpace, empty_space, space_at, entry_at, place_at}
use Rattle.spaces.specs.Changes.{is_place_of, has_entry_of, touches}
use Rattle.shootdown.specs.Coherence.{IsNoWider}

-- a test that passes wherever another does finds what that finds
any_more : {X : Type 0} (p q : X → Bool) → ((x : X) → p x ≡ true → q x ≡ true) → (xs : List X) → list_any p xs ≡ true
    → list_any q xs ≡ true
any_more p q more [] found = found
any_more p q more (x ∷ xs) found = go (or_cases (p x) (list_any p xs) found) (λ later. any_more p q more xs later)
  where
    go : (p x ≡ true) ⊎ (list_any p xs ≡ true) → (list_any p xs ≡ true → list_any q xs ≡ true)
        → (q x || list_any q xs) ≡ true
    go (inl here) later = or_left (q x) (list_any q xs) (more x here)
    go (inr there) later = or_right (q x) (list_any q xs) (later there)

-- the entries of a page of a file: the same pages are mapped, and no page has an entry that had none
has_entry_before : (owner : FilePage) (old new : Spaces)
    → ((pcid : ℕ) → (space_at new pcid).places ≡ (space_at old pcid).places)
    → ((pcid page : ℕ) → is_some (entry_at new pcid page) ≡ true → is_some (entry_at old pcid page) ≡ true)
    → (pcid page : ℕ) → has_entry_of new owner pcid page ≡ true
    → has_entry_of old owner pcid page ≡ true
has_entry_before owner old new places entries pcid page now =
    let parts = and_parts (is_place_of owner (place_at new pcid page)) (is_some (entry_at new pcid page)) now in
    and_from (is_place_of owner (place_at old pcid page)) (is_some (entry_at old pcid page))
    (sym (ap (λ (ps : Places). is_place_of owner (maps.get ps page)) (places pcid)) ∙ parts.0)
    (entries pcid page parts.1)

-- the same pages are mapped, and no page has an entry that had none
pub IsNoWider-same_places : (change : Change) (old new : Spaces)
    → ((pcid : ℕ) → (space_at new pcid).places ≡ (space_at old pcid).places)
    → ((pcid page : ℕ) → is_some (entry_at new pcid page) ≡ true → is_some (entry_at old pcid page) ≡ true)
    → IsNoWider change old new
IsNoWider-same_places (Unmap q range) old new places entries =
    record { affected = λ pcid page now. now; touched = λ pcid now. now }
IsNoWider-same_places (Protect q range rights) old new places entries =
    record { affected = λ pcid page now. now; touched = λ pcid now. now }
IsNoWider-same_places (Reclaim owner) old new places entries = record {
  affected = has_entry_before owner old new places entries;
  touched = λ pcid now.
      any_more (has_entry_of new owner pcid) (has_entry_of old owner pcid)
      (λ page. has_entry_before owner old new places entries pcid page)
      (pages_mapping (space_at old pcid).places owner.file owner.page)
      (sym (ap (λ (ps : Places). list_any (has_entry_of new owner pcid) (pages_mapping ps owner.file owner.page))
      (places pcid)) ∙ now);
}
IsNoWider-same_places (SetLength file length) old new places entries =
    record { affected = λ pcid page now. now; touched = λ pcid now. now }
IsNoWider-same_places Checkpoint old new places entries =
    record { affected = λ pcid page now. now; touched = λ pcid now. now }

-- ---- a space goes

space_at-remove : (spaces : Spaces) (pcid q : ℕ)
    → space_at (maps.remove spaces pcid) q ≡ cond (eqb q pcid) empty_space (space_at spaces q)
space_at-remove spaces pcid q =
    ap (λ (o : Option AddressSpace). unwrap_or o empty_space)
    (maps.get-remove nat_cmp_total spaces pcid q ∙ ap (λ b. cond b None (maps.get spaces q)) (unsigned_tied q pcid))
    ∙ go (eqb q pcid)
  where
    go : (b : Bool) → unwrap_or (cond b None (maps.get spaces q)) empty_space ≡ cond b empty_space (space_at spaces q)
    go true = refl
    go false = refl

pub space_at-remove_other : (spaces : Spaces) (pcid q : ℕ) → q ≢ pcid
    → space_at (maps.remove spaces pcid) q ≡ space_at spaces q
space_at-remove_other spaces pcid q other =
    space_at-remove spaces pcid q
    ∙ ap (λ b. cond b empty_space (space_at spaces q)) (ne_eqb q pcid other)

pub space_at-remove_same : (spaces : Spaces) (pcid q : ℕ) → q ≡ pcid
    → space_at (maps.remove spaces pcid) q ≡ empty_space
space_at-remove_same spaces pcid q same =
    space_at-remove spaces pcid q
    ∙ ap (λ b. cond b empty_space (space_at spaces q)) (eq-eqb q pcid same)

pub entry_at-remove_other : (spaces : Spaces) (pcid q page : ℕ) → q ≢ pcid
    → entry_at (maps.remove spaces pcid) q page ≡ entry_at spaces q page
entry_at-remove_other spaces pcid q page other =
    ap (λ (space : AddressSpace). maps.get space.entries page) (space_at-remove_other spaces pcid q other)

-- nothing that it mapped has an entry any more
has_entry_kept : (owner : FilePage) (spaces : Spaces) (pcid q page : ℕ)
    → has_entry_of (maps.remove spaces pcid) owner q page ≡ true
    → (q ≢ pcid) × (has_entry_of spaces owner q page ≡ true)
has_entry_kept owner spaces pcid q page now = go (cases_eq q pcid)
  where
    go : (q ≡ pcid) ⊎ (q ≡ pcid → ⊥) → (q ≢ pcid) × (has_entry_of spaces owner q page ≡ true)
    go (inl same) =
        let none : is_some (entry_at (maps.remove spaces pcid) q page) ≡ false =
        ap (λ (space : AddressSpace). is_some (maps.get space.entries page)) (space_at-remove_same spaces pcid q same)
        ∙ ap is_some (maps.get-empty nat_cmp page) in
        let some = (and_parts (is_place_of owner (place_at (maps.remove spaces pcid) q page))
        (is_some (entry_at (maps.remove spaces pcid) q page)) now).1 in
        absurd (cc)
    go (inr other) = (
      other,
      sym (ap (λ (space : AddressSpace).
          is_place_of owner (maps.get space.places page) && is_some (maps.get space.entries page))
          (space_at-remove_other spaces pcid q other))
          ∙ now,
    )

-- a page that is found has an entry
found_page : (p : ℕ → Bool) (pages : List ℕ) → list_any p pages ≡ true → (page : ℕ) × (p page ≡ true)
found_page p [] found = absurd (cc)
found_page p (page ∷ pages) found = go (or_cases (p page) (list_any p pages) found) (λ later. found_page p pages later)
  where
    go : (p page ≡ true) ⊎ (list_any p pages ≡ true) → (list_any p pages ≡ true → (x : ℕ) × (p x ≡ true))
        → (x : ℕ) × (p x ≡ true)
    go (inl here) later = (page, here)
    go (inr there) later = later there

touched_before : (owner : FilePage) (spaces : Spaces) (pcid q : ℕ)
    → touches (maps.remove spaces pcid) (Reclaim owner) q ≡ true
    → touches spaces (Reclaim owner) q ≡ true
touched_before owner spaces pcid q now =
    let new = maps.remove spaces pcid in
    let found =
    found_page (has_entry_of new owner q) (pages_mapping (space_at new q).places owner.file owner.page) now in
    let other = (has_entry_kept owner spaces pcid q found.0 found.1).0 in
    let same = space_at-remove_other spaces pcid q other in
    any_more (has_entry_of new owner q) (has_entry_of spaces owner q)
    (λ page here. (has_entry_kept owner spaces pcid q page here).1)
    (pages_mapping (space_at spaces q).places owner.file owner.page)
    (sym (ap (λ (space : AddressSpace).
    list_any (has_entry_of new owner q) (pages_mapping space.places owner.file owner.page)) same) ∙ now)

pub IsNoWider-remove : (change : Change) (spaces : Spaces) (pcid : ℕ)
    → IsNoWider change spaces (maps.remove spaces pcid)
IsNoWider-remove (Unmap q range) spaces pcid = record { affected = λ p page now. now; touched = λ p now. now }
IsNoWider-remove (Protect q range rights) spaces pcid = record { affected = λ p page now. now; touched = λ p now. now }
IsNoWider-remove (Reclaim owner) spaces pcid = record {
  affected = λ q page now. (has_entry_kept owner spaces pcid q page now).1;
  touched = λ q now. touched_before owner spaces pcid q now;
}
IsNoWider-remove (SetLength file length) spaces pcid = record { affected = λ p page now. now; touched = λ p now. now }
IsNoWider-remove Checkpoint spaces pcid = record { affected = λ p page now. now; touched = λ p now. now }
