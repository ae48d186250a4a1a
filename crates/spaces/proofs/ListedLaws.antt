-- Which PCIDs and which dirty pages are listed.
use Rattle.std.proofs.Common.{◌≡◌, ℕ, ◌+◌, ◌&&◌, Bool, true, false, eqb, refl, sym, ap, ◌∙◌, subst, arith, Contains}
use Rattle.std.specs.FinMap as maps
use Rattle.std.proofs.lemmas.Bool.{false≢true}
use Rattle.std.proofs.lemmas.Bool.Decides.{nat_tests}
use Rattle.page_entry.specs.Entry.{is_dirty}
use Rattle.page_table.specs.Table.{dirty_in}
use Rattle.page_table.proofs.Dirty.{dirty_in-lists}
use Rattle.mappings.specs.Places.{is_among}
use Rattle.spaces.specs.Spaces.{AddressSpace, Spaces, has_space, space_at, entry_at}
use Rattle.spaces.proofs.AreSpacesLaws.{some_from, is_some_from}
use Rattle.spaces.proofs.Members.{Contains-map, in_map, found, find_in, in_entries, Contains-entries}

-- the PCIDs are those of the spaces that are there
pub in_pcids : (m : Spaces) (pcid : ℕ) → Contains (maps.keys m) pcid → has_space m pcid ≡ true
in_pcids m pcid has =
    let e = in_map (λ (s : ℕ × AddressSpace). s.0) (maps.entries m) pcid has in
    ap (has_space m) (sym e.2) ∙ is_some_from (maps.get m e.0.0) e.0.1 (in_entries m e.0 e.1)

pub Contains-pcids : (m : Spaces) (pcid : ℕ) → has_space m pcid ≡ true → Contains (maps.keys m) pcid
Contains-pcids m pcid there =
    let s = some_from (maps.get m pcid) there in
    Contains-map (λ (s : ℕ × AddressSpace). s.0) (maps.entries m) (pcid, s.0) (Contains-entries m pcid s.0 s.1)

both : (a b : Bool) → (a && b) ≡ true → (a ≡ true) × (b ≡ true)
both true b h = (refl, h)
both false b h = absurd (false≢true h)

-- the dirty pages of a range of a space are those with a dirty entry
pub in_dirty_pages : (m : Spaces) (pcid first count page : ℕ)
    → Contains (dirty_in (space_at m pcid).entries first (first + count)) page
    → (is_among first count page ≡ true) × (is_dirty (entry_at m pcid page) ≡ true)
in_dirty_pages m pcid first count page has =
    both _ _ (sym (dirty_in-lists (space_at m pcid).entries first (first + count) page) ∙ found (λ p. eqb p page)
    (dirty_in (space_at m pcid).entries first (first + count)) page has (grind (arith, nat_tests)))

pub Contains-dirty_pages : (m : Spaces) (pcid first count page : ℕ)
    → is_among first count page ≡ true → is_dirty (entry_at m pcid page) ≡ true
    → Contains (dirty_in (space_at m pcid).entries first (first + count)) page
Contains-dirty_pages m pcid first count page among dirty =
    let any = dirty_in-lists (space_at m pcid).entries first (first + count) page ∙ (λ i. among i && dirty i) in
    let it = find_in (λ p. eqb p page) (dirty_in (space_at m pcid).entries first (first + count)) any in
    let same : it.0 ≡ page = grind (arith, nat_tests, it.2) in
    subst (Contains (dirty_in (space_at m pcid).entries first (first + count))) same it.1
