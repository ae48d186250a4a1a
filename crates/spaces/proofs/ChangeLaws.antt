-- What a change affects and touches, which updates let the page tables only grow, and which change affected entries
-- alone.
use Rattle.std.proofs.Common.{◌≡◌, ℕ, Bool, true, false, cond, not, eqb, ◌==◌, ◌&&◌, List}
use Rattle.std.proofs.Common.{[], ◌∷◌, ◌++◌, map, filter, Option, Some, None, is_some}
use Rattle.std.proofs.Common.{IsSome, unwrap_or, refl, sym, ap, ◌∙◌, subst, arith, Contains}
use Rattle.std.specs.Iterator.{YieldsFirst}
use Rattle.std.specs.FinMap as maps
use Rattle.std.proofs.lemmas.Bool.{false≢true}
use Rattle.std.proofs.lemmas.Bool.Decides.{nat_tests}
use Rattle.page_entry.specs.Entry.{Mapped, with_writable_of}
use Rattle.page_entry.specs.declared.numbers.FilePage.{FilePage}
use Rattle.mappings.specs.declared.place.Place.{Place}
use Rattle.mappings.specs.declared.place.Rights.{Rights}
use Rattle.mappings.specs.declared.page_range.PageRange.{PageRange}
use Rattle.mappings.specs.Places.{Places, may_write, pages_mapping}
use Rattle.spaces.specs.declared.change.Change.{Change}
use Rattle.spaces.specs.declared.change.Change.TheVariants.{Unmap, Protect, Reclaim, SetLength, Checkpoint}
use Rattle.spaces.specs.Spaces.{AddressSpace, Spaces, empty_space, has_space, space_at, entry_at, place_at}
use Rattle.spaces.specs.Spaces.{with_space, with_entry, with_mapping, without_mapping, EditsEntries, SetsRights}
use Rattle.spaces.specs.Changes.{is_place_of, has_entry_of, pages_with_entry, entries_of, affects}
use Rattle.spaces.specs.Changes.{touches, Keeps, Grows, ChangesOnlyAffected, without_entries_of}
use Rattle.spaces.proofs.SpacesLaws.{get-empty_places, has_space-place_at, entry_at-create}
use Rattle.spaces.proofs.SpacesLaws.{entry_at-with_entry, entry_at-with_mapping, entry_at-without_mapping}
use Rattle.spaces.proofs.AreSpacesLaws.{some_from}
use Rattle.spaces.proofs.Members.{not_in_none, Contains-head, Contains-filter, in_filter, Contains-map, in_map}
use Rattle.spaces.proofs.Members.{Contains-flat_map, in_flat_map, found, find_in, in_entries, Contains-entries}

-- ---- page tables that only grow

pub Keeps-refl : (entry : Mapped) → Keeps entry entry
Keeps-refl entry = record { same_frame = refl; still_writable = λ h. h; still_dirty = λ h. h }

-- the same entries
pub Grows-same : (old new : Spaces) → ((q at : ℕ) → entry_at new q at ≡ entry_at old q at) → Grows old new
Grows-same old new same = λ q at entry is. (entry, same q at ∙ is, Keeps-refl entry)

-- an entry that is set, where it keeps what was there
pub Grows-with_entry : (m : Spaces) (n page : ℕ) (now : Mapped)
    → ((was : Mapped) → entry_at m n page ≡ Some was → Keeps was now)
    → Grows m (with_entry m n page (Some now))
Grows-with_entry m n page now keeps = λ q at entry is.
    by_test q at entry is (eqb q n) refl (eqb at page) refl (entry_at-with_entry m n page (Some now) q at)
  where
    by_test : (q at : ℕ) (entry : Mapped) → entry_at m q at ≡ Some entry → (a : Bool) → eqb q n ≡ a → (b : Bool)
        → eqb at page ≡ b → entry_at (with_entry m n page (Some now)) q at ≡ cond (a && b) (Some now) (entry_at m q at)
        → (e : Mapped) × (entry_at (with_entry m n page (Some now)) q at ≡ Some e) × Keeps entry e
    by_test q at entry is true same true too set =
        let e : q ≡ n = grind (arith, nat_tests) in
        let f : at ≡ page = grind (arith, nat_tests) in
        (now, set, keeps entry (ap (λ k. entry_at m k page) (sym e) ∙ ap (entry_at m q) (sym f) ∙ is))
    by_test q at entry is true same false other set = (entry, set ∙ is, Keeps-refl entry)
    by_test q at entry is false other b _ set = (entry, set ∙ is, Keeps-refl entry)

pub Grows-with_mapping : (m : Spaces) (n : ℕ) (range : PageRange) (place : Place)
    → Grows m (with_mapping m n range place)
Grows-with_mapping m n range place = Grows-same m (with_mapping m n range place) (entry_at-with_mapping m n range place)

pub Grows-create : (m : Spaces) (n : ℕ) → has_space m n ≡ false → Grows m (with_space m n empty_space)
Grows-create m n free = Grows-same m (with_space m n empty_space) (entry_at-create m n free)

-- ---- changes of affected entries alone

pub ChangesOnlyAffected-without_mapping : (m : Spaces) (pcid : ℕ) (range : PageRange)
    → ChangesOnlyAffected (Unmap pcid range) m (without_mapping m pcid range)
ChangesOnlyAffected-without_mapping m pcid range =
    λ q at apart. entry_at-without_mapping m pcid range q at ∙ ap (λ b. cond b None (entry_at m q at)) apart

pub ChangesOnlyAffected-SetsRights : (pcid : ℕ) (range : PageRange) (rights : Rights) (old new : Spaces)
    → SetsRights pcid range rights old new
    → ChangesOnlyAffected (Protect pcid range rights) old new
ChangesOnlyAffected-SetsRights pcid range rights old new sets = λ q at apart.
    sets.entries q at
    ∙ ap (λ b. cond (b && not (may_write rights)) (with_writable_of (entry_at old q at) false) (entry_at old q at))
    apart

pub ChangesOnlyAffected-reclaim : (owner : FilePage) (old new : Spaces)
    → EditsEntries (without_entries_of owner old) old new
    → ChangesOnlyAffected (Reclaim owner) old new
ChangesOnlyAffected-reclaim owner old new edits =
    λ q at apart. edits.entries q at ∙ by_place (is_place_of owner (place_at old q at)) (entry_at old q at) apart
  where
    by_place : (b : Bool) (e : Option Mapped) → (b && is_some e) ≡ false → cond b None e ≡ e
    by_place true None h = refl
    by_place true (Some e) h = cc
    by_place false e h = refl

-- a change of a file's length affects every page
pub ChangesOnlyAffected-set_length : (file length : ℕ) (old new : Spaces)
    → ChangesOnlyAffected (SetLength file length) old new
ChangesOnlyAffected-set_length file length old new = λ q at apart. cc

-- a checkpoint affects every page
pub ChangesOnlyAffected-checkpoint : (old new : Spaces) → ChangesOnlyAffected Checkpoint old new
ChangesOnlyAffected-checkpoint old new = λ q at apart. cc

-- ---- the pages that map a page of a file

-- exactly those whose place is that page
pub in_pages_mapping : (places : Places) (owner : FilePage) (at : ℕ)
    → Contains (pages_mapping places owner.file owner.page) at
    → is_place_of owner (maps.get places at) ≡ true
in_pages_mapping places owner at has =
    let m = in_map (λ (e : ℕ × Place). e.0)
    (filter (λ (e : ℕ × Place). e.1.file == owner.file && e.1.page == owner.page) (maps.entries places)) at has in
    let f =
    in_filter (λ (e : ℕ × Place). e.1.file == owner.file && e.1.page == owner.page) (maps.entries places) m.0 m.1 in
    ap (is_place_of owner) (ap (maps.get places) (sym m.2) ∙ in_entries places m.0 f.0) ∙ f.1

pub Contains-pages_mapping : (places : Places) (owner : FilePage) (at : ℕ)
    → is_place_of owner (maps.get places at) ≡ true
    → Contains (pages_mapping places owner.file owner.page) at
Contains-pages_mapping places owner at is = by_place (maps.get places at) refl is
  where
    by_place : (p : Option Place) → maps.get places at ≡ p → is_place_of owner p ≡ true
        → Contains (pages_mapping places owner.file owner.page) at
    by_place None none h = absurd (false≢true h)
    by_place (Some place) some h =
        Contains-map (λ (e : ℕ × Place). e.0)
        (filter (λ (e : ℕ × Place). e.1.file == owner.file && e.1.page == owner.page) (maps.entries places)) (at, place)
        (Contains-filter (λ (e : ℕ × Place). e.1.file == owner.file && e.1.page == owner.page) (maps.entries places)
        (at, place) (Contains-entries places at place some) h)

both : (a b : Bool) → a ≡ true → b ≡ true → (a && b) ≡ true
both a b h i = cc

both_left : (a b : Bool) → (a && b) ≡ true → a ≡ true
both_left true b h = refl
both_left false b h = h

both_right : (a b : Bool) → (a && b) ≡ true → b ≡ true
both_right true b h = h
both_right false b h = cc

-- exactly those that have a present entry, too
pub in_pages_with_entry : (space : AddressSpace) (owner : FilePage) (at : ℕ)
    → Contains (pages_with_entry space owner) at
    → (is_place_of owner (maps.get space.places at) && is_some (maps.get space.entries at)) ≡ true
in_pages_with_entry space owner at has =
    let f = in_filter (λ page. is_some (maps.get space.entries page))
    (pages_mapping space.places owner.file owner.page) at has in
    both _ _ (in_pages_mapping space.places owner at f.0) f.1

pub Contains-pages_with_entry : (space : AddressSpace) (owner : FilePage) (at : ℕ)
    → (is_place_of owner (maps.get space.places at) && is_some (maps.get space.entries at)) ≡ true
    → Contains (pages_with_entry space owner) at
Contains-pages_with_entry space owner at is =
    Contains-filter (λ page. is_some (maps.get space.entries page))
    (pages_mapping space.places owner.file owner.page) at
    (Contains-pages_mapping space.places owner at (both_left _ _ is)) (both_right _ _ is)

-- a space that is found is the one at its PCID
pub space_at_of : (m : Spaces) (q : ℕ) (s : AddressSpace) → maps.get m q ≡ Some s → space_at m q ≡ s
space_at_of m q s is = ap (λ o. unwrap_or o empty_space) is

-- the pages that are listed are exactly those with an entry of the page
pub in_entries_of : (m : Spaces) (owner : FilePage) (q at : ℕ) → Contains (entries_of m owner) (q, at)
    → has_entry_of m owner q at ≡ true
in_entries_of m owner q at has =
    let listed : ℕ × AddressSpace → List (ℕ × ℕ) = λ s. map (λ page. (s.0, page)) (pages_with_entry s.1 owner) in
    let s = in_flat_map listed (maps.entries m) (q, at) has in
    let p = in_map (λ (page : ℕ). (s.0.0, page)) (pages_with_entry s.0.1 owner) (q, at) s.2 in
    let key : s.0.0 ≡ q = ap (λ (e : ℕ × ℕ). e.0) p.2 in
    let page : p.0 ≡ at = ap (λ (e : ℕ × ℕ). e.1) p.2 in
    let here = space_at_of m s.0.0 s.0.1 (in_entries m s.0 s.1) in
    subst (λ k. has_entry_of m owner k at ≡ true) key
    (subst (λ k. has_entry_of m owner s.0.0 k ≡ true) page
    (subst (λ (x : AddressSpace).
    (is_place_of owner (maps.get x.places p.0) && is_some (maps.get x.entries p.0)) ≡ true)
    (sym here) (in_pages_with_entry s.0.1 owner p.0 p.1)))

pub Contains-entries_of : (m : Spaces) (owner : FilePage) (q at : ℕ) → has_entry_of m owner q at ≡ true
    → Contains (entries_of m owner) (q, at)
Contains-entries_of m owner q at has =
    let listed : ℕ × AddressSpace → List (ℕ × ℕ) = λ s. map (λ page. (s.0, page)) (pages_with_entry s.1 owner) in
    let there = some_from (maps.get m q) (has_space-place_at m q at (placed (place_at m q at) (both_left _ _ has))) in
    let here = space_at_of m q there.0 there.1 in
    Contains-flat_map listed (maps.entries m) (q, there.0) (q, at) (Contains-entries m q there.0 there.1)
    (Contains-map (λ (page : ℕ). (q, page)) (pages_with_entry there.0 owner) at
    (Contains-pages_with_entry there.0 owner at
    (subst (λ (x : AddressSpace). (is_place_of owner (maps.get x.places at) && is_some (maps.get x.entries at)) ≡ true)
    here has)))
  where
    placed : (p : Option Place) → is_place_of owner p ≡ true → IsSome p
    placed None h = h
    placed (Some place) h = refl

-- ---- what a change touches

-- a page that a change affects is in a space that it touches
pub touches_affected : (m : Spaces) (change : Change) (q at : ℕ) → affects m change q at ≡ true
    → touches m change q ≡ true
touches_affected m (Unmap pcid range) q at is = both_left _ _ is
touches_affected m (Protect pcid range rights) q at is = both_left _ _ is
touches_affected m (Reclaim owner) q at is =
    found (has_entry_of m owner q) (pages_mapping (space_at m q).places owner.file owner.page) at
    (Contains-pages_mapping (space_at m q).places owner at (both_left _ _ is)) is
touches_affected m (SetLength file length) q at is = refl
touches_affected m Checkpoint q at is = refl

-- a space that a reclaim touches has an entry of the page
pub affected_touches : (m : Spaces) (owner : FilePage) (q : ℕ) → touches m (Reclaim owner) q ≡ true
    → (at : ℕ) × (affects m (Reclaim owner) q at ≡ true)
affected_touches m owner q is =
    let it = find_in (has_entry_of m owner q) (pages_mapping (space_at m q).places owner.file owner.page) is in
    (it.0, it.2)

-- whether there is something in a list of pages
abbrev pub is_listed : List ℕ → Bool
is_listed [] = false
is_listed (page ∷ pages) = true

-- a reclaim touches a space that has pages with an entry of the page
pub is_touched : (m : Spaces) (owner : FilePage) (q : ℕ)
    → touches m (Reclaim owner) q ≡ is_listed (pages_with_entry (space_at m q) owner)
is_touched m owner q = by_pages (pages_with_entry (space_at m q) owner) refl
  where
    no_page : (at : ℕ) → pages_with_entry (space_at m q) owner ≡ [] → has_entry_of m owner q at ≡ true → ⊥
    no_page at none has =
        not_in_none at (subst (λ pages. Contains pages at) none (Contains-pages_with_entry (space_at m q) owner at has))

    by_test : (b : Bool) → touches m (Reclaim owner) q ≡ b → pages_with_entry (space_at m q) owner ≡ [] → b ≡ false
    by_test false is none = refl
    by_test true is none = let it = affected_touches m owner q is in absurd (no_page it.0 none it.1)

    by_pages : (pages : List ℕ) → pages_with_entry (space_at m q) owner ≡ pages
        → touches m (Reclaim owner) q ≡ is_listed pages
    by_pages [] none = by_test (touches m (Reclaim owner) q) refl none
    by_pages (page ∷ pages) some = touches_affected m (Reclaim owner) q page
        (in_pages_with_entry (space_at m q) owner page
        (subst (λ l. Contains l page) (sym some) (Contains-head page pages)))

-- and none that isn't there
pub touches_missing : (m : Spaces) (owner : FilePage) (q : ℕ) → space_at m q ≡ empty_space
    → touches m (Reclaim owner) q ≡ false
touches_missing m owner q none = by_test (touches m (Reclaim owner) q) refl
  where
    unplaced : (at : ℕ) → place_at m q at ≡ None
    unplaced at = ap (λ (x : AddressSpace). maps.get x.places at) none ∙ get-empty_places at

    by_test : (b : Bool) → touches m (Reclaim owner) q ≡ b → b ≡ false
    by_test false is = refl
    by_test true is =
        let it = affected_touches m owner q is in
        absurd (false≢true (sym (ap (is_place_of owner) (unplaced it.0)) ∙ both_left _ _ it.1))

-- what comes first of a list, if anything
pub gives_first : (pages : List ℕ) (r : Option ℕ) (rest : List ℕ) → YieldsFirst (λ (p : List ℕ). p) pages r rest
    → is_some r ≡ is_listed pages
gives_first pages None rest y = sym (ap is_listed y.0)
gives_first pages (Some page) rest y = sym (ap is_listed y)

-- What is made of each page that maps a page of a file by a present entry, space by space.
module _ {X : Type 0} (f : ℕ → ℕ → X) (m : Spaces) (owner : FilePage) where
  map-append : (pcid : ℕ) (pages : List ℕ) (rest : List (ℕ × ℕ))
      → map (λ e. f e.0 e.1) (map (λ page. (pcid, page)) pages ++ rest)
      ≡ map (f pcid) pages ++ map (λ e. f e.0 e.1) rest
  map-append pcid [] rest = refl
  map-append pcid (page ∷ pages) rest = ap (λ xs. f pcid page ∷ xs) (map-append pcid pages rest)
