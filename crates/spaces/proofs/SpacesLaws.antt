-- What the spaces are after each update: whether a space is there, and what is at a page of one.
use Rattle.std.proofs.Common.{◌≡◌, ◌≢◌, ℕ, zero, suc, ◌+◌, ◌-◌, Bool, true, false, cond, not}
use Rattle.std.proofs.Common.{eqb, if◌then◌else◌, ◌==◌, ◌&&◌, ◌||◌, Option, Some, None, is_some}
use Rattle.std.proofs.Common.{IsSome, unwrap_or, refl, sym, ap, ◌∙◌, subst, inl, inr, arith}
use Rattle.std.specs.Option.{option_map}
use Rattle.std.specs.Ordering.{nat_cmp}
use Rattle.std.specs.Cmp.{nat_cmp_total, unsigned_tied}
use Rattle.std.specs.FinMap as maps
use Rattle.std.proofs.lemmas.Bool.{cases_eq, false≢true}
use Rattle.std.proofs.lemmas.Bool.Decides.{nat_tests}
use Rattle.page_entry.specs.Entry.{Mapped}
use Rattle.page_table.specs.Table.{put_entry, outside_range}
use Rattle.page_table.proofs.Entries.{get-put_entry, get-outside_range}
use Rattle.mappings.specs.declared.place.Place.{Place}
use Rattle.mappings.specs.declared.place.Rights.{Rights}
use Rattle.mappings.specs.declared.page_range.PageRange.{PageRange}
use Rattle.mappings.specs.Places.{advanced, is_among, with_range, without_range, any_mapped, all_mapped}
use Rattle.mappings.proofs.PlacesLaws.{get-with_range, get-without_range, get-with_rights}
use Rattle.spaces.specs.Spaces.{AddressSpace, Spaces, empty_space, has_space, space_at}
use Rattle.spaces.specs.Spaces.{entry_at, place_at, first_spaces, with_space, with_entry}
use Rattle.spaces.specs.Spaces.{with_mapping, without_mapping, EditsEntries, SetsRights}

-- two sets of spaces with the same space of each PCID are the same
pub same_spaces : (m n : Spaces) → ((q : ℕ) → maps.get m q ≡ maps.get n q) → m ≡ n
same_spaces m n each = maps.same_map nat_cmp_total maps.nat_cmp-IsAntisymmetric m n each

-- ---- a space that is made or replaced

module _ (m : Spaces) (n : ℕ) (s : AddressSpace) where
  pub get-with_space : (q : ℕ) → maps.get (with_space m n s) q ≡ cond (eqb q n) (Some s) (maps.get m q)
  get-with_space q =
      maps.get-insert nat_cmp_total m n s q
      ∙ ap (λ b. cond b (Some s) (maps.get m q)) (unsigned_tied q n)

  pub has_space-with_space : (q : ℕ) → has_space (with_space m n s) q ≡ (q == n || has_space m q)
  has_space-with_space q = ap is_some (get-with_space q) ∙ by_test (eqb q n)
    where
      by_test : (b : Bool) → is_some (cond b (Some s) (maps.get m q)) ≡ (b || is_some (maps.get m q))
      by_test true = refl
      by_test false = refl

  pub space_at-with_space : (q : ℕ) → space_at (with_space m n s) q ≡ (if q == n then s else space_at m q)
  space_at-with_space q = ap (λ o. unwrap_or o empty_space) (get-with_space q) ∙ by_test (eqb q n)
    where
      by_test : (b : Bool)
          → unwrap_or (cond b (Some s) (maps.get m q)) empty_space ≡ cond b s (unwrap_or (maps.get m q) empty_space)
      by_test true = refl
      by_test false = refl

  pub space_at-with_space_same : space_at (with_space m n s) n ≡ s
  space_at-with_space_same = grind (arith, nat_tests, space_at-with_space n)

  pub space_at-with_space_other : (q : ℕ) → q ≢ n → space_at (with_space m n s) q ≡ space_at m q
  space_at-with_space_other q other = grind (arith, nat_tests, space_at-with_space q)

  -- what of a space is another, where that of the one at n is another
  at_page : {X : Type 0} (part : AddressSpace → X) (q : ℕ)
      → part (space_at (with_space m n s) q) ≡ (if q == n then part s else part (space_at m q))
  at_page part q = ap part (space_at-with_space q) ∙ by_test (eqb q n)
    where
      by_test : (b : Bool) → part (cond b s (space_at m q)) ≡ cond b (part s) (part (space_at m q))
      by_test true = refl
      by_test false = refl

  pub entry_at-with_space : (q page : ℕ)
      → entry_at (with_space m n s) q page ≡ (if q == n then maps.get s.entries page else entry_at m q page)
  entry_at-with_space q page = at_page (λ x. maps.get x.entries page) q

  pub place_at-with_space : (q page : ℕ)
      → place_at (with_space m n s) q page ≡ (if q == n then maps.get s.places page else place_at m q page)
  place_at-with_space q page = at_page (λ x. maps.get x.places page) q

-- nothing is mapped in a space that maps nothing
pub get-empty_entries : (page : ℕ) → maps.get empty_space.entries page ≡ None
get-empty_entries page = maps.get-empty nat_cmp page

pub get-empty_places : (page : ℕ) → maps.get empty_space.places page ≡ None
get-empty_places page = maps.get-empty nat_cmp page

-- no page of a range is mapped there, and each page only of a range without pages
pub any_mapped-empty : (first count : ℕ) → any_mapped empty_space.places first count ≡ false
any_mapped-empty first zero = refl
any_mapped-empty first (suc count) =
    ap (λ o. is_some o || any_mapped empty_space.places (first + 1) count) (get-empty_places first)
    ∙ any_mapped-empty (first + 1) count

pub all_mapped-empty : (first count : ℕ) → all_mapped empty_space.places first count ≡ (count == 0)
all_mapped-empty first zero = refl
all_mapped-empty first (suc count) =
    let other : eqb (suc count) 0 ≡ false = grind (arith, nat_tests) in
    ap (λ o. is_some o && all_mapped empty_space.places (first + 1) count) (get-empty_places first) ∙ sym other

-- ---- space 0 alone

pub has_space-first_spaces : (q : ℕ) → has_space first_spaces q ≡ (q == 0)
has_space-first_spaces q =
    has_space-with_space maps.empty 0 empty_space q
    ∙ ap (λ o. q == 0 || is_some o) (maps.get-empty nat_cmp q)
    ∙ or_false (eqb q 0)
  where
    or_false : (b : Bool) → (b || false) ≡ b
    or_false true = refl
    or_false false = refl

-- no PCID leads to a space that maps something
space_at-first_spaces : (q : ℕ) → space_at first_spaces q ≡ empty_space
space_at-first_spaces q =
    space_at-with_space maps.empty 0 empty_space q
    ∙ ap (λ o. if q == 0 then empty_space else unwrap_or o empty_space) (maps.get-empty nat_cmp q)
    ∙ either (eqb q 0)
  where
    either : (b : Bool) → cond b empty_space empty_space ≡ empty_space
    either true = refl
    either false = refl

pub entry_at-first_spaces : (q page : ℕ) → entry_at first_spaces q page ≡ None
entry_at-first_spaces q page = ap (λ x. maps.get x.entries page) (space_at-first_spaces q) ∙ get-empty_entries page

pub place_at-first_spaces : (q page : ℕ) → place_at first_spaces q page ≡ None
place_at-first_spaces q page = ap (λ x. maps.get x.places page) (space_at-first_spaces q) ∙ get-empty_places page

-- ---- a space that is made where none was

-- a space that isn't there maps nothing
pub space_at-missing : (m : Spaces) (n : ℕ) → has_space m n ≡ false → space_at m n ≡ empty_space
space_at-missing m n none = by_get (maps.get m n) none
  where
    by_get : (o : Option AddressSpace) → is_some o ≡ false → unwrap_or o empty_space ≡ empty_space
    by_get None h = refl
    by_get (Some s) h = cc

module _ (m : Spaces) (n : ℕ) (free : has_space m n ≡ false) where
  space_at-create : (q : ℕ) → space_at (with_space m n empty_space) q ≡ space_at m q
  space_at-create q = elim (cases_eq q n) [
    | inl same ↦ subst (λ k. space_at (with_space m n empty_space) k ≡ space_at m k) (sym same)
        (space_at-with_space_same m n empty_space ∙ sym (space_at-missing m n free))
    | inr other ↦ space_at-with_space_other m n empty_space q other
  ]

  pub entry_at-create : (q page : ℕ) → entry_at (with_space m n empty_space) q page ≡ entry_at m q page
  entry_at-create q page = ap (λ x. maps.get x.entries page) (space_at-create q)

  pub place_at-create : (q page : ℕ) → place_at (with_space m n empty_space) q page ≡ place_at m q page
  place_at-create q page = ap (λ x. maps.get x.places page) (space_at-create q)

-- ---- a space that is removed

module _ (m : Spaces) (n : ℕ) where
  pub get-remove : (q : ℕ) → maps.get (maps.remove m n) q ≡ cond (eqb q n) None (maps.get m q)
  get-remove q = maps.get-remove nat_cmp_total m n q ∙ ap (λ b. cond b None (maps.get m q)) (unsigned_tied q n)

  pub has_space-remove : (q : ℕ) → has_space (maps.remove m n) q ≡ (not (q == n) && has_space m q)
  has_space-remove q = ap is_some (get-remove q) ∙ by_test (eqb q n)
    where
      by_test : (b : Bool) → is_some (cond b None (maps.get m q)) ≡ (not b && is_some (maps.get m q))
      by_test true = refl
      by_test false = refl

  pub space_at-remove : (q : ℕ) → space_at (maps.remove m n) q ≡ (if q == n then empty_space else space_at m q)
  space_at-remove q = ap (λ o. unwrap_or o empty_space) (get-remove q) ∙ by_test (eqb q n)
    where
      by_test : (b : Bool)
          → unwrap_or (cond b None (maps.get m q)) empty_space
          ≡ cond b empty_space (unwrap_or (maps.get m q) empty_space)
      by_test true = refl
      by_test false = refl

  at-remove : {X : Type 0} (at : AddressSpace → Option X) → at empty_space ≡ None → (q : ℕ)
      → at (space_at (maps.remove m n) q) ≡ (if q == n then None else at (space_at m q))
  at-remove at none q = ap at (space_at-remove q) ∙ by_test (eqb q n)
    where
      by_test : (b : Bool) → at (cond b empty_space (space_at m q)) ≡ cond b None (at (space_at m q))
      by_test true = none
      by_test false = refl

  pub entry_at-remove : (q page : ℕ) → entry_at (maps.remove m n) q page ≡ (if q == n then None else entry_at m q page)
  entry_at-remove q page = at-remove (λ (x : AddressSpace). maps.get x.entries page) (get-empty_entries page) q

  pub place_at-remove : (q page : ℕ) → place_at (maps.remove m n) q page ≡ (if q == n then None else place_at m q page)
  place_at-remove q page = at-remove (λ (x : AddressSpace). maps.get x.places page) (get-empty_places page) q

-- ---- an entry that is set

-- one of two things at a page of a space, told first by the PCID and then by the page
nested : {X : Type 0} (a b : Bool) (x y : X) → cond a (cond b x y) y ≡ (if a && b then x else y)
nested true b x y = refl
nested false b x y = refl

-- where the PCIDs are the same, so is what is at a page of each
here_or_there : {X : Type 0} (q n : ℕ) (at : ℕ → X) (x : X → X)
    → cond (eqb q n) (x (at n)) (at q) ≡ cond (eqb q n) (x (at q)) (at q)
here_or_there q n at x = elim (eqb q n) as (λ b. eqb q n ≡ b → cond b (x (at n)) (at q) ≡ cond b (x (at q)) (at q)) [
  | true ↦ λ same. let e : n ≡ q = grind (arith, nat_tests) in ap (λ k. x (at k)) e
  | false ↦ λ other. refl
] refl

module _ {X : Type 0} (q n : ℕ) (at : ℕ → X) where
  -- what is at a page of the spaces after one was replaced by another that differs at some pages
  at_replaced : (differs : Bool) (other new now : X) → now ≡ cond (eqb q n) new (at q)
      → new ≡ cond differs other (at n) → now ≡ (if q == n && differs then other else at q)
  at_replaced differs other new now is changed =
      is
      ∙ ap (λ x. cond (eqb q n) x (at q)) changed
      ∙ here_or_there q n at (cond differs other)
      ∙ nested (eqb q n) differs other (at q)

  -- and where it differs at none
  at_same : {now : X} → now ≡ cond (eqb q n) (at n) (at q) → now ≡ at q
  at_same is = is ∙ here_or_there q n at (λ x. x) ∙ either (eqb q n)
    where
      either : (b : Bool) → cond b (at q) (at q) ≡ at q
      either true = refl
      either false = refl

-- a space that is there stays when it is replaced
pub has_space-with_space_there : (m : Spaces) (n : ℕ) (s : AddressSpace) → has_space m n ≡ true → (q : ℕ)
    → has_space (with_space m n s) q ≡ has_space m q
has_space-with_space_there m n s there q =
    has_space-with_space m n s q
    ∙ (elim (eqb q n) as (λ b. eqb q n ≡ b → (b || has_space m q) ≡ has_space m q) [
      | true ↦ λ same. let e : n ≡ q = grind (arith, nat_tests) in sym there ∙ ap (has_space m) e
      | false ↦ λ other. refl
    ] refl)

-- and where it is replaced by itself, nothing changes
pub with_space-itself : (m : Spaces) (n : ℕ) → has_space m n ≡ true → with_space m n (space_at m n) ≡ m
with_space-itself m n there = same_spaces _ m (λ q. get-with_space m n (space_at m n) q ∙ by_test q (eqb q n) refl)
  where
    some_of : (o : Option AddressSpace) → is_some o ≡ true → Some (unwrap_or o empty_space) ≡ o
    some_of None h = absurd (false≢true h)
    some_of (Some s) h = refl

    by_test : (q : ℕ) (b : Bool) → eqb q n ≡ b → cond b (Some (space_at m n)) (maps.get m q) ≡ maps.get m q
    by_test q true same = let e : n ≡ q = grind (arith, nat_tests) in some_of (maps.get m n) there ∙ ap (maps.get m) e
    by_test q false other = refl

-- a space that maps something is there
pub has_space-place_at : (m : Spaces) (n page : ℕ) → IsSome (place_at m n page) → has_space m n ≡ true
has_space-place_at m n page some = elim (has_space m n) as (λ b. has_space m n ≡ b → b ≡ true) [
  | true ↦ λ _. refl
  | false ↦ λ none. absurd (false≢true (subst IsSome
      (ap (λ x. maps.get x.places page) (space_at-missing m n none) ∙ get-empty_places page) some))
] refl

module _ (m : Spaces) (n page : ℕ) (entry : Option Mapped) where
  pub entry_at-with_entry : (q at : ℕ)
      → entry_at (with_entry m n page entry) q at ≡ (if q == n && at == page then entry else entry_at m q at)
  entry_at-with_entry q at =
      at_replaced q n (λ k. entry_at m k at) (eqb at page) entry _ _
      (entry_at-with_space m n (record (space_at m n) { entries = put_entry (space_at m n).entries page entry }) q at)
      (get-put_entry (space_at m n).entries page entry at)

  pub place_at-with_entry : (q at : ℕ) → place_at (with_entry m n page entry) q at ≡ place_at m q at
  place_at-with_entry q at =
      at_same q n (λ k. place_at m k at)
      (place_at-with_space m n (record (space_at m n) { entries = put_entry (space_at m n).entries page entry }) q at)

  pub places-with_entry : (q : ℕ) → (space_at (with_entry m n page entry) q).places ≡ (space_at m q).places
  places-with_entry q =
      at_same q n (λ k. (space_at m k).places)
      (at_page m n (record (space_at m n) { entries = put_entry (space_at m n).entries page entry }) (λ x. x.places) q)

  pub has_space-with_entry : has_space m n ≡ true → (q : ℕ) → has_space (with_entry m n page entry) q ≡ has_space m q
  has_space-with_entry there q = has_space-with_space_there m n _ there q

-- ---- pages that are mapped

module _ (m : Spaces) (n : ℕ) (range : PageRange) (place : Place) where
  pub entry_at-with_mapping : (q at : ℕ) → entry_at (with_mapping m n range place) q at ≡ entry_at m q at
  entry_at-with_mapping q at =
      at_same q n (λ k. entry_at m k at) (entry_at-with_space m n
      (record (space_at m n) { places = with_range (space_at m n).places range.first range.count place }) q at)

  pub place_at-with_mapping : (q at : ℕ)
      → place_at (with_mapping m n range place) q at ≡ (if q == n && is_among range.first range.count at
      then Some (advanced place (at - range.first)) else place_at m q at)
  place_at-with_mapping q at =
      at_replaced q n (λ k. place_at m k at) (is_among range.first range.count at) _ _ _
      (place_at-with_space m n
      (record (space_at m n) { places = with_range (space_at m n).places range.first range.count place }) q at)
      (get-with_range (space_at m n).places range.first range.count place at)

  pub has_space-with_mapping : has_space m n ≡ true → (q : ℕ)
      → has_space (with_mapping m n range place) q ≡ has_space m q
  has_space-with_mapping there q = has_space-with_space_there m n _ there q

-- ---- pages that are unmapped

module _ (m : Spaces) (n : ℕ) (range : PageRange) where
  -- the space without these pages
  abbrev unmapped : AddressSpace
  unmapped = record {
    entries = outside_range (space_at m n).entries range.first (range.first + range.count);
    places = without_range (space_at m n).places range.first range.count;
  }

  -- what is at a page
  at-without_mapping : {X : Type 0} (at : AddressSpace → Option X) (q page : ℕ)
      → at unmapped ≡ cond (is_among range.first range.count page) None (at (space_at m n))
      → at (space_at (without_mapping m n range) q)
      ≡ (if q == n && is_among range.first range.count page then None else at (space_at m q))
  at-without_mapping at q page gone =
      at_replaced q n (λ k. at (space_at m k)) (is_among range.first range.count page) None _ _
      (at_page m n unmapped at q) gone

  pub entry_at-without_mapping : (q at : ℕ)
      → entry_at (without_mapping m n range) q at
      ≡ (if q == n && is_among range.first range.count at then None else entry_at m q at)
  entry_at-without_mapping q at =
      at-without_mapping (λ x. maps.get x.entries at) q at
      (get-outside_range (space_at m n).entries range.first (range.first + range.count) at)

  pub place_at-without_mapping : (q at : ℕ)
      → place_at (without_mapping m n range) q at
      ≡ (if q == n && is_among range.first range.count at then None else place_at m q at)
  place_at-without_mapping q at =
      at-without_mapping (λ x. maps.get x.places at) q at
      (get-without_range (space_at m n).places range.first range.count at)

  pub has_space-without_mapping : has_space m n ≡ true → (q : ℕ)
      → has_space (without_mapping m n range) q ≡ has_space m q
  has_space-without_mapping there q = has_space-with_space_there m n _ there q

-- ---- entries that are edited

-- what is mapped stays
pub place_at-EditsEntries : (edit : ℕ → ℕ → Option Mapped → Option Mapped) (old new : Spaces)
    → EditsEntries edit old new → (q at : ℕ)
    → place_at new q at ≡ place_at old q at
place_at-EditsEntries edit old new edits q at = ap (λ places. maps.get places at) (edits.same_places q)

-- ---- pages that get rights

-- a place with other rights
abbrev pub with_rights_of : Rights → Place → Place
with_rights_of rights place = record place { rights = rights }

-- what a page maps is the same but for the rights of those in the range
pub place_at-SetsRights : (pcid : ℕ) (range : PageRange) (rights : Rights) (old new : Spaces)
    → SetsRights pcid range rights old new → (q at : ℕ)
    → place_at new q at ≡ (if q == pcid && is_among range.first range.count at
    then option_map (with_rights_of rights) (place_at old q at) else place_at old q at)
place_at-SetsRights pcid range rights old new sets q at = elim (cases_eq q pcid) [
  | inl same ↦
      subst (λ k. place_at new k at ≡ cond (eqb k pcid && is_among range.first range.count at)
      (option_map (with_rights_of rights) (place_at old k at)) (place_at old k at)) (sym same)
      (ap (λ places. maps.get places at) sets.rights_set
      ∙ get-with_rights (space_at old pcid).places range.first range.count rights at
      ∙ by_test (eqb pcid pcid) (grind (arith, nat_tests)) (is_among range.first range.count at) (place_at old pcid at))
  | inr other ↦ ap (λ places. maps.get places at) (sets.other_places q other)
      ∙ untouched (eqb q pcid) (grind (arith, nat_tests)) _ _ _
]
  where
    by_test : (a : Bool) → a ≡ true → (b : Bool) (p : Option Place)
        → option_map (λ place. cond b (with_rights_of rights place) place) p
        ≡ cond (a && b) (option_map (with_rights_of rights) p) p
    by_test true h true p = refl
    by_test true h false None = refl
    by_test true h false (Some place) = refl
    by_test false h b p = cc

    untouched : (a : Bool) → a ≡ false → (b : Bool) (x y : Option Place) → y ≡ cond (a && b) x y
    untouched false h b x y = refl
    untouched true h b x y = cc
