-- Entries that are taken away one after the other, and which they are where the pages map a page of a file.
use Rattle.std.proofs.Common.{◌≡◌, ℕ, suc, ◌||◌, Bool, true, false, cond, not, eqb, List, [], ◌∷◌, get_or}
use Rattle.std.proofs.Common.{All, Option, Some, None, IsSome, refl, sym, ap, ◌∙◌, subst, arith, Contains}
use Rattle.std.specs.List.{list_any}
use Rattle.std.specs.Ordering.{nat_cmp}
use Rattle.std.specs.Cmp.{nat_cmp_total, unsigned_tied}
use Rattle.std.specs.FinMap as maps
use Rattle.std.proofs.lemmas.Bool.Decides.{nat_tests}
use Rattle.std.proofs.lemmas.List.Elements.{Contains-get_or}
use Rattle.page_entry.specs.Entry.{Mapped}
use Rattle.page_entry.specs.declared.numbers.FilePage.{FilePage}
use Rattle.page_table.specs.Table.{TableState, is_grown, put_entry}
use Rattle.mappings.specs.declared.place.Place.{Place}
use Rattle.mappings.specs.Places.{Places, pages_mapping}
use Rattle.mappings.specs.State.{MappingsState}
use Rattle.spaces.specs.Changes.{is_place_of}
use Rattle.spaces.specs.inside.Slots.{HasRoom, without_entries, without_each}
use Rattle.spaces.proofs.Members.{found, find_in}
use Rattle.spaces.proofs.ChangeLaws.{in_pages_mapping, Contains-pages_mapping}

-- of these pages, those of `rest` are ahead
pub record ClearsEach (old : TableState) (pages : List ℕ) (table : TableState) (rest : List ℕ) : Type 0 where
  pub same_room : table.grown ≡ old.grown
  pub same_nodes : table.nodes ≡ old.nodes
  pub ahead : All (λ page. is_grown table page ≡ true) rest
  pub cleared : without_each table.entries rest ≡ without_each old.entries pages

pub clears_none : (old : TableState) (pages : List ℕ) → All (λ page. is_grown old page ≡ true) pages
    → ClearsEach old pages old pages
clears_none old pages grown = record { same_room = refl; same_nodes = refl; ahead = grown; cleared = refl }

pub clears_more : (old table new : TableState) (pages rest : List ℕ) (page : ℕ) (entry : Option Mapped)
    → ClearsEach old pages table (page ∷ rest) → entry ≡ None
    → new ≡ record table { entries = put_entry table.entries page entry }
    → ClearsEach old pages new rest
clears_more old table new pages rest page entry clears none is =
    let now : new ≡ record table { entries = maps.remove table.entries page } =
    is
    ∙ ap (λ e. record table { entries = put_entry table.entries page e }) none in
    record {
      same_room = ap (λ (t : TableState). t.grown) now ∙ clears.same_room;
      same_nodes = ap (λ (t : TableState). t.nodes) now ∙ clears.same_nodes;
      ahead = λ k d within.
          ap (λ (t : TableState). is_grown t (get_or rest k d)) now ∙ clears.ahead (suc k) d (omega arith);
      cleared = ap (λ (t : TableState). without_each t.entries rest) now ∙ clears.cleared;
    }

-- what is left at a page
get-without_each : (pages : List ℕ) (entries : maps.FinMap nat_cmp Mapped) (q : ℕ)
    → maps.get (without_each entries pages) q ≡ cond (list_any (eqb q) pages) None (maps.get entries q)
get-without_each [] entries q = refl
get-without_each (page ∷ pages) entries q =
    get-without_each pages (maps.remove entries page) q
    ∙ ap (cond (list_any (eqb q) pages) None)
    (maps.get-remove nat_cmp_total entries page q ∙ ap (λ b. cond b None (maps.get entries q)) (unsigned_tied q page))
    ∙ by_tests (eqb q page) (list_any (eqb q) pages) (maps.get entries q)
  where
    by_tests : (a b : Bool) (e : Option Mapped) → cond b None (cond a None e) ≡ cond (a || b) None e
    by_tests true true e = refl
    by_tests true false e = refl
    by_tests false b e = refl

pub get-without_entries : (places : Places) (owner : FilePage) (entries : maps.FinMap nat_cmp Mapped) (q : ℕ)
    → maps.get (without_entries places owner entries) q
    ≡ cond (is_place_of owner (maps.get places q)) None (maps.get entries q)
get-without_entries places owner entries q =
    maps.get-retain_keys entries (λ page. not (is_place_of owner (maps.get places page))) q
    (λ page tied.
    ap (λ p. not (is_place_of owner (maps.get places p))) (sym (maps.nat_cmp-IsAntisymmetric q page tied)))
    ∙ turned (is_place_of owner (maps.get places q)) (maps.get entries q)
  where
    turned : (b : Bool) (e : Option Mapped) → cond (not b) e None ≡ cond b None e
    turned true e = refl
    turned false e = refl

-- a page is among those that map a page of a file where its place is that page
any_mapping : (places : Places) (owner : FilePage) (q : ℕ)
    → list_any (eqb q) (pages_mapping places owner.file owner.page) ≡ is_place_of owner (maps.get places q)
any_mapping places owner q = both_ways _ _
    (λ any. let it = find_in (eqb q) (pages_mapping places owner.file owner.page) any in
    let e : it.0 ≡ q = grind (arith, nat_tests, it.2) in
    subst (λ k. is_place_of owner (maps.get places k) ≡ true) e (in_pages_mapping places owner it.0 it.1))
    (λ is. found (eqb q) (pages_mapping places owner.file owner.page) q (Contains-pages_mapping places owner q is)
    (grind (arith, nat_tests)))
  where
    both_ways : (a b : Bool) → (a ≡ true → b ≡ true) → (b ≡ true → a ≡ true) → a ≡ b
    both_ways true b f g = sym (f refl)
    both_ways false true f g = g refl
    both_ways false false f g = refl

-- without the pages that map a page of a file, none of its entries is left
pub without_each-pages_mapping : (places : Places) (owner : FilePage) (entries : maps.FinMap nat_cmp Mapped)
    → without_each entries (pages_mapping places owner.file owner.page) ≡ without_entries places owner entries
without_each-pages_mapping places owner entries = maps.same_map nat_cmp_total maps.nat_cmp-IsAntisymmetric _ _ (λ q.
    get-without_each (pages_mapping places owner.file owner.page) entries q
    ∙ ap (λ b. cond b None (maps.get entries q)) (any_mapping places owner q)
    ∙ sym (get-without_entries places owner entries q))

-- pages that map a page of a file have room for their entries
pub room_of_mapping : (table : TableState) (mappings : MappingsState) (owner : FilePage) (pages : List ℕ)
    → HasRoom table mappings → pages ≡ pages_mapping mappings.places owner.file owner.page
    → All (λ page. is_grown table page ≡ true) pages
room_of_mapping table mappings owner pages room is k d within =
    let page = get_or pages k d in
    room page (placed (maps.get mappings.places page)
    (in_pages_mapping mappings.places owner page (subst (λ l. Contains l page) is (Contains-get_or pages k d within))))
  where
    placed : (p : Option Place) → is_place_of owner p ≡ true → IsSome p
    placed None h = h
    placed (Some place) h = refl

-- the next page has room for its entry
pub clears_room : (old table : TableState) (pages rest : List ℕ) (page : ℕ) → ClearsEach old pages table (page ∷ rest)
    → is_grown table page ≡ true
clears_room old table pages rest page clears = clears.ahead 0 0 (omega arith)

-- nothing is ahead
pub clears_all : (old table : TableState) (pages : List ℕ) → ClearsEach old pages table []
    → table ≡ record old { entries = without_each old.entries pages }
clears_all old table pages clears =
    λ i. record { entries = clears.cleared i; grown = clears.same_room i; nodes = clears.same_nodes i }
