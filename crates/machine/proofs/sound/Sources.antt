-- The home blocks of a mark: that of the lengths before those of pages.
use Rattle.machine.proofs.Names.{ℕ, zero, suc, ◌≡◌, ◌<◌, ◌++◌, Bool, true}
use Rattle.machine.proofs.Names.{false, cond, leb, List, [], ◌∷◌, map, get_or}
use Rattle.machine.proofs.Names.{refl, ap, ◌∙◌, subst, inl, inr, arith, All, All-cons, All-map, Contains, filter}
use Rattle.machine.proofs.Names.{cases_Bool, cond-true, cond-false, false_from_ne_true, le-leb, leb-true}
use Rattle.machine.proofs.Names.{FilePage, FramesState, SuperValue, first_home, first_file_home, lengths_blocks, State}
use Rattle.machine.proofs.Names.{home_of, is_in_memory, mark_homes, file_homes, IsSource}
use Rattle.history.proofs.Public.{contains_cons}

-- ---- whether a home block is a file's

pub of_file : (table : SuperValue) (owner : FilePage)
    → leb (first_file_home table.layout table.slots) (home_of table owner) ≡ true
of_file table owner = le-leb (first_file_home table.layout table.slots) (home_of table owner) (omega arith)

pub of_lengths : (table : SuperValue) → 0 < lengths_blocks table.layout
    → leb (first_file_home table.layout table.slots) (first_home table.layout table.slots) ≡ false
of_lengths table some = false_from_ne_true
    (leb (first_file_home table.layout table.slots) (first_home table.layout table.slots))
    (λ e. let le = leb-true (first_file_home table.layout table.slots) (first_home table.layout table.slots) e in
    absurd (omega (arith, le, some)))

-- what a test keeps was there
pub filter_contains : (test : ℕ → Bool) (xs : List ℕ) (x : ℕ) → Contains (filter test xs) x → Contains xs x
filter_contains test [] x has = has
filter_contains test (y ∷ ys) x has = elim (cases_Bool (test y)) [
  | inl keeps ↦ by (λ there. filter_contains test ys x there)
      (subst (λ (l : List ℕ). Contains l x) (cond-true (test y) (y ∷ filter test ys) (filter test ys) keeps) has)
  | inr drops ↦ contains_cons y ys x (filter_contains test ys x
      (subst (λ (l : List ℕ). Contains l x) (cond-false (test y) (y ∷ filter test ys) (filter test ys) drops) has))
]
  where
    by : (Contains (filter test ys) x → Contains ys x) → Contains (y ∷ filter test ys) x → Contains (y ∷ ys) x
    by rest (zero, lt, is) = (zero, omega arith, is)
    by rest (suc k, lt, is) = contains_cons y ys x (rest (k, omega (arith, lt), is))

-- ---- those of pages among them

pub file_homes-pages : (table : SuperValue) (pages : List FilePage)
    → file_homes table (map (home_of table) pages) ≡ map (home_of table) pages
file_homes-pages table [] = refl
file_homes-pages table (owner ∷ pages) =
    cond-true (leb (first_file_home table.layout table.slots) (home_of table owner)) _ _ (of_file table owner)
    ∙ ap (λ (l : List ℕ). home_of table owner ∷ l) (file_homes-pages table pages)

-- the home blocks of a mark, whether a length was set or not
abbrev homes_with : SuperValue → Bool → List FilePage → List ℕ
homes_with table set pages = cond set (first_home table.layout table.slots ∷ []) [] ++ map (home_of table) pages

pub file_homes-mark : (s : State) (pages : List FilePage) → (s.resized ≡ true → 0 < lengths_blocks s.table.layout)
    → file_homes s.table (mark_homes s pages) ≡ map (home_of s.table) pages
file_homes-mark s pages some = by s.resized some
  where
    by : (set : Bool) → (set ≡ true → 0 < lengths_blocks s.table.layout)
        → file_homes s.table (homes_with s.table set pages) ≡ map (home_of s.table) pages
    by true some = cond-false (leb (first_file_home s.table.layout s.table.slots)
        (first_home s.table.layout s.table.slots)) _ _ (of_lengths s.table (some refl)) ∙ file_homes-pages s.table pages
    by false some = file_homes-pages s.table pages

-- ---- where nothing is written, nothing was set or gathered

pub none_written : (s : State) (pages : List FilePage) → mark_homes s pages ≡ [] → (s.resized ≡ false) × (pages ≡ [])
none_written s pages none = by s.resized pages none
  where
    by : (set : Bool) (pages : List FilePage) → homes_with s.table set pages ≡ [] → (set ≡ false) × (pages ≡ [])
    by true pages none = absurd (cc)
    by false [] none = (refl, refl)
    by false (owner ∷ pages) none = absurd (cc)

-- ---- sources

-- pages that stay in memory stay sources
pub source_stays : (table : SuperValue) (old new : FramesState) (home : ℕ)
    → ((owner : FilePage) → home ≡ home_of table owner → is_in_memory old owner ≡ true → is_in_memory new owner ≡ true)
    → IsSource table old home → IsSource table new home
source_stays table old new home stays (inl lengths) = inl lengths
source_stays table old new home stays (inr page) = inr (page.0, page.1, stays page.0 page.1 page.2)

pub mark_sources : (s : State) (memory : FramesState) (pages : List FilePage)
    → (s.resized ≡ true → 0 < lengths_blocks s.table.layout) → All (λ owner. is_in_memory memory owner ≡ true) pages
    → All (IsSource s.table memory) (mark_homes s pages)
mark_sources s memory pages some there = by s.resized some
  where
    of_pages : All (IsSource s.table memory) (map (home_of s.table) pages)
    of_pages = All-map (IsSource s.table memory) (home_of s.table) pages
        (λ k d within. inr (get_or pages k d, refl, there k d within))

    by : (set : Bool) → (set ≡ true → 0 < lengths_blocks s.table.layout)
        → All (IsSource s.table memory) (homes_with s.table set pages)
    by true some = All-cons (IsSource s.table memory) (first_home s.table.layout s.table.slots)
        (map (home_of s.table) pages) (inl (some refl, refl)) of_pages
    by false some = of_pages
