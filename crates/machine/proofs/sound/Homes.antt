-- The home blocks of gathered pages: they rise strictly, lie in the volume, and are no more than the frames.
use Rattle.machine.proofs.Names.{ℕ, ◌≡◌, ◌≢◌, ◌+◌, ◌<◌, ◌≤◌, true, cond, List, [], ◌∷◌, length, take, map, get_or, set}
use Rattle.machine.proofs.Names.{Option, Some, None, is_some, refl, sym, ap, ◌∙◌, subst, inl, inr, ⊎_elim, arith, All}
use Rattle.machine.proofs.Names.{list_any, count_by, cases_eq, cases_lt, take-take, get_or-set_other, get_or_past}
use Rattle.machine.proofs.Names.{length-map, All-head, All-tail, FilePage, TableFile, first_home, pages_of, total_pages}
use Rattle.machine.proofs.Names.{block_count, geometry_of, RiseWithin, AreHomes, total_pages-take_more}
use Rattle.machine.proofs.Names.{total_pages-take_le, Frame, IsBefore, page_of, is_of_page, AreRising}
use Rattle.machine.proofs.Names.{has_page-list_any, list_any-has_page, AreRising-tail, before_each, is_in_memory, State}
use Rattle.machine.proofs.Names.{home_of, length_of, IsInFile, capacity_of, IsSound, sum_by-set, count_by-le-length}
use Rattle.machine.proofs.Names.{Bool, false, ◌++◌, lengths_blocks, mark_homes}
use Rattle.machine.proofs.sound.Lists.{held_frame, same_some}
use Rattle.history.proofs.Public.{capacity_at, total_pages-before, total_pages-within}

-- ---- where files lie

module _ (s : State) (within : (file : ℕ) → length_of s file ≤ capacity_of s file) where
  -- a page that begins before the end of its file has a block of the file
  pub page_below : (owner : FilePage) → IsInFile s owner → owner.page < pages_of (capacity_at s.table.files owner.file)
  page_below owner is = omega (arith, is.inside, within owner.file)

  -- the order of pages is that of their home blocks
  pub home-before : (a b : FilePage) → IsInFile s a → IsBefore a b → home_of s.table a < home_of s.table b
  home-before a b is (inl file) =
      omega (arith, total_pages-before s.table.files a.file b.file file is.there, page_below a is)
  home-before a b is (inr page) = let same = ap (λ i. total_pages (take i s.table.files)) page.0 in
      omega (arith, same, page.1)

  pub home-below : (owner : FilePage) → IsInFile s owner → home_of s.table owner < block_count s.table
  home-below owner is = omega (arith, total_pages-within s.table.files owner.file is.there, page_below owner is)

  -- two pages with one home block are one page
  pub same_home : (a b : FilePage) → IsInFile s a → IsInFile s b → home_of s.table a ≡ home_of s.table b → a ≡ b
  same_home a b is_a is_b same =
      ⊎_elim
      (λ file. let page : a.page ≡ b.page = omega (arith, same, ap (λ i. total_pages (take i s.table.files)) file) in
      λ i. record { file = file i; page = page i })
      (λ other. ⊎_elim
      (λ less. absurd (omega (arith, same, home-before a b is_a (inl less))))
      (λ more. absurd (let less : b.file < a.file = omega (arith, more, other) in
      omega (arith, same, home-before b a is_b (inl less))))
      (cases_lt a.file b.file)) (cases_eq a.file b.file)

  -- the home blocks of rising pages rise
  pub rising_homes : (pages : List FilePage) (low : ℕ) → AreRising pages → All (IsInFile s) pages
      → ((owner : FilePage) (rest : List FilePage) → pages ≡ owner ∷ rest → low ≤ home_of s.table owner)
      → RiseWithin low (block_count s.table) (map (home_of s.table) pages)
  rising_homes [] low rising all from = tt
  rising_homes (owner ∷ []) low rising all from =
      (from owner [] refl, home-below owner (All-head (IsInFile s) owner [] all), tt)
  rising_homes (owner ∷ next ∷ rest) low rising all from =
      let is = All-head (IsInFile s) owner (next ∷ rest) all in (
        from owner (next ∷ rest) refl,
        home-below owner is,
        rising_homes (next ∷ rest) (home_of s.table owner + 1) rising.1 (All-tail (IsInFile s) owner (next ∷ rest) all)
            (λ other others same. let less = home-before owner next is rising.0 in subst (λ (x : FilePage). home_of
            s.table owner + 1 ≤ home_of s.table x) (head_of next rest other others same) (omega (arith, less))),
      )
    where
      head_of : (x : FilePage) (xs : List FilePage) (y : FilePage) (ys : List FilePage) → x ∷ xs ≡ y ∷ ys → x ≡ y
      head_of x xs y ys e = cc

-- ---- how many pages there are in memory

before_itself : (a : FilePage) → IsBefore a a → ⊥
before_itself a (inl less) = omega arith
before_itself a (inr same) = let less = same.1 in omega arith

-- a place where something is is one of the list
below : (frames : List (Option Frame)) (k : ℕ) (f : Frame) → get_or frames k None ≡ Some f → k < length frames
below frames k f at = ⊎_elim (λ within. within) (λ past. absurd (let none = get_or_past frames k None past in cc))
    (cases_lt k (length frames))

-- pages that are all there are no more than what is in use
pub pages_few : (pages : List FilePage) (frames : List (Option Frame)) → AreRising pages
    → All (λ owner. list_any (is_of_page owner) frames ≡ true) pages → length pages ≤ count_by is_some frames
pages_few [] frames rising all = omega arith
pages_few (owner ∷ rest) frames rising all =
    let has = has_page-list_any frames owner (All-head (λ o. list_any (is_of_page o) frames ≡ true) owner rest all) in
    let k = has.number in
    let f = held_frame (get_or frames k None) owner has.holds in
    let within : k < length frames = below frames k f.0 f.1 in
    let fewer : length rest ≤ count_by is_some (set frames k None) =
    pages_few rest (set frames k None) (AreRising-tail owner rest rising) (λ j d in_rest.
    let other = get_or rest j d in
    let found = has_page-list_any frames other
    (All-tail (λ o. list_any (is_of_page o) frames ≡ true) owner rest all j d in_rest) in
    let apart : found.number ≢ k = λ same.
    let one : other ≡ owner = same_some (sym found.holds ∙ ap (λ n. page_of (get_or frames n None)) same ∙ has.holds) in
    before_itself owner (subst (IsBefore owner) one (before_each owner rest rising j d in_rest)) in
    list_any-has_page (set frames k None) other found.number
    (ap page_of (get_or-set_other frames k found.number None None apart) ∙ found.holds)) in
    let used : ◌≡◌ {A = ℕ} (cond (is_some (get_or frames k None)) 1 0) 1 =
    ap (λ (o : Option Frame). cond (is_some o) 1 0) f.1 in
    let counts = sum_by-set (λ (o : Option Frame). cond (is_some o) 1 0) frames k None None within in
    omega (arith, fewer, counts, used)

-- the home blocks of a batch
pub gathered_homes : (s : State) (pages : List FilePage) → IsSound s → AreRising pages → 0 < length pages
    → All (IsInFile s) pages → All (λ owner. is_in_memory s.hardware.memory owner ≡ true) pages
    → AreHomes (geometry_of s.table) (map (home_of s.table) pages)
gathered_homes s pages sound rising some in_files there = record {
  some = omega (arith, some, length-map pages (home_of s.table));
  few = omega (
    arith,
    pages_few pages s.hardware.memory.frames rising there,
    count_by-le-length is_some s.hardware.memory.frames,
    sound.memory.few_frames,
    length-map pages (home_of s.table),
  );
  rising = rising_homes s sound.within pages (first_home s.table.layout s.table.slots) rising in_files
      (λ owner rest same. omega arith);
}

-- with that of the lengths, if one was set
pub mark_homes_are : (s : State) (pages : List FilePage) → IsSound s → AreRising pages → 0 < length (mark_homes s pages)
    → All (IsInFile s) pages → All (λ owner. is_in_memory s.hardware.memory owner ≡ true) pages
    → AreHomes (geometry_of s.table) (mark_homes s pages)
mark_homes_are s pages sound rising some in_files there = by s.resized (λ set. (sound.write_outs.quiescent set).2) some
  where
    lengths_home : ℕ
    lengths_home = first_home s.table.layout s.table.slots

    few : length pages ≤ length s.hardware.memory.frames
    few = omega (
      arith,
      pages_few pages s.hardware.memory.frames rising there,
      count_by-le-length is_some s.hardware.memory.frames,
    )

    by : (set : Bool) → (set ≡ true → 0 < lengths_blocks s.table.layout)
        → 0 < length (cond set (lengths_home ∷ []) [] ++ map (home_of s.table) pages)
        → AreHomes (geometry_of s.table) (cond set (lengths_home ∷ []) [] ++ map (home_of s.table) pages)
    by true has some = record {
      some = some;
      few = omega (
        arith,
        has refl,
        few,
        sound.memory.few_frames,
        sound.fits.some_slots,
        length-map pages (home_of s.table),
      );
      rising = (
        omega arith,
        omega (arith, has refl),
        rising_homes s sound.within pages (lengths_home + 1) rising in_files
            (λ owner rest same. omega (arith, has refl)),
      );
    }
    by false has some = gathered_homes s pages sound rising
        (omega (arith, some, length-map pages (home_of s.table))) in_files there
