-- The pages of a file, one after the other, and their rows.
use Rattle.std.proofs.Common.{◌≡◌, ◌<◌, ◌≤◌, ◌⊎◌, inl, inr, ⊎_elim, ℕ, zero, suc, add-one, ◌+◌}
use Rattle.std.proofs.Common.{◌-◌, ◌*◌, min, List, [], ◌++◌, length, take, drop, Option, refl, sym, ◌∙◌}
use Rattle.std.proofs.Common.{ap, subst, arith, length-drop, length-take, append-nil, append_assoc, slice_range}
use Rattle.std.proofs.lemmas.Bool.{cases_lt}
use Rattle.std.proofs.lemmas.List.{take_min, take_all, drop-drop, drop_all, take-take, drop-take}
use Rattle.std.specs.Io.KnownBytes.{Appends}
use Rattle.volume_codec.specs.Layout.{block_at}
use Rattle.volume_reading.specs.Rows.{shown, row_of, rows_text, row_count}
use Rattle.volume_reading.specs.Reading.{part_of, pages_text, page_count}
use Rattle.volume_reading.specs.inside.Pages.{rows_at}
use Rattle.volume_reading.proofs.Appending.{appends_both}

-- row k of page p is row 256 p + k
row_of_page : (bytes : List ℕ) (p k : ℕ) → k < 256 → row_of (part_of bytes p) k ≡ row_of bytes (256 * p + k)
row_of_page bytes p k lt =
    let xs = drop (4096 * p) bytes in
    let rest = 4096 - 16 * k in
    let split : 4096 ≡ 16 * k + rest = omega (arith, lt) in
    ap (λ n. take 16 (drop (16 * k) (take n xs))) split
    ∙ ap (take 16) (drop-take (16 * k) rest xs)
    ∙ take-take 16 rest (drop (16 * k) xs) (omega (arith, lt))
    ∙ ap (take 16) (drop-drop (16 * k) (4096 * p) bytes)
    ∙ ap (λ n. take 16 (drop n bytes)) (omega arith)

-- the rows before page p, and k rows of it
pub rows_of_page : (row : ℕ → List ℕ → List ℕ) (bytes : List ℕ) (p k : ℕ) → k ≤ 256
    → rows_text row bytes (256 * p) ++ rows_at row (4096 * p) (part_of bytes p) k ≡ rows_text row bytes (256 * p + k)
rows_of_page row bytes p zero le =
    let none : 256 * p ≡ 256 * p + zero = omega arith in
    append-nil (rows_text row bytes (256 * p)) ∙ ap (rows_text row bytes) none
rows_of_page row bytes p (suc k) le =
    let n = 256 * p + k in
    let page = part_of bytes p in
    let place : 4096 * p + 16 * k ≡ 16 * n = omega arith in
    let more : suc n ≡ 256 * p + suc k = omega arith in
    sym (append_assoc (rows_text row bytes (256 * p)) (rows_at row (4096 * p) page k)
    (shown row (4096 * p + 16 * k) (row_of page k)))
    ∙ ap (λ (l : List ℕ). l ++ shown row (4096 * p + 16 * k) (row_of page k))
    (rows_of_page row bytes p k (omega (arith, le)))
    ∙ ap (λ at. rows_text row bytes n ++ shown row at (row_of page k)) place
    ∙ ap (λ (r : List ℕ). rows_text row bytes n ++ shown row (16 * n) r) (row_of_page bytes p k (omega (arith, le)))
    ∙ ap (rows_text row bytes) more

-- past the end there are no rows
pub rows_past : (row : ℕ → List ℕ → List ℕ) (bytes : List ℕ) (m j : ℕ) → length bytes ≤ 16 * m
    → rows_text row bytes (m + j) ≡ rows_text row bytes m
rows_past row bytes m zero le = let none : m + zero ≡ m = omega arith in ap (rows_text row bytes) none
rows_past row bytes m (suc j) le =
    let n = m + j in
    let more : m + suc j ≡ suc n = omega arith in
    let none : row_of bytes n ≡ [] = ap (take 16) (drop_all (16 * n) bytes (omega (arith, le))) in
    ap (rows_text row bytes) more
    ∙ ap (λ (r : List ℕ). rows_text row bytes n ++ shown row (16 * n) r) none
    ∙ append-nil (rows_text row bytes n)
    ∙ rows_past row bytes m j le

-- the bytes that are read for a page
pub page_read : (xs : List ℕ) (page n part : ℕ) → length xs ≡ n → 4096 * page < n → part ≡ min (n - 4096 * page) 4096
    → slice_range xs (4096 * page) (4096 * page + part) ≡ part_of xs page
page_read xs page n part long below is =
    let few : 4096 * page + part - 4096 * page ≡ min 4096 (length (drop (4096 * page) xs)) =
    omega (arith, is, length-drop (4096 * page) xs, long) in
    ap (λ k. take k (drop (4096 * page) xs)) few ∙ take_min 4096 (drop (4096 * page) xs)

-- the rows up to the page after this one
rows_to_next : (row : ℕ → List ℕ → List ℕ) (bytes : List ℕ) (p k : ℕ) → k ≤ 256
    → (k ≡ 256) ⊎ (length bytes ≤ 16 * (256 * p + k))
    → rows_text row bytes (256 * p + k) ≡ rows_text row bytes (256 * (p + 1))
rows_to_next row bytes p k le end = ⊎_elim
    (λ (full : k ≡ 256). let same : 256 * p + k ≡ 256 * (p + 1) = omega (arith, full) in ap (rows_text row bytes) same)
    (λ (past : length bytes ≤ 16 * (256 * p + k)).
    let same : (256 * p + k) + (256 - k) ≡ 256 * (p + 1) = omega (arith, le) in
    sym (rows_past row bytes (256 * p + k) (256 - k) past) ∙ ap (rows_text row bytes) same)
    end

-- all rows
rows_all : (row : ℕ → List ℕ → List ℕ) (bytes : List ℕ) (n pages : ℕ) → length bytes ≡ n → n ≤ 4096 * pages
    → rows_text row bytes (256 * pages) ≡ rows_text row bytes (row_count n)
rows_all row bytes n pages long past =
    let split : 256 * pages ≡ row_count n + (256 * pages - row_count n) = omega (arith, past) in
    ap (rows_text row bytes) split ∙ rows_past row bytes (row_count n) (256 * pages - row_count n) (omega (arith, long))

-- one page more
pub page_more : (text : ℕ → List ℕ → List ℕ) (old mid new : Option (List ℕ)) (bytes : List ℕ) (p : ℕ) (part : List ℕ)
    → part ≡ part_of bytes p → Appends old mid (pages_text text bytes p) → Appends mid new (text (4096 * p) part)
    → Appends old new (pages_text text bytes (p + 1))
page_more text old mid new bytes p part is before this =
    let P : List ℕ → Type 0 = λ page. Appends mid new (text (4096 * p) page) in
    let Q : List ℕ → Type 0 = λ all. Appends old new all in
    subst Q (ap (pages_text text bytes) (sym (add-one p))) (appends_both old mid new (pages_text text bytes p)
    (text (4096 * p) (part_of bytes p)) before (subst P is this))

-- the rows of a page
abbrev pub page_rows : (ℕ → List ℕ → List ℕ) → ℕ → List ℕ → List ℕ
page_rows row at page = rows_at row at page (row_count (length page))

-- the rows of the pages before page p
rows_of_pages : (row : ℕ → List ℕ → List ℕ) (bytes : List ℕ) (n p : ℕ) → length bytes ≡ n → 4096 * p < n + 4096
    → pages_text (page_rows row) bytes p ≡ rows_text row bytes (256 * p)
rows_of_pages row bytes n zero long below = refl
rows_of_pages row bytes n (suc p) long below =
    let part = part_of bytes p in
    let k = row_count (length part) in
    let size : length part ≡ min (n - 4096 * p) 4096 =
    omega (arith, length-take 4096 (drop (4096 * p) bytes), length-drop (4096 * p) bytes, long) in
    let some : k ≤ 256 = omega (arith, size) in
    let next : 256 * (p + 1) ≡ 256 * suc p = omega arith in
    let end : (k ≡ 256) ⊎ (length bytes ≤ 16 * (256 * p + k)) = ⊎_elim
    (λ (full : 4096 * p + 4096 < n). inl (omega (arith, full, size)))
    (λ (last : n ≤ 4096 * p + 4096). inr (omega (arith, last, size, below, long)))
    (cases_lt (4096 * p + 4096) n) in
    ap (λ (front : List ℕ). front ++ rows_at row (4096 * p) part k)
    (rows_of_pages row bytes n p long (omega (arith, below)))
    ∙ rows_of_page row bytes p k some ∙ rows_to_next row bytes p k some end ∙ ap (rows_text row bytes) next

-- the rows of all pages
pub rows_of_all_pages : (row : ℕ → List ℕ → List ℕ) (bytes : List ℕ) (n : ℕ) → length bytes ≡ n
    → pages_text (page_rows row) bytes (page_count n) ≡ rows_text row bytes (row_count n)
rows_of_all_pages row bytes n long =
    rows_of_pages row bytes n (page_count n) long (omega arith) ∙ rows_all row bytes n (page_count n) long (omega arith)

-- a row of a page, as it is cut out of it
pub row_cut : (bytes : List ℕ) (n to : ℕ) → 16 * n < length bytes → to ≡ min (length bytes) (16 * n + 16)
    → slice_range bytes (16 * n) to ≡ row_of bytes n
row_cut bytes n to below is =
    let few : to - 16 * n ≡ min 16 (length (drop (16 * n) bytes)) =
    omega (arith, is, length-drop (16 * n) bytes, below) in
    ap (λ k. take k (drop (16 * n) bytes)) few ∙ take_min 16 (drop (16 * n) bytes)

-- one row more
pub row_more_at : (row : ℕ → List ℕ → List ℕ) (old mid new : Option (List ℕ)) (at : ℕ) (bytes part : List ℕ) (n : ℕ)
    → part ≡ row_of bytes n → Appends old mid (rows_at row at bytes n)
    → Appends mid new (shown row (at + 16 * n) part) → Appends old new (rows_at row at bytes (n + 1))
row_more_at row old mid new at bytes part n is before this =
    let P : List ℕ → Type 0 = λ (r : List ℕ). Appends mid new (shown row (at + 16 * n) r) in
    let Q : List ℕ → Type 0 = λ text. Appends old new text in
    subst Q (ap (rows_at row at bytes) (sym (add-one n))) (appends_both old mid new (rows_at row at bytes n)
    (shown row (at + 16 * n) (row_of bytes n)) before (subst P is this))

-- a part of a block that is read is the page that the block begins with
pub page_read_at : (bytes : List ℕ) (block left n : ℕ) (read page : List ℕ) → n ≡ min left 4096
    → read ≡ slice_range bytes (4096 * block) (4096 * block + n) → page ≡ take left (block_at bytes block)
    → read ≡ page
page_read_at bytes block left n read page room is_read is_page =
    let xs = drop (4096 * block) bytes in
    let rest : 4096 * block + n - 4096 * block ≡ n = omega arith in
    let cut : take n xs ≡ take left (take 4096 xs) = elim (cases_lt left 4096) [
      | inl short ↦
          let few : n ≡ left = omega (arith, room, short) in
          ap (λ k. take k xs) few ∙ sym (take-take left 4096 xs (omega (arith, short)))
      | inr long ↦
          let all : n ≡ 4096 = omega (arith, room, long) in
          ap (λ k. take k xs) all ∙ sym (take_all left (take 4096 xs) (omega (arith, long, length-take 4096 xs)))
    ] in
    is_read ∙ ap (λ k. take k xs) rest ∙ cut ∙ sym is_page
