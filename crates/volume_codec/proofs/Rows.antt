-- The files that a map from names to places holds.
use Rattle.std.proofs.Common.{◌≡◌, ◌≢◌, ℕ, zero, suc, ◌+◌, ◌<◌, ◌≤◌, Bool, true, false, cond, List, [], ◌∷◌}
use Rattle.std.proofs.Common.{◌++◌, length, take, map, get_or, slice_get, slice_index, option_map, Option}
use Rattle.std.proofs.Common.{Some, None, String, string_bytes, string_eq, refl, sym, ap, subst, ◌∙◌, arith}
use Rattle.std.specs.List.{AllByRecursion}
use Rattle.std.proofs.lemmas.List.{map_push, map_more, length-map, get_or-map, take-map}
use Rattle.std.proofs.lemmas.Option.{slice_get-map}
use Rattle.std.proofs.lemmas.Slice.Eq.{bytes_eq-Decides}
use Rattle.std.specs.HashMap.{HashMap, get}
use Rattle.std.specs.Map.{lookup}
use Rattle.indexmap.proofs.CallerLemmas.{insert_entry-new}
use Rattle.indexmap.specs.IndexMap.{insert_entry}
use Rattle.volume_codec.specs.declared.file_spec.FileSpec.{FileSpec}
use Rattle.volume_codec.specs.declared.super_block.Extent.{Extent}
use Rattle.volume_codec.specs.Files.{TableFile}
use Rattle.volume_codec.specs.Super.{AreDistinct, total_pages, pages_of}
use Rattle.volume_codec.specs.inside.Tables.{rows_of, homes_of, homes_from, files_asked_for, names_of}
use Rattle.volume_codec.proofs.TableLemmas.{names_of-files_of}
use Rattle.volume_codec.proofs.Places.{homes_from-push, total_pages-push, total_pages-take_le}

abbrev pub file_of : FileSpec → TableFile
file_of f = record { name = f.name.now; capacity = f.capacity }

abbrev pub row : {Z : Type 0} → String Z × Extent → TableFile
row r = record { name = string_bytes r.0; capacity = r.1.capacity }

-- the file at a place
pub row_at : {Z : Type 0} (rows : List (String Z × Extent)) (i : ℕ) (r : String Z × Extent) → slice_get rows i ≡ Some r
    → slice_get (rows_of rows) i ≡ Some (row r)
row_at rows i r e = slice_get-map row rows i ∙ ap (option_map row) e

pub name_at_row : {Z : Type 0} (rows : List (String Z × Extent)) (i : ℕ) (r : String Z × Extent)
    → slice_get rows i ≡ Some r → slice_get (map (λ (f : TableFile). f.name) (rows_of rows)) i ≡ Some (string_bytes r.0)
name_at_row rows i r e = slice_get-map (λ (f : TableFile). f.name) (rows_of rows) i
    ∙ ap (option_map (λ (f : TableFile). f.name)) (row_at rows i r e)

pub capacity_at_row : {Z : Type 0} (rows : List (String Z × Extent)) (i : ℕ) (r : String Z × Extent)
    → slice_get rows i ≡ Some r → slice_get (map (λ (f : TableFile). f.capacity) (rows_of rows)) i ≡ Some r.1.capacity
capacity_at_row rows i r e = slice_get-map (λ (f : TableFile). f.capacity) (rows_of rows) i
    ∙ ap (option_map (λ (f : TableFile). f.capacity)) (row_at rows i r e)

-- the first home block at a place
pub home_at_row : {Z : Type 0} (rows : List (String Z × Extent)) (i : ℕ) (r : String Z × Extent)
    → slice_get rows i ≡ Some r → slice_get (homes_of rows) i ≡ Some r.1.first_home
home_at_row {Z} rows i r e = slice_get-map (λ (row : String Z × Extent). row.1.first_home) rows i
    ∙ ap (option_map (λ (row : String Z × Extent). row.1.first_home)) e

-- the number at a place
pub index_by_get : (xs : List ℕ) (i x : ℕ) → slice_get xs i ≡ Some x → slice_index xs i ≡ x
index_by_get [] i x e = cc
index_by_get (y ∷ ys) zero x e = cc
index_by_get (y ∷ ys) (suc i) x e = index_by_get ys i x e

-- a name that none of the files has isn't found
pub absent : {Z S : Type 0} (m : HashMap (String Z) Extent S) (key : String Z)
    → AllByRecursion (λ name. name ≢ string_bytes key) (map (λ (f : TableFile). f.name) (rows_of m.entries))
    → get string_eq m key ≡ None
absent {Z} m key = go m.entries
  where
    tested : (e : String Z × Extent) (b : Bool) (found : Option Extent) → string_eq key e.0 ≡ b
        → string_bytes e.0 ≢ string_bytes key → found ≡ None → cond b (Some e.1) found ≡ None
    tested e true found is ne h = absurd (ne (sym ((bytes_eq-Decides (string_bytes key) (string_bytes e.0)).0 is)))
    tested e false found is ne h = h

    go : (rows : List (String Z × Extent))
        → AllByRecursion (λ name. name ≢ string_bytes key) (map (λ (f : TableFile). f.name) (rows_of rows))
        → lookup (string_eq key) rows ≡ None
    go [] h = refl
    go (e ∷ es) h = tested e (string_eq key e.0) _ refl h.0 (go es h.1)

-- no name before a place is the one there
pub distinct_before : (names : List (List ℕ)) (i : ℕ) (d : List ℕ) → i < length names → AreDistinct names
    → AllByRecursion (λ other. other ≢ get_or names i d) (take i names)
distinct_before [] i d h distinct = absurd (omega arith)
distinct_before (n ∷ ns) zero d h distinct = tt
distinct_before (n ∷ ns) (suc i) d h distinct =
    (λ e. at ns i (omega arith) distinct.0 (sym e), distinct_before ns i d (omega arith) distinct.1)
  where
    at : (names : List (List ℕ)) (k : ℕ) → k < length names → AllByRecursion (λ other. other ≢ n) names
        → get_or names k d ≢ n
    at [] k l all = absurd (omega arith)
    at (m ∷ ms) zero l all = all.0
    at (m ∷ ms) (suc k) l all = at ms k (omega arith) all.1

-- the files of the map after a new one is inserted
pub rows_of-new : {Z S : Type 0} (m : HashMap (String Z) Extent S) (key : String Z) (place : Extent)
    → AllByRecursion (λ name. name ≢ string_bytes key) (map (λ (f : TableFile). f.name) (rows_of m.entries))
    → insert_entry string_eq m.entries key place ≡ m.entries ++ (key, place) ∷ []
rows_of-new m key place free = insert_entry-new string_eq m key place (absent m key free)

-- one more of the files that a caller asks for
pub rows_of-more : {Z S : Type 0} (m : HashMap (String Z) Extent S) (key : String Z) (place : Extent)
    (new : List (String Z × Extent)) (files : List FileSpec) (i : ℕ) (d : FileSpec) → i < length files
    → AreDistinct (names_of files) → rows_of m.entries ≡ files_asked_for (take i files)
    → string_bytes key ≡ (get_or files i d).name.now → new ≡ insert_entry string_eq m.entries key place
    → new ≡ m.entries ++ (key, place) ∷ []
rows_of-more m key place new files i d h distinct done named is =
    let before = distinct_before (names_of files) i (d.name.now)
    (omega (arith, length-map files (λ (f : FileSpec). f.name.now))) distinct in
    let there = get_or-map (λ (f : FileSpec). f.name.now) files i d d.name.now h in
    let names = take-map (λ (f : FileSpec). f.name.now) i files in
    let same = ap (map (λ (f : TableFile). f.name)) done ∙ names_of-files_of (take i files) ∙ sym names in
    let P : List ℕ → Type 0 = λ name. AllByRecursion (λ other. other ≢ name) (take i (names_of files)) in
    let Q : List (List ℕ) → Type 0 = λ names. AllByRecursion (λ name. name ≢ string_bytes key) names in
    let free = subst Q (sym same) (subst P (there ∙ sym named) before) in
    is ∙ rows_of-new m key place free

pub rows_more : {Z : Type 0} (old new : List (String Z × Extent)) (key : String Z) (place : Extent)
    (files : List FileSpec) (i : ℕ) (d : FileSpec) → i < length files
    → new ≡ old ++ (key, place) ∷ [] → rows_of old ≡ files_asked_for (take i files)
    → string_bytes key ≡ (get_or files i d).name.now → place.capacity ≡ (get_or files i d).capacity
    → rows_of new ≡ files_asked_for (take (i + 1) files)
rows_more old new key place files i d h is done named sized =
    let f = get_or files i d in
    ap rows_of is ∙ map_push row old (key, place) ∙ ap (λ (fs : List TableFile). fs ++ row (key, place) ∷ []) done
    ∙ ap (λ (name : List ℕ). files_asked_for (take i files)
    ++ (let r : TableFile = record { name = name; capacity = place.capacity } in r) ∷ []) named
    ∙ ap (λ (n : ℕ). files_asked_for (take i files) ++ (let r : TableFile =
    record { name = f.name.now; capacity = n } in r) ∷ []) sized ∙ sym (map_more file_of files i d h)

pub homes_more : {Z : Type 0} (old new : List (String Z × Extent)) (key : String Z) (place : Extent)
    (files : List FileSpec) (i first : ℕ) (d : FileSpec) → i < length files
    → new ≡ old ++ (key, place) ∷ [] → homes_of old ≡ homes_from first (files_asked_for (take i files))
    → string_bytes key ≡ (get_or files i d).name.now
    → place.first_home ≡ first + total_pages (files_asked_for (take i files))
    → homes_of new ≡ homes_from first (files_asked_for (take (i + 1) files))
homes_more {Z} old new key place files i first d h is done named at =
    ap homes_of is ∙ map_push (λ (row : String Z × Extent). row.1.first_home) old (key, place)
    ∙ ap (λ (hs : List ℕ). hs ++ place.first_home ∷ []) done
    ∙ ap (λ n. homes_from first (files_asked_for (take i files)) ++ n ∷ []) at
    ∙ sym (homes_from-push first (files_asked_for (take i files)) (file_of (get_or files i d)))
    ∙ ap (homes_from first) (sym (map_more file_of files i d h))

-- the home blocks of one more of the files
pub total_pages-more : (files : List FileSpec) (i n : ℕ) (d : FileSpec) → i < length files
    → n ≡ pages_of (get_or files i d).capacity
    → total_pages (files_asked_for (take (i + 1) files)) ≡ total_pages (files_asked_for (take i files)) + n
total_pages-more files i n d h e = ap total_pages (map_more file_of files i d h) ∙ total_pages-push (files_asked_for
    (take i files)) (file_of (get_or files i d)) ∙ ap (λ k. total_pages (files_asked_for (take i files)) + k) (sym e)

pub total_pages-part : (files : List FileSpec) (i : ℕ)
    → total_pages (files_asked_for (take i files)) ≤ total_pages (files_asked_for files)
total_pages-part files i =
    omega (arith, ap total_pages (take-map file_of i files), total_pages-take_le (files_asked_for files) i)
