-- What is read of what was spelled.
use Rattle.std.proofs.Common.{◌≡◌, ℕ, zero, suc, ◌+◌, ◌-◌, ◌*◌, ◌<◌, ◌≤◌, Bool, true, false, not, List}
use Rattle.std.proofs.Common.{[], ◌∷◌, ◌++◌, length, drop, Result, Ok, Err, bytes_eq, MatchResult}
use Rattle.std.proofs.Common.{IsUtf8, IsAscii, refl, sym, ap, subst, ◌∙◌, arith, append_assoc}
use Rattle.std.specs.Borrow.{Bor}
use Rattle.std.specs.Result.{result_unwrap_or}
use Rattle.std.specs.List.{AllByRecursion}
use Rattle.std.proofs.lemmas.Bool.{both_ways}
use Rattle.std.proofs.lemmas.Slice.Eq.{bytes_eq-Decides}
use Rattle.std.proofs.lemmas.Str.{IsUtf8-from_ascii}
use Rattle.std.proofs.lemmas.List.{drop-drop, map_push, append-nil}
use Rattle.volume_codec.specs.declared.file_spec.FileSpec.{FileSpec}
use Rattle.volume_codec.specs.Files.{TableFile}
use Rattle.volume_codec.specs.Super.{IsName, IsNameByte}
use Rattle.volume_codec.specs.Text.{number_in, numbers_in}
use Rattle.volume_codec.specs.inside.Reading.{name_in, file_in, table_files_in}
use Rattle.volume_codec.specs.inside.Tables.{files_asked_for, AreFull}
use Rattle.volume_codec.proofs.Rows.{file_of}

-- a name is text
name_ascii : (name : List ℕ) → AllByRecursion IsNameByte name → IsAscii name
name_ascii [] h i = omega arith
name_ascii (b ∷ bs) h zero = omega (arith, h.0.1)
name_ascii (b ∷ bs) h (suc i) = name_ascii bs h.1 i

pub utf8_name : (name : List ℕ) → IsName name → IsUtf8 name
utf8_name name is = IsUtf8-from_ascii name (name_ascii name is.printable)

-- the text that bytes are, where they are a name
pub text_found : {E : Type 0} (r : Result (Bor (List ℕ)) E) (found d : Bor (List ℕ)) (bytes name : List ℕ)
    (Q : E → Type 0) → bytes ≡ name → found ≡ result_unwrap_or r d
    → MatchResult r (λ s. (s.now ≡ bytes) × IsUtf8 bytes) (λ e. (IsUtf8 bytes → ⊥) × Q e) → IsName name
    → found.now ≡ name
text_found {E} (Ok s) found d bytes name Q same is h named = ap (λ (s : Bor (List ℕ)). s.now) is ∙ h.0 ∙ same
text_found {E} (Err e) found d bytes name Q same is h named =
    let N : List ℕ → Type 0 = λ bs. IsUtf8 bs in
    absurd (h.0 (subst N (sym same) (utf8_name name named)))

-- the next of the files
pub entries_in-more : (count i : ℕ) (entries : List ℕ) → i < count → table_files_in (count - i) (drop (48 * i) entries)
    ≡ file_in (drop (48 * i) entries) ∷ table_files_in (count - (i + 1)) (drop (48 * (i + 1)) entries)
entries_in-more count i entries h =
    let n : count - i ≡ suc (count - (i + 1)) = omega arith in
    let m : 48 * i + 48 ≡ 48 * (i + 1) = omega arith in
    ap (λ k. table_files_in k (drop (48 * i) entries)) n
    ∙ ap (λ (bytes : List ℕ). file_in (drop (48 * i) entries) ∷ table_files_in (count - (i + 1)) bytes)
    (drop-drop 48 (48 * i) entries ∙ ap (λ k. drop k entries) m)

among : {X : Type 0} (P : X → Type 0) (xs ys : List X) (x : X) → AllByRecursion P (xs ++ x ∷ ys) → P x
among P [] ys x h = h.0
among P (y ∷ xs) ys x h = among P xs ys x h.1

-- one file more was read
pub found_more : (done new : List FileSpec) (file : FileSpec) (count i : ℕ) (entries entry : List ℕ) → i < count
    → (AllByRecursion (λ f. IsName f.name) (table_files_in count entries)
    → files_asked_for done ++ table_files_in (count - i) (drop (48 * i) entries) ≡ table_files_in count entries)
    → entry ≡ drop (48 * i) entries → (IsName (name_in entry) → file.name.now ≡ name_in entry)
    → file.capacity ≡ number_in 8 (drop 32 entry) → new ≡ done ++ file ∷ []
    → AllByRecursion (λ f. IsName f.name) (table_files_in count entries) → files_asked_for new
    ++ table_files_in (count - (i + 1)) (drop (48 * (i + 1)) entries) ≡ table_files_in count entries
found_more done new file count i entries entry h found at read sized is each =
    let P : List TableFile → Type 0 = λ fs. AllByRecursion (λ f. IsName f.name) fs in
    let N : List ℕ → Type 0 = λ bs. IsName (name_in bs) in
    let here = subst P (sym (found each)
    ∙ ap (λ (fs : List TableFile). files_asked_for done ++ fs) (entries_in-more count i entries h)) each in
    let named = read (subst N (sym at) (among (λ f. IsName f.name) (files_asked_for done) _ _ here)) in
    let same : file_of file ≡ file_in (drop (48 * i) entries) =
    ap (λ (name : List ℕ). let f : TableFile = record { name = name; capacity = file.capacity } in f) named
    ∙ ap (λ (n : ℕ). let f : TableFile = record { name = name_in entry; capacity = n } in f) sized
    ∙ ap file_in at in
    let rest = table_files_in (count - (i + 1)) (drop (48 * (i + 1)) entries) in
    ap (λ (fs : List FileSpec). files_asked_for fs ++ rest) is
    ∙ ap (λ (fs : List TableFile). fs ++ rest) (map_push file_of done file)
    ∙ append_assoc (files_asked_for done) (file_of file ∷ []) rest
    ∙ ap (λ (f : TableFile). files_asked_for done ++ f ∷ rest) same
    ∙ ap (λ (fs : List TableFile). files_asked_for done ++ fs) (sym (entries_in-more count i entries h)) ∙ found each

pub full_push : (files : List FileSpec) (file : FileSpec) → AreFull files → file.length ≡ file.capacity
    → AreFull (files ++ file ∷ [])
full_push [] file full is = (is, tt)
full_push (f ∷ files) file full is = (full.0, full_push files file full.1 is)

pub other_by_ne : (r : Bool) (xs ys : List ℕ) → r ≡ not (bytes_eq xs ys) → r ≡ true → xs ≡ ys → ⊥
other_by_ne r xs ys is t same = let e = (bytes_eq-Decides xs ys).1 same in let n = ap not e in cc

pub same_by_ne : (r : Bool) (xs ys : List ℕ) → r ≡ not (bytes_eq xs ys) → r ≡ false → xs ≡ ys
same_by_ne r xs ys is f = (bytes_eq-Decides xs ys).0 (by (bytes_eq xs ys) (sym is ∙ f))
  where
    by : (b : Bool) → not b ≡ false → b ≡ true
    by true e = refl
    by false e = absurd (both_ways true e refl)

-- the next of the numbers
pub numbers_in-more : (size count i from : ℕ) (bytes : List ℕ) → i < count
    → numbers_in size (count - i) (drop (from + size * i) bytes) ≡ number_in size (drop (from + size * i) bytes)
    ∷ numbers_in size (count - (i + 1)) (drop (from + size * (i + 1)) bytes)
numbers_in-more size count i from bytes h =
    let n : count - i ≡ suc (count - (i + 1)) = omega arith in
    let m : from + size * i + size ≡ from + size * (i + 1) = omega arith in
    ap (λ k. numbers_in size k (drop (from + size * i) bytes)) n
    ∙ ap (λ (rest : List ℕ). number_in size (drop (from + size * i) bytes) ∷ numbers_in size (count - (i + 1)) rest)
    (drop-drop size (from + size * i) bytes ∙ ap (λ k. drop k bytes) m)

-- one number more was read
pub number_found : (done new : List ℕ) (n size count i from : ℕ) (bytes : List ℕ) → i < count
    → done ++ numbers_in size (count - i) (drop (from + size * i) bytes) ≡ numbers_in size count (drop from bytes)
    → n ≡ number_in size (drop (from + size * i) bytes) → new ≡ done ++ n ∷ []
    → new ++ numbers_in size (count - (i + 1)) (drop (from + size * (i + 1)) bytes)
    ≡ numbers_in size count (drop from bytes)
number_found done new n size count i from bytes h found read is =
    let rest = numbers_in size (count - (i + 1)) (drop (from + size * (i + 1)) bytes) in
    ap (λ (r : List ℕ). r ++ rest) is ∙ append_assoc done (n ∷ []) rest ∙ ap (λ k. done ++ k ∷ rest) read
    ∙ ap (λ (r : List ℕ). done ++ r) (sym (numbers_in-more size count i from bytes h)) ∙ found

-- all numbers were read
pub numbers_found : (done : List ℕ) (size count i from : ℕ) (bytes : List ℕ) → count ≤ i
    → done ++ numbers_in size (count - i) (drop (from + size * i) bytes) ≡ numbers_in size count (drop from bytes)
    → done ≡ numbers_in size count (drop from bytes)
numbers_found done size count i from bytes h found =
    let n : count - i ≡ 0 = omega arith in
    sym (append-nil done) ∙ ap (λ k. done ++ numbers_in size k (drop (from + size * i) bytes)) (sym n) ∙ found

pub length-numbers_in : (size count : ℕ) (bytes : List ℕ) → length (numbers_in size count bytes) ≡ count
length-numbers_in size zero bytes = refl
length-numbers_in size (suc n) bytes = ap suc (length-numbers_in size n (drop size bytes))
