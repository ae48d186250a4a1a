-- The files of a volume that was opened, and is only read since.
use Rattle.std.proofs.Common.{◌≡◌, ◌<◌, ◌≤◌, ℕ, zero, suc, add-one, ◌+◌, ◌-◌, List, [], ◌∷◌, ◌++◌, length}
use Rattle.std.proofs.Common.{map, take, get_or, slice_range, sym, ◌∙◌, ap, arith}
use Rattle.std.proofs.lemmas.List.{length-map, take_all, take_more}
use Rattle.device.specs.declared.device.Device.{Ghosts}
use Rattle.volume_codec.specs.Files.{File}
use Rattle.recovery.specs.Volume.{VolumeState, IsWellFormed, files_of, bytes_of}
use Rattle.recovery.proofs.Public.{lengths_of_well_formed}
use Rattle.crash_table.specs.Marks.{contents_of}

-- as many files as the table has
pub as_many_files : {D : Type 0} (disk : Ghosts D) (volume : VolumeState D) → IsWellFormed disk volume
    → disk.is_honest volume.device
    → length (files_of volume.table (disk.seen volume.device)) ≡ length volume.table.files
as_many_files disk volume well_formed honest =
    sym (length-map (files_of volume.table (disk.seen volume.device)) (λ (f : File). length f.bytes))
    ∙ ap (λ (l : List ℕ). length l) (lengths_of_well_formed disk volume well_formed honest) ∙ well_formed.lengths.count

-- all of it
pub whole_range : (xs : List ℕ) (n : ℕ) → length xs ≡ n → slice_range xs 0 (0 + n) ≡ xs
whole_range xs n long =
    let size : (0 + n) - 0 ≡ n = omega arith in
    ap (λ m. take m xs) size ∙ take_all n xs (omega (arith, long))

-- the bytes of one file more
pub bytes_more : (files : List File) (i : ℕ) → i < length files
    → take i (contents_of files) ++ bytes_of files i ∷ [] ≡ take (i + 1) (contents_of files)
bytes_more files i below =
    sym (take_more (contents_of files) i [] (omega (arith, below, length-map files (λ (f : File). f.bytes))))

pub all_bytes : (files : List File) (i : ℕ) → length files ≤ i → take i (contents_of files) ≡ contents_of files
all_bytes files i past = take_all i (contents_of files) (omega (arith, past, length-map files (λ (f : File). f.bytes)))

-- ---- lists of lists, element by element

next_items : {V : Type 0} (items : V → List ℕ) (xs : List V) (i : ℕ) (x : V) → i < length xs → x ≡ get_or xs i x
    → take (suc i) (map items xs) ≡ take i (map items xs) ++ items x ∷ []
next_items {V} items [] i x below is = absurd (omega (arith, below))
next_items {V} items (y ∷ xs) zero x below is = ap (λ (v : V). items v ∷ []) (sym is)
next_items {V} items (y ∷ xs) (suc i) x below is =
    ap (λ (l : List (List ℕ)). items y ∷ l) (next_items items xs i x (omega (arith, below)) is)

items_more : {V : Type 0} (items : V → List ℕ) (xs : List V) (i : ℕ) (x : V) → i < length xs → x ≡ get_or xs i x
    → take (i + 1) (map items xs) ≡ take i (map items xs) ++ items x ∷ []
items_more {V} items xs i x below is =
    ap (λ (n : ℕ). take n (map items xs)) (add-one i) ∙ next_items items xs i x below is

pub same_more : {V : Type 0} (items : V → List ℕ) (xs ys : List V) (i : ℕ) (x y : V) → i < length xs → i < length ys
    → x ≡ get_or xs i x → y ≡ get_or ys i y → take i (map items xs) ≡ take i (map items ys) → items x ≡ items y
    → take (i + 1) (map items xs) ≡ take (i + 1) (map items ys)
same_more {V} items xs ys i x y left right x_is y_is same both =
    items_more items xs i x left x_is
    ∙ ap (λ (l : List (List ℕ)). l ++ items x ∷ []) same
    ∙ ap (λ (e : List ℕ). take i (map items ys) ++ e ∷ []) both
    ∙ sym (items_more items ys i y right y_is)

pub other_items : {V : Type 0} (items : V → List ℕ) (xs ys : List V) (i : ℕ) (x y : V) → i < length xs → i < length ys
    → x ≡ get_or xs i x → y ≡ get_or ys i y → map items xs ≡ map items ys → items x ≡ items y
other_items {V} items [] ys i x y left right x_is y_is same = absurd (omega (arith, left))
other_items {V} items (u ∷ xs) [] i x y left right x_is y_is same = absurd (omega (arith, right))
other_items {V} items (u ∷ xs) (v ∷ ys) zero x y left right x_is y_is same =
    let heads : items u ∷ map items xs ≡ items v ∷ map items ys = same in
    let first : items u ≡ items v = cc in
    ap items x_is ∙ first ∙ ap items (sym y_is)
other_items {V} items (u ∷ xs) (v ∷ ys) (suc i) x y left right x_is y_is same =
    let both : items u ∷ map items xs ≡ items v ∷ map items ys = same in
    let rest : map items xs ≡ map items ys = cc in
    other_items items xs ys i x y (omega (arith, left)) (omega (arith, right)) x_is y_is rest
