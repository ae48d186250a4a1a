-- The lengths of what is spelled, and entries one after another.
use Rattle.std.proofs.Common.{◌≡◌, ℕ, zero, suc, ◌+◌, ◌*◌, ◌<◌, ◌≤◌, List, [], ◌∷◌, ◌++◌}
use Rattle.std.proofs.Common.{length, take, get_or, slice_get, Some, refl, sym, ap, ◌∙◌}
use Rattle.std.proofs.Common.{add-one, add-zero, add_assoc, arith, append_assoc, length-append}
use Rattle.std.proofs.lemmas.List.{append-nil}
use Rattle.std.specs.List.{AllByRecursion}
use Rattle.byteorder.specs.Numbers.{length-bytes_high_first}
use Rattle.volume_codec.specs.Files.{TableFile}
use Rattle.volume_codec.specs.Layout.{magic_of, first_file_home}
use Rattle.volume_codec.specs.Text.{number_text, zeros, padded}
use Rattle.volume_codec.specs.Super.{SuperValue, IsTableFile, pages_of, total_pages, first_home_of, block_count}
use Rattle.volume_codec.specs.Super.{entry_text, entries_text, super_head, names_in, capacities_in}
use Rattle.volume_codec.proofs.Layouts.{length-magic_of}
use Rattle.volume_codec.proofs.Places.{file_by_parts}
use Rattle.volume_codec.proofs.Padding.{length-zeros, length-padded}

pub length-number_text : (n x : ℕ) → length (number_text n x) ≡ n
unfolding number_text
length-number_text n x = length-bytes_high_first n x

pub length-entry_text : (home : ℕ) (f : TableFile) → length f.name ≤ 32 → length (entry_text home f) ≡ 48
length-entry_text home f short =
    let name = length-padded 32 f.name short in
    let a = length-append (padded 32 f.name) (number_text 8 f.capacity) in
    let b = length-append (padded 32 f.name ++ number_text 8 f.capacity) (number_text 4 home) in
    let c = length-append (padded 32 f.name ++ number_text 8 f.capacity ++ number_text 4 home)
    (number_text 4 (pages_of f.capacity)) in
    omega (
      arith,
      length-number_text 8 f.capacity,
      length-number_text 4 home,
      length-number_text 4 (pages_of f.capacity),
    )

pub length-entries_text : (home : ℕ) (fs : List TableFile) → AllByRecursion IsTableFile fs
    → length (entries_text home fs) ≡ 48 * length fs
length-entries_text home [] each = refl
length-entries_text home (f ∷ fs) each =
    let first = length-entry_text home f each.0.named.short in
    let rest = length-entries_text (home + pages_of f.capacity) fs each.1 in
    omega (arith, length-append (entry_text home f) (entries_text (home + pages_of f.capacity) fs))

pub length-super_head : (v : SuperValue) → length (super_head v) ≡ 32
length-super_head v =
    let magic = length-magic_of v.layout in
    let a = length-append (magic_of v.layout) (number_text 4 (length v.files)) in
    let b = length-append (magic_of v.layout ++ number_text 4 (length v.files)) (number_text 4 v.slots) in
    let c = length-append (magic_of v.layout ++ number_text 4 (length v.files) ++ number_text 4 v.slots)
    (number_text 4 (block_count v)) in
    let d = length-append (magic_of v.layout ++ number_text 4 (length v.files) ++ number_text 4 v.slots
    ++ number_text 4 (block_count v)) (zeros 12) in
    omega (
      arith,
      length-number_text 4 (length v.files),
      length-number_text 4 v.slots,
      length-number_text 4 (block_count v),
      length-zeros 12,
    )

-- one entry more
entries_text-take_suc : (home : ℕ) (fs : List TableFile) (i : ℕ) (d : TableFile) → i < length fs
    → entries_text home (take (suc i) fs)
    ≡ entries_text home (take i fs) ++ entry_text (home + total_pages (take i fs)) (get_or fs i d)
entries_text-take_suc home [] i d h = absurd (omega arith)
entries_text-take_suc home (f ∷ fs) zero d h =
    append-nil (entry_text home f) ∙ ap (λ k. entry_text k f) (sym (add-zero home))
entries_text-take_suc home (f ∷ fs) (suc i) d h =
    ap (λ r. entry_text home f ++ r) (entries_text-take_suc (home + pages_of f.capacity) fs i d (omega arith))
    ∙ sym (append_assoc (entry_text home f) (entries_text (home + pages_of f.capacity) (take i fs)) _)
    ∙ ap (λ k. entry_text home f ++ entries_text (home + pages_of f.capacity) (take i fs)
    ++ entry_text k (get_or fs i d)) (add_assoc home (pages_of f.capacity) (total_pages (take i fs)))

pub entries_text-take_more : (home : ℕ) (fs : List TableFile) (i : ℕ) (d : TableFile) → i < length fs
    → entries_text home (take (i + 1) fs)
    ≡ entries_text home (take i fs) ++ entry_text (home + total_pages (take i fs)) (get_or fs i d)
entries_text-take_more home fs i d h =
    ap (λ k. entries_text home (take k fs)) (add-one i) ∙ entries_text-take_suc home fs i d h

-- a block with one entry more
pub entry_written : (v : SuperValue) (head old new name : List ℕ) (i size home : ℕ) → i < length v.files
    → slice_get (names_in v) i ≡ Some name → slice_get (capacities_in v) i ≡ Some size → home ≡ first_home_of v i
    → old ≡ head ++ entries_text (first_file_home v.layout v.slots) (take i v.files)
    → new ≡ old ++ entry_text home (record { name = name; capacity = size })
    → new ≡ head ++ entries_text (first_file_home v.layout v.slots) (take (i + 1) v.files)
entry_written v head old new name i size home h named sized at before after =
    let f : TableFile = record { name = name; capacity = size } in
    let file = file_by_parts v.files i name size f named sized in
    let more = entries_text-take_more (first_file_home v.layout v.slots) v.files i f h in
    let here : entry_text home f ≡ entry_text (first_home_of v i) (get_or v.files i f) =
    ap (λ k. entry_text k f) at ∙ ap (entry_text (first_home_of v i)) (sym file) in
    after ∙ ap (λ (r : List ℕ). r ++ entry_text home f) before
    ∙ append_assoc head (entries_text (first_file_home v.layout v.slots) (take i v.files)) (entry_text home f)
    ∙ ap (λ (r : List ℕ). head ++ (entries_text (first_file_home v.layout v.slots) (take i v.files) ++ r)) here
    ∙ ap (λ (r : List ℕ). head ++ r) (sym more)
