-- The blocks of a descriptor's text.
use Rattle.std.proofs.Common.{◌≡◌, ℕ, zero, suc, ◌+◌, ◌-◌, ◌*◌, ◌<◌, ◌≤◌, List, [], ◌∷◌, ◌++◌, length, take, drop}
use Rattle.std.proofs.Common.{get_or, refl, sym, ap, ◌∙◌, arith, length-append}
use Rattle.std.specs.List.{flat_map}
use Rattle.std.proofs.Math.Nat.{mul-zero, mul-suc}
use Rattle.std.proofs.Math.Seq.{drop-nil}
use Rattle.std.proofs.lemmas.List.{length-take, get_or-take, get_or-drop, ext_get_or, take_all}
use Rattle.volume_codec.specs.Layout.{descriptor_blocks, block_at}
use Rattle.volume_codec.specs.Text.{number_text, zeros, padded}
use Rattle.volume_codec.specs.Descriptor.{descriptor_text}
use Rattle.volume_codec.specs.Recovery.{blocks_from}
use Rattle.volume_codec.proofs.Blocks.{length-block_at, get_or-block_at}
use Rattle.volume_codec.proofs.Padding.{length-zeros, length-padded, take-past, drop-past}
use Rattle.volume_codec.proofs.Recovered.{blocks_from-same, blocks_from-device}
use Rattle.volume_codec.proofs.Spelling.{length-number_text}

-- ---- numbers of 4 bytes

take-numbers : (k : ℕ) (ns : List ℕ) → take (4 * k) (flat_map (number_text 4) ns) ≡ flat_map (number_text 4) (take k ns)
take-numbers zero ns = refl
take-numbers (suc k) [] = take_all (4 * suc k) [] (omega arith)
take-numbers (suc k) (n ∷ ns) =
    let size : 4 * suc k ≡ 4 + 4 * k = omega arith in
    ap (λ m. take m (number_text 4 n ++ flat_map (number_text 4) ns)) size
    ∙ take-past (number_text 4 n) (flat_map (number_text 4) ns) 4 (4 * k) (length-number_text 4 n)
    ∙ ap (λ (l : List ℕ). number_text 4 n ++ l) (take-numbers k ns)

drop-numbers : (k : ℕ) (ns : List ℕ) → drop (4 * k) (flat_map (number_text 4) ns) ≡ flat_map (number_text 4) (drop k ns)
drop-numbers zero ns = refl
drop-numbers (suc k) [] = drop-nil (4 * suc k)
drop-numbers (suc k) (n ∷ ns) =
    let size : 4 * suc k ≡ 4 + 4 * k = omega arith in
    ap (λ m. drop m (number_text 4 n ++ flat_map (number_text 4) ns)) size
    ∙ drop-past (number_text 4 n) (flat_map (number_text 4) ns) 4 (4 * k) (length-number_text 4 n)
    ∙ drop-numbers k ns

-- numbers of so many bytes each
pub length-numbers : (size : ℕ) (ns : List ℕ) → length (flat_map (number_text size) ns) ≡ size * length ns
length-numbers size [] = sym (mul-zero size)
length-numbers size (n ∷ ns) = omega (
  arith,
  length-append (number_text size n) (flat_map (number_text size) ns),
  length-number_text size n,
  length-numbers size ns,
  mul-suc size (length ns),
)

-- ---- a block of padded bytes

get_or-zeros : (n k : ℕ) → get_or (zeros n) k 0 ≡ 0
unfolding zeros
get_or-zeros zero k = refl
get_or-zeros (suc n) zero = refl
get_or-zeros (suc n) (suc k) = get_or-zeros n k

get_or-padding : (t : List ℕ) (n k : ℕ) → get_or (t ++ zeros n) k 0 ≡ get_or t k 0
get_or-padding [] n k = get_or-zeros n k
get_or-padding (b ∷ t) n zero = refl
get_or-padding (b ∷ t) n (suc k) = get_or-padding t n k

pub padded-block : (n i : ℕ) (t : List ℕ) → length t ≤ 4096 * n → i < n
    → padded 4096 (take 4096 (drop (4096 * i) t)) ≡ block_at (padded (4096 * n) t) i
padded-block n i t le lt = ext_get_or 0 (padded 4096 part) (block_at (padded (4096 * n) t) i) (size ∙ sym whole) each
  where
    part : List ℕ
    part = take 4096 (drop (4096 * i) t)

    size : length (padded 4096 part) ≡ 4096
    size = length-padded 4096 part (omega (arith, length-take 4096 (drop (4096 * i) t)))

    whole : length (block_at (padded (4096 * n) t) i) ≡ 4096
    whole = length-block_at (padded (4096 * n) t) i (omega (arith, length-padded (4096 * n) t le, lt))

    each : (k : ℕ) → k < length (padded 4096 part)
        → get_or (padded 4096 part) k 0 ≡ get_or (block_at (padded (4096 * n) t) i) k 0
    each k h =
        let small : k < 4096 = omega (arith, size) in
        get_or-padding part (4096 - length part) k
        ∙ get_or-take 4096 (drop (4096 * i) t) k 0 small
        ∙ get_or-drop (4096 * i) t k 0
        ∙ sym (get_or-padding t (4096 * n - length t) (4096 * i + k))
        ∙ sym (get_or-block_at (padded (4096 * n) t) i k 0 small)

-- ---- the blocks of a descriptor

module _ (slots mark : ℕ) (homes : List ℕ) (few : length homes ≤ slots) where
  abbrev head : List ℕ
  head = number_text 8 mark ++ number_text 4 (length homes) ++ zeros 4

  length-head : length head ≡ 16
  length-head = omega (
    arith,
    length-append (number_text 8 mark ++ number_text 4 (length homes)) (zeros 4),
    length-append (number_text 8 mark) (number_text 4 (length homes)),
    length-number_text 8 mark,
    length-number_text 4 (length homes),
    length-zeros 4,
  )

  fits : length (head ++ flat_map (number_text 4) homes) ≤ 4096 * descriptor_blocks slots
  fits = omega (
    arith,
    few,
    length-append head (flat_map (number_text 4) homes),
    length-head,
    length-numbers 4 homes,
  )

  pub length-descriptor_text : length (descriptor_text slots (record { mark = mark; homes = homes }))
      ≡ 4096 * descriptor_blocks slots
  length-descriptor_text = length-padded (4096 * descriptor_blocks slots) (head ++ flat_map (number_text 4) homes) fits

  pub block-first : padded 4096 (head ++ flat_map (number_text 4) (take 1020 homes))
      ≡ block_at (descriptor_text slots (record { mark = mark; homes = homes })) 0
  block-first =
      ap (padded 4096) (sym (take-past head (flat_map (number_text 4) homes) 16 4080 length-head
      ∙ ap (λ (l : List ℕ). head ++ l) (take-numbers 1020 homes)))
      ∙ padded-block (descriptor_blocks slots) 0 (head ++ flat_map (number_text 4) homes) fits (omega arith)

  pub block-further : (i : ℕ) → 0 < i → i < descriptor_blocks slots
      → padded 4096 (flat_map (number_text 4) (take 1024 (drop (1024 * i - 4) homes)))
      ≡ block_at (descriptor_text slots (record { mark = mark; homes = homes })) i
  block-further i some lt =
      let place : 4096 * i ≡ 16 + 4 * (1024 * i - 4) = omega arith in
      ap (padded 4096) (sym (
      ap (λ k. take 4096 (drop k (head ++ flat_map (number_text 4) homes))) place
      ∙ ap (take 4096) (drop-past head (flat_map (number_text 4) homes) 16 (4 * (1024 * i - 4)) length-head
      ∙ drop-numbers (1024 * i - 4) homes)
      ∙ take-numbers 1024 (drop (1024 * i - 4) homes)
      ))
      ∙ padded-block (descriptor_blocks slots) i (head ++ flat_map (number_text 4) homes) fits lt

-- ---- bytes by their blocks

pub same_by_blocks : (xs ys : List ℕ) (n : ℕ) → length xs ≡ 4096 * n → length ys ≡ 4096 * n
    → ((i : ℕ) → i < n → block_at xs i ≡ block_at ys i) → xs ≡ ys
same_by_blocks xs ys n size_x size_y same =
    sym (all xs size_x) ∙ blocks_from-same (block_at xs) (block_at ys) 0 n (λ i low high. same i (omega arith))
    ∙ all ys size_y
  where
    all : (l : List ℕ) → length l ≡ 4096 * n → blocks_from (block_at l) 0 n ≡ l
    all l size = blocks_from-device l 0 n ∙ take_all (4096 * n) l (omega (arith, size))
