-- The blocks of a descriptor's text, and its text by its fields.
use Rattle.std.proofs.Common.{◌≡◌, ℕ, zero, suc, ◌+◌, ◌-◌, ◌*◌, ◌<◌, ◌≤◌, List, [], ◌∷◌, ◌++◌, length, take, drop}
use Rattle.std.proofs.Common.{get_or, inl, inr, refl, sym, ap, subst, ◌∙◌, arith, append_assoc, length-append}
use Rattle.std.specs.List.{flat_map}
use Rattle.std.specs.Int.{w32, from_be_bytes}
use Rattle.std.proofs.Math.Seq.{drop-nil, take-add}
use Rattle.std.proofs.lemmas.Grind.{flat_map-append}
use Rattle.std.proofs.lemmas.List.{take_more, append-nil, take_all, take-append-drop, drop-drop, length-take-le}
use Rattle.std.proofs.lemmas.List.{length-drop, get_or-take, get_or-drop, get_or_past}
use Rattle.std.proofs.lemmas.Bool.{cases_lt}
use Rattle.std.proofs.lemmas.Nat.{be_bytes_4}
use Rattle.volume_codec.specs.Descriptor.{RiseWithin}
use Rattle.volume_codec.specs.Layout.{block_at}
use Rattle.volume_codec.specs.Text.{number_text, number_in, numbers_in, zeros, padded}
use Rattle.volume_codec.proofs.Public.{length-number_text, length-zeros, length-numbers, length-padded, take-past}
use Rattle.volume_codec.proofs.Padding.{drop-past}
use Rattle.volume_codec.proofs.Described.{padded-block}
use Rattle.volume_codec.proofs.ReadingLemmas.{length-numbers_in}
use Rattle.log_codec.specs.Log.{log_descriptor_blocks}
use Rattle.log_codec.specs.Commit.{LogDescriptor, log_body}

-- ---- numbers of 4 bytes

pub one_home_more : (homes : List ℕ) (i : ℕ) → i < length homes
    → flat_map (number_text 4) (take (i + 1) homes)
    ≡ flat_map (number_text 4) (take i homes) ++ number_text 4 (get_or homes i 0)
one_home_more homes i h =
    let last : ℕ = get_or homes i 0 in
    ap (flat_map (number_text 4)) (take_more homes i 0 h)
    ∙ flat_map-append (number_text 4) (take i homes) (last ∷ [])
    ∙ ap (λ (l : List ℕ). flat_map (number_text 4) (take i homes) ++ l) (append-nil (number_text 4 last))

take-homes : (k : ℕ) (ns : List ℕ) → take (4 * k) (flat_map (number_text 4) ns) ≡ flat_map (number_text 4) (take k ns)
take-homes zero ns = refl
take-homes (suc k) [] = take_all (4 * suc k) [] (omega arith)
take-homes (suc k) (n ∷ ns) =
    let size : 4 * suc k ≡ 4 + 4 * k = omega arith in
    ap (λ m. take m (number_text 4 n ++ flat_map (number_text 4) ns)) size
    ∙ take-past (number_text 4 n) (flat_map (number_text 4) ns) 4 (4 * k) (length-number_text 4 n)
    ∙ ap (λ (l : List ℕ). number_text 4 n ++ l) (take-homes k ns)

drop-homes : (k : ℕ) (ns : List ℕ) → drop (4 * k) (flat_map (number_text 4) ns) ≡ flat_map (number_text 4) (drop k ns)
drop-homes zero ns = refl
drop-homes (suc k) [] = drop-nil (4 * suc k)
drop-homes (suc k) (n ∷ ns) =
    let size : 4 * suc k ≡ 4 + 4 * k = omega arith in
    ap (λ m. drop m (number_text 4 n ++ flat_map (number_text 4) ns)) size
    ∙ drop-past (number_text 4 n) (flat_map (number_text 4) ns) 4 (4 * k) (length-number_text 4 n)
    ∙ drop-homes k ns

-- ---- the blocks

group_four : (s a b z hs rest : List ℕ) → s ++ (a ++ b ++ z ++ hs ++ rest) ≡ s ++ a ++ b ++ z ++ hs ++ rest
group_four s a b z hs rest = simp append_assoc

module _ (seal homes : List ℕ) (number : ℕ) (eight : length seal ≡ 8) (few : length homes ≤ 65535) where
  abbrev value : LogDescriptor
  value = record { number = number; homes = homes }

  abbrev blocks : ℕ
  blocks = log_descriptor_blocks (length homes)

  abbrev listed : List ℕ
  listed = flat_map (number_text 4) homes

  abbrev fields : List ℕ
  fields = number_text 8 number ++ number_text 4 (length homes) ++ zeros 12 ++ listed

  abbrev head : List ℕ
  head = seal ++ number_text 8 number ++ number_text 4 (length homes) ++ zeros 12

  length-head : length head ≡ 32
  length-head = omega (
    arith,
    eight,
    length-append (seal ++ number_text 8 number ++ number_text 4 (length homes)) (zeros 12),
    length-append (seal ++ number_text 8 number) (number_text 4 (length homes)),
    length-append seal (number_text 8 number),
    length-number_text 8 number,
    length-number_text 4 (length homes),
    length-zeros 12,
  )

  length-whole : length (head ++ listed) ≡ 32 + 4 * length homes
  length-whole = omega (arith, length-append head listed, length-head, length-numbers 4 homes)

  length-fields : length fields ≡ 24 + 4 * length homes
  length-fields = omega (
    arith,
    length-append (number_text 8 number ++ number_text 4 (length homes) ++ zeros 12) listed,
    length-append (number_text 8 number ++ number_text 4 (length homes)) (zeros 12),
    length-append (number_text 8 number) (number_text 4 (length homes)),
    length-number_text 8 number,
    length-number_text 4 (length homes),
    length-zeros 12,
    length-numbers 4 homes,
  )

  whole : seal ++ log_body value ≡ padded (4096 * blocks) (head ++ listed)
  whole =
      let left : 4096 * blocks - 8 - length fields ≡ 4096 * blocks - length (head ++ listed) =
      omega (arith, length-fields, length-whole) in
      ap (λ n. seal ++ (fields ++ zeros n)) left
      ∙ group_four seal (number_text 8 number) (number_text 4 (length homes)) (zeros 12) listed
      (zeros (4096 * blocks - length (head ++ listed)))

  fits : length (head ++ listed) ≤ 4096 * blocks
  fits = omega (arith, length-whole)

  pub length-body : length (log_body value) ≡ 4096 * blocks - 8
  length-body = length-padded (4096 * blocks - 8) fields (omega (arith, length-fields))

  pub first-of-blocks : padded 4096 (head ++ flat_map (number_text 4) (take 1016 homes))
      ≡ block_at (seal ++ log_body value) 0
  first-of-blocks =
      ap (padded 4096) (sym (take-past head listed 32 4064 length-head
      ∙ ap (λ (l : List ℕ). head ++ l) (take-homes 1016 homes)))
      ∙ padded-block blocks 0 (head ++ listed) fits (omega arith)
      ∙ ap (λ (l : List ℕ). block_at l 0) (sym whole)

  pub further-of-blocks : (i : ℕ) → 0 < i → i < blocks
      → padded 4096 (flat_map (number_text 4) (take 1024 (drop (1024 * i - 8) homes)))
      ≡ block_at (seal ++ log_body value) i
  further-of-blocks i some lt =
      let place : 4096 * i ≡ 32 + 4 * (1024 * i - 8) = omega arith in
      ap (padded 4096) (sym (
      ap (λ k. take 4096 (drop k (head ++ listed))) place
      ∙ ap (take 4096) (drop-past head listed 32 (4 * (1024 * i - 8)) length-head
      ∙ drop-homes (1024 * i - 8) homes)
      ∙ take-homes 1024 (drop (1024 * i - 8) homes)
      ))
      ∙ padded-block blocks i (head ++ listed) fits lt
      ∙ ap (λ (l : List ℕ). block_at l i) (sym whole)

-- ---- the text by its fields

-- the number in four bytes is spelled by them
four_bytes : (xs : List ℕ) → ((i : ℕ) → get_or xs i 0 < 256) → 4 ≤ length xs
    → number_text 4 (number_in 4 xs) ≡ take 4 xs
unfolding number_text number_in
four_bytes xs small long = be_bytes_4 (take 4 xs) _ (length-take-le 4 xs long) each same
  where
    each : (i : ℕ) → get_or (take 4 xs) i 0 < 256
    each i = elim (cases_lt i 4) [
      | inl h ↦ omega (arith, get_or-take 4 xs i 0 h, small i)
      | inr h ↦ omega (arith, get_or_past (take 4 xs) i 0 (omega (arith, length-take-le 4 xs long)))
    ]

    same : number_in 4 xs ≡ from_be_bytes w32 (take 4 xs)
    same =
        let a = get_or-take 4 xs 0 0 (omega arith) in
        let b = get_or-take 4 xs 1 0 (omega arith) in
        let c = get_or-take 4 xs 2 0 (omega arith) in
        let d = get_or-take 4 xs 3 0 (omega arith) in
        omega (arith, a, b, c, d)

small-drop : (k : ℕ) (xs : List ℕ) → ((i : ℕ) → get_or xs i 0 < 256) → (i : ℕ) → get_or (drop k xs) i 0 < 256
small-drop k xs small i = omega (arith, get_or-drop k xs i 0, small (k + i))

four_bytes_each : (n : ℕ) (xs : List ℕ) → ((i : ℕ) → get_or xs i 0 < 256) → 4 * n ≤ length xs
    → flat_map (number_text 4) (numbers_in 4 n xs) ≡ take (4 * n) xs
four_bytes_each zero xs small long = refl
four_bytes_each (suc n) xs small long =
    let rest = four_bytes_each n (drop 4 xs) (small-drop 4 xs small) (omega (arith, length-drop 4 xs)) in
    let size : 4 + 4 * n ≡ 4 * suc n = omega arith in
    ap (λ (l : List ℕ). l ++ flat_map (number_text 4) (numbers_in 4 n (drop 4 xs)))
    (four_bytes xs small (omega arith))
    ∙ ap (λ (l : List ℕ). take 4 xs ++ l) rest
    ∙ sym (take-add 4 (4 * n) xs) ∙ ap (λ k. take k xs) size

-- bytes from a place on, in two parts
parted : (i k : ℕ) (xs : List ℕ) → drop i xs ≡ take k (drop i xs) ++ drop (i + k) xs
parted i k xs =
    sym (take-append-drop k (drop i xs)) ∙ ap (λ (l : List ℕ). take k (drop i xs) ++ l) (drop-drop k i xs)

group_body : (a b z hs rest : List ℕ) → a ++ (b ++ (z ++ (hs ++ rest))) ≡ a ++ b ++ z ++ hs ++ rest
group_body a b z hs rest = simp append_assoc

pub body_by_fields : (bytes homes : List ℕ) (number count : ℕ) → ((i : ℕ) → get_or bytes i 0 < 256)
    → length bytes ≡ 4096 * log_descriptor_blocks count → take 8 (drop 8 bytes) ≡ number_text 8 number
    → count ≡ number_in 4 (drop 16 bytes) → take 12 (drop 20 bytes) ≡ zeros 12
    → homes ≡ numbers_in 4 count (drop 32 bytes)
    → drop (32 + 4 * count) bytes ≡ zeros (length bytes - (32 + 4 * count))
    → drop 8 bytes ≡ log_body (record { number = number; homes = homes })
body_by_fields bytes homes number count small size numbered counted reserved listed padding =
    let many : length homes ≡ count = ap length listed ∙ length-numbers_in 4 count (drop 32 bytes) in
    let long : 32 + 4 * count ≤ length bytes = omega arith in
    let n : List ℕ = number_text 8 number in
    let k : List ℕ = number_text 4 (length homes) in
    let hs : List ℕ = flat_map (number_text 4) homes in
    let four : take 4 (drop 16 bytes) ≡ k =
    sym (four_bytes (drop 16 bytes) (small-drop 16 bytes small) (omega (arith, length-drop 16 bytes)))
    ∙ ap (number_text 4) (sym counted ∙ sym many) in
    let all : take (4 * count) (drop 32 bytes) ≡ hs =
    sym (four_bytes_each count (drop 32 bytes) (small-drop 32 bytes small) (omega (arith, length-drop 32 bytes)))
    ∙ ap (flat_map (number_text 4)) (sym listed) in
    let left : length bytes - (32 + 4 * count)
    ≡ 4096 * log_descriptor_blocks (length homes) - 8 - length (n ++ k ++ zeros 12 ++ hs) = omega (
      arith,
      length-append (n ++ k ++ zeros 12) hs,
      length-append (n ++ k) (zeros 12),
      length-append n k,
      length-number_text 8 number,
      length-number_text 4 (length homes),
      length-zeros 12,
      length-numbers 4 homes,
    ) in
    parted 8 8 bytes
    ∙ ap (λ (l : List ℕ). l ++ drop 16 bytes) numbered
    ∙ ap (λ (l : List ℕ). n ++ l) (parted 16 4 bytes ∙ ap (λ (l : List ℕ). l ++ drop 20 bytes) four
    ∙ ap (λ (l : List ℕ). k ++ l) (parted 20 12 bytes ∙ ap (λ (l : List ℕ). l ++ drop 32 bytes) reserved
    ∙ ap (λ (l : List ℕ). zeros 12 ++ l) (parted 32 (4 * count) bytes
    ∙ ap (λ (l : List ℕ). l ++ drop (32 + 4 * count) bytes) all
    ∙ ap (λ (l : List ℕ). hs ++ l) (padding ∙ ap zeros left))))
    ∙ group_body n k (zeros 12) hs (zeros (4096 * log_descriptor_blocks (length homes) - 8
    - length (n ++ k ++ zeros 12 ++ hs)))

-- blocks rise within the same bounds by other names
pub rises_as : (low low' high high' : ℕ) (xs ys : List ℕ) → low ≡ low' → high ≡ high' → xs ≡ ys
    → RiseWithin low high xs → RiseWithin low' high' ys
rises_as low low' high high' xs ys l h e rise =
    let P : ℕ → Type 0 = λ k. RiseWithin k high xs in
    let Q : ℕ → Type 0 = λ k. RiseWithin low' k xs in
    let R : List ℕ → Type 0 = λ k. RiseWithin low' high' k in
    subst R e (subst Q h (subst P l rise))
