-- The bits of a mask that was made lane by lane.
use Rattle.std.proofs.Common.{◌≡◌, ℕ, zero, suc, ◌+◌, ◌-◌, ◌*◌, ◌/◌, ◌%◌, ◌^◌, ◌<◌, ◌≤◌, Bool}
use Rattle.std.proofs.Common.{true, false, cond, eqb, List, [], ◌∷◌, ◌++◌, map, length, get_or}
use Rattle.std.proofs.Common.{take, drop, replicate, refl, ap, ap₂, ◌∙◌, subst, w64, arith}
use Rattle.std.specs.Int.RustNames.{bit_and}
use Rattle.std.proofs.lemmas.Simd.{zip2_splat, map-map, bitmask_splat, bit_mask_l}
use Rattle.std.proofs.lemmas.Simd.{mask_l-lt, get_or-chunk, length-chunk, chunk-drop}
use Rattle.std.proofs.lemmas.List.{get_or-map, length-map, map-append, length-drop}
use Rattle.std.proofs.Math.Nat.{pow-suc, pow-le-pow_right}
use lib.Lanes.{zip2, mask_l, top, chunk}
use Rattle.page_entry.specs.Entry.{has_bit}
use Rattle.page_entry.proofs.Bits.{test_bit}

abbrev pub dirties : List ℕ → List Bool
dirties entries = map (λ entry. has_bit entry 6) entries

map_same : (f g : ℕ → Bool) → ((n : ℕ) → f n ≡ g n) → (xs : List ℕ) → map f xs ≡ map g xs
map_same f g same [] = refl
map_same f g same (x ∷ xs) = ap₂ (λ a b. a ∷ b) (same x) (map_same f g same xs)

-- the comparison of eight lanes
pub compared : (v : List ℕ) → length v ≡ 8
    → mask_l (map (top 63)
    (zip2 (λ a b. cond (eqb a b) (2 ^ 64 - 1) 0) (zip2 bit_and v (replicate 8 64)) (replicate 8 64))) % 2 ^ 64
    ≡ mask_l (dirties v)
compared v long =
    ap (λ l. mask_l (map (top 63) (zip2 (λ a b. cond (eqb a b) (2 ^ 64 - 1) 0) l (replicate 8 64))) % 2 ^ 64)
    (zip2_splat bit_and v 8 64 long)
    ∙ bitmask_splat w64 (λ a b. eqb a b) (map (λ x. bit_and x 64) v) 8 64
    (length-map v (λ x. bit_and x 64) ∙ long) (omega arith)
    ∙ ap mask_l (map-map (λ x. eqb x 64) (λ x. bit_and x 64) v ∙ map_same _ _ (λ n. test_bit n 6 (omega arith)) v)

-- a mask of two lists
mask-append : (xs ys : List Bool) → mask_l (xs ++ ys) ≡ mask_l xs + 2 ^ length xs * mask_l ys
mask-append [] ys = omega arith
mask-append (x ∷ xs) ys = rw (pow-suc 2 (length xs)) (omega (arith, mask-append xs ys))

-- eight more lanes before the others
pub mask_more : (entries : List ℕ) (from : ℕ) → from + 8 ≤ length entries
    → mask_l (dirties (drop from entries))
    ≡ mask_l (dirties (drop (from + 8) entries)) * 256 + mask_l (dirties (chunk from 8 entries))
mask_more entries from within =
    ap (λ l. mask_l (dirties l)) (chunk-drop from 8 entries)
    ∙ ap mask_l (map-append (λ entry. has_bit entry 6) (chunk from 8 entries) (drop (from + 8) entries))
    ∙ mask-append (dirties (chunk from 8 entries)) (dirties (drop (from + 8) entries))
    ∙ ap (λ n. mask_l (dirties (chunk from 8 entries)) + 2 ^ n * mask_l (dirties (drop (from + 8) entries)))
    (length-map (chunk from 8 entries) (λ entry. has_bit entry 6) ∙ length-chunk from 8 entries within)
    ∙ (omega arith)

pow_up_to : (n : ℕ) → n ≤ 56 → 2 ^ n ≤ 2 ^ 56
pow_up_to n le = pow-le-pow_right (omega arith) le

-- the lanes that are left make a small number
pub mask_small : (entries : List ℕ) (from : ℕ) → length entries ≡ 64 → 8 ≤ from → from ≤ 64
    → mask_l (dirties (drop from entries)) < 2 ^ 56
mask_small entries from long some within =
    let size : length (dirties (drop from entries)) ≡ 64 - from =
    length-map (drop from entries) (λ entry. has_bit entry 6)
    ∙ length-drop from entries
    ∙ ap (λ n. n - from) long in
    omega (
      arith,
      mask_l-lt (dirties (drop from entries)),
      pow_up_to (length (dirties (drop from entries))) (omega arith),
    )

pub lanes_small : (entries : List ℕ) → length entries ≡ 8 → mask_l (dirties entries) < 256
lanes_small entries long =
    let size : length (dirties entries) ≡ 8 = length-map entries (λ entry. has_bit entry 6) ∙ long in
    subst (λ n. mask_l (dirties entries) < 2 ^ n) size (mask_l-lt (dirties entries))

has_bit_mask : (ms : List Bool) (i : ℕ) → has_bit (mask_l ms) i ≡ get_or ms i false
has_bit_mask ms i = ap (λ n. eqb n 1) (bit_mask_l ms i) ∙ by_bit (get_or ms i false)
  where
    by_bit : (b : Bool) → eqb (cond b 1 0) 1 ≡ b
    by_bit true = refl
    by_bit false = refl

-- each bit of the mask of 64 entries
pub bit_of_word : (entries : List ℕ) (from i : ℕ) → from + 64 ≤ length entries → i < 64
    → has_bit (mask_l (dirties (chunk from 64 entries))) i ≡ has_bit (get_or entries (from + i) 0) 6
bit_of_word entries from i within less =
    has_bit_mask (dirties (chunk from 64 entries)) i
    ∙ get_or-map (λ entry. has_bit entry 6) (chunk from 64 entries) i 0 false
    (omega (arith, length-chunk from 64 entries within))
    ∙ ap (λ n. has_bit n 6) (get_or-chunk from 64 entries i 0 less)

take_twice : (n : ℕ) (xs : List ℕ) → take n (take n xs) ≡ take n xs
take_twice zero xs = refl
take_twice (suc n) [] = refl
take_twice (suc n) (x ∷ xs) = ap (λ l. x ∷ l) (take_twice n xs)

-- eight entries of a part of eight
pub lanes_read : (entries : List ℕ) (from : ℕ)
    → chunk 0 8 (take (from + 8 - from) (drop from entries)) ≡ chunk from 8 entries
lanes_read entries from =
    ap (λ n. take 8 (take n (drop from entries))) {x = from + 8 - from} {y = 8} (omega arith)
    ∙ take_twice 8 (drop from entries)

pub none_left : (n : ℕ) (entries : List ℕ) → length entries ≤ n → mask_l (dirties (drop n entries)) ≡ 0
none_left zero [] le = refl
none_left (suc n) [] le = refl
none_left zero (e ∷ es) le = absurd (omega arith)
none_left (suc n) (e ∷ es) le = none_left n es (omega arith)

pub length_lanes : (entries : List ℕ) (from : ℕ) → from + 8 ≤ length entries → length (chunk from 8 entries) ≡ 8
length_lanes entries from within = length-chunk from 8 entries within

-- the mask of a whole node
pub bit_of_mask : (entries mask : List ℕ) → length entries ≡ 512
    → ((k : ℕ) → k < 8 → get_or mask k 0 ≡ mask_l (dirties (chunk (k * 64) 64 entries))) → (i : ℕ) → i < 512
    → has_bit (get_or mask (i / 64) 0) (i % 64) ≡ has_bit (get_or entries i 0) 6
bit_of_mask entries mask long made i less =
    ap (λ n. has_bit n (i % 64)) (made (i / 64) (omega arith))
    ∙ bit_of_word entries (i / 64 * 64) (i % 64) (omega arith) (omega arith)
    ∙ ap (λ n. has_bit (get_or entries n 0) 6) {x = i / 64 * 64 + i % 64} {y = i} (omega arith)
