-- Where the bytes of a ring lie.
use Rattle.std.proofs.Common.{◌≡◌, ◌≢◌, ℕ, zero, suc, ◌+◌, ◌-◌, ◌*◌, ◌/◌, ◌%◌, ◌<◌, ◌≤◌, List, ◌++◌, length, drop}
use Rattle.std.proofs.Common.{get_or, inl, inr, refl, sym, ap, ◌∙◌, arith, length-append, length-take}
use Rattle.std.proofs.Common.{length-drop}
use Rattle.std.proofs.Math.Nat.{mod-add-mod, mod-add-div', mul-le-mul_right}
use Rattle.std.proofs.lemmas.Bool.{cases_lt, cases_order}
use Rattle.std.proofs.lemmas.Nat.{mod_below}
use Rattle.std.proofs.lemmas.List.{ext_get_or, get_or_append_left, get_or-append_right, get_or-take, get_or-drop}
use Rattle.volume_codec.specs.Layout.{block_at}
use Rattle.log_codec.specs.Log.{ring_block, ring_bytes}

-- ---- positions

-- less than a round apart, they are apart
pub mod_apart : (ring a b : ℕ) → 0 < ring → a < b → b < a + ring → a % ring ≢ b % ring
mod_apart ring a b some lt near same =
    let first : a % ring + a / ring * ring ≡ a = mod-add-div' a ring in
    let second : b % ring + b / ring * ring ≡ b = mod-add-div' b ring in
    elim (cases_order (a / ring) (b / ring)) [
      | inl is ↦ absurd (omega (arith, ap (λ n. n * ring) is))
      | inr (inl less) ↦ absurd (omega (arith, mul-le-mul_right {m = a / ring + 1} {n = b / ring} ring (omega arith)))
      | inr (inr more) ↦ absurd (omega (arith, mul-le-mul_right {m = b / ring} {n = a / ring} ring (omega arith)))
    ]

pub blocks_apart : (ring a b : ℕ) → 0 < ring → a < b → b < a + ring → ring_block ring a ≢ ring_block ring b
blocks_apart ring a b some lt near same = mod_apart ring a b some lt near (omega arith)

-- a whole round makes no difference
pub block_round : (ring p k : ℕ) → ring_block ring (p % ring + k) ≡ ring_block ring (p + k)
block_round ring p k = ap (λ n. 4 + n) (mod-add-mod p ring k)

pub block_low : (ring p : ℕ) → 0 < ring → ring_block ring p < 4 + ring
block_low ring p some = omega (arith, mod_below p ring some)

-- ---- bytes

-- the place of byte k from position p on
abbrev pub ring_place : ℕ → ℕ → ℕ → ℕ
ring_place ring p k = 4096 * ring_block ring (p + k / 4096) + k % 4096

pub place_round : (ring p k : ℕ) → ring_place ring (p % ring) k ≡ ring_place ring p k
place_round ring p k = ap (λ n. 4096 * n + k % 4096) (block_round ring p (k / 4096))

pub place_behind : (ring p n k : ℕ) → ring_place ring (p + n) k ≡ ring_place ring p (4096 * n + k)
place_behind ring p n k =
    let block : p + n + k / 4096 ≡ p + (4096 * n + k) / 4096 = omega arith in
    let byte : k % 4096 ≡ (4096 * n + k) % 4096 = omega arith in
    ap (λ x. 4096 * ring_block ring x + k % 4096) block
    ∙ ap (λ x. 4096 * ring_block ring (p + (4096 * n + k) / 4096) + x) byte

-- a byte of another block
pub place_other : (ring p k b j : ℕ) → j < 4096 → b ≢ ring_block ring (p + k / 4096)
    → 4096 * b + j ≢ ring_place ring p k
place_other ring p k b j small other same = other (omega arith)

-- a byte of the blocks before the log
pub place_low : (ring p k i : ℕ) → i < 16384 → i ≢ ring_place ring p k
place_low ring p k i low same = absurd (omega arith)

-- two bytes within a round
pub places_apart : (ring p j k : ℕ) → 0 < ring → j < k → k < 4096 * ring → ring_place ring p j ≢ ring_place ring p k
places_apart ring p j k some lt near same = elim (cases_lt (j / 4096) (k / 4096)) [
  | inl less ↦ blocks_apart ring (p + j / 4096) (p + k / 4096) some (omega arith) (omega arith) (omega arith)
  | inr not ↦
      let block : j / 4096 ≡ k / 4096 = omega arith in
      let there = ap (λ x. 4096 * ring_block ring (p + x)) block in
      absurd (omega arith)
]

-- ---- what is read there

pub get_or-block : (bytes : List ℕ) (i k : ℕ) → k < 4096 → get_or (block_at bytes i) k 0 ≡ get_or bytes (4096 * i + k) 0
get_or-block bytes i k h = get_or-take 4096 (drop (4096 * i) bytes) k 0 h ∙ get_or-drop (4096 * i) bytes k 0

pub first-block : (bytes : List ℕ) (i : ℕ) → get_or (block_at bytes i) 0 0 ≡ get_or bytes (4096 * i) 0
first-block bytes i = get_or-block bytes i 0 (omega arith) ∙ ap (λ n. get_or bytes n 0) (omega arith)

pub length-block : (bytes : List ℕ) (i : ℕ) → 4096 * i + 4096 ≤ length bytes → length (block_at bytes i) ≡ 4096
length-block bytes i h = omega (arith, length-take 4096 (drop (4096 * i) bytes), length-drop (4096 * i) bytes)

-- bytes that agree within a block have the same block
pub same_block : (xs ys : List ℕ) (b : ℕ) → length xs ≡ length ys
    → ((j : ℕ) → j < 4096 → get_or xs (4096 * b + j) 0 ≡ get_or ys (4096 * b + j) 0) → block_at xs b ≡ block_at ys b
same_block xs ys b same agree =
    ext_get_or 0 (block_at xs b) (block_at ys b)
    (omega (
      arith,
      length-take 4096 (drop (4096 * b) xs),
      length-take 4096 (drop (4096 * b) ys),
      length-drop (4096 * b) xs,
      length-drop (4096 * b) ys,
    ))
    (λ k lt.
    let small : k < 4096 = omega (arith, length-take 4096 (drop (4096 * b) xs)) in
    get_or-block xs b k small ∙ agree k small ∙ sym (get_or-block ys b k small))

module _ (ring : ℕ) (bytes : List ℕ) (some : 0 < ring) (long : 4096 * (4 + ring) ≤ length bytes) where
  whole : (p : ℕ) → length (block_at bytes (ring_block ring p)) ≡ 4096
  whole p = length-block bytes (ring_block ring p) (omega (arith, block_low ring p some))

  pub length-ring : (p n : ℕ) → length (ring_bytes ring bytes p n) ≡ 4096 * n
  length-ring p zero = refl
  length-ring p (suc n) =
      omega (
        arith,
        length-append (block_at bytes (ring_block ring p)) (ring_bytes ring bytes (p + 1) n),
        whole p,
        length-ring (p + 1) n,
      )

  pub ring_at : (p n k : ℕ) → k < 4096 * n
      → get_or (ring_bytes ring bytes p n) k 0 ≡ get_or bytes (ring_place ring p k) 0
  ring_at p zero k lt = absurd (omega arith)
  ring_at p (suc n) k lt =
      let first : List ℕ = block_at bytes (ring_block ring p) in
      let rest : List ℕ = ring_bytes ring bytes (p + 1) n in
      elim (cases_lt k 4096) [
        | inl small ↦
            let here : p ≡ p + k / 4096 = omega arith in
            let byte : k ≡ k % 4096 = omega arith in
            get_or_append_left first rest 0 k (omega (arith, whole p)) ∙ get_or-block bytes (ring_block ring p) k small
            ∙ ap (λ x. get_or bytes (4096 * ring_block ring x + k) 0) here
            ∙ ap (λ x. get_or bytes (4096 * ring_block ring (p + k / 4096) + x) 0) byte
        | inr past ↦
            let there : ring_place ring (p + 1) (k - 4096) ≡ ring_place ring p k =
            place_behind ring p 1 (k - 4096) ∙ ap (ring_place ring p) (omega arith) in
            get_or-append_right first rest 4096 k 0 (whole p) past ∙ ring_at (p + 1) n (k - 4096) (omega arith)
            ∙ ap (λ x. get_or bytes x 0) there
      ]

  -- blocks that have these bytes
  pub ring_spelled : (p n : ℕ) (image : List ℕ) → length image ≡ 4096 * n
      → ((k : ℕ) → k < 4096 * n → get_or bytes (ring_place ring p k) 0 ≡ get_or image k 0)
      → ring_bytes ring bytes p n ≡ image
  ring_spelled p n image size spelled =
      ext_get_or 0 (ring_bytes ring bytes p n) image (length-ring p n ∙ sym size) (λ k lt.
      let within : k < 4096 * n = omega (arith, length-ring p n) in
      ring_at p n k within ∙ spelled k within)

-- blocks that agree
pub same_ring : (ring p q n : ℕ) (xs ys : List ℕ)
    → ((k : ℕ) → k < n → block_at xs (ring_block ring (p + k)) ≡ block_at ys (ring_block ring (q + k)))
    → ring_bytes ring xs p n ≡ ring_bytes ring ys q n
same_ring ring p q zero xs ys same = refl
same_ring ring p q (suc n) xs ys same =
    let here : block_at xs (ring_block ring p) ≡ block_at ys (ring_block ring q) =
    ap (λ x. block_at xs (ring_block ring x)) (omega arith) ∙ same 0 (omega arith)
    ∙ ap (λ x. block_at ys (ring_block ring x)) (omega arith) in
    let rest : ring_bytes ring xs (p + 1) n ≡ ring_bytes ring ys (q + 1) n =
    same_ring ring (p + 1) (q + 1) n xs ys (λ k lt.
    ap (λ x. block_at xs (ring_block ring x)) (omega arith) ∙ same (k + 1) (omega arith)
    ∙ ap (λ x. block_at ys (ring_block ring x)) (omega arith)) in
    ap (λ (l : List ℕ). l ++ ring_bytes ring xs (p + 1) n) here
    ∙ ap (λ (l : List ℕ). block_at ys (ring_block ring q) ++ l) rest

pub ring_round : (ring p n : ℕ) (bytes : List ℕ) → ring_bytes ring bytes (p % ring) n ≡ ring_bytes ring bytes p n
ring_round ring p n bytes =
    same_ring ring (p % ring) p n bytes bytes (λ k lt. ap (block_at bytes) (block_round ring p k))
