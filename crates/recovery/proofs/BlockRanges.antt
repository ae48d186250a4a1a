-- The blocks of a list that was written or torn in a range.
use Rattle.std.proofs.Common.{◌≡◌, ◌≢◌, ◌≤◌, ℕ, ◌+◌, ◌-◌, ◌*◌, List, ◌++◌, length, take, drop}
use Rattle.std.proofs.Common.{slice_range, inl, inr, sym, ◌∙◌, ap, arith, append_assoc, length-take}
use Rattle.std.proofs.lemmas.List.{take_at, drop_at, drop-take, take-take, drop-drop}
use Rattle.std.proofs.lemmas.Bool.{cases_lt}
use Rattle.device.specs.Device.{written, Torn}
use Rattle.volume_codec.specs.Layout.{block_at, blocks_at}

-- a part that ends at n or before is a part of the first n
pub range-take : (from size n : ℕ) (xs : List ℕ) → from + size ≤ n
    → take size (drop from (take n xs)) ≡ take size (drop from xs)
range-take from size n xs fits =
    sym (drop-take from size (take n xs)) ∙ ap (drop from) (take-take (from + size) n xs fits) ∙ drop-take from size xs

-- a block before a torn range stays
pub block_at-before : {at n : ℕ} {old new : List ℕ} → Torn at n old new → (b : ℕ) → 4096 * b + 4096 ≤ at
    → block_at new b ≡ block_at old b
block_at-before {at} {n} {old} {new} torn b fits =
    sym (range-take (4096 * b) 4096 at new fits) ∙ ap (λ (l : List ℕ). take 4096 (drop (4096 * b) l)) torn.before
    ∙ range-take (4096 * b) 4096 at old fits

-- a block after a torn range stays
pub block_at-after : {at n : ℕ} {old new : List ℕ} → Torn at n old new → (b : ℕ) → at + n ≤ 4096 * b
    → block_at new b ≡ block_at old b
block_at-after {at} {n} {old} {new} torn b fits =
    let rest = 4096 * b - (at + n) in
    let place : at + n + rest ≡ 4096 * b = omega arith in
    let from_end : (l : List ℕ) → block_at l b ≡ take 4096 (drop rest (drop (at + n) l)) =
    λ l. ap (λ k. take 4096 (drop k l)) (sym place) ∙ ap (take 4096) (sym (drop-drop rest (at + n) l)) in
    from_end new ∙ ap (λ (l : List ℕ). take 4096 (drop rest l)) torn.after ∙ sym (from_end old)

-- a block other than the one that is torn stays
pub block_at-other : (h : ℕ) {n : ℕ} {old new : List ℕ} → Torn (4096 * h) n old new → n ≤ 4096 → (b : ℕ) → b ≢ h
    → block_at new b ≡ block_at old b
block_at-other h torn small b other = elim (cases_lt b h) [
  | inl before ↦ block_at-before torn b (omega arith)
  | inr after ↦ block_at-after torn b (omega arith)
]

-- a block that is written
pub block_at-written : (old : List ℕ) (h : ℕ) (bytes : List ℕ) → length bytes ≡ 4096 → 4096 * h + 4096 ≤ length old
    → block_at (written old (4096 * h) bytes) h ≡ bytes
block_at-written old h bytes whole fits =
    let rest = drop (4096 * h + length bytes) old in
    let front : length (take (4096 * h) old) ≡ 4096 * h = omega (arith, length-take (4096 * h) old) in
    ap (λ (l : List ℕ). take 4096 (drop (4096 * h) l)) (append_assoc (take (4096 * h) old) bytes rest)
    ∙ ap (take 4096) (drop_at (take (4096 * h) old) (bytes ++ rest) (4096 * h) front)
    ∙ take_at bytes rest 4096 whole

-- a read of a block's size at its offset gives the block
pub block_of_range : (bytes : List ℕ) (x b n : ℕ) → x ≡ b → n ≡ 4096
    → slice_range bytes (4096 * x) (4096 * x + n) ≡ block_at bytes b
block_of_range bytes x b n same size =
    let part : 4096 * x + n - 4096 * x ≡ 4096 = omega arith in
    ap (λ k. take k (drop (4096 * x) bytes)) part ∙ ap (λ k. take 4096 (drop (4096 * k) bytes)) same

-- and a read of as many blocks gives these blocks
pub blocks_of_range : (bytes : List ℕ) (x b n count : ℕ) → x ≡ b → n ≡ 4096 * count
    → slice_range bytes (4096 * x) (4096 * x + n) ≡ blocks_at bytes b count
blocks_of_range bytes x b n count same size =
    let part : 4096 * x + n - 4096 * x ≡ 4096 * count = omega (arith, size) in
    ap (λ k. take k (drop (4096 * x) bytes)) part ∙ ap (λ k. take (4096 * count) (drop (4096 * k) bytes)) same
