-- Blocks one after another.
use Rattle.std.proofs.Common.{◌≡◌, ℕ, zero, suc, ◌+◌, ◌-◌, ◌*◌, ◌<◌, List, ◌++◌, length, take, drop}
use Rattle.std.proofs.Common.{refl, sym, ap, ◌∙◌, arith}
use Rattle.std.proofs.Math.Seq.{take-add}
use Rattle.std.proofs.lemmas.List.{drop-drop, drop-take, take-take, take_all}
use Rattle.volume_codec.specs.Layout.{block_at, blocks_at}

-- the first of them, and the others
blocks-first : (bytes : List ℕ) (b n : ℕ) → blocks_at bytes b (suc n) ≡ block_at bytes b ++ blocks_at bytes (b + 1) n
blocks-first bytes b n =
    let there : 4096 * b + 4096 ≡ 4096 * (b + 1) = omega arith in
    let size : 4096 * suc n ≡ 4096 + 4096 * n = omega arith in
    ap (λ k. take k (drop (4096 * b) bytes)) size
    ∙ take-add 4096 (4096 * n) (drop (4096 * b) bytes)
    ∙ ap (λ (l : List ℕ). block_at bytes b ++ take (4096 * n) l)
    (drop-drop 4096 (4096 * b) bytes ∙ ap (λ k. drop k bytes) there)

-- blocks that are the same give the same bytes
pub blocks_same : (xs ys : List ℕ) (b c n : ℕ) → ((i : ℕ) → i < n → block_at xs (b + i) ≡ block_at ys (c + i))
    → blocks_at xs b n ≡ blocks_at ys c n
blocks_same xs ys b c zero same = refl
blocks_same xs ys b c (suc n) same =
    let first : block_at xs b ≡ block_at ys c =
    ap (block_at xs) (omega arith) ∙ same 0 (omega arith) ∙ ap (block_at ys) (omega arith) in
    let rest = blocks_same xs ys (b + 1) (c + 1) n (λ i lt.
    ap (block_at xs) (omega arith) ∙ same (suc i) (omega arith) ∙ ap (block_at ys) (omega arith)) in
    blocks-first xs b n
    ∙ ap (λ (l : List ℕ). l ++ blocks_at xs (b + 1) n) first
    ∙ ap (λ (l : List ℕ). block_at ys c ++ l) rest
    ∙ sym (blocks-first ys c n)

-- a text whose blocks are there is there
pub blocks_joined : (bytes text : List ℕ) (b n : ℕ) → length text ≡ 4096 * n
    → ((i : ℕ) → i < n → block_at bytes (b + i) ≡ block_at text i)
    → blocks_at bytes b n ≡ text
blocks_joined bytes text b n size same =
    blocks_same bytes text b 0 n (λ i lt. same i lt ∙ ap (block_at text) (omega arith))
    ∙ take_all (4096 * n) text (omega (arith, size))

-- one of them
pub block_among : (bytes : List ℕ) (b n i : ℕ) → i < n → block_at (blocks_at bytes b n) i ≡ block_at bytes (b + i)
block_among bytes b n i lt =
    let m = 4096 * n - 4096 * i in
    let size : 4096 * n ≡ 4096 * i + m = omega arith in
    let place : 4096 * b + 4096 * i ≡ 4096 * (b + i) = omega arith in
    ap (λ k. take 4096 (drop (4096 * i) (take k (drop (4096 * b) bytes)))) size
    ∙ ap (take 4096) (drop-take (4096 * i) m (drop (4096 * b) bytes))
    ∙ take-take 4096 m (drop (4096 * i) (drop (4096 * b) bytes)) (omega arith)
    ∙ ap (take 4096) (drop-drop (4096 * i) (4096 * b) bytes ∙ ap (λ k. drop k bytes) place)
