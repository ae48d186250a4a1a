-- Blocks of the ring one after another, as they are read.
use Rattle.std.proofs.Common.{◌≡◌, ℕ, zero, suc, ◌+◌, ◌*◌, ◌<◌, ◌≤◌, List, ◌++◌, length, take, drop}
use Rattle.std.proofs.Common.{sym, ap, ◌∙◌, arith, append_assoc, add-zero, slice_range, ◌-◌}
use Rattle.std.proofs.Common.{length-append, length-take}
use Rattle.std.proofs.lemmas.List.{append-nil, take-take, take-append-le}
use Rattle.volume_codec.specs.Layout.{block_at}
use Rattle.volume_codec.specs.Recovery.{blocks_from}
use Rattle.log_codec.specs.Log.{LogValue, IsLog, ring_block, ring_bytes}
use Rattle.log_codec.proofs.Public.{first_of_ring}

-- a read of a block's size at its offset gives the block
pub block_of_range : (bytes : List ℕ) (x b n : ℕ) → x ≡ b → n ≡ 4096
    → slice_range bytes (4096 * x) (4096 * x + n) ≡ block_at bytes b
block_of_range bytes x b n same size =
    let part : 4096 * x + n - 4096 * x ≡ 4096 = omega arith in
    ap (λ k. take k (drop (4096 * x) bytes)) part ∙ ap (λ k. take 4096 (drop (4096 * k) bytes)) same

blocks_more : (f : ℕ → List ℕ) (b n : ℕ) → blocks_from f b (suc n) ≡ blocks_from f b n ++ f (b + n)
blocks_more f b zero = append-nil (f b) ∙ ap f (sym (add-zero b))
blocks_more f b (suc n) =
    let place : b + 1 + n ≡ b + suc n = omega arith in
    ap (λ (l : List ℕ). f b ++ l) (blocks_more f (b + 1) n)
    ∙ sym (append_assoc (f b) (blocks_from f (b + 1) n) (f (b + 1 + n)))
    ∙ ap (λ k. f b ++ blocks_from f (b + 1) n ++ f k) place

-- one block more
pub ring_more : (ring : ℕ) (bytes : List ℕ) (p n : ℕ)
    → ring_bytes ring bytes p (n + 1) ≡ ring_bytes ring bytes p n ++ block_at bytes (ring_block ring (p + n))
ring_more ring bytes p n =
    let next : n + 1 ≡ suc n = omega arith in
    ap (λ k. ring_bytes ring bytes p k) next ∙ blocks_more (λ i. block_at bytes (ring_block ring i)) p n

-- the first one
pub ring_first : (ring : ℕ) (bytes : List ℕ) (p : ℕ) → ring_bytes ring bytes p 1 ≡ block_at bytes (ring_block ring p)
ring_first ring bytes p = append-nil (block_at bytes (ring_block ring p))

-- the seal in them is that of the first block
pub ring_seal : (g : LogValue) (bytes : List ℕ) (p n : ℕ) → IsLog g → 4096 * g.blocks ≤ length bytes → 0 < n
    → take 8 (ring_bytes g.ring bytes p n) ≡ take 8 (block_at bytes (ring_block g.ring p))
ring_seal g bytes p n log long some =
    sym (take-take 8 4096 (ring_bytes g.ring bytes p n) (omega arith))
    ∙ ap (take 8) (first_of_ring g bytes p n log long some)

-- what was read of them, and one more
pub ring_read : (ring : ℕ) (bytes now : List ℕ) (p i b : ℕ) (items block new : List ℕ) → new ≡ items ++ block
    → items ≡ ring_bytes ring bytes p i → block ≡ block_at now b → now ≡ bytes → b ≡ ring_block ring (p + i)
    → new ≡ ring_bytes ring bytes p (i + 1)
ring_read ring bytes now p i b items block new is before read same at =
    is ∙ ap (λ (l : List ℕ). l ++ block) before
    ∙ ap (λ (l : List ℕ). ring_bytes ring bytes p i ++ l)
    (read ∙ ap (λ (l : List ℕ). block_at l b) same ∙ ap (block_at bytes) at)
    ∙ sym (ring_more ring bytes p i)

-- they are no longer than so many blocks
length-blocks : (f : ℕ → List ℕ) (b n : ℕ) → ((i : ℕ) → length (f i) ≤ 4096) → length (blocks_from f b n) ≤ 4096 * n
length-blocks f b zero few = omega arith
length-blocks f b (suc n) few =
    omega (arith, few b, length-append (f b) (blocks_from f (b + 1) n), length-blocks f (b + 1) n few)

pub length-ring_bytes : (ring : ℕ) (bytes : List ℕ) (p n : ℕ) → length (ring_bytes ring bytes p n) ≤ 4096 * n
length-ring_bytes ring bytes p n = length-blocks (λ i. block_at bytes (ring_block ring i)) p n
    (λ i. omega (arith, length-take 4096 (drop (4096 * ring_block ring i) bytes)))

-- the first block stays with a further one behind it
pub begins_still : (items block first new : List ℕ) (i : ℕ) → new ≡ items ++ block → length items ≡ 4096 * i → 0 < i
    → take 4096 items ≡ first → take 4096 new ≡ first
begins_still items block first new i is size some begins =
    ap (take 4096) is ∙ take-append-le 4096 items block (omega (arith, size)) ∙ begins
