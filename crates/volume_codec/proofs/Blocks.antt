-- The blocks of a device's bytes.
use Rattle.std.proofs.Common.{◌≡◌, ℕ, ◌+◌, ◌*◌, ◌<◌, ◌≤◌, List, ◌++◌, length}
use Rattle.std.proofs.Common.{take, drop, get_or, sym, ◌∙◌, arith, length-append}
use Rattle.std.proofs.lemmas.List.{length-take, length-take-le, length-drop, get_or-take, get_or-drop, ext_get_or}
use Rattle.volume_codec.specs.Layout.{block_at}

-- a block within the bytes is whole
pub length-block_at : (bytes : List ℕ) (i : ℕ) → 4096 * i + 4096 ≤ length bytes → length (block_at bytes i) ≡ 4096
length-block_at bytes i h = length-take-le 4096 (drop (4096 * i) bytes) (omega (arith, length-drop (4096 * i) bytes))

-- a byte of a block
pub get_or-block_at : (bytes : List ℕ) (i k d : ℕ) → k < 4096
    → get_or (block_at bytes i) k d ≡ get_or bytes (4096 * i + k) d
get_or-block_at bytes i k d h = get_or-take 4096 (drop (4096 * i) bytes) k d h ∙ get_or-drop (4096 * i) bytes k d

-- bytes that agree within a block have the same block
pub block_at-agree : (xs ys : List ℕ) (i : ℕ) → length xs ≡ length ys
    → ((k : ℕ) → 4096 * i ≤ k → k < 4096 * i + 4096 → get_or xs k 0 ≡ get_or ys k 0) → block_at xs i ≡ block_at ys i
block_at-agree xs ys i same agree = ext_get_or 0 (block_at xs i) (block_at ys i) lengths each
  where
    lengths : length (block_at xs i) ≡ length (block_at ys i)
    lengths =
        length-take 4096 (drop (4096 * i) xs) ∙ omega (arith, length-drop (4096 * i) xs, length-drop (4096 * i) ys)
        ∙ sym (length-take 4096 (drop (4096 * i) ys))

    each : (k : ℕ) → k < length (block_at xs i) → get_or (block_at xs i) k 0 ≡ get_or (block_at ys i) k 0
    each k h =
        let small : k < 4096 = omega (arith, length-take 4096 (drop (4096 * i) xs)) in
        get_or-block_at xs i k 0 small ∙ agree (4096 * i + k) (omega arith) (omega arith)
        ∙ sym (get_or-block_at ys i k 0 small)

-- bytes with new ones from a place on
abbrev pub written : List ℕ → ℕ → List ℕ → List ℕ
written bytes at new = take at bytes ++ (new ++ drop (at + length new) bytes)

pub length-written : (bytes new : List ℕ) (at : ℕ) → at + length new ≤ length bytes
    → length (written bytes at new) ≡ length bytes
length-written bytes new at h =
    let a = length-append (take at bytes) (new ++ drop (at + length new) bytes) in
    let b = length-append new (drop (at + length new) bytes) in
    omega (arith, length-take-le at bytes (omega arith), length-drop (at + length new) bytes)
