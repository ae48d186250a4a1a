-- Bytes that are written into a block behind those that are written already.
use Rattle.std.proofs.Common.{◌≡◌, ℕ, ◌+◌, ◌-◌, ◌≤◌, List, ◌++◌, length, take, drop, sym, ap, ◌∙◌, arith}
use Rattle.std.proofs.Common.{append_assoc, length-append}
use Rattle.std.proofs.lemmas.List.{take_at, drop_at}
use borrow.Rule.Slice.PartMut.{put_mid}
use Rattle.volume_codec.specs.Text.{zeros, padded}
use Rattle.volume_codec.proofs.Padding.{drop-zeros}

pub padded-put : (block text bytes : List ℕ) (at k : ℕ) → block ≡ padded 4096 text → length text ≡ at
    → k ≡ length bytes → at + length bytes ≤ 4096 → put_mid at k block bytes ≡ padded 4096 (text ++ bytes)
padded-put block text bytes at k is size count room =
    let front : take at block ≡ text =
    ap (take at) is ∙ take_at text (zeros (4096 - length text)) at size in
    let back : drop k (drop at block) ≡ zeros (4096 - length text - k) =
    ap (λ (l : List ℕ). drop k (drop at l)) is ∙ ap (drop k) (drop_at text (zeros (4096 - length text)) at size)
    ∙ drop-zeros k (4096 - length text) in
    let left : 4096 - length text - k ≡ 4096 - length (text ++ bytes) = omega (arith, length-append text bytes) in
    ap (λ (l : List ℕ). l ++ (bytes ++ drop k (drop at block))) front
    ∙ ap (λ (l : List ℕ). text ++ (bytes ++ l)) (back ∙ ap zeros left)
    ∙ sym (append_assoc text bytes (zeros (4096 - length (text ++ bytes))))
