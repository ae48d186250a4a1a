-- The body of a descriptor, block by block.
use Rattle.std.proofs.Common.{◌≡◌, ℕ, ◌+◌, ◌-◌, ◌*◌, ◌<◌, ◌≤◌, ◌^◌, List, [], ◌++◌, length, take, drop}
use Rattle.std.proofs.Common.{sym, ap, subst, ◌∙◌, arith}
use Rattle.std.proofs.Math.Seq.{take-add}
use Rattle.std.proofs.lemmas.List.{append-nil, take_all, drop_at, drop-take, take-take}
use Rattle.xxh64.specs.declared.Xxh64.{Xxh64}
use Rattle.xxh64.specs.Xxh64.{HasMessage}
use Rattle.volume_codec.specs.Layout.{block_at}
use Rattle.volume_codec.proofs.Public.{length-zeros}
use Rattle.volume_codec.proofs.Padding.{drop-past}
use Rattle.log_codec.specs.Log.{log_descriptor_blocks}
use Rattle.log_codec.specs.Commit.{LogDescriptor, log_body, open_seal}
use Rattle.log_codec.proofs.Bodies.{length-body}

pub length-open_seal : length open_seal ≡ 8
length-open_seal = omega (arith, length-zeros 7)

pub short_body : (d : LogDescriptor) → length d.homes ≤ 65535 → length (log_body d) < 2 ^ 32
short_body d few = omega (arith, length-body open_seal d.homes d.number length-open_seal few)

-- the bytes of the first block behind the seal
pub first_part : (seal body first : List ℕ) → length seal ≡ 8 → first ≡ block_at (seal ++ body) 0
    → take 4088 (drop 8 first) ≡ take 4088 body
first_part seal body first eight is =
    ap (λ (l : List ℕ). take 4088 (drop 8 l)) is ∙ ap (take 4088) (drop-take 8 4088 (seal ++ body))
    ∙ ap (λ (l : List ℕ). take 4088 (take 4088 l)) (drop_at seal body 8 eight)
    ∙ take-take 4088 4088 body (omega arith)

-- the bytes of the next block
pub next_part : (seal body block : List ℕ) (i : ℕ) → length seal ≡ 8 → 0 < i → block ≡ block_at (seal ++ body) i
    → take (4096 * i - 8) body ++ block ≡ take (4096 * (i + 1) - 8) body
next_part seal body block i eight some is =
    let place : 4096 * i ≡ 8 + (4096 * i - 8) = omega arith in
    let end : 4096 * i - 8 + 4096 ≡ 4096 * (i + 1) - 8 = omega arith in
    let here : block ≡ take 4096 (drop (4096 * i - 8) body) =
    is ∙ ap (λ k. take 4096 (drop k (seal ++ body))) place
    ∙ ap (take 4096) (drop-past seal body 8 (4096 * i - 8) eight) in
    ap (λ (l : List ℕ). take (4096 * i - 8) body ++ l) here ∙ sym (take-add (4096 * i - 8) 4096 body)
    ∙ ap (λ k. take k body) end

-- the digest of all of its blocks
pub whole_body : (hasher : Xxh64) (seed i : ℕ) (d : LogDescriptor) → length d.homes ≤ 65535
    → log_descriptor_blocks (length d.homes) ≤ i → HasMessage hasher seed (take (4096 * i - 8) (log_body d))
    → HasMessage hasher seed (log_body d ++ [])
whole_body hasher seed i d few all has =
    let P : List ℕ → Type 0 = λ m. HasMessage hasher seed m in
    let size = length-body open_seal d.homes d.number length-open_seal few in
    subst P (take_all (4096 * i - 8) (log_body d) (omega arith) ∙ sym (append-nil (log_body d))) has
