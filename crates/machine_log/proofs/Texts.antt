-- Blocks that are kept, one behind the other.
use Rattle.std.proofs.Common.{◌≡◌, ℕ, ◌+◌, ◌*◌, ◌<◌, List, [], ◌++◌, length, take, drop, inl, inr, refl, sym, ap}
use Rattle.std.proofs.Common.{◌∙◌, Some, arith, length-append}
use Rattle.std.proofs.lemmas.Bool.{cases_eq}
use Rattle.std.proofs.lemmas.List.{drop_at, take_all, drop-append-le, take-append-le, length-drop}
use Rattle.volume_codec.specs.Layout.{block_at}
use Rattle.kept_blocks.specs.Blocks.{Blocks, bytes_in}
use Rattle.machine_log.specs.inside.Closing.{HasTextUpTo}

pub no_text : (blocks : Blocks) (first : ℕ) (bytes : List ℕ) → bytes ≡ [] → HasTextUpTo blocks first 0 bytes
no_text blocks first bytes none = record {
  long = ap length none;
  each = λ i lt. absurd (omega (arith, lt));
}

-- one block more
pub more_text : (blocks : Blocks) (first n : ℕ) (bytes block : List ℕ) → HasTextUpTo blocks first n bytes
    → length block ≡ 4096 → bytes_in blocks (first + n) ≡ Some block → HasTextUpTo blocks first (n + 1) (bytes ++ block)
more_text blocks first n bytes block has size there = record {
  long = length-append bytes block ∙ omega (arith, has.long, size);
  each = λ i lt. elim (cases_eq i n) [
    | inl last ↦ ap (λ k. bytes_in blocks (first + k)) last ∙ there ∙ ap Some (sym (at_end i last))
    | inr other ↦ has.each i (omega (arith, lt)) ∙ ap Some (sym (before i (omega (arith, lt))))
  ];
}
  where
    at_end : (i : ℕ) → i ≡ n → block_at (bytes ++ block) i ≡ block
    at_end i last =
        let place : 4096 * i ≡ length bytes = omega (arith, has.long, last) in
        ap (λ k. take 4096 (drop k (bytes ++ block))) place
        ∙ ap (take 4096) (drop_at bytes block (length bytes) refl) ∙ take_all 4096 block (omega (arith, size))

    before : (i : ℕ) → i < n → block_at (bytes ++ block) i ≡ block_at bytes i
    before i lt =
        ap (take 4096) (drop-append-le (4096 * i) bytes block (omega (arith, has.long, lt)))
        ∙ take-append-le 4096 (drop (4096 * i) bytes) block
        (omega (arith, has.long, lt, length-drop (4096 * i) bytes))
