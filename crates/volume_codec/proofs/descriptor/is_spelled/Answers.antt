use Rattle.std.proofs.Common.{◌≡◌, ℕ, ◌+◌, ◌-◌, ◌*◌, List, take, drop, false, refl, ap, sym, ◌∙◌, arith, inl, inr}
use Rattle.std.proofs.lemmas.Bool.{both_ways, cases_eq}
use Rattle.volume_codec.specs.Layout.{block_at}
use Rattle.volume_codec.specs.Descriptor.{descriptor_text}
use Rattle.volume_codec.proofs.Described.{length-descriptor_text, same_by_blocks}
use Rattle.volume_codec.proofs.descriptor.is_spelled.Goals as goal

-- the bytes of a block
block-part : (bytes : List ℕ) (i : ℕ) → take (4096 * i + 4096 - 4096 * i) (drop (4096 * i) bytes) ≡ block_at bytes i
block-part bytes i =
    let size : 4096 * i + 4096 - 4096 * i ≡ 4096 = omega arith in ap (λ n. take n (drop (4096 * i) bytes)) size

pub returns-then-not-are_equal : goal.returns-then-not-are_equal
returns-then-not-are_equal c =
    let i = c.loop-index.index in (
      λ h. absurd (both_ways false refl h),
      λ same. absurd (both_ways c.are_equal.result c.if-not-are_equal.true (c.are_equal.ensures.1
          (block-part c.args.bytes.now i ∙ ap (λ (l : List ℕ). block_at l i) same
          ∙ sym c.write_descriptor-block.ensures))),
    )

pub loop-index-preserved : goal.loop-index-preserved
loop-index-preserved c k lt =
    let text = descriptor_text c.args.geometry.now.slots (record { mark = c.args.mark; homes = c.args.homes.now }) in
    let i = c.loop-index.index in
    elim (cases_eq k i) [
      | inl here ↦ ap (block_at c.args.bytes.now) here
          ∙ sym (block-part c.args.bytes.now i) ∙ c.are_equal.ensures.0 c.if-not-are_equal.false
          ∙ c.write_descriptor-block.ensures ∙ ap (block_at text) (sym here)
      | inr other ↦ c.loop-index.invariant k (omega arith)
    ]

pub returns : goal.returns
returns c =
    let slots = c.args.geometry.now.slots in
    let homes = c.args.homes.now in (
      λ h. same_by_blocks c.args.bytes.now
          (descriptor_text slots (record { mark = c.args.mark; homes = homes })) _ c.requires.size
          (length-descriptor_text slots c.args.mark homes c.requires.described.homes.few)
          (λ k lt. c.loop-index.invariant k
          (omega (arith, lt, c.descriptor_blocks-index-end.ensures.value, c.loop-index-test.false))),
      λ same. refl,
    )
