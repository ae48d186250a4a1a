use Rattle.std.proofs.Common.{◌≡◌, ◌+◌, ℕ, Some, arith, ap, sym, subst, ◌∙◌}
use Rattle.std.specs.Option.{option_copied}
use Rattle.volume_codec.specs.Layout.{descriptor_blocks}
use Rattle.kept_blocks.specs.Blocks.{bytes_in}
use Rattle.machine_log.specs.Shown.{ShownValue}
use Rattle.machine_log.specs.inside.Closing.{HasText, HasTextUpTo}
use Rattle.machine_log.proofs.Texts.{no_text, more_text}
use Rattle.machine_log.proofs.shown.ShownVolume.descriptor_of.Goals as goal

pub loop-i-init : goal.loop-i-init
loop-i-init g c =
    no_text c.self.inside.blocks c.descriptor_block-first.result c.new-bytes.result.items c.new-bytes.ensures.items

pub loop-i-preserved : goal.loop-i-preserved
loop-i-preserved g c =
    let first = c.descriptor_block-first.result in
    let block = c.in-Some.block.now in
    let there : bytes_in c.self.inside.blocks (first + c.loop-i.i) ≡ Some block =
    sym c.get.ensures ∙ ap option_copied c.in-Some.is in
    subst (HasTextUpTo c.self.inside.blocks first (c.loop-i.i + 1))
    (sym c.in_ok-extend_from_slice-in-Some.ensures.items)
    (more_text c.self.inside.blocks first c.loop-i.i c.loop-i.bytes.items block c.loop-i.invariant
    c.is_whole.ensures there)

pub returns : goal.returns
returns g c =
    let n : c.loop-i.i ≡ descriptor_blocks c.self.inside.geometry.slots =
    omega (arith, c.loop-i-test.false, c.loop-i.auto.i-end, c.descriptor_blocks-i-end.ensures.value) in
    let P : ℕ → Type 0 = λ k. HasTextUpTo c.self.inside.blocks c.descriptor_block-first.result k c.loop-i.bytes.items in
    let Q : ℕ → Type 0 = λ k. HasTextUpTo c.self.inside.blocks k
    (descriptor_blocks c.self.inside.geometry.slots) c.loop-i.bytes.items in
    subst (λ (s : ShownValue). HasText s c.args.journal c.loop-i.bytes.items) c.self.view_is
    (subst Q c.descriptor_block-first.ensures.value (subst P n c.loop-i.invariant))
