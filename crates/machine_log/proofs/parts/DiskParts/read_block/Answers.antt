use Rattle.std.proofs.Common.{ap, sym, ◌∙◌}
use Rattle.std.specs.Option.{option_copied}
use Rattle.device.specs.Memory.{seen_of}
use Rattle.volume_codec.specs.Layout.{block_at}
use Rattle.machine_log.specs.Disk.{LogDiskValue}
use Rattle.machine_log.specs.inside.Keeping.{changed}
use Rattle.machine_log.proofs.parts.DiskParts.read_block.Goals as goal

pub returns-then-block-eq0-clause-bytes : goal.returns-then-block-eq0-clause-bytes
returns-then-block-eq0-clause-bytes g c = λ honest.
    let d = c.self.inside in
    let seen = seen_of (changed d.past.first d.past.changes) in
    c.to_block.ensures ∙ sym (c.self.invariant.shows c.if-self.false).volume.super_block.spelled
    ∙ ap (block_at seen) (sym c.if-block-eq0.true)
    ∙ ap (λ (d : LogDiskValue _). block_at (seen_of d.memory) c.args.block) c.self.view_is

pub returns-in-Some-clause-bytes : goal.returns-in-Some-clause-bytes
returns-in-Some-clause-bytes g c = λ honest.
    let bytes = c.in-Some.bytes.now in
    sym ((c.self.invariant.shows c.if-self.false).kept c.args.block bytes
    (sym c.block.ensures ∙ ap option_copied c.in-Some.is)).1
    ∙ ap (λ (d : LogDiskValue _). block_at (seen_of d.memory) c.args.block) c.self.view_is
