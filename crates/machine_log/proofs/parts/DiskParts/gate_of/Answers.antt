use Rattle.std.proofs.Common.{◌≡◌, ◌<◌, subst}
use Rattle.std.specs.Prelude.{IfSome}
use Rattle.volume_codec.specs.Layout.{GeometryValue, gate_block, journals_of}
use Rattle.machine_log.specs.Disk.{LogDiskValue}
use Rattle.machine_log.proofs.parts.DiskParts.gate_of.Goals as goal

pub returns : goal.returns
returns g c =
    let block = c.args.block in
    subst (λ (d : LogDiskValue _). IfSome c.journal_of_gate.result (λ j. (j < journals_of d.table.layout)
    × (block ≡ gate_block d.table.slots j))) c.self.view_is
    (subst (λ (g : GeometryValue). IfSome c.journal_of_gate.result (λ j. (j < journals_of g.layout)
    × (block ≡ gate_block g.slots j))) (c.self.invariant.shows c.if-self.false).geometry
    c.journal_of_gate.ensures.some)
