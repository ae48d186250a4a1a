use Rattle.std.proofs.Common.{◌<◌, subst, sym, ◌∙◌}
use Rattle.device.specs.Memory.{seen_of}
use Rattle.volume_codec.specs.Layout.{journals_of}
use Rattle.machine_log.specs.Disk.{LogDiskValue}
use Rattle.machine_log.specs.inside.Keeping.{changed}
use Rattle.machine_log.proofs.Gate.{byte_there, open_byte, closed_byte}
use Rattle.machine_log.proofs.parts.DiskParts.gate_byte.Goals as goal

pub returns-then-is_open : goal.returns-then-is_open
returns-then-is_open g c =
    let d = c.self.inside in
    byte_there c.in-Some.journal c.self.view_is c.in-Some.ensures.1
    (open_byte d.table d.shown (seen_of (changed d.past.first d.past.changes)) c.in-Some.journal
    (c.self.invariant.shows c.if-self.false) (sym c.is_open.ensures ∙ c.if-is_open.true))

pub returns : goal.returns
returns g c =
    let d = c.self.inside in
    let lt : c.in-Some.journal < journals_of d.table.layout =
    subst (λ (d : LogDiskValue _). c.in-Some.journal < journals_of d.table.layout) (sym c.self.view_is)
    c.in-Some.ensures.0 in
    byte_there c.in-Some.journal c.self.view_is c.in-Some.ensures.1
    (closed_byte d.table d.shown (seen_of (changed d.past.first d.past.changes)) c.in-Some.journal
    (c.self.invariant.shows c.if-self.false) lt (sym c.is_open.ensures ∙ c.if-is_open.false))
