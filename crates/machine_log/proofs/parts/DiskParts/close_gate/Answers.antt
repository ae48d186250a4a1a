use Rattle.std.proofs.Common.{◌≡◌, ◌+◌, ◌*◌, ◌≤◌, ◌∷◌, [], ℕ, List}
use Rattle.std.proofs.Common.{Bool, false, subst, sym, length, arith, ap, ◌∙◌, refl}
use Rattle.device.specs.Device.{written}
use Rattle.device.specs.Memory.{seen_of}
use Rattle.device.specs.Memory.DiskChange.{write}
use Rattle.volume_codec.specs.Layout.{GeometryValue, gate_block}
use Rattle.machine_log.specs.Shown.{StaysShown}
use Rattle.machine_log.specs.Disk.{LogDiskValue}
use Rattle.machine_log.specs.Made.{opens_gate}
use Rattle.machine_log.specs.inside.Keeping.{IsKeptDisk, changed}
use Rattle.machine_log.proofs.Kept.{kept_write, as_told, write_fits}
use Rattle.machine_log.proofs.parts.DiskParts.close_gate.Goals as goal

pub invariant_of-self-2 : goal.invariant_of-self-2
invariant_of-self-2 g c =
    let d = c.self.inside in
    let past = c.with_write-self-inside in
    let at = c.args.at in
    let bytes = c.args.bytes.now in
    let opened = c.close.new.self in
    let K : Bool → Type 0 = λ failed. IsKeptDisk g.D.Device d.volume d.table d.log_start d.past.first d.past.changes
    d.past.moments d.pager d.shown
    failed in
    let kept : K false = subst K c.if-self.false c.self.invariant in
    let place : 4096 * gate_block d.shown.geometry.slots c.args.journal ≡ at =
    ap (λ (g : GeometryValue). 4096 * gate_block g.slots c.args.journal) (kept.shows refl).geometry
    ∙ ap (λ (d : LogDiskValue _). 4096 * gate_block d.table.slots c.args.journal) c.self.view_is
    ∙ sym c.requires.at in
    let stays : StaysShown d.shown opened (λ s. written s at bytes) =
    subst (λ (l : List ℕ). StaysShown d.shown opened (λ s. written s at l)) (sym c.requires.byte)
    (subst (λ n. StaysShown d.shown opened (λ s. written s n (0 ∷ []))) place
    (c.close.ensures.closed c.if-not-close.false)) in
    let fits : at + length bytes ≤ length (seen_of (changed d.past.first d.past.changes)) =
    write_fits at c.self.view_is c.requires.fits (ap length c.requires.byte) in
    as_told g.D.Device d.volume d.table d.log_start d.past.first (write at bytes ∷ d.past.changes) d.past.moments
    d.pager opened
    d.failed false
    (length d.past.changes + 1) past.result.first past.result.changes past.result.moments c.device.result.now
    past.ensures
    c.device.ensures c.if-self.false (omega arith)
    (kept_write g.D.Device g.met.D.Device.since_now g.met.D.Device.now_is_since d.volume d.table d.log_start
    d.past.first
    d.past.changes
    d.past.moments d.pager d.shown kept at bytes fits c.one_reading.ensures.contents
    (ap (λ (l : List ℕ). opens_gate (write at l)) c.requires.byte) opened stays)
