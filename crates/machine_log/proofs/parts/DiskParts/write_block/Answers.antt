use Rattle.std.proofs.Common.{◌+◌, ◌≤◌, ◌==◌, ◌∷◌, Bool, false, subst, sym, ap, length, arith}
use Rattle.std.specs.Prelude.{◌&&◌, slice_index}
use Rattle.device.specs.Device.{written}
use Rattle.device.specs.Memory.{seen_of}
use Rattle.device.specs.Memory.DiskChange.{write}
use Rattle.machine_log.specs.Shown.{StaysShown}
use Rattle.machine_log.specs.inside.Keeping.{IsKeptDisk, changed}
use Rattle.machine_log.proofs.Kept.{kept_write, as_told, write_fits}
use Rattle.machine_log.proofs.parts.DiskParts.write_block.Goals as goal

pub invariant_of-self-2 : goal.invariant_of-self-2
invariant_of-self-2 g c =
    let d = c.self.inside in
    let past = c.with_write-self-inside in
    let at = c.args.at in
    let bytes = c.args.bytes.now in
    let K : Bool → Type 0 = λ failed. IsKeptDisk g.D.Device d.volume d.table d.log_start d.past.first d.past.changes
    d.past.moments d.pager d.shown
    failed in
    let kept : K false = subst K c.if-self.false c.self.invariant in
    let stays : StaysShown d.shown c.write.new.self (λ s. written s at bytes) =
    subst (λ n. StaysShown d.shown c.write.new.self (λ s. written s n bytes)) (sym c.requires.at)
    c.in-Ok.ensures.stays in
    let fits : at + length bytes ≤ length (seen_of (changed d.past.first d.past.changes)) =
    write_fits at c.self.view_is c.requires.fits c.told-bytes in
    as_told g.D.Device d.volume d.table d.log_start d.past.first (write at bytes ∷ d.past.changes) d.past.moments
    d.pager
    c.write.new.self d.failed false
    (length d.past.changes + 1) past.result.first past.result.changes past.result.moments c.device.result.now
    past.ensures
    c.device.ensures c.if-self.false (omega arith)
    (kept_write g.D.Device g.met.D.Device.since_now g.met.D.Device.now_is_since d.volume d.table d.log_start
    d.past.first
    d.past.changes
    d.past.moments d.pager d.shown kept at bytes fits c.one_reading.ensures.contents
    (ap (λ n. (n == 1) && (slice_index bytes 0 == 0xA7)) c.told-bytes) c.write.new.self stays)
