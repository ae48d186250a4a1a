use Rattle.std.proofs.Common.{true, false, subst, arith, ℕ}
use Rattle.volume_codec.specs.Files.{asked_by, lengths_asked}
use Rattle.recovery.specs.Format.{HasShape}
use Rattle.new_volume.proofs.Blank.{formatted, others_kept}
use Rattle.new_volume.proofs.formatting.format_new.Goals as goal

pub returns-in-Ok-clause-formatted : goal.returns-in-Ok-clause-formatted
returns-in-Ok-clause-formatted g c = λ honest blank.
    let P : ℕ → Type 0 = λ size. HasShape c.args.layout (asked_by c.args.files.now) c.args.slots size
    c.in_ok-table.table in
    formatted g.D.Device c.args.device.now c.write_new.new.device c.args.layout (asked_by c.args.files.now)
    c.args.slots c.in_ok-table.table (subst P c.len.ensures c.in_ok-table.ensures.ok) c.write_new.ensures.table
    c.write_new.ensures.lengths c.in-Ok.ensures.did honest blank

pub returns-in-Ok-clause-others : goal.returns-in-Ok-clause-others
returns-in-Ok-clause-others g c = λ honest i not.
    others_kept g.D.Device c.args.device.now c.write_new.new.device c.in_ok-table.table
    (lengths_asked (asked_by c.args.files.now)) true (omega (arith, c.in_ok-table.ensures.ok.long, c.len.ensures))
    c.write_new.ensures.table c.write_new.ensures.lengths c.in-Ok.ensures.did honest i
    (not c.in_ok-table.table c.in_ok-table.ensures.ok.asked)

pub returns-clause-others : goal.returns-clause-others
returns-clause-others g c = λ honest i not.
    others_kept g.D.Device c.args.device.now c.write_new.new.device c.in_ok-table.table
    (lengths_asked (asked_by c.args.files.now)) false (omega (arith, c.in_ok-table.ensures.ok.long, c.len.ensures))
    c.write_new.ensures.table c.write_new.ensures.lengths c.in-Err.ensures.did honest i
    (not c.in_ok-table.table c.in_ok-table.ensures.ok.asked)
