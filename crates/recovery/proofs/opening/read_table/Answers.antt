use Rattle.std.proofs.Common.{◌≤◌, ◌<◌, ◌*◌, ℕ, List, length, subst, arith}
use Rattle.std.proofs.lemmas.Result.{err_from_is_err_and}
use Rattle.volume_codec.specs.Super.{IsSuper, block_count}
use Rattle.volume_codec.specs.Refusals.{RefusesSuper}
use Rattle.recovery.proofs.Judged.{refuses_super, refuses_short}
use Rattle.recovery.proofs.opening.read_table.Goals as goal

pub returns-in_err-table-clause-refused : goal.returns-in_err-table-clause-refused
returns-in_err-table-clause-refused g c = λ honest.
    let p = err_from_is_err_and c.from_residual-in_err-table.result c.from_residual-in_err-table.ensures.1 in
    let long : 4096 ≤ length (g.D.Device.seen c.args.device.now) = omega arith in
    let P : List ℕ → Type 0 = λ block. RefusesSuper block c.in_err-table.field-0.0 in
    rw (p.1, p.2) (refuses_super _ _ long (subst P (c.in_ok-block.ensures.bytes honest) c.in_err-table.ensures.refused))

pub returns-then-len-from-clause-refused : goal.returns-then-len-from-clause-refused
returns-then-len-from-clause-refused g c = λ honest.
    let long : 4096 ≤ length (g.D.Device.seen c.args.device.now) = omega arith in
    let P : List ℕ → Type 0 = λ block. IsSuper c.in_ok-table.table block in
    let short : length (g.D.Device.seen c.args.device.now) < 4096 * block_count c.in_ok-table.table =
    omega (arith, c.block_count.ensures.value, c.read_block.ensures.kept.len) in
    refuses_short c.in_ok-table.table _
    (subst P (c.in_ok-block.ensures.bytes honest) c.in_ok-table.ensures.ok) long short
