use Rattle.std.proofs.Common.{[], subst, arith}
use Rattle.std.specs.Prelude.{Contains}
use Rattle.crash_table.proofs.trial.marks_of.Goals as goal

pub loop-at-init : goal.loop-at-init
loop-at-init g c = λ files recovered kept has.
    absurd (let none : Contains [] kept = subst (λ l. Contains l kept) c.new-marks.ensures.items has in
    omega (arith, none.1))

pub loop-at-preserved : goal.loop-at-preserved
loop-at-preserved g c = λ files recovered.
    c.in_ok-add_mark.ensures files recovered (c.loop-at.invariant files recovered)

pub returns : goal.returns
returns g c = λ files recovered. c.loop-at.invariant files recovered
