use Rattle.std.proofs.Common.{subst, sym}
use Rattle.inspection.specs.declared.health.Health.{Health}
use Rattle.inspection.specs.Health.{IsHealth}
use Rattle.inspection.proofs.Healthy.{health_of_found}
use Rattle.inspection.proofs.Looked.{judged_ok, judged_err}
use Rattle.inspection.proofs.health.examine.Goals as goal

pub returns-in-Ok-clause-health : goal.returns-in-Ok-clause-health
returns-in-Ok-clause-health g c = λ honest.
    let bytes = g.D.Device.seen c.args.device.now in
    let P : Health → Type 0 = λ health. IsHealth bytes health in
    subst P (sym c.health_of.ensures) (health_of_found bytes c.in-Ok.found (c.in-Ok.ensures.found honest))

pub returns-in-Ok-clause-judged : goal.returns-in-Ok-clause-judged
returns-in-Ok-clause-judged g c =
    λ honest. judged_ok _ c.inspect.result c.in-Ok.found _ c.in-Ok.is (c.inspect.ensures.judged honest)

pub returns-in-Err-clause-judged : goal.returns-in-Err-clause-judged
returns-in-Err-clause-judged g c =
    λ honest. judged_err _ c.inspect.result c.in-Err.refusal c.in-Err.is (c.inspect.ensures.judged honest)
