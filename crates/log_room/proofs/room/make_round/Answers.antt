use Rattle.log_room.specs.inside.Leading.{MakesSteps}
use Rattle.log_room.proofs.Leading.{as_stepped, idle_steps, moved_steps, nothing_stepped, steps_stopped}
use Rattle.log_room.proofs.Leading.{steps_then}
use Rattle.log_room.proofs.room.make_round.Goals.{After-make_step}
use Rattle.log_room.proofs.room.make_round.Goals as goal

-- the steps so far, and the next one
module _ (g : _) (c : After-make_step g) where
  steps_on : MakesSteps g.D.Device c.args.pager.now c.make_step.result c.make_step.new.pager
  steps_on = steps_then g.D.Device c.args.pager.now c.steps.pager c.steps.invariant c.make_step.result
      c.make_step.new.pager c.make_step.ensures.steps

pub steps-init : goal.steps-init
steps-init g c = nothing_stepped g.D.Device g.met.D.Device.since_now c.args.pager.now

pub steps-preserved : goal.steps-preserved
steps-preserved g c = as_stepped c.in-Ok.is (steps_on g (goal.at.steps-preserved g c).After-make_step)

pub returns-in-Err : goal.returns-in-Err
returns-in-Err g c = steps_stopped c.in-Err.is (steps_on g (goal.at.returns-in-Err g c).After-make_step)

pub returns-then-has_moved : goal.returns-then-has_moved
returns-then-has_moved g c =
    moved_steps (as_stepped c.in-Ok.is (steps_on g (goal.at.returns-then-has_moved g c).After-make_step))

pub returns-then-was_idle : goal.returns-then-was_idle
returns-then-was_idle g c =
    idle_steps _ (as_stepped c.in-Ok.is (steps_on g (goal.at.returns-then-was_idle g c).After-make_step))
