use Rattle.machine.proofs.Names.{StepTaken, observed_first, observe_all}
use Rattle.machine.proofs.machine.Machine.enter.Goals as goal
use Rattle.machine.proofs.durable.Steps.{step_safe, step_stopped}
use Rattle.machine.proofs.Refinement.{follows}
use Rattle.machine.proofs.code.Runs.{steps_more}

module _ (g : _) (c : goal.After-step g) where
  -- the step was taken
  taken : StepTaken g.D.Device c.args.self.now c.args.step.now c.step.result c.step.new.self
  taken = record {
    answered = c.step.ensures.rules;
    made = c.step.ensures.made;
    device = c.step.ensures.device;
    calls = c.step.ensures.calls;
    honest = c.step.ensures.honest;
    len = c.step.ensures.len;
  }

pub returns-clause-longer : goal.returns-clause-longer
returns-clause-longer g c = λ start steps replies before. steps_more g.D.Device start steps replies c.args.self.now
    c.args.step.now c.step.result c.step.new.self before (taken g c)

pub returns-clause-safe : goal.returns-clause-safe
returns-clause-safe g c = λ files start steps replies on.
    let f = follows g.D.Device files start steps replies c.args.self.now on in
    step_safe g.D.Device files
    (observe_all (observed_first files start.state) steps replies) c.args.self.now c.args.step.now
    c.step.result c.step.new.self f.refines (taken g c) f.honest

pub returns-clause-stops : goal.returns-clause-stops
returns-clause-stops g c = λ files start steps replies on.
    let f = follows g.D.Device files start steps replies c.args.self.now on in
    step_stopped g.D.Device files (observe_all (observed_first files start.state) steps replies) c.args.self.now
    c.args.step.now c.step.result c.step.new.self f.refines (taken g c) f.honest
