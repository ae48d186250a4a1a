use Rattle.engine.proofs.laws.ran_since_start.Goals as goal

pub returns : goal.returns
returns g c = λ before shape start steps replies started taken.
    c.steps_are_a_run.ensures.run before shape start c.args.machine.now steps replies started taken
