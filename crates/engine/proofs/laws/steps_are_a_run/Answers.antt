use Rattle.engine.proofs.Starts.{begins}
use Rattle.engine.proofs.Survival.{run_of}
use Rattle.engine.proofs.laws.steps_are_a_run.Goals as goal

pub returns-clause-run : goal.returns-clause-run
returns-clause-run g c = λ before shape start last steps replies started taken.
    let laws = c.runs_keep_the_laws.ensures in
    let later = c.opened_later.ensures in
    run_of g.D.Device later.permanent later.durable c.crashed_since_opening.ensures.left before
    shape start steps replies
    last started taken
    (λ files start steps replies on. laws.headline files start last steps replies on)
    (λ files start steps replies on. laws.lawful files start last steps replies on)
    (λ files start steps replies list on left. laws.left files start last steps replies list on left)
    (λ files start steps replies on. c.faults_are_served.ensures start last steps replies on.taken)

pub returns-clause-since : goal.returns-clause-since
returns-clause-since g c = λ before shape start mid last earlier later replied more started taken further honest.
    let found = begins g.D.Device before shape start started honest in (
      found.0,
      found.1,
      λ list left. c.runs_keep_the_laws.ensures.since found.0 start mid last earlier later replied more list
          (record { begins = found.2; taken = taken }) further left,
    )
