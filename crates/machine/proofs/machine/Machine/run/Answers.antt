use Rattle.machine.proofs.machine.Machine.run.Goals as goal
use Rattle.machine.proofs.code.Runs.{taken_then}

pub returns-clause-headline : goal.returns-clause-headline
returns-clause-headline g c = λ files begins.
    c.keeps_the_laws.ensures.headline files c.args.self.now c.args.steps.now c.make_all.new.replies
    (record { begins = begins; taken = c.make_all.ensures.steps })

pub returns-clause-lawful : goal.returns-clause-lawful
returns-clause-lawful g c = λ files begins.
    c.keeps_the_laws.ensures.lawful files c.args.self.now c.args.steps.now c.make_all.new.replies
    (record { begins = begins; taken = c.make_all.ensures.steps })

pub returns-clause-served : goal.returns-clause-served
returns-clause-served g c = λ files begins.
    c.keeps_the_laws.ensures.served files c.args.self.now c.args.steps.now c.make_all.new.replies
    (record { begins = begins; taken = c.make_all.ensures.steps })

pub returns-clause-longer : goal.returns-clause-longer
returns-clause-longer g c =
    λ start earlier observed taken. taken_then g.D.Device start c.args.self.now c.make_all.new.self
    earlier observed c.args.steps.now c.make_all.new.replies taken c.make_all.ensures.steps
