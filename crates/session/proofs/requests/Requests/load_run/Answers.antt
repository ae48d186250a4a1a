use Rattle.std.proofs.Common.{subst, arith}
use Rattle.machine.specs.AtOnce.{load_steps, load_replies}
use Rattle.session.specs.Sessions.{SessionState}
use Rattle.session.specs.Steps.{Makes}
use Rattle.session.proofs.AtOnce.{few_at_once, below_at_once, noted_loads}
use Rattle.session.proofs.requests.Requests.load_run.Goals as goal

pub returns-clause-makes : goal.returns-clause-makes
returns-clause-makes g c =
    let P : SessionState g.row.D.Denot g.row.A.Denot → Type 0 = λ s. Makes g.D.Device s.machine s.notes
    (load_steps c.args.p c.args.va c.load_run.result.now) (load_replies c.load_run.result.now) s.machine s.notes in
    subst P c.self.view_is
    (record { taken = c.load_run.ensures.loaded; notes = noted_loads c.self.inside.notes c.load_run.result.now })

pub returns-clause-few : goal.returns-clause-few
returns-clause-few g c = few_at_once _ c.args.va c.args.count _ c.load_run.ensures.count

pub returns-clause-below : goal.returns-clause-below
returns-clause-below g c = below_at_once _ c.args.va c.args.count _ (omega arith) c.load_run.ensures.count
