use Rattle.std.proofs.Common.{length, length-take, take, subst, arith}
use Rattle.machine.specs.AtOnce.{store_steps, store_replies}
use Rattle.session.specs.Sessions.{SessionState}
use Rattle.session.specs.Steps.{Makes}
use Rattle.session.proofs.AtOnce.{few_at_once, below_at_once}
use Rattle.session.proofs.requests.Requests.store_run.Goals as goal

pub returns-clause-makes : goal.returns-clause-makes
returns-clause-makes g c =
    let run = take c.store_run-count.result c.args.bytes.now in
    let few = few_at_once _ c.args.va (length c.args.bytes.now) _ c.store_run-count.ensures.count in
    let P : SessionState g.row.D.Denot g.row.A.Denot → Type 0 = λ s. Makes g.D.Device s.machine s.notes (store_steps
    c.args.p c.args.va run) (store_replies run) c.store_run-count.new.self c.after_stores-self-inside.result in
    subst P c.self.view_is (record {
      taken = c.store_run-count.ensures.stored;
      notes = c.after_stores-self-inside.ensures run
          (omega (arith, length-take c.store_run-count.result c.args.bytes.now, few));
    })

pub returns-clause-few : goal.returns-clause-few
returns-clause-few g c = few_at_once _ c.args.va (length c.args.bytes.now) _ c.store_run-count.ensures.count

pub returns-clause-below : goal.returns-clause-below
returns-clause-below g c =
    below_at_once _ c.args.va (length c.args.bytes.now) _ (omega arith) c.store_run-count.ensures.count
