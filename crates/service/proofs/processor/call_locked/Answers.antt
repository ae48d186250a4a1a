use Rattle.std.proofs.Common.{subst}
use Rattle.service.specs.Marks.{has_unmarked}
use Rattle.service.specs.declared.raising.Raise.{Raise}
use Rattle.service.specs.Marks.{last_acknowledged}
use Rattle.service.specs.inside.Raising.{RaisesUpTo, RaisesSo}
use Rattle.service.proofs.Raises.{reached, raised, to_acknowledged}
use Rattle.service.proofs.processor.call_locked.Goals as goal

pub returns-clause-called : goal.returns-clause-called
returns-clause-called g c = λ answered.
    let seen = c.raise_horizon.new.seen in
    let old = c.args.seen.now in
    let P : Raise → Type 0 = λ r. RaisesUpTo r seen.stalled seen.committed in
    let Q : Raise → Type 0 = λ r. RaisesSo r old seen in record {
      before = c.in-Ok.locked;
      after = c.call-reply.new.self;
      serves = c.call-reply.ensures.serves;
      entered = c.call-reply.ensures.entered answered;
      reached = reached (has_unmarked c.in-Ok.locked.trace) c.call-reply.result.0 seen.stalled seen.committed
          (subst P c.call-reply.ensures.raise c.raise_horizon.ensures.reached);
      raised = raised (has_unmarked c.in-Ok.locked.trace) c.call-reply.result.0 old seen
          (subst Q c.call-reply.ensures.raise c.raise_horizon.ensures.exact);
      acknowledged = to_acknowledged c.call-reply.result.1 (last_acknowledged c.call-reply.new.self.trace) old seen
          c.raise_horizon.ensures.exact c.call-reply.ensures.acknowledged;
    }
