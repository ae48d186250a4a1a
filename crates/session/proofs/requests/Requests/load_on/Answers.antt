use Rattle.std.proofs.Common.{◌∙◌, refl, ap, ◌++◌}
use Rattle.machine.specs.AtOnce.{load_steps, load_replies}
use Rattle.session.proofs.AtOnce.{loads_on}
use Rattle.session.proofs.Phases.{keeps_none}
use Rattle.session.proofs.Turns.{in_turn_aside, loads_aside}
use Rattle.session.proofs.requests.Requests.load_on.Goals as goal

pub returns-clause-loads : goal.returns-clause-loads
returns-clause-loads g c = record {
  makes = record {
    steps = load_steps c.args.p c.saturating_add-from.result c.load_run-run.result.now;
    replies = load_replies c.load_run-run.result.now;
    makes = c.load_run-run.ensures.makes;
    holds = in_turn_aside _ _ _ _ _ refl (loads_aside c.args.p c.saturating_add-from.result c.load_run-run.result.now)
        (loads_on c.args.p c.args.va c.args.done c.saturating_add-from.result _ c.load_run-run.result.now _ _
        c.saturating_add-from.ensures c.load_run-run.ensures.below refl
        (c.in_ok-extend_from_slice-2.ensures.items ∙ ap (λ l. l ++ c.load_run-run.result.now)
        (c.in_ok-extend_from_slice.ensures.items ∙ ap (λ l. c.args.bytes.now.items ++ l) c.as_slice.ensures.same)));
  };
  phases = keeps_none _;
}
