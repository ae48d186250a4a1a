use Rattle.std.proofs.Common.{sym, ap, ◌∙◌, subst}
use Rattle.shootdown.specs.declared.proc_state.ProcState.TheVariants.{Stalled}
use Rattle.shootdown.specs.Processors.{Processor}
use Rattle.shootdown.specs.Shootdown.{is_interrupted, IsShootdown}
use Rattle.shootdown.proofs.ShootdownLaws.{IsShootdown-stalled, is_there_below, not_there_none, moved_to}
use Rattle.shootdown.proofs.shootdown.Shootdown.ack.Goals as goal

pub invariant_of-self : goal.invariant_of-self
invariant_of-self g c =
    let old = c.args.self.now in
    let p = c.args.p in
    let there = c.in_ok-state.ensures.ok.0 in
    let new = moved_to _ old p _ _ (λ (x : Processor). record x { state = Stalled }) c.self.view_is there
    c.index_mut.ensures.value c.set_state.ensures in
    subst IsShootdown (sym new) (IsShootdown-stalled old p c.state.ensures.kept (is_there_below old p there)
    (sym c.in_ok-state.ensures.ok.1 ∙ c.in-Interrupted.is))

pub returns-in-Interrupted : goal.returns-in-Interrupted
returns-in-Interrupted g c =
    let old = c.args.self.now in
    let p = c.args.p in
    let there = c.in_ok-state.ensures.ok.0 in
    let new = moved_to _ old p _ _ (λ (x : Processor). record x { state = Stalled }) c.self.view_is there
    c.index_mut.ensures.value c.set_state.ensures in
    record {
      acked =
          (not_there_none old p there, ap is_interrupted (sym c.in_ok-state.ensures.ok.1 ∙ c.in-Interrupted.is), new);
    }
