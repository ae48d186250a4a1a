use Rattle.std.proofs.Common.{sym, ◌∙◌, subst}
use Rattle.shootdown.specs.Processors.{Processor}
use Rattle.shootdown.specs.Shootdown.{IsShootdown}
use Rattle.shootdown.proofs.ShootdownLaws.{IsShootdown-idled, is_there_below, moved_to}
use Rattle.shootdown.specs.declared.proc_state.ProcState.TheVariants.{Idle}
use Rattle.shootdown.proofs.shootdown.Shootdown.idle.Goals as goal

pub invariant_of-self : goal.invariant_of-self
invariant_of-self g c =
    let old = c.args.self.now in
    let p = c.args.p in
    let new = moved_to _ old p _ _ (λ (x : Processor). record x { state = Idle }) c.self.view_is
    c.in_ok-state.ensures.ok.0 c.index_mut.ensures.value c.set_state.ensures in
    subst IsShootdown (sym new) (IsShootdown-idled old p c.state.ensures.kept
    (is_there_below old p c.in_ok-state.ensures.ok.0) (sym c.in_ok-state.ensures.ok.1 ∙ c.in-Active.is))
