use Rattle.std.proofs.Common.{◌≡◌, None, sym, ap, ◌∙◌, subst}
use Rattle.shootdown.specs.Processors.{woken}
use Rattle.shootdown.specs.Shootdown.{ShootdownState, IsShootdown}
use Rattle.shootdown.proofs.ShootdownLaws.{IsShootdown-resumed, is_there_below, moved_to, none_unless_some}
use Rattle.shootdown.proofs.shootdown.Shootdown.go_on.Goals as goal

pub invariant_of-self : goal.invariant_of-self
invariant_of-self g c =
    let old = c.args.self.now in
    let p = c.args.p in
    let new = moved_to _ old p _ _ (woken) c.self.view_is c.requires c.index_mut.ensures.value c.wake.ensures in
    subst IsShootdown (sym new) (let free : old.lock ≡ None =
    sym (ap (λ (s : ShootdownState). s.lock) c.self.view_is) ∙ none_unless_some _ (sym c.if-is_some.ensures) in
    IsShootdown-resumed old p (subst IsShootdown c.self.view_is c.self.invariant)
    (is_there_below old p c.requires) free)
