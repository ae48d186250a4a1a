use Rattle.std.proofs.Common.{sym, ap, ◌∙◌, subst}
use Rattle.shootdown.specs.Processors.{Processor, switched}
use Rattle.shootdown.specs.Shootdown.{IsShootdown}
use Rattle.shootdown.proofs.ShootdownLaws.{IsShootdown-switched_to, is_there_below, moved_to, admitted}
use Rattle.std.proofs.Common.{◌<◌}
use Rattle.shootdown.specs.Processors.{pcids, loaded}
use Rattle.shootdown.proofs.shootdown.Shootdown.switch.Goals as goal

pub invariant_of-self : goal.invariant_of-self
invariant_of-self g c =
    let old = c.args.self.now in
    let p = c.args.p in
    let new = moved_to _ old p _ _ (λ (x : Processor). switched x c.args.pcid c.args.keep)
    c.self.view_is c.in_ok-admit_free.ensures.there c.index_mut-processor.ensures.value
    (c.load.ensures ∙ ap (λ (x : Processor). loaded x c.args.pcid c.args.keep) c.drain.ensures) in
    subst IsShootdown (sym new) (let free = (admitted old p c.in_ok-admit_free.ensures.ok).1 in
    let small : c.args.pcid < pcids = c.has.ensures.sound.small c.args.pcid (sym c.if-not-has.ensures.there) in
    IsShootdown-switched_to old p c.args.pcid c.args.keep (subst IsShootdown c.self.view_is c.self.invariant)
    (is_there_below old p c.in_ok-admit_free.ensures.there) small)
