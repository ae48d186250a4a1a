use Rattle.std.proofs.Common.{None, sym, ap, subst}
use Rattle.shootdown.specs.Processors.{woken}
use Rattle.shootdown.specs.Shootdown.{ShootdownState, IsShootdown}
use Rattle.shootdown.proofs.ShootdownLaws.{IsShootdown-finished, held_by, holder_there, moved_to}
use Rattle.shootdown.proofs.shootdown.Shootdown.finish.Goals as goal

free : ShootdownState → ShootdownState
free s = record s { lock = None }

pub invariant_of-self : goal.invariant_of-self
unfolding free
invariant_of-self g c =
    let old = c.args.self.now in
    let p = c.args.p in
    let is : IsShootdown old = subst IsShootdown c.self.view_is c.self.invariant in
    let lock = held_by old.lock p c.requires.held in
    let new = ap free (moved_to _ old p _ _ woken c.self.view_is
    (holder_there old p is c.requires.held) c.index_mut.ensures.value c.wake.ensures) in
    subst IsShootdown (sym new) (IsShootdown-finished old p lock.0 is lock.1 lock.2 c.requires.quiet)

pub returns : goal.returns
unfolding free
returns g c =
    let old = c.args.self.now in
    let is : IsShootdown old = subst IsShootdown c.self.view_is c.self.invariant in
    record {
      finished = ap free (moved_to _ old c.args.p _ _ woken c.self.view_is
          (holder_there old c.args.p is c.requires.held) c.index_mut.ensures.value c.wake.ensures);
    }
