use Rattle.std.proofs.Common.{List, map, sym, ap, ◌∙◌, subst, arith}
use Rattle.std.proofs.lemmas.List.{with_items_is}
use Rattle.pcid_tlb.specs.declared.Invpcid.TheVariants.{SingleContext}
use Rattle.shootdown.specs.Processors.{Processor, fresh_processor, notified}
use Rattle.shootdown.specs.Shootdown.{ShootdownState, destroyed, IsShootdown}
use Rattle.shootdown.specs.Coherence.{IsForgotten}
use Rattle.shootdown.proofs.ShootdownLaws.{IsShootdown-destroyed, elsewhere}
use Rattle.shootdown.proofs.CoherenceLaws.{IsForgotten-destroyed}
use Rattle.shootdown.proofs.shootdown.Shootdown.forget.Goals as goal

pub invariant_of-self : goal.invariant_of-self
invariant_of-self g c =
    rw (
      with_items_is c.self.inside.processors c.notify_all.new.processors (omega arith),
      c.notify_all.ensures,
      c.deref_mut.ensures.value,
    ) (IsShootdown-destroyed _ c.args.pcid c.self.invariant)

pub returns-clause-forgotten : goal.returns-clause-forgotten
returns-clause-forgotten g c =
    let old = c.args.self.now in
    let is : IsShootdown old = subst IsShootdown c.self.view_is c.self.invariant in
    let processors =
    with_items_is c.self.inside.processors c.notify_all.new.processors (omega arith)
    ∙ c.notify_all.ensures
    ∙ ap (map (λ (x : Processor). notified x (SingleContext c.args.pcid))) c.deref_mut.ensures.value in
    let with_processors : List Processor → ShootdownState =
    λ xs. record { processors = xs; lock = c.self.inside.lock } in
    let new = ap with_processors processors ∙ ap (λ (s : ShootdownState). destroyed s c.args.pcid) c.self.view_is in
    subst (λ (s : ShootdownState). IsForgotten s c.args.pcid) (sym new) (IsForgotten-destroyed old c.args.pcid is
    (λ p within. elsewhere old.processors c.args.pcid c.requires p (fresh_processor 1) within))
