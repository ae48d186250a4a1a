use Rattle.std.proofs.Common.{sym, ap, ◌∙◌, subst}
use Rattle.shootdown.specs.Processors.{Processor}
use Rattle.shootdown.specs.Shootdown.{processor_at, IsShootdown}
use Rattle.shootdown.proofs.ProcessorLaws.{IsProcessor-evicted}
use Rattle.shootdown.proofs.ShootdownLaws.{IsShootdown-same_state, is_there_below, read_at, moved_to}
use Rattle.pcid_tlb.specs.Tlb.{evicted}
use Rattle.std.proofs.Common.{refl, nat_lt, length}
use Rattle.shootdown.proofs.shootdown.Shootdown.evict.Goals as goal

pub invariant_of-self : goal.invariant_of-self
invariant_of-self g c =
    let old = c.args.self.now in
    let p = c.args.p in
    let new = moved_to _ old p _ _ (λ (x : Processor). record x { tlb = evicted x.tlb c.args.slot }) c.self.view_is
    c.requires c.index_mut.ensures.value c.evict.ensures.rest in
    subst IsShootdown (sym new) (let is : IsShootdown old = subst IsShootdown c.self.view_is c.self.invariant in
    IsShootdown-same_state old p _ is (is_there_below old p c.requires)
    (IsProcessor-evicted (processor_at old p) c.args.slot (is.each p (is_there_below old p c.requires))) refl)

pub returns-clause-evicted : goal.returns-clause-evicted
returns-clause-evicted g c =
    c.evict.ensures.evicted
    ∙ ap (λ (x : Processor). nat_lt c.args.slot (length x.tlb.entries))
    (read_at _ c.args.self.now c.args.p _ c.self.view_is c.requires c.index_mut.ensures.value)
