use Rattle.std.proofs.Common.{sym, subst}
use Rattle.shootdown.specs.Processors.{Processor}
use Rattle.shootdown.specs.Shootdown.{processor_at, IsShootdown}
use Rattle.shootdown.proofs.ProcessorLaws.{IsProcessor-without_page}
use Rattle.shootdown.proofs.ShootdownLaws.{IsShootdown-same_state, is_there_below, moved_to}
use Rattle.pcid_tlb.specs.Tlb.{without_page}
use Rattle.std.proofs.Common.{refl}
use Rattle.shootdown.proofs.shootdown.Shootdown.drop_page.Goals as goal

pub invariant_of-self : goal.invariant_of-self
invariant_of-self g c =
    let old = c.args.self.now in
    let p = c.args.p in
    let new = moved_to _ old p _ _ (λ (x : Processor). record x { tlb = without_page x.tlb x.space c.args.page })
    c.self.view_is c.requires c.index_mut.ensures.value c.drop_page.ensures in
    subst IsShootdown (sym new) (let is : IsShootdown old = subst IsShootdown c.self.view_is c.self.invariant in
    IsShootdown-same_state old p _ is (is_there_below old p c.requires)
    (IsProcessor-without_page (processor_at old p) _ c.args.page (is.each p (is_there_below old p c.requires))) refl)
