use Rattle.std.proofs.Common.{sym, ap, ◌∙◌, subst}
use Rattle.shootdown.specs.Processors.{Processor}
use Rattle.shootdown.specs.Shootdown.{processor_at, IsShootdown}
use Rattle.shootdown.proofs.ProcessorLaws.{IsProcessor-filled}
use Rattle.shootdown.proofs.ShootdownLaws.{IsShootdown-same_state, is_there_below, read_at, moved_to}
use Rattle.pcid_tlb.specs.Tlb.{filled}
use Rattle.std.proofs.Common.{refl}
use Rattle.shootdown.proofs.shootdown.Shootdown.fill.Goals as goal

pub invariant_of-self : goal.invariant_of-self
invariant_of-self g c =
    let old = c.args.self.now in
    let p = c.args.p in
    let new = moved_to _ old p _ _ (λ (x : Processor). record x { tlb = filled x.tlb c.args.entry }) c.self.view_is
    c.requires.there c.index_mut.ensures.value c.fill.ensures in
    subst IsShootdown (sym new) (let is : IsShootdown old = subst IsShootdown c.self.view_is c.self.invariant in
    IsShootdown-same_state old p _ is (is_there_below old p c.requires.there) (IsProcessor-filled (processor_at old p)
    c.args.entry c.requires.here (is.each p (is_there_below old p c.requires.there))) refl)

pub fill-requires : goal.fill-requires
fill-requires g c =
    c.requires.here
    ∙ sym (ap (λ (x : Processor). x.space)
    (read_at _ c.args.self.now c.args.p _ c.self.view_is c.requires.there c.index_mut.ensures.value))

pub returns : goal.returns
returns g c = record {
  filled = moved_to _ c.args.self.now c.args.p _ _ (λ (x : Processor). record x { tlb = filled x.tlb c.args.entry })
      c.self.view_is c.requires.there c.index_mut.ensures.value c.fill.ensures;
}
