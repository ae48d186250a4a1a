use Rattle.std.proofs.Common.{rules, tests, ap, ◌∙◌}
use Rattle.std.proofs.lemmas.Iterator.{YieldsList-from_slice}
use Rattle.std.proofs.lemmas.Iterator.Search.{find_from_yields_List}
use Rattle.pcid_tlb.specs.declared.CachedEntry.{CachedEntry}
use Rattle.pcid_tlb.specs.Tlb.{TlbState, is_of, cached}
use Rattle.pcid_tlb.proofs.Tlb.lookup.Goals as goal

pub returns-clause-found : goal.returns-clause-found
returns-clause-found g c =
    let found = find_from_yields_List (λ (e : CachedEntry). is_of c.args.pcid c.args.page e) _ _ c.find.result
    c.find.ensures.ran (YieldsList-from_slice c.self.inside.entries.items cc) (λ x b q k. search (rules, tests)) in
    c.copied.ensures ∙ found ∙ ap (λ (t : TlbState). cached t c.args.pcid c.args.page) c.self.view_is
