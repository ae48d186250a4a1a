use Rattle.std.proofs.Common.{rules, tests, not, ◌≡◌}
use Rattle.std.proofs.lemmas.Fn.{filter_same}
use Rattle.std.specs.List.{filter}
use Rattle.pcid_tlb.specs.declared.CachedEntry.{CachedEntry}
use Rattle.pcid_tlb.specs.Tlb.{drops}
use Rattle.pcid_tlb.proofs.TlbLaws.{IsTlb-keep_entries}
use Rattle.pcid_tlb.proofs.Tlb.invpcid.Goals as goal
use Rattle.pcid_tlb.proofs.Tlb.invpcid.Goals.{After-retain}

kept : (g : _) (c : After-retain g)
    → c.retain.new.self.items ≡ filter (λ e. not (drops c.args.kind e)) c.self.inside.entries.items
kept g c =
    filter_same _ (λ (e : CachedEntry). not (drops c.args.kind e)) _ (λ x b f' k. search (rules, tests))
    c.self.inside.entries.items c.retain.new.self.items c.retain.ensures.filtered

pub invariant_of-self : goal.invariant_of-self
invariant_of-self g c = (
  rw (kept g (goal.at.invariant_of-self g c).After-retain) (IsTlb-keep_entries
      (λ (e : CachedEntry). not (drops c.args.kind e))
      (record { capacity = c.self.inside.capacity; entries = c.self.inside.entries.items }) c.self.invariant.0),
  rw c.retain.ensures.capacity c.self.invariant.1,
)

pub returns : goal.returns
returns g c = rw (kept g (goal.at.returns g c).After-retain, ← c.self.view_is)
