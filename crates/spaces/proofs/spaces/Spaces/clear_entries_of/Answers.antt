use Rattle.std.proofs.Common.{map, sym, subst, arith}
use Rattle.std.specs.Option.{option_map}
use Rattle.spaces.specs.Spaces.{SpacesState, EditsEntries}
use Rattle.spaces.specs.Changes.{without_entries_of}
use Rattle.spaces.specs.inside.Slots.{spaces_of, edited, without_entries, AreSlots, AreInUse, AreFreed}
use Rattle.spaces.proofs.SlotEdits.{slots_edited, written_edited, edits-cleared, absent_stays_cleared}
use Rattle.spaces.proofs.Used.{in_use_cleared}
use Rattle.spaces.proofs.Freed.{freed_edited}
use Rattle.spaces.proofs.spaces.Spaces.clear_entries_of.Goals as goal

pub invariant_of-self : goal.invariant_of-self
invariant_of-self g c =
    let slots = c.self.inside.slots.items in
    let whole = written_edited (λ s. without_entries s.places c.args.page s.entries) c.self.inside.slots.len
    c.clear_slots.new.slots slots c.deref_mut.result.now (omega (arith, c.self.inside.slots.ok.0))
    c.deref_mut.ensures.value c.clear_slots.ensures in (
      subst (λ l. AreSlots l c.self.inside.prepared) (sym whole)
          (slots_edited (λ s. without_entries s.places c.args.page s.entries) slots c.self.inside.prepared
          c.self.invariant.0 (without_entries_of c.args.page (spaces_of slots)) (edits-cleared slots c.args.page)
          (absent_stays_cleared c.args.page (spaces_of slots))),
      subst (λ l. AreInUse l c.self.inside.in_use) (sym whole)
          (in_use_cleared slots c.self.inside.in_use c.args.page c.self.invariant.1),
      subst (λ l. AreFreed l c.self.inside.freed) (sym whole)
          (freed_edited (λ s. without_entries s.places c.args.page s.entries) slots c.self.inside.freed
          c.self.invariant.2),
    )

pub returns-clause-entries : goal.returns-clause-entries
returns-clause-entries g c =
    let slots = c.self.inside.slots.items in
    let whole = written_edited (λ s. without_entries s.places c.args.page s.entries) c.self.inside.slots.len
    c.clear_slots.new.slots slots c.deref_mut.result.now (omega (arith, c.self.inside.slots.ok.0))
    c.deref_mut.ensures.value c.clear_slots.ensures in
    subst (λ l. EditsEntries (without_entries_of c.args.page c.args.self.now.map) c.args.self.now.map (spaces_of l))
    (sym whole)
    (subst (λ (s : SpacesState). EditsEntries (without_entries_of c.args.page s.map) s.map
    (spaces_of (map (option_map (edited (λ s. without_entries s.places c.args.page s.entries))) slots)))
    c.self.view_is (edits-cleared slots c.args.page))
