use Rattle.std.proofs.Common.{map, length, refl, sym, ap, ◌∙◌, subst, arith}
use Rattle.std.specs.Option.{option_map}
use Rattle.std.proofs.lemmas.List.{length-map}
use Rattle.spaces.specs.Spaces.{SpacesState, EditsEntries}
use Rattle.page_table.specs.Table.{is_marked, frames_protected}
use Rattle.spaces.specs.Changes.{protected_where}
use Rattle.spaces.specs.inside.Slots.{spaces_of, edited, AreSlots, AreInUse, AreFreed}
use Rattle.spaces.proofs.SlotEdits.{slots_edited, written, edits-protected}
use Rattle.spaces.proofs.Freed.{freed_edited}
use Rattle.spaces.proofs.spaces.Spaces.protect_frames.Goals as goal

pub protect_slots-requires-clause-few : goal.protect_slots-requires-clause-few
protect_slots-requires-clause-few g c = omega (arith, c.self.invariant.0.few, ap length c.deref_mut.ensures.value)

pub protect_slots-requires-clause-used : goal.protect_slots-requires-clause-used
protect_slots-requires-clause-used g c =
    subst (λ l. AreInUse l c.self.inside.in_use) (sym c.deref_mut.ensures.value) c.self.invariant.1

pub invariant_of-self : goal.invariant_of-self
invariant_of-self g c =
    let slots = c.self.inside.slots.items in
    let is =
    c.protect_slots.ensures.edited
    ∙ ap (map (option_map (edited (λ s. frames_protected s.entries c.args.noted.now)))) c.deref_mut.ensures.value in
    let back = written c.self.inside.slots.len c.protect_slots.new.slots slots (omega (arith, c.self.inside.slots.ok.0))
    (ap length is ∙ length-map slots (option_map (edited (λ s. frames_protected s.entries c.args.noted.now)))) in
    let whole = back ∙ is in (
      subst (λ l. AreSlots l c.self.inside.prepared) (sym whole)
          (slots_edited (λ s. frames_protected s.entries c.args.noted.now) slots c.self.inside.prepared
          c.self.invariant.0 (λ q page entry. protected_where (is_marked c.args.noted.now) entry)
          (edits-protected slots c.args.noted.now) (λ q page. refl)),
      subst (λ l. AreInUse l c.protect_slots.new.in_use) (sym back) c.protect_slots.ensures.used,
      subst (λ l. AreFreed l c.self.inside.freed) (sym whole)
          (freed_edited (λ s. frames_protected s.entries c.args.noted.now) slots c.self.inside.freed
          c.self.invariant.2),
    )

pub returns-clause-entries : goal.returns-clause-entries
returns-clause-entries g c =
    let slots = c.self.inside.slots.items in
    let is =
    c.protect_slots.ensures.edited
    ∙ ap (map (option_map (edited (λ s. frames_protected s.entries c.args.noted.now)))) c.deref_mut.ensures.value in
    let whole =
    written c.self.inside.slots.len c.protect_slots.new.slots slots (omega (arith, c.self.inside.slots.ok.0))
    (ap length is ∙ length-map slots (option_map (edited (λ s. frames_protected s.entries c.args.noted.now))))
    ∙ is in
    subst (λ l.
    EditsEntries (λ q page entry. protected_where (is_marked c.args.noted.now) entry) c.args.self.now.map (spaces_of l))
    (sym whole)
    (subst (λ (s : SpacesState). EditsEntries (λ q page entry. protected_where (is_marked c.args.noted.now) entry) s.map
    (spaces_of (map (option_map (edited (λ s. frames_protected s.entries c.args.noted.now))) slots)))
    c.self.view_is (edits-protected slots c.args.noted.now))
