use Rattle.std.proofs.Common.{◌≡◌, Some, IsSome, sym, ap, ◌∙◌, subst, arith}
use Rattle.std.specs.FinMap as maps
use Rattle.spaces.specs.Spaces.{AddressSpace, SpacesState, with_entry, AreSpaces}
use Rattle.spaces.specs.inside.Slots.{SpaceState, slot_at, spaces_of}
use Rattle.spaces.proofs.Located.{mapped_in, mapped_there}
use Rattle.spaces.proofs.AreSpacesLaws.{AreSpaces-with_entry}
use Rattle.spaces.proofs.SlotsLemmas.{within_slots, never_missing, slot_is, found_in_slot}
use Rattle.spaces.proofs.SlotEdits.{slots_kept, set-with_entry}
use Rattle.spaces.proofs.Used.{in_use_put}
use Rattle.spaces.proofs.Freed.{freed_same}
use Rattle.spaces.proofs.spaces.Spaces.set_entry.Goals.{In-Some}
use Rattle.spaces.proofs.spaces.Spaces.set_entry.Goals as goal

pub index_mut-requires : goal.index_mut-requires
index_mut-requires g c =
    let there = mapped_there c.self.inside.slots.items c.self.inside.prepared c.args.self.now c.args.pcid
    c.self.view_is c.args.page c.requires in
    let within = within_slots c.self.inside.slots.items c.args.pcid there in
    omega (arith, c.self.inside.slots.ok.0)

pub unreachable-requires : goal.unreachable-requires
unreachable-requires g c =
    let there = mapped_there c.self.inside.slots.items c.self.inside.prepared c.args.self.now c.args.pcid
    c.self.view_is c.args.page c.requires in
    never_missing c.self.inside.slots.items c.args.pcid c.index_mut.result.now there c.index_mut.ensures.value
    c.in_default.is

-- the slot in which the space is found
found : (g : _) (c : In-Some g) → slot_at c.self.inside.slots.items c.args.pcid ≡ Some c.in-Some.space
found g c = slot_is c.self.inside.slots.items c.args.pcid c.index_mut.result.now c.in-Some.space (mapped_there
    c.self.inside.slots.items c.self.inside.prepared c.args.self.now c.args.pcid c.self.view_is c.args.page c.requires)
    c.index_mut.ensures.value c.in-Some.is

pub set_entry-requires : goal.set_entry-requires
set_entry-requires g c =
    let slots = c.self.inside.slots.items in
    let at = found g (goal.at.set_entry-requires g c).In-Some in
    subst (λ (x : AddressSpace). IsSome (maps.get x.places c.args.page))
    (found_in_slot slots c.args.pcid c.in-Some.space at).same
    (mapped_in slots c.self.inside.prepared c.args.self.now c.args.pcid c.self.view_is c.args.page c.requires)

pub mark-requires : goal.mark-requires
mark-requires g c =
    let there = mapped_there c.self.inside.slots.items c.self.inside.prepared c.args.self.now c.args.pcid
    c.self.view_is c.args.page c.requires in
    let within = within_slots c.self.inside.slots.items c.args.pcid there in
    omega (arith, c.self.invariant.0.few)

pub invariant_of-self : goal.invariant_of-self
invariant_of-self g c =
    let slots = c.self.inside.slots.items in
    let new = c.set_entry.new.self in
    let at = found g (goal.at.invariant_of-self g c).In-Some in
    let is = set-with_entry slots c.args.pcid c.in-Some.space at new c.args.page c.args.entry c.set_entry.ensures in (
      slots_kept slots c.args.pcid c.in-Some.space at new c.self.inside.prepared c.self.invariant.0
          (ap (λ (s : SpaceState). s.places) c.set_entry.ensures) (let same =
          ap (λ (s : SpaceState). s.spare) c.set_entry.ensures in omega arith)
          (subst AreSpaces (sym is) (AreSpaces-with_entry (spaces_of slots) c.args.pcid c.args.page c.args.entry
          c.self.invariant.0.spaces
          (mapped_in slots c.self.inside.prepared c.args.self.now c.args.pcid c.self.view_is c.args.page c.requires))),
      in_use_put slots c.self.inside.in_use c.mark.new.mask c.args.pcid (Some new) c.self.invariant.1 c.mark.ensures,
      freed_same slots c.self.inside.freed c.args.pcid c.in-Some.space new c.self.invariant.2 at,
    )

pub returns : goal.returns
returns g c =
    let slots = c.self.inside.slots.items in
    let at = found g (goal.at.returns g c).In-Some in
    let is = set-with_entry slots c.args.pcid c.in-Some.space at c.set_entry.new.self c.args.page c.args.entry
    c.set_entry.ensures in
    (λ i. record { map = is i; prepared = c.self.inside.prepared })
    ∙ ap (λ (s : SpacesState). record s { map = with_entry s.map c.args.pcid c.args.page c.args.entry }) c.self.view_is
