use Rattle.std.proofs.Common.{◌≡◌, ◌+◌, Some, None, sym, ap, ◌∙◌, subst, arith}
use Rattle.spaces.specs.Spaces.{SpacesState, without_mapping, AreSpaces}
use Rattle.spaces.specs.inside.Slots.{slot_at, spaces_of}
use Rattle.spaces.proofs.AreSpacesLaws.{AreSpaces-without_mapping}
use Rattle.spaces.proofs.SlotsLemmas.{within_slots, never_missing, slot_is, found_in_slot}
use Rattle.spaces.proofs.SlotEdits.{slots_changed, set-without_mapping}
use Rattle.spaces.proofs.Used.{in_use_outside}
use Rattle.spaces.proofs.Freed.{freed_same}
use Rattle.spaces.proofs.Located.{prepared_in, prepared_there}
use Rattle.spaces.proofs.spaces.Spaces.unmap.Goals.{In-Some}
use Rattle.spaces.proofs.spaces.Spaces.unmap.Goals as goal

pub index_mut-requires : goal.index_mut-requires
index_mut-requires g c =
    let there = prepared_there c.self.inside.slots.items c.self.inside.prepared c.args.self.now c.args.pcid
    c.self.view_is c.self.invariant.0 c.args.range None c.requires in
    let within = within_slots c.self.inside.slots.items c.args.pcid there in
    omega (arith, c.self.inside.slots.ok.0)

pub unreachable-requires : goal.unreachable-requires
unreachable-requires g c =
    let there = prepared_there c.self.inside.slots.items c.self.inside.prepared c.args.self.now c.args.pcid
    c.self.view_is c.self.invariant.0 c.args.range None c.requires in
    never_missing c.self.inside.slots.items c.args.pcid c.index_mut.result.now there c.index_mut.ensures.value
    c.in_default.is

-- the slot in which the space is found
found : (g : _) (c : In-Some g) → slot_at c.self.inside.slots.items c.args.pcid ≡ Some c.in-Some.space
found g c = slot_is c.self.inside.slots.items c.args.pcid c.index_mut.result.now c.in-Some.space
    (prepared_there c.self.inside.slots.items c.self.inside.prepared c.args.self.now c.args.pcid c.self.view_is
    c.self.invariant.0 c.args.range None c.requires) c.index_mut.ensures.value c.in-Some.is

pub unmap-requires-clause-user : goal.unmap-requires-clause-user
unmap-requires-clause-user g c =
    (prepared_in c.self.inside.slots.items c.self.inside.prepared c.args.self.now c.args.pcid c.self.view_is
    c.self.invariant.0 c.args.range None c.requires).user_range

pub unmap-requires-clause-room : goal.unmap-requires-clause-room
unmap-requires-clause-room g c =
    let ready = prepared_in c.self.inside.slots.items c.self.inside.prepared c.args.self.now c.args.pcid c.self.view_is
    c.self.invariant.0 c.args.range None c.requires in
    ready.room c.in-Some.space (found g (goal.at.unmap-requires-clause-room g c).In-Some)

pub invariant_of-self : goal.invariant_of-self
invariant_of-self g c =
    let slots = c.self.inside.slots.items in
    let at = found g (goal.at.invariant_of-self g c).In-Some in
    let is = set-without_mapping slots c.args.pcid c.in-Some.space at c.unmap.new.self c.args.range
    c.unmap.ensures.places c.unmap.ensures.entries in (
      slots_changed slots c.args.pcid c.in-Some.space at c.unmap.new.self c.self.inside.prepared c.self.invariant.0
          (subst AreSpaces (sym is)
          (AreSpaces-without_mapping (spaces_of slots) c.args.pcid c.args.range c.self.invariant.0.spaces
          (found_in_slot slots c.args.pcid c.in-Some.space at).there)),
      in_use_outside slots c.self.inside.in_use c.args.pcid c.args.range.first (c.args.range.first + c.args.range.count)
          c.in-Some.space c.unmap.new.self c.self.invariant.1 at c.unmap.ensures.entries,
      freed_same slots c.self.inside.freed c.args.pcid c.in-Some.space c.unmap.new.self c.self.invariant.2 at,
    )

pub returns : goal.returns
returns g c =
    let slots = c.self.inside.slots.items in
    let at = found g (goal.at.returns g c).In-Some in
    let is = set-without_mapping slots c.args.pcid c.in-Some.space at c.unmap.new.self c.args.range
    c.unmap.ensures.places c.unmap.ensures.entries in
    let now = is ∙ ap (λ (s : SpacesState). without_mapping s.map c.args.pcid c.args.range) c.self.view_is in
    λ i. record { map = now i; prepared = None }
