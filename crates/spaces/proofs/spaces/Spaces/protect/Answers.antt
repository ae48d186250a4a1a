use Rattle.std.proofs.Common.{◌≡◌, ◌+◌, Some, set, sym, ap, ◌∙◌, subst, arith}
use Rattle.mappings.specs.Places.{may_write}
use Rattle.mappings.specs.Judgement.{protect_refusal}
use Rattle.spaces.specs.Spaces.{AddressSpace, SpacesState, space_at, SetsRights}
use Rattle.spaces.specs.inside.Slots.{slot_at, spaces_of}
use Rattle.spaces.proofs.AreSpacesLaws.{AreSpaces-SetsRights}
use Rattle.spaces.proofs.SlotsLemmas.{within_slots, never_missing, slot_is, found_in_slot}
use Rattle.spaces.proofs.SlotEdits.{slots_changed, set-SetsRights}
use Rattle.spaces.proofs.Used.{in_use_protected}
use Rattle.spaces.proofs.Freed.{freed_same}
use Rattle.spaces.proofs.Located.{prepared_in, prepared_there}
use Rattle.spaces.proofs.spaces.Spaces.protect.Goals.{In-Some, After-protect}
use Rattle.spaces.proofs.spaces.Spaces.protect.Goals as goal

pub index_mut-requires : goal.index_mut-requires
index_mut-requires g c =
    let there = prepared_there c.self.inside.slots.items c.self.inside.prepared c.args.self.now c.args.pcid
    c.self.view_is c.self.invariant.0 c.args.range (Some c.args.rights) c.requires.prepared in
    let within = within_slots c.self.inside.slots.items c.args.pcid there in
    omega (arith, c.self.inside.slots.ok.0)

pub unreachable-requires : goal.unreachable-requires
unreachable-requires g c =
    let there = prepared_there c.self.inside.slots.items c.self.inside.prepared c.args.self.now c.args.pcid
    c.self.view_is c.self.invariant.0 c.args.range (Some c.args.rights) c.requires.prepared in
    never_missing c.self.inside.slots.items c.args.pcid c.index_mut.result.now there c.index_mut.ensures.value
    c.in_default.is

-- the slot in which the space is found
found : (g : _) (c : In-Some g) → slot_at c.self.inside.slots.items c.args.pcid ≡ Some c.in-Some.space
found g c = slot_is c.self.inside.slots.items c.args.pcid c.index_mut.result.now c.in-Some.space
    (prepared_there c.self.inside.slots.items c.self.inside.prepared c.args.self.now c.args.pcid c.self.view_is
    c.self.invariant.0 c.args.range (Some c.args.rights) c.requires.prepared) c.index_mut.ensures.value c.in-Some.is

pub protect-requires-clause-allowed : goal.protect-requires-clause-allowed
protect-requires-clause-allowed g c =
    let slots = c.self.inside.slots.items in
    let at = found g (goal.at.protect-requires-clause-allowed g c).In-Some in
    let here = (found_in_slot slots c.args.pcid c.in-Some.space at).same in
    ap (λ (x : AddressSpace). protect_refusal x.places c.args.range c.args.rights) (sym here)
    ∙ ap (λ (s : SpacesState). protect_refusal (space_at s.map c.args.pcid).places c.args.range c.args.rights)
    c.self.view_is
    ∙ c.requires.allowed

pub protect-requires-clause-room : goal.protect-requires-clause-room
protect-requires-clause-room g c =
    let ready = prepared_in c.self.inside.slots.items c.self.inside.prepared c.args.self.now c.args.pcid c.self.view_is
    c.self.invariant.0 c.args.range (Some c.args.rights) c.requires.prepared in
    ready.room c.in-Some.space (found g (goal.at.protect-requires-clause-room g c).In-Some)

-- what the call makes of the space, as a change of the spaces
sets : (g : _) (c : After-protect g) → slot_at c.self.inside.slots.items c.args.pcid ≡ Some c.in-Some.space
    → SetsRights c.args.pcid c.args.range c.args.rights
    (spaces_of c.self.inside.slots.items)
    (spaces_of (set c.self.inside.slots.items c.args.pcid (Some c.protect.new.self)))
sets g c at = set-SetsRights c.self.inside.slots.items c.args.pcid c.in-Some.space at c.protect.new.self
    c.args.range c.args.rights c.protect.ensures.places c.protect.ensures.entries

pub invariant_of-self : goal.invariant_of-self
invariant_of-self g c =
    let slots = c.self.inside.slots.items in
    let at = found g (goal.at.invariant_of-self g c).In-Some in (
      slots_changed slots c.args.pcid c.in-Some.space at c.protect.new.self c.self.inside.prepared c.self.invariant.0
          (AreSpaces-SetsRights c.args.pcid c.args.range c.args.rights (spaces_of slots) _
          c.self.invariant.0.spaces (sets g (goal.at.invariant_of-self g c).After-protect at)),
      in_use_protected slots c.self.inside.in_use c.args.pcid c.args.range.first
          (c.args.range.first + c.args.range.count)
          (may_write c.args.rights) c.in-Some.space c.protect.new.self c.self.invariant.1 at c.protect.ensures.entries,
      freed_same slots c.self.inside.freed c.args.pcid c.in-Some.space c.protect.new.self c.self.invariant.2 at,
    )

pub returns-clause-rights : goal.returns-clause-rights
returns-clause-rights g c =
    subst (λ (s : SpacesState). SetsRights c.args.pcid c.args.range c.args.rights s.map
    (spaces_of (set c.self.inside.slots.items c.args.pcid (Some c.protect.new.self))))
    c.self.view_is (let at = goal.at.returns-clause-rights g c in sets g at.After-protect (found g at.In-Some))
