use Rattle.std.proofs.Common.{◌≡◌, Some, None, unwrap_or, sym, ap, ◌∙◌, subst, arith}
use Rattle.std.proofs.lemmas.Result.{err_from_is_err_and}
use Rattle.page_entry.specs.declared.refusal.Refusal.{Refusal}
use Rattle.page_entry.specs.declared.refusal.Refusal.TheVariants.{OutOfMemory}
use Rattle.mappings.specs.Judgement.{add_refusal}
use Rattle.spaces.specs.Spaces.{AddressSpace, SpacesState, space_at, with_mapping, AreSpaces}
use Rattle.spaces.specs.inside.Slots.{slot_at, spaces_of}
use Rattle.spaces.proofs.AreSpacesLaws.{mappable_ends, AreSpaces-with_mapping}
use Rattle.spaces.proofs.SlotsLemmas.{within_slots, never_missing, slot_is, found_in_slot}
use Rattle.spaces.proofs.SlotEdits.{slots_kept, slots_changed, set-same, set-with_mapping}
use Rattle.spaces.proofs.Used.{in_use_same}
use Rattle.spaces.proofs.Freed.{freed_same}
use Rattle.spaces.proofs.Located.{user_in, there_in}
use Rattle.spaces.proofs.spaces.Spaces.map.Goals.{In-Some}
use Rattle.spaces.proofs.spaces.Spaces.map.Goals as goal

pub index_mut-requires : goal.index_mut-requires
index_mut-requires g c =
    let there = there_in c.self.inside.slots.items c.self.inside.prepared c.args.self.now c.args.pcid c.self.view_is
    c.requires in
    let within = within_slots c.self.inside.slots.items c.args.pcid there in
    omega (arith, c.self.inside.slots.ok.0)

pub unreachable-requires : goal.unreachable-requires
unreachable-requires g c =
    let there = there_in c.self.inside.slots.items c.self.inside.prepared c.args.self.now c.args.pcid c.self.view_is
    c.requires in
    never_missing c.self.inside.slots.items c.args.pcid c.index_mut.result.now there c.index_mut.ensures.value
    c.in_default.is

-- the slot in which the space is found
found : (g : _) (c : In-Some g) → slot_at c.self.inside.slots.items c.args.pcid ≡ Some c.in-Some.space
found g c = slot_is c.self.inside.slots.items c.args.pcid c.index_mut.result.now c.in-Some.space
    (there_in c.self.inside.slots.items c.self.inside.prepared c.args.self.now c.args.pcid c.self.view_is c.requires)
    c.index_mut.ensures.value c.in-Some.is

pub returns-in_err-map-clause-refused : goal.returns-in_err-map-clause-refused
returns-in_err-map-clause-refused g c =
    let slots = c.self.inside.slots.items in
    let at = found g (goal.at.returns-in_err-map-clause-refused g c).In-Some in
    let here = (found_in_slot slots c.args.pcid c.in-Some.space at).same in
    let refused : AddressSpace → Refusal =
    λ x. unwrap_or (add_refusal x.places c.args.range c.args.place) OutOfMemory in
    let p = err_from_is_err_and c.from_residual.result c.from_residual.ensures.1 in
    rw p.1 (p.2 ∙ c.in_err-map.ensures.refused ∙ ap refused (sym here)
    ∙ ap (λ (s : SpacesState). refused (space_at s.map c.args.pcid)) c.self.view_is)

pub invariant_of-self : goal.invariant_of-self
invariant_of-self g c =
    let slots = c.self.inside.slots.items in
    let at = found g (goal.at.invariant_of-self g c).In-Some in
    let err = c.in_err-map.ensures.err in
    let same = set-same slots c.args.pcid c.in-Some.space at c.map.new.self err in (
      slots_kept slots c.args.pcid c.in-Some.space at c.map.new.self c.self.inside.prepared c.self.invariant.0
          (ap (λ (x : AddressSpace). x.places) err) c.in_err-map.ensures.kept
          (subst AreSpaces (sym same) c.self.invariant.0.spaces),
      in_use_same slots c.self.inside.in_use c.args.pcid c.in-Some.space c.map.new.self c.self.invariant.1 at
          (ap (λ (x : AddressSpace). x.entries) err),
      freed_same slots c.self.inside.freed c.args.pcid c.in-Some.space c.map.new.self c.self.invariant.2 at,
    )

pub returns-in_err-map-clause-err : goal.returns-in_err-map-clause-err
returns-in_err-map-clause-err g c =
    let slots = c.self.inside.slots.items in
    let at = found g (goal.at.returns-in_err-map-clause-err g c).In-Some in
    let same = set-same slots c.args.pcid c.in-Some.space at c.map.new.self c.in_err-map.ensures.err in
    let p = err_from_is_err_and c.from_residual.result c.from_residual.ensures.1 in
    rw p.1 ((λ i. record { map = same i; prepared = c.self.inside.prepared }) ∙ c.self.view_is)

pub invariant_of-self-2 : goal.invariant_of-self-2
invariant_of-self-2 g c =
    let slots = c.self.inside.slots.items in
    let at = found g (goal.at.invariant_of-self-2 g c).In-Some in
    let is = set-with_mapping slots c.args.pcid c.in-Some.space at c.map.new.self c.args.range c.args.place
    c.in_ok-map.ensures.places c.in_ok-map.ensures.entries in (
      slots_changed slots c.args.pcid c.in-Some.space at c.map.new.self c.self.inside.prepared c.self.invariant.0
          (subst AreSpaces (sym is)
          (AreSpaces-with_mapping (spaces_of slots) c.args.pcid c.args.range c.args.place c.self.invariant.0.spaces
          (user_in slots c.self.inside.prepared c.args.self.now c.args.pcid c.self.view_is c.requires)
          (mappable_ends c.in-Some.space.places c.args.range c.args.place c.in_ok-map.ensures.allowed))),
      in_use_same slots c.self.inside.in_use c.args.pcid c.in-Some.space c.map.new.self c.self.invariant.1 at
          c.in_ok-map.ensures.entries,
      freed_same slots c.self.inside.freed c.args.pcid c.in-Some.space c.map.new.self c.self.invariant.2 at,
    )

pub returns-clause-mapped : goal.returns-clause-mapped
returns-clause-mapped g c =
    let slots = c.self.inside.slots.items in
    let at = found g (goal.at.returns-clause-mapped g c).In-Some in
    let is = set-with_mapping slots c.args.pcid c.in-Some.space at c.map.new.self c.args.range c.args.place
    c.in_ok-map.ensures.places c.in_ok-map.ensures.entries in
    let now = is ∙ ap (λ (s : SpacesState). with_mapping s.map c.args.pcid c.args.range c.args.place) c.self.view_is in
    λ i. record { map = now i; prepared = None }

pub returns-clause-allowed : goal.returns-clause-allowed
returns-clause-allowed g c =
    let slots = c.self.inside.slots.items in
    let at = found g (goal.at.returns-clause-allowed g c).In-Some in
    let here = (found_in_slot slots c.args.pcid c.in-Some.space at).same in
    subst (λ (s : SpacesState). add_refusal (space_at s.map c.args.pcid).places c.args.range c.args.place ≡ None)
    c.self.view_is
    (ap (λ (x : AddressSpace). add_refusal x.places c.args.range c.args.place) here ∙ c.in_ok-map.ensures.allowed)
