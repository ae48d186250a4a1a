use Rattle.std.proofs.Common.{ℕ, ◌≡◌, ◌<◌, true, List, Option, Some, get_or, sym, ap, ◌∙◌, subst, arith}
use Rattle.std.proofs.lemmas.Result.{err_from_is_err_and}
use Rattle.spaces.specs.Spaces.{AddressSpace, SpacesState, space_at, AreSpaces}
use Rattle.spaces.specs.Requests.{is_user_space}
use Rattle.mappings.specs.declared.page_range.PageRange.{PageRange}
use Rattle.mappings.specs.declared.place.Rights.{Rights}
use Rattle.mappings.specs.Places.{splits}
use Rattle.spaces.specs.inside.Slots.{SpaceState, slot_at, spaces_of}
use Rattle.spaces.proofs.Located.{user_in, there_in}
use Rattle.spaces.proofs.SlotsLemmas.{within_slots, never_missing, slot_is, found_in_slot}
use Rattle.spaces.proofs.SlotEdits.{slots_kept, slots_prepared, set-same}
use Rattle.spaces.proofs.Used.{in_use_same}
use Rattle.spaces.proofs.Freed.{freed_same}
use Rattle.spaces.proofs.spaces.Spaces.prepare.Goals as goal

-- the slot in which the space is found
at_slot : (slots : List (Option SpaceState)) (prepared : Option (ℕ × PageRange × Option Rights)) (self : SpacesState)
    (pcid : ℕ) (found : Option SpaceState) (s : SpaceState)
    → record { map = spaces_of slots; prepared = prepared } ≡ self → is_user_space self.map pcid ≡ true
    → found ≡ get_or slots pcid found → found ≡ Some s → slot_at slots pcid ≡ Some s
at_slot slots prepared self pcid found s view_is space is some =
    slot_is slots pcid found s (there_in slots prepared self pcid view_is space) is some

pub index_mut-requires : goal.index_mut-requires
index_mut-requires g c =
    let there = there_in c.self.inside.slots.items c.self.inside.prepared c.args.self.now c.args.pcid c.self.view_is
    c.requires.space in
    let within = within_slots c.self.inside.slots.items c.args.pcid there in
    omega (arith, c.self.inside.slots.ok.0)

pub unreachable-requires : goal.unreachable-requires
unreachable-requires g c =
    let there = there_in c.self.inside.slots.items c.self.inside.prepared c.args.self.now c.args.pcid c.self.view_is
    c.requires.space in
    never_missing c.self.inside.slots.items c.args.pcid c.index_mut.result.now there c.index_mut.ensures.value
    c.in_default.is

pub invariant_of-self : goal.invariant_of-self
invariant_of-self g c =
    let slots = c.self.inside.slots.items in
    let at = at_slot slots c.self.inside.prepared c.args.self.now c.args.pcid c.index_mut.result.now c.in-Some.space
    c.self.view_is c.requires.space c.index_mut.ensures.value c.in-Some.is in
    let same = set-same slots c.args.pcid c.in-Some.space at c.prepare.new.self c.prepare.ensures.same in (
      slots_kept slots c.args.pcid c.in-Some.space at c.prepare.new.self c.self.inside.prepared c.self.invariant.0
          (ap (λ (x : AddressSpace). x.places) c.prepare.ensures.same) c.prepare.ensures.grows
          (subst AreSpaces (sym same) c.self.invariant.0.spaces),
      in_use_same slots c.self.inside.in_use c.args.pcid c.in-Some.space c.prepare.new.self c.self.invariant.1 at
          (ap (λ (x : AddressSpace). x.entries) c.prepare.ensures.same),
      freed_same slots c.self.inside.freed c.args.pcid c.in-Some.space c.prepare.new.self c.self.invariant.2 at,
    )

pub returns-in_err-prepare-clause-splits : goal.returns-in_err-prepare-clause-splits
returns-in_err-prepare-clause-splits g c =
    let slots = c.self.inside.slots.items in
    let at = at_slot slots c.self.inside.prepared c.args.self.now c.args.pcid c.index_mut.result.now c.in-Some.space
    c.self.view_is c.requires.space c.index_mut.ensures.value c.in-Some.is in
    let here = (found_in_slot slots c.args.pcid c.in-Some.space at).same in
    let split : AddressSpace → Type 0 = λ x. 0 < splits x.places c.args.range c.args.rights in
    let p = err_from_is_err_and c.from_residual.result c.from_residual.ensures.1 in
    rw p.1 (subst (λ (s : SpacesState). split (space_at s.map c.args.pcid)) c.self.view_is
    (subst split (sym here) c.in_err-prepare.ensures.missing))

pub returns-in_err-prepare-clause-err : goal.returns-in_err-prepare-clause-err
returns-in_err-prepare-clause-err g c =
    let slots = c.self.inside.slots.items in
    let at = at_slot slots c.self.inside.prepared c.args.self.now c.args.pcid c.index_mut.result.now c.in-Some.space
    c.self.view_is c.requires.space c.index_mut.ensures.value c.in-Some.is in
    let same = set-same slots c.args.pcid c.in-Some.space at c.prepare.new.self c.prepare.ensures.same in
    let p = err_from_is_err_and c.from_residual.result c.from_residual.ensures.1 in
    rw p.1 ((λ i. record { map = same i; prepared = c.self.inside.prepared }) ∙ c.self.view_is)

pub invariant_of-self-2 : goal.invariant_of-self-2
invariant_of-self-2 g c =
    let slots = c.self.inside.slots.items in
    let at = at_slot slots c.self.inside.prepared c.args.self.now c.args.pcid c.index_mut.result.now c.in-Some.space
    c.self.view_is c.requires.space c.index_mut.ensures.value c.in-Some.is in (
      slots_prepared slots c.args.pcid c.in-Some.space at c.prepare.new.self c.self.inside.prepared
          c.args.range c.args.rights c.self.invariant.0
          (user_in slots c.self.inside.prepared c.args.self.now c.args.pcid c.self.view_is c.requires.space)
          c.requires.pages c.prepare.ensures.same
          c.in_ok-prepare.ensures.reserved,
      in_use_same slots c.self.inside.in_use c.args.pcid c.in-Some.space c.prepare.new.self c.self.invariant.1 at
          (ap (λ (x : AddressSpace). x.entries) c.prepare.ensures.same),
      freed_same slots c.self.inside.freed c.args.pcid c.in-Some.space c.prepare.new.self c.self.invariant.2 at,
    )

pub returns-clause-prepared : goal.returns-clause-prepared
returns-clause-prepared g c =
    let slots = c.self.inside.slots.items in
    let at = at_slot slots c.self.inside.prepared c.args.self.now c.args.pcid c.index_mut.result.now c.in-Some.space
    c.self.view_is c.requires.space c.index_mut.ensures.value c.in-Some.is in
    let same = set-same slots c.args.pcid c.in-Some.space at c.prepare.new.self c.prepare.ensures.same in
    let now = same ∙ ap (λ (s : SpacesState). s.map) c.self.view_is in
    λ i. record { map = now i; prepared = Some (c.args.pcid, c.args.range, c.args.rights) }
