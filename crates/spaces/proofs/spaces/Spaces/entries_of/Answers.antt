use Rattle.std.proofs.Common.{◌++◌, ℕ, List, map, length, sym, ap, ◌∙◌, arith}
use Rattle.spaces.specs.Spaces.{SpacesState}
use Rattle.spaces.specs.Changes.{entries_in, entries_of}
use Rattle.spaces.specs.inside.Slots.{with_slot, listed_from}
use Rattle.spaces.proofs.SlotsLemmas.{within_slots, entries-spaces_of, first_slot_is_there}
use Rattle.spaces.proofs.spaces.Spaces.entries_of.Goals as goal

pub unreachable-requires : goal.unreachable-requires
unreachable-requires g c =
    let none = c.in_default.ensures.cases in
    let some = within_slots c.self.inside.slots.items 0 c.self.invariant.0.spaces.first in
    let same = ap length c.deref.ensures.value in
    absurd (omega arith)

pub unreachable-requires-in_default-slot : goal.unreachable-requires-in_default-slot
unreachable-requires-in_default-slot g c =
    first_slot_is_there c.self.inside.slots.items c.in-Some.slot.now c.in-Some.later.now c.self.invariant.0.spaces.first
    (sym c.deref.ensures.value ∙ c.in-Some.ensures.cases.0) c.in_default-slot.is

pub returns : goal.returns
returns g c =
    let slots = c.self.inside.slots.items in
    let owner = c.args.page in
    let are = sym c.deref.ensures.value ∙ c.in-Some.ensures.cases.0 in
    let first = c.in-Some-slot.first in
    let listed =
    entries-spaces_of slots
    ∙ ap (listed_from 0) are
    ∙ ap (λ slot. with_slot 0 slot (listed_from 1 c.in-Some.later.now)) c.in-Some-slot.is in
    ap (λ (here : List ℕ). map (λ page. (0, page)) here ++ entries_in (listed_from 1 c.in-Some.later.now) owner)
    c.entry_pages.ensures
    ∙ sym (ap (λ spaces. entries_in spaces owner) listed)
    ∙ ap (λ (s : SpacesState). entries_of s.map owner) c.self.view_is
