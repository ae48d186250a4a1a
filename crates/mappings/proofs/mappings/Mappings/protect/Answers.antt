use Rattle.std.proofs.Common.{◌≡◌, ◌+◌, ◌-◌, sym, ap, ◌∙◌, subst, arith}
use Rattle.std.specs.Vec.{with_items}
use borrow.Rule.Slice.PartMut.{put_mid}
use Rattle.mappings.specs.Places.{Places, with_rights}
use Rattle.mappings.specs.State.{MappingsState}
use Rattle.mappings.specs.inside.Listed.{places_of, IsMeeting}
use Rattle.mappings.proofs.Calls.{IsNearlyMerged, IsKept-merged, places_of-nearly, IsNearlyMerged-rights, positive}
use Rattle.mappings.proofs.mappings.Mappings.protect.Goals.{After-set_rights}
use Rattle.mappings.proofs.mappings.Mappings.protect.Goals as goal

-- only the mappings of the range and their neighbours may go on
given : (g : _) (c : After-set_rights g)
    → IsNearlyMerged (with_items c.split_ends.new.list (put_mid c.meeting-places.result.start
    (c.meeting-places.result.end - c.meeting-places.result.start) c.deref_mut.result.now c.set_rights.new.list)).items
    c.meeting-places.result.start c.meeting-places.result.end
    (with_rights (places_of c.self.inside.list.items) c.widened-range.result.first c.widened-range.result.count
    c.args.rights)
given g c =
    let range = c.widened-range.result in
    let list = c.split_ends.new.list in
    let places = c.meeting-places.result in
    IsNearlyMerged-rights list c.self.inside.list.items c.deref_mut.result.now c.set_rights.new.list
    range.first range.count places.start places.end c.args.rights (omega (
      arith,
      positive c.args.range c.args.rights c.args.self.now.places (sym c.may_protect.ensures ∙ c.in_ok-may_protect.was),
      c.widened-range.ensures.begins,
      c.widened-range.ensures.ends,
    )) c.split_ends.ensures (subst (λ l. IsMeeting l range.first (range.first + range.count) places.start places.end)
    c.deref-2.ensures.value c.meeting-places.ensures)
    c.deref_mut.ensures.value c.set_rights.ensures

pub merge_around-requires-clause-ordered : goal.merge_around-requires-clause-ordered
merge_around-requires-clause-ordered g c =
    (given g (goal.at.merge_around-requires-clause-ordered g c).After-set_rights).ordered

pub merge_around-requires-clause-before : goal.merge_around-requires-clause-before
merge_around-requires-clause-before g c =
    (given g (goal.at.merge_around-requires-clause-before g c).After-set_rights).before

pub merge_around-requires-clause-after : goal.merge_around-requires-clause-after
merge_around-requires-clause-after g c =
    (given g (goal.at.merge_around-requires-clause-after g c).After-set_rights).after

pub invariant_of-self : goal.invariant_of-self
invariant_of-self g c =
    IsKept-merged c.merge_around.new.list.items (given g (goal.at.invariant_of-self g c).After-set_rights)
    c.merge_around.ensures.items

pub returns-clause-protected : goal.returns-clause-protected
returns-clause-protected g c =
    let range = c.widened-range.result in
    let same = subst (λ l. with_rights (places_of l) range.first range.count c.args.rights
    ≡ with_rights (places_of l) c.args.range.first c.args.range.count c.args.rights)
    c.deref.ensures.value c.widened-range.ensures.same in
    places_of-nearly c.merge_around.new.list.items (given g (goal.at.returns-clause-protected g c).After-set_rights)
    c.merge_around.ensures.items
    ∙ same
    ∙ ap (λ (p : Places). with_rights p c.args.range.first c.args.range.count c.args.rights)
    (ap (λ (s : MappingsState). s.places) c.self.view_is)
