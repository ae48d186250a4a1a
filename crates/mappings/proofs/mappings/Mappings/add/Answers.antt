use Rattle.std.proofs.Common.{◌+◌, sym, ap, ◌∙◌, subst}
use Rattle.std.specs.List.{insert}
use Rattle.mappings.specs.Places.{with_range}
use Rattle.mappings.specs.Judgement.{add_refusal, answer_unless}
use Rattle.mappings.specs.State.{MappingsState}
use Rattle.mappings.specs.inside.Listed.{places_of, IsFirstAfter}
use Rattle.mappings.proofs.Calls.{IsNearlyMerged, IsKept-merged, places_of-nearly, IsGap-not_mapped}
use Rattle.mappings.proofs.Calls.{IsNearlyMerged-insert, added}
use Rattle.mappings.proofs.mappings.Mappings.add.Goals.{In-Ok}
use Rattle.mappings.proofs.mappings.Mappings.add.Goals as goal

-- only the new mapping and its neighbours may go on
inserted : (g : _) (c : In-Ok g)
    → IsNearlyMerged c.insert.new.self.items c.first_after-at.result (c.first_after-at.result + 1)
    (with_range (places_of c.self.inside.list.items) c.args.range.first c.args.range.count c.args.place)
inserted g c =
    let ms = c.self.inside.list.items in
    let range = c.args.range in
    let place = c.args.place in
    let at = c.first_after-at.result in
    let free = added range place (places_of ms)
    (ap (λ (s : MappingsState). answer_unless (add_refusal s.places range place)) c.self.view_is ∙ sym c.may_add.ensures
    ∙ c.in_ok-may_add.was) in
    let after = subst (λ l. IsFirstAfter l range.first at)
    (c.deref.ensures.value ∙ c.reserve.ensures.items) c.first_after-at.ensures in
    let gap = IsGap-not_mapped ms range.first range.count at c.self.invariant.ordered after free.pages free.unmapped in
    IsNearlyMerged-insert ms c.insert.new.self.items range place at c.self.invariant free.mappable gap
    (c.in-Ok.ensures.items
    ∙ ap (λ l. insert l at (record { first = range.first; end = range.first + range.count; place = place }))
    c.reserve.ensures.items)

pub merge_around-requires-clause-ordered : goal.merge_around-requires-clause-ordered
merge_around-requires-clause-ordered g c = (inserted g (goal.at.merge_around-requires-clause-ordered g c).In-Ok).ordered

pub merge_around-requires-clause-before : goal.merge_around-requires-clause-before
merge_around-requires-clause-before g c = (inserted g (goal.at.merge_around-requires-clause-before g c).In-Ok).before

pub merge_around-requires-clause-after : goal.merge_around-requires-clause-after
merge_around-requires-clause-after g c = (inserted g (goal.at.merge_around-requires-clause-after g c).In-Ok).after

pub invariant_of-self-2 : goal.invariant_of-self-2
invariant_of-self-2 g c =
    IsKept-merged c.merge_around.new.list.items (inserted g (goal.at.invariant_of-self-2 g c).In-Ok)
    c.merge_around.ensures.items

pub returns-clause-added : goal.returns-clause-added
returns-clause-added g c =
    let range = c.args.range in
    places_of-nearly c.merge_around.new.list.items (inserted g (goal.at.returns-clause-added g c).In-Ok)
    c.merge_around.ensures.items
    ∙ ap (λ (s : MappingsState). with_range s.places range.first range.count c.args.place) c.self.view_is
