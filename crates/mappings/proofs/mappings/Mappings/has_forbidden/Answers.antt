use Rattle.std.proofs.Common.{◌+◌, ◌-◌, not, List, take, drop, subst, ap, ◌∙◌}
use Rattle.std.specs.List.{list_any}
use Rattle.mappings.specs.declared.mapping.Mapping.{Mapping}
use Rattle.mappings.specs.Places.{allows, any_forbids}
use Rattle.mappings.specs.State.{MappingsState}
use Rattle.mappings.specs.inside.Listed.{IsMeeting}
use Rattle.mappings.proofs.Searches.{any_forbids-meets, list_any-meeting}
use Rattle.mappings.proofs.mappings.Mappings.has_forbidden.Goals as goal

-- the mappings that have pages of the range are those that are looked at
pub returns-then-range-gt0 : goal.returns-then-range-gt0
returns-then-range-gt0 g c =
    let list = c.self.inside.list.items in
    let range = c.args.range in
    let places = c.meeting.result in
    let test = λ (m : Mapping). not (allows m.place.access c.args.rights) in
    let meeting = subst (λ l. IsMeeting l range.first (range.first + range.count) places.start places.end)
    c.deref-then-range-gt0.ensures.value c.meeting.ensures in
    c.any_forbids.ensures
    ∙ ap (λ (l : List Mapping). list_any test (take (places.end - places.start) (drop places.start l)))
    c.deref.ensures.value
    ∙ list_any-meeting test list range.first range.count places.start places.end meeting
    ∙ any_forbids-meets list range.first range.count c.args.rights c.self.invariant.ordered c.if-range-gt0.true
    ∙ ap (λ (s : MappingsState). any_forbids s.places range.first range.count c.args.rights) c.self.view_is
