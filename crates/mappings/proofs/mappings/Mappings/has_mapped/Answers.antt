use Rattle.std.proofs.Common.{◌≡◌, ◌+◌, not, ltb, subst, ap, ◌∙◌, arith}
use Rattle.std.proofs.lemmas.Bool.Decides.{nat_tests}
use Rattle.mappings.specs.Places.{any_mapped}
use Rattle.mappings.specs.State.{MappingsState}
use Rattle.mappings.specs.inside.Listed.{IsMeeting}
use Rattle.mappings.proofs.Searches.{any_mapped-meeting}
use Rattle.mappings.proofs.mappings.Mappings.has_mapped.Goals as goal

-- a page is mapped where some mapping has pages of the range
pub returns-then-range-gt0 : goal.returns-then-range-gt0
returns-then-range-gt0 g c =
    let list = c.self.inside.list.items in
    let range = c.args.range in
    let places = c.meeting.result in
    let meeting = subst (λ l. IsMeeting l range.first (range.first + range.count) places.start places.end)
    c.deref.ensures.value c.meeting.ensures in
    let some : not c.is_empty.result ≡ ltb places.start places.end =
    ap not c.is_empty.ensures
    ∙ grind (arith, nat_tests) in
    some
    ∙ any_mapped-meeting list range.first range.count places.start places.end c.self.invariant.ordered meeting
    c.if-range-gt0.true
    ∙ ap (λ (s : MappingsState). any_mapped s.places range.first range.count) c.self.view_is
