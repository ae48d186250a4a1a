use Rattle.std.proofs.Common.{rules, ◌≡◌, ◌+◌, ◌-◌, ◌<◌, ◌≤◌, IsSome, length, sym, ap, ◌∙◌, subst, arith}
use Rattle.mappings.specs.Places.{without_range}
use Rattle.mappings.specs.inside.Listed.{places_of, IsMapping, IsKept, IsMeeting}
use Rattle.mappings.specs.inside.Edits.{put_at}
use Rattle.mappings.proofs.Lists.{mapping_at}
use Rattle.mappings.proofs.Removing.{room_for_parts, removed_by_parts, removed_nothing}
use Rattle.mappings.proofs.list.take_out.Goals.{After-meeting-places, After-put-2}
use Rattle.mappings.proofs.list.take_out.Goals as goal

-- the places are those of the mappings that have pages of the range
meets : (g : _) (c : After-meeting-places g) → IsMeeting c.args.list.now.items c.args.range.first
    (c.args.range.first + c.args.range.count) c.meeting-places.result.start c.meeting-places.result.end
meets g c =
    let range = c.args.range in
    let places = c.meeting-places.result in
    subst (λ l. IsMeeting l range.first (range.first + range.count) places.start places.end)
    c.deref.ensures.value c.meeting-places.ensures

pub returns-then-is_empty-clause-places : goal.returns-then-is_empty-clause-places
returns-then-is_empty-clause-places g c =
    let list = c.args.list.now.items in
    let range = c.args.range in
    let places = c.meeting-places.result in
    let meeting = meets g (goal.at.returns-then-is_empty-clause-places g c).After-meeting-places in
    let none : places.end ≤ places.start = search rules in
    removed_nothing list range.first range.count places.start places.end c.requires.pages c.requires.kept meeting none

pub part_from-after-requires-clause-pages : goal.part_from-after-requires-clause-pages
part_from-after-requires-clause-pages g c =
    subst IsMapping (sym c.index-2.ensures) (mapping_at 0 c.args.list.now.items c.requires.kept.ordered
    (c.meeting-places.result.end - 1) c.index-2.result.now (search rules))

-- there is room for both parts
pub put-requires-2-clause-room : goal.put-requires-2-clause-room
put-requires-2-clause-room g c some =
    let list = c.args.list.now.items in
    let range = c.args.range in
    let places = c.meeting-places.result in
    let meeting = meets g (goal.at.put-requires-2-clause-room g c).After-meeting-places in
    let less : places.start < places.end = search rules in
    let p = c.part_below-before.ensures in
    let q = c.part_from-after.ensures in
    let room =
    room_for_parts list range.first range.count places.start places.end c.index.result.now c.index-2.result.now
    c.requires.kept meeting less (sym c.index.ensures) (sym c.index-2.ensures) (subst IsSome p some) in
    let items = c.put.ensures.items ∙ (λ i. put_at (c.remove_range.ensures.items i) places.start (q i)) in
    omega (
      arith,
      room,
      ap length items,
      c.put.ensures.capacity,
      c.remove_range.ensures.capacity,
      c.requires.room,
      c.put.new.list.ok.0,
      c.args.list.now.ok.0,
    )

-- what is left
left : (g : _) (c : After-put-2 g) → IsMeeting c.args.list.now.items c.args.range.first
    (c.args.range.first + c.args.range.count) c.meeting-places.result.start c.meeting-places.result.end
    → IsKept c.put-2.new.list.items
    × (places_of c.put-2.new.list.items
    ≡ without_range (places_of c.args.list.now.items) c.args.range.first c.args.range.count)
left g c meeting =
    let places = c.meeting-places.result in
    let less : places.start < places.end = search rules in
    let p = c.part_below-before.ensures in
    let q = c.part_from-after.ensures in
    let items =
    c.put-2.ensures.items
    ∙ (λ i. put_at ((c.put.ensures.items ∙ (λ j. put_at (c.remove_range.ensures.items j) places.start (q j))) i)
    places.start (p i)) in
    removed_by_parts c.args.list.now.items c.put-2.new.list.items c.args.range.first c.args.range.count places.start
    places.end c.index.result.now c.index-2.result.now c.requires.pages c.requires.kept meeting less
    (sym c.index.ensures) (sym c.index-2.ensures) items

pub returns-clause-kept : goal.returns-clause-kept
returns-clause-kept g c =
    let at = goal.at.returns-clause-kept g c in (left g at.After-put-2 (meets g at.After-meeting-places)).0

pub returns-clause-places : goal.returns-clause-places
returns-clause-places g c =
    let at = goal.at.returns-clause-places g c in (left g at.After-put-2 (meets g at.After-meeting-places)).1
