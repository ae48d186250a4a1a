use Rattle.std.proofs.Common.{◌≡◌, ◌+◌, ◌-◌, ◌<◌, length, get_or, take, drop, sym, subst, arith}
use Rattle.std.proofs.lemmas.List.{length-take, length-drop}
use Rattle.mappings.specs.declared.mapping.Mapping.{Mapping}
use Rattle.mappings.proofs.Searches.{IsCoveredTo, IsCoveredTo-start, IsCoveredTo-step}
use Rattle.mappings.proofs.Searches.{all_mapped-hole, all_mapped-end, part_at, blank}
use Rattle.mappings.proofs.list.covers_all.Goals as goal

pub loop-mapping-init : goal.loop-mapping-init
loop-mapping-init c =
    let range = c.args.range in
    let places = c.meeting-places.result in
    let start = IsCoveredTo-start c.args.list.now range.first
    (range.first + range.count) places.start places.end c.requires c.meeting-places.ensures (omega arith) in
    subst (IsCoveredTo c.args.list.now range.first range.first) {x = places.start} (omega arith) start

-- the next mapping begins after the next page
pub returns-then-next-mapping : goal.returns-then-next-mapping
returns-then-next-mapping c =
    let list = c.args.list.now in
    let range = c.args.range in
    let places = c.meeting-places.result in
    let meeting = c.meeting-places.ensures in
    let i = c.loop-mapping.mapping-index in
    let n = places.end - places.start in
    let less : i < n = omega (arith, c.loop-mapping-test.true, length-take n (drop places.start list)) in
    let within : places.start + i < length list = omega (arith, meeting.within) in
    let m = get_or (take n (drop places.start list)) i blank in
    let is : m ≡ get_or list (places.start + i) m = part_at list places.start n i blank less within in
    let begins = meeting.begins (places.start + i) m (omega arith) (omega arith) in
    sym (all_mapped-hole list range.first range.count c.loop-mapping.next
    (places.start + i) m c.requires c.loop-mapping.invariant within is c.if-next-mapping.true
    (subst (λ (m : Mapping). m.first < range.first + range.count) (sym is) begins))

-- or it has the page
pub loop-mapping-preserved : goal.loop-mapping-preserved
loop-mapping-preserved c =
    let list = c.args.list.now in
    let range = c.args.range in
    let places = c.meeting-places.result in
    let i = c.loop-mapping.mapping-index in
    let n = places.end - places.start in
    let less : i < n = omega (arith, c.loop-mapping-test.true, length-take n (drop places.start list)) in
    let within : places.start + i < length list = omega (arith, c.meeting-places.ensures.within) in
    let m = get_or (take n (drop places.start list)) i blank in
    let is : m ≡ get_or list (places.start + i) m = part_at list places.start n i blank less within in
    let step = IsCoveredTo-step list range.first c.loop-mapping.next
    (places.start + i) m c.requires c.loop-mapping.invariant within is c.if-next-mapping.false in
    subst (IsCoveredTo list range.first m.end) {x = places.start + i + 1} (omega arith) step

pub returns : goal.returns
returns c =
    let list = c.args.list.now in
    let range = c.args.range in
    let places = c.meeting-places.result in
    let meeting = c.meeting-places.ensures in
    let n = places.end - places.start in
    let size = length-take n (drop places.start list) in
    let left = length-drop places.start list in
    all_mapped-end list range.first range.count c.loop-mapping.next places.start places.end _ c.requires meeting
    c.loop-mapping.invariant (omega (arith, c.loop-mapping-test.false, size, left, meeting.within, meeting.forward))
    c.loop-mapping.invariant.after.within
