use Rattle.std.proofs.Common.{◌≡◌, ◌-◌, List, map, sym, ap, ◌∙◌, arith}
use Rattle.std.specs.List.{range_with_len}
use Rattle.std.proofs.lemmas.List.{map-id}
use Rattle.pcid_tlb.specs.declared.Invpcid.{Invpcid}
use Rattle.pcid_tlb.specs.declared.Invpcid.TheVariants.{IndividualAddress}
use Rattle.shootdown.specs.Processors.{notified, notified_all}
use Rattle.shootdown.proofs.Each.{addresses_more}
use Rattle.shootdown.proofs.ShootdownLaws.{notified-map_notified_all}
use Rattle.shootdown.proofs.shootdown.notifying.notify_of_range.Goals as goal

pub loop-page-init : goal.loop-page-init
loop-page-init g c =
    let none : c.args.range.first - c.args.range.first ≡ 0 = omega arith in
    sym (map-id c.args.processors.now)
    ∙ ap (λ n. map (λ x. notified_all x (map (IndividualAddress c.args.pcid) (range_with_len c.args.range.first n)))
    c.args.processors.now) (sym none)

pub loop-page-preserved : goal.loop-page-preserved
loop-page-preserved g c =
    let xs = c.args.processors.now in
    let first = c.args.range.first in
    let page = c.loop-page.page in
    let pcid = c.args.pcid in
    c.notify_all-in-loop-page.ensures ∙ ap (map (λ x. notified x (IndividualAddress pcid page))) c.loop-page.invariant
    ∙ notified-map_notified_all (map (IndividualAddress pcid) (range_with_len first (page - first)))
    (IndividualAddress pcid page) xs
    ∙ ap (λ (actions : List Invpcid). map (λ x. notified_all x actions) xs)
    (addresses_more pcid first page (omega arith))
