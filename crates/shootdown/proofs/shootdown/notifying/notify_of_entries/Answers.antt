use Rattle.std.proofs.Common.{ℕ, List, [], ◌∷◌, map, sym, ap, ◌∙◌}
use Rattle.std.proofs.lemmas.List.{map-id, map-append}
use Rattle.std.proofs.lemmas.Iterator.Consumers.{YieldsList-from_first, YieldsList-end}
use Rattle.pcid_tlb.specs.declared.Invpcid.{Invpcid}
use Rattle.pcid_tlb.specs.declared.Invpcid.TheVariants.{IndividualAddress}
use Rattle.spaces.specs.Changes.{entries_of}
use Rattle.shootdown.specs.Processors.{notified, notified_all}
use Rattle.shootdown.proofs.ShootdownLaws.{notified-map_notified_all}
use Rattle.shootdown.proofs.shootdown.notifying.notify_of_entries.Goals as goal

pub loop-pcid-init : goal.loop-pcid-init
loop-pcid-init g c = sym (map-id c.args.processors.now)

pub loop-pcid-preserved : goal.loop-pcid-preserved
loop-pcid-preserved g c =
    let xs = c.args.processors.now in
    let action : ℕ × ℕ → Invpcid = λ entry. IndividualAddress entry.0 entry.1 in
    let now : ℕ × ℕ = (c.in-Some.pcid, c.in-Some.page) in
    c.notify_all.ensures ∙ ap (map (λ x. notified x (action now))) c.loop-pcid.invariant
    ∙ notified-map_notified_all (map action c.loop-pcid.yielded) (action now) xs
    ∙ ap (λ (actions : List Invpcid). map (λ x. notified_all x actions) xs)
    (sym (map-append action c.loop-pcid.yielded (now ∷ [])))

pub returns : goal.returns
returns g c =
    let all = entries_of c.args.spaces.now.map c.args.page in
    let here = c.into_iter-pcid-iterator.ensures.into_iter_gives ∙ c.entries_of-pcid-items.ensures in
    let end = YieldsList-end (YieldsList-from_first (λ x. x) (λ entries. entries) all here) c.loop-pcid.yielded _
    c.loop-pcid.yielded_by _ _ c.in-None.is c.next.ensures.steps in
    c.loop-pcid.invariant
    ∙ ap (λ (entries : List (ℕ × ℕ)).
    map (λ x. notified_all x (map (λ entry. IndividualAddress entry.0 entry.1) entries)) c.args.processors.now)
    (sym (map-id c.loop-pcid.yielded) ∙ end.0)
