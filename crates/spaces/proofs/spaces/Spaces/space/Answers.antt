use Rattle.std.proofs.Common.{sym, ◌∙◌, subst, arith}
use Rattle.std.specs.Option.{IfSome, IfNone}
use Rattle.spaces.specs.Spaces.{SpacesState}
use Rattle.spaces.specs.inside.Slots.{IsFound, IsMissing}
use Rattle.spaces.proofs.SlotsLemmas.{found_by, missing_by, missing_in_slot, slot_at-past, indexed_slot}
use Rattle.spaces.proofs.spaces.Spaces.space.Goals as goal

pub returns-then-pcid-len-clause-found : goal.returns-then-pcid-len-clause-found
returns-then-pcid-len-clause-found g c =
    let slots = c.self.inside.slots.items in
    let is =
    indexed_slot slots c.args.pcid c.index.result.now (omega (arith, c.self.inside.slots.ok.0)) c.index.ensures in
    subst (λ (s : SpacesState). IfSome c.as_ref.result (λ space. IsFound s.map c.args.pcid space.now)) c.self.view_is
    (found_by slots c.args.pcid c.as_ref.result (c.as_ref.ensures.value ∙ sym is))

pub returns-then-pcid-len-clause-missing : goal.returns-then-pcid-len-clause-missing
returns-then-pcid-len-clause-missing g c =
    let slots = c.self.inside.slots.items in
    let is =
    indexed_slot slots c.args.pcid c.index.result.now (omega (arith, c.self.inside.slots.ok.0)) c.index.ensures in
    subst (λ (s : SpacesState). IfNone c.as_ref.result (IsMissing s.map c.args.pcid)) c.self.view_is
    (missing_by slots c.args.pcid c.as_ref.result (c.as_ref.ensures.value ∙ sym is))

pub returns-else-pcid-len-clause-missing : goal.returns-else-pcid-len-clause-missing
returns-else-pcid-len-clause-missing g c =
    let slots = c.self.inside.slots.items in
    subst (λ (s : SpacesState). IsMissing s.map c.args.pcid) c.self.view_is
    (missing_in_slot slots c.args.pcid (slot_at-past slots c.args.pcid (omega (arith, c.self.inside.slots.ok.0))))
