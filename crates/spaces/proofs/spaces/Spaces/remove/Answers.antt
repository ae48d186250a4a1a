use Rattle.std.proofs.Common.{◌≡◌, true, None, sym, ap, ◌∙◌, subst, arith}
use Rattle.std.specs.FinMap as maps
use Rattle.spaces.specs.Spaces.{SpacesState}
use Rattle.spaces.specs.Requests.{is_user_space}
use Rattle.spaces.specs.inside.Slots.{spaces_of}
use Rattle.spaces.proofs.AreSpacesLaws.{user_space}
use Rattle.spaces.proofs.SlotsLemmas.{within_slots, spaces_of-clear}
use Rattle.spaces.proofs.SlotEdits.{slots_cleared}
use Rattle.spaces.proofs.Used.{HasUse-none, in_use_set}
use Rattle.spaces.proofs.Freed.{freed_set}
use Rattle.spaces.proofs.spaces.Spaces.remove.Goals as goal

pub index_mut-requires : goal.index_mut-requires
index_mut-requires g c =
    let slots = c.self.inside.slots.items in
    let user = subst (λ (s : SpacesState). is_user_space s.map c.args.pcid ≡ true) (sym c.self.view_is) c.requires in
    let within = within_slots slots c.args.pcid (user_space (spaces_of slots) c.args.pcid user).1 in
    omega (arith, c.self.inside.slots.ok.0)

pub invariant_of-self : goal.invariant_of-self
invariant_of-self g c =
    let slots = c.self.inside.slots.items in
    let user = subst (λ (s : SpacesState). is_user_space s.map c.args.pcid ≡ true) (sym c.self.view_is) c.requires in
    let within = within_slots slots c.args.pcid (user_space (spaces_of slots) c.args.pcid user).1 in (
      slots_cleared slots c.self.inside.prepared c.args.pcid c.self.invariant.0 user,
      in_use_set slots c.self.inside.in_use c.args.pcid None c.self.invariant.1 within (HasUse-none _),
      freed_set slots c.self.inside.freed c.mark.new.mask c.args.pcid None c.self.invariant.2 within c.mark.ensures,
    )

pub returns : goal.returns
returns g c =
    let slots = c.self.inside.slots.items in
    let user = subst (λ (s : SpacesState). is_user_space s.map c.args.pcid ≡ true) (sym c.self.view_is) c.requires in
    let now =
    spaces_of-clear slots c.args.pcid (within_slots slots c.args.pcid (user_space (spaces_of slots) c.args.pcid user).1)
    ∙ ap (λ (s : SpacesState). maps.remove s.map c.args.pcid) c.self.view_is in
    λ i. record { map = now i; prepared = None }
