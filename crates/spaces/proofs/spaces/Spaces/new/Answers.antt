use Rattle.std.proofs.Common.{◌++◌, ◌∷◌, [], List, replicate, Option, Some, None, sym, ap, ◌∙◌, subst}
use Rattle.spaces.specs.inside.Slots.{SpaceState, spaces_of, AreSlots, AreInUse, AreFreed}
use Rattle.spaces.proofs.SlotsLemmas.{spaces_of-first}
use Rattle.spaces.proofs.SlotEdits.{slots_first}
use Rattle.spaces.proofs.Used.{in_use_first}
use Rattle.spaces.proofs.Freed.{freed_first, none_freed}
use Rattle.spaces.proofs.spaces.Spaces.new.Goals as goal

pub invariant_of-result : goal.invariant_of-result
invariant_of-result g c =
    let is =
    c.in_ok-push.ensures.items
    ∙ ap (λ (l : List (Option SpaceState)). l ++ Some c.in_ok-first.first ∷ []) c.new-slots.ensures.items in (
      subst (λ l. AreSlots l None) (sym is) (slots_first c.in_ok-first.first c.in_ok-first.ensures),
      subst (λ (l : List (Option SpaceState)). AreInUse l (replicate 64 0)) (sym is)
          (in_use_first c.in_ok-first.first (replicate 64 0) c.in_ok-first.ensures),
      subst (λ (l : List (Option SpaceState)). AreFreed l (replicate 64 0)) (sym is)
          (freed_first c.in_ok-first.first (replicate 64 0) none_freed),
    )

pub returns : goal.returns
returns g c =
    let is =
    c.in_ok-push.ensures.items
    ∙ ap (λ (l : List (Option SpaceState)). l ++ Some c.in_ok-first.first ∷ []) c.new-slots.ensures.items in
    let now = ap spaces_of is ∙ spaces_of-first c.in_ok-first.first c.in_ok-first.ensures in
    λ i. record { map = now i; prepared = None }
