use Rattle.std.proofs.Common.{ℕ, ◌≡◌, ◌≢◌, List, ◌++◌, ◌∷◌, [], cond, Some, Result, Ok, Err}
use Rattle.std.proofs.Common.{is_ok, is_err, true, false, refl, sym, ap, ◌∙◌, subst, arith}
use Rattle.spaces.specs.Spaces.{SpacesState, empty_space, with_space, IsLowestFree}
use Rattle.spaces.specs.inside.Slots.{spaces_of, IsFirstFree, AreSlots, AreInUse, AreFreed}
use Rattle.spaces.proofs.SlotEdits.{lowest_free, none_free, slots_filled, slots_pushed, set-create, push-create}
use Rattle.spaces.proofs.Used.{HasUse-blank, in_use_set, in_use_pushed}
use Rattle.spaces.proofs.Freed.{freed_set, freed_pushed}
use Rattle.spaces.proofs.spaces.Spaces.create.Goals.{After-first_free-free}
use Rattle.spaces.proofs.spaces.Spaces.create.Goals as goal

-- the first slot without a space
first_is : (g : _) (c : After-first_free-free g) → IsFirstFree c.self.inside.slots.items c.first_free-free.result
first_is g c = subst (λ l. IsFirstFree l c.first_free-free.result) c.deref.ensures.value c.first_free-free.ensures

-- has the lowest PCID that is free
lowest : (g : _) (c : After-first_free-free g) → c.first_free-free.result ≢ 4096
    → IsLowestFree c.args.self.now.map c.first_free-free.result
lowest g c room = subst (λ (s : SpacesState). IsLowestFree s.map c.first_free-free.result) c.self.view_is
    (lowest_free c.self.inside.slots.items c.self.inside.prepared c.self.invariant.0 c.first_free-free.result
    (first_is g c) room)

pub returns-then-free-eq-PCIDS-clause-refused : goal.returns-then-free-eq-PCIDS-clause-refused
returns-then-free-eq-PCIDS-clause-refused g c =
    let slots = c.self.inside.slots.items in
    let at = c.first_free-free.result in
    let first = first_is g (goal.at.returns-then-free-eq-PCIDS-clause-refused g c).After-first_free-free in
    subst (λ (s : SpacesState). (pcid : ℕ) → IsLowestFree s.map pcid → ⊥) c.self.view_is
    (none_free slots c.self.inside.prepared c.self.invariant.0 at first c.if-free-eq-PCIDS.true)

pub returns-in_default-clause-refused : goal.returns-in_default-clause-refused
returns-in_default-clause-refused g c =
    let at = (goal.at.returns-in_default-clause-refused g c).After-first_free-free in
    (c.first_free-free.result, lowest g at c.if-free-eq-PCIDS.false)

pub invariant_of-self : goal.invariant_of-self
invariant_of-self g c =
    let slots = c.self.inside.slots.items in
    let at = c.first_free-free.result in
    let first = first_is g (goal.at.invariant_of-self g c).After-first_free-free in (
      slots_filled slots c.self.inside.prepared c.self.invariant.0 at first.free c.in-Ok.space c.in-Ok.ensures
          (omega (arith, c.self.inside.slots.ok.0)),
      in_use_set slots c.self.inside.in_use at (Some c.in-Ok.space) c.self.invariant.1
          (omega (arith, c.self.inside.slots.ok.0)) (HasUse-blank c.in-Ok.space _ c.in-Ok.ensures),
      freed_set slots c.self.inside.freed c.mark.new.mask at (Some c.in-Ok.space) c.self.invariant.2
          (omega (arith, c.self.inside.slots.ok.0)) c.mark.ensures,
    )

pub returns-then-free-len-clause-lowest : goal.returns-then-free-len-clause-lowest
returns-then-free-len-clause-lowest g c =
    lowest g (goal.at.returns-then-free-len-clause-lowest g c).After-first_free-free c.if-free-eq-PCIDS.false

pub returns-then-free-len-clause-created : goal.returns-then-free-len-clause-created
returns-then-free-len-clause-created g c =
    let slots = c.self.inside.slots.items in
    let at = c.first_free-free.result in
    let first = first_is g (goal.at.returns-then-free-len-clause-created g c).After-first_free-free in
    let made = set-create slots c.self.inside.prepared c.self.invariant.0 at first.free c.in-Ok.space c.in-Ok.ensures
    (omega (arith, c.self.inside.slots.ok.0)) in
    (λ i. record { map = made i; prepared = c.self.inside.prepared })
    ∙ ap (λ (s : SpacesState). record s { map = with_space s.map at empty_space }) c.self.view_is

pub returns-then-is_err-clause-refused : goal.returns-then-is_err-clause-refused
returns-then-is_err-clause-refused g c =
    let at = (goal.at.returns-then-is_err-clause-refused g c).After-first_free-free in
    (c.first_free-free.result, lowest g at c.if-free-eq-PCIDS.false)

-- what isn't refused succeeded
succeeded : {T E : Type 0} (r : Result T E) → is_err r ≡ false → is_ok r ≡ true
succeeded (Ok x) h = refl
succeeded (Err e) h = cc

-- and one that was pushed so is the last
pushed_to : {X T E : Type 0} (slots : List X) (x : X) (r : Result T E) (all : List X)
    → all ≡ cond (is_ok r) (slots ++ x ∷ []) slots → is_err r ≡ false → all ≡ slots ++ x ∷ []
pushed_to slots x r all is went = is ∙ ap (λ b. cond b (slots ++ x ∷ []) slots) (succeeded r went)

-- and what is refused didn't
refused : {T E : Type 0} (r : Result T E) → is_err r ≡ true → is_ok r ≡ false
refused (Ok x) h = cc
refused (Err e) h = refl

pub invariant_of-self-then-is_err : goal.invariant_of-self-then-is_err
invariant_of-self-then-is_err g c =
    let slots = c.self.inside.slots.items in
    let kept : c.push.new.self.items ≡ slots =
    c.push.ensures.items
    ∙ ap (λ b. cond b (slots ++ Some c.in-Ok.space ∷ []) slots)
    (refused c.push.result (sym c.is_err.ensures.value ∙ c.if-is_err.true)) in (
      subst (λ l. AreSlots l c.self.inside.prepared) (sym kept) c.self.invariant.0,
      subst (λ l. AreInUse l c.self.inside.in_use) (sym kept) c.self.invariant.1,
      subst (λ l. AreFreed l c.self.inside.freed) (sym kept) c.self.invariant.2,
    )

pub invariant_of-self-2 : goal.invariant_of-self-2
invariant_of-self-2 g c =
    let slots = c.self.inside.slots.items in
    let at = c.first_free-free.result in
    let first = first_is g (goal.at.invariant_of-self-2 g c).After-first_free-free in
    let pushed = pushed_to slots (Some c.in-Ok.space) c.push.result c.push.new.self.items c.push.ensures.items
    (sym c.is_err.ensures.value ∙ c.if-is_err.false) in (
      subst (λ l. AreSlots l c.self.inside.prepared) (sym pushed)
          (slots_pushed slots c.self.inside.prepared c.self.invariant.0 at first.free c.in-Ok.space c.in-Ok.ensures
          (omega (arith, first.within, c.self.inside.slots.ok.0))
          (lowest_free slots c.self.inside.prepared c.self.invariant.0 at first c.if-free-eq-PCIDS.false).small),
      subst (λ l. AreInUse l c.self.inside.in_use) (sym pushed)
          (in_use_pushed slots c.self.inside.in_use c.in-Ok.space c.self.invariant.1 c.in-Ok.ensures),
      subst (λ l. AreFreed l c.self.inside.freed) (sym pushed)
          (freed_pushed slots c.self.inside.freed c.in-Ok.space c.self.invariant.2),
    )

pub returns-clause-lowest : goal.returns-clause-lowest
returns-clause-lowest g c =
    lowest g (goal.at.returns-clause-lowest g c).After-first_free-free c.if-free-eq-PCIDS.false

pub returns-clause-created : goal.returns-clause-created
returns-clause-created g c =
    let slots = c.self.inside.slots.items in
    let at = c.first_free-free.result in
    let first = first_is g (goal.at.returns-clause-created g c).After-first_free-free in
    let pushed = pushed_to slots (Some c.in-Ok.space) c.push.result c.push.new.self.items c.push.ensures.items
    (sym c.is_err.ensures.value ∙ c.if-is_err.false) in
    let made =
    ap spaces_of pushed
    ∙ push-create slots c.self.inside.prepared c.self.invariant.0 at first.free c.in-Ok.space c.in-Ok.ensures
    (omega (arith, first.within, c.self.inside.slots.ok.0)) in
    (λ i. record { map = made i; prepared = c.self.inside.prepared })
    ∙ ap (λ (s : SpacesState). record s { map = with_space s.map at empty_space }) c.self.view_is
