use Rattle.std.proofs.Common.{◌≡◌, ◌+◌, Bool, true, false, cond, refl, sym, ap, ◌∙◌, subst, arith}
use mir.Val.{bool_byte}
use Rattle.mappings.specs.Places.{Places, is_cut, splits}
use Rattle.mappings.specs.State.{MappingsState}
use Rattle.mappings.proofs.Changes.{is_cut_end}
use Rattle.mappings.proofs.mappings.Mappings.splits.Goals as goal

-- a truth value as a number
one_if : (b : Bool) → bool_byte b ≡ cond b 1 0
one_if true = refl
one_if false = refl

pub returns-in-Some : goal.returns-in-Some
returns-in-Some g c =
    let list = c.self.inside.list.items in
    let rights = c.in-Some.rights in
    let past = c.args.range.first + c.args.range.count in
    let end = c.saturating_add-end.result in
    let sum = c.saturating_add-end.ensures in
    let same = subst (λ (p : Places). is_cut p end rights ≡ is_cut p past rights)
    (ap (λ (s : MappingsState). s.places) c.self.view_is)
    (is_cut_end list past end rights c.self.invariant.ordered (λ less. omega arith) (λ more. omega arith)) in
    let one = c.from-in-Some.ensures ∙ one_if _ ∙ ap (λ b. cond b 1 0) c.is_cut.ensures in
    let two = c.from-in-Some-2.ensures ∙ one_if _ ∙ ap (λ b. cond b 1 0) (c.is_cut-in-Some.ensures ∙ same) in
    (λ i. one i + two i) ∙ sym (ap (splits c.args.self.now.places c.args.range) c.in-Some.is)
