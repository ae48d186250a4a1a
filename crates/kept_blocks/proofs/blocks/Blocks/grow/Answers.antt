use Rattle.std.proofs.Common.{◌≡◌, ◌⊎◌, ◌+◌, ◌<◌, ◌≤◌, ℕ, List, true, Option, Some, None, ap, sym, ◌∙◌}
use Rattle.std.proofs.Common.{arith, inl, inr, Bor, refl}
use Rattle.std.specs.Prelude.{is_some}
use Rattle.std.specs.Option.{option_copied}
use Rattle.std.proofs.lemmas.Bool.{cases_eq}
use Rattle.kept_blocks.specs.Blocks.{Blocks, bytes_in, with_home}
use Rattle.kept_blocks.proofs.Changing.{without_absent, grown_blocks, present_after, put_present, none_of}
use Rattle.kept_blocks.proofs.blocks.Blocks.grow.Goals.{then-is_some, else-is_some, Joined-is_some}
use Rattle.kept_blocks.proofs.blocks.Blocks.grow.Goals as goal

some_copied : (o : Option (Bor (List ℕ))) → is_some (option_copied o) ≡ is_some o
some_copied None = refl
some_copied (Some x) = refl

module _ (g : _) (c : Joined-is_some g) where
  there : c.is_some.result ≡ is_some (bytes_in c.args.self.now c.args.home)
  there = c.is_some.ensures ∙ sym (some_copied c.get.result) ∙ ap is_some c.get.ensures

  low_is : (c.if-is_some.low ≡ c.args.home)
      ⊎ ((c.if-is_some.low ≡ c.args.home + 1) × (is_some (bytes_in c.args.self.now c.args.home) ≡ true))
  low_is = elim c.if-is_some.branch [
    | then-is_some w ↦ inr (w.low-is, sym there ∙ w.if-is_some.true)
    | else-is_some w ↦ inl w.low-is
  ]

  low_or : (c.if-is_some.low ≡ c.args.home) ⊎ (c.if-is_some.low ≡ c.args.home + 1)
  low_or = elim low_is [ inl e ↦ inl e | inr e ↦ inr e.0 ]

  none_there : (q : ℕ) → c.if-is_some.low ≤ q → q < c.args.high → bytes_in c.args.self.now q ≡ None
  none_there q low high = elim c.if-is_some.branch [
    | then-is_some w ↦ c.requires.none q (omega (arith, low, w.low-is)) high
    | else-is_some w ↦ elim (cases_eq q c.args.home) [
      | inl same ↦ none_of (bytes_in c.args.self.now q)
          (ap (λ n. is_some (bytes_in c.args.self.now n)) same ∙ sym there ∙ w.if-is_some.false)
      | inr other ↦ c.requires.none q (omega (arith, low, w.low-is, other)) high
    ]
  ]

pub returns-in-Ok-clause-ok : goal.returns-in-Ok-clause-ok
returns-in-Ok-clause-ok g c =
    let j = (goal.at.returns-in-Ok-clause-ok g c).Joined-is_some in
    let before = c.requires.order.0 in
    let there = ap (λ (m : Blocks). is_some (bytes_in m c.args.home)) c.in-Ok.ensures.ok
    ∙ present_after c.args.self.now c.args.home c.if-is_some.low c.args.high c.args.first c.args.text.now before
    c.requires.order.1 (low_is g j) in
    put_present c.put.result _ (bytes_in c.fill.new.self c.args.home) there c.put.ensures.ok c.put.ensures.absent
    ∙ (λ i. with_home (c.in-Ok.ensures.ok i) c.args.home (c.in_ok-block.ensures.ok i))
    ∙ grown_blocks c.args.self.now c.args.first c.requires.rising.0 c.args.home c.args.text.now c.requires.rising.2
    before c.if-is_some.low c.args.high c.args.last.now (low_or g j) c.requires.order.1 c.requires.rising.1

pub returns-in-Err-clause-err : goal.returns-in-Err-clause-err
returns-in-Err-clause-err g c =
    let j = (goal.at.returns-in-Err-clause-err g c).Joined-is_some in
    c.remove.ensures ∙ c.in-Err.ensures.err
    ∙ without_absent c.if-is_some.low c.args.high c.args.self.now (none_there g j)
