use Rattle.std.proofs.Common.{ap, sym, subst, ◌∙◌, rules}
use Rattle.std.proofs.lemmas.Map.Made.{filter_same_pairs}
use Rattle.kept_blocks.specs.Blocks.{Blocks, AreWholeBlocks, without_run}
use Rattle.kept_blocks.proofs.Changing.{is_outside}
use Rattle.kept_blocks.proofs.Putting.{seen_as, seen_without}
use Rattle.kept_blocks.proofs.Whole.{whole_without}
use Rattle.kept_blocks.proofs.blocks.Blocks.remove.Goals as goal

pub returns : goal.returns
returns g c =
    ap (seen_as (λ b. b.value)) (filter_same_pairs _ (λ e. is_outside c.args.low c.args.high e.0) _
    (λ k v b w f' t. search rules) _ _ c.retain.ensures.filtered)
    ∙ seen_without (λ b. b.value) c.args.low c.args.high c.self.inside.tree.entries
    ∙ ap (λ (m : Blocks). without_run m c.args.low c.args.high) c.self.view_is

pub invariant_of-self : goal.invariant_of-self
invariant_of-self g c =
    let P : Blocks → Type 0 = λ l. AreWholeBlocks l in
    subst P (sym (ap (seen_as (λ b. b.value)) (filter_same_pairs _ (λ e. is_outside c.args.low c.args.high e.0) _
    (λ k v b w f' t. search rules) _ _ c.retain.ensures.filtered)
    ∙ seen_without (λ b. b.value) c.args.low c.args.high c.self.inside.tree.entries))
    (whole_without (seen_as (λ b. b.value) c.self.inside.tree.entries) c.args.low c.args.high c.self.invariant)
