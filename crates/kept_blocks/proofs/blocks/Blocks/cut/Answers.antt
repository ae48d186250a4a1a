use Rattle.std.proofs.Common.{ap, sym, subst, ◌∙◌, rules}
use Rattle.kept_blocks.specs.Blocks.{Blocks, AreWholeBlocks, cut_in}
use Rattle.kept_blocks.proofs.Putting.{seen_as, seen_cut}
use Rattle.kept_blocks.proofs.Whole.{whole_cut}
use Rattle.kept_blocks.proofs.blocks.Blocks.cut.Goals as goal

pub returns : goal.returns
returns g c =
    seen_cut (λ b. b.value) _ c.args.home c.args.left _
    (λ k v b w f' t. search rules) c.self.inside.tree.entries _ c.retain.ensures.filtered
    ∙ ap (λ (m : Blocks). cut_in m c.args.home c.args.left) c.self.view_is

pub invariant_of-self : goal.invariant_of-self
invariant_of-self g c =
    let P : Blocks → Type 0 = λ l. AreWholeBlocks l in
    subst P (sym (seen_cut (λ b. b.value) _ c.args.home c.args.left _
    (λ k v b w f' t. search rules) c.self.inside.tree.entries _ c.retain.ensures.filtered))
    (whole_cut (seen_as (λ b. b.value) c.self.inside.tree.entries) c.args.home c.args.left c.self.invariant)
