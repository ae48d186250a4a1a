use Rattle.std.proofs.Common.{ap, ◌∙◌, Some}
use Rattle.std.specs.Option.{option_map}
use Rattle.kept_blocks.specs.Blocks.{Blocks, bytes_in}
use Rattle.kept_blocks.proofs.Putting.{seen_get}
use Rattle.kept_blocks.proofs.blocks.Blocks.get.Goals as goal

pub returns-in-Some : goal.returns-in-Some
returns-in-Some g c =
    ap Some c.deref.ensures
    ∙ ap (option_map (λ b. b.value)) c.in-Some.ensures.value
    ∙ seen_get (λ b. b.value) c.self.inside.tree.entries c.args.home
    ∙ ap (λ (m : Blocks). bytes_in m c.args.home) c.self.view_is

pub returns-in-None : goal.returns-in-None
returns-in-None g c =
    ap (option_map (λ b. b.value)) c.in-None.ensures.value
    ∙ seen_get (λ b. b.value) c.self.inside.tree.entries c.args.home
    ∙ ap (λ (m : Blocks). bytes_in m c.args.home) c.self.view_is
