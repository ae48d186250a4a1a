use Rattle.std.proofs.Common.{ℕ, List, ◌++◌, ap, ◌∙◌, sym}
use Rattle.std.proofs.lemmas.List.{append-nil}
use Rattle.kept_blocks.specs.Blocks.{homes_in}
use Rattle.kept_blocks.proofs.Putting.{homes_seen}
use Rattle.kept_blocks.proofs.blocks.Blocks.list_homes.Goals as goal

pub returns-clause-items : goal.returns-clause-items
returns-clause-items g c =
    sym (append-nil c.loop-home.list.items)
    ∙ ap (λ (l : List ℕ). c.loop-home.list.items ++ l) (sym c.in-None.ensures.steps.0)
    ∙ c.loop-home.invariant.items
    ∙ c.into_iter-home-iterator.ensures.into_iter_gives
    ∙ c.keys-home-items.ensures.rest
    ∙ sym (homes_seen (λ b. b.value) c.self.inside.tree.entries)
    ∙ ap homes_in c.self.view_is
