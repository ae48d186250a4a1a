use Rattle.std.proofs.Common.{ℕ, List, ◌++◌, ap, ◌∙◌, sym}
use Rattle.std.proofs.lemmas.List.{append-nil}
use Rattle.log_home.specs.Index.{indexed_homes}
use Rattle.log_home.proofs.index.LogIndex.list_homes.Goals as goal

pub returns : goal.returns
returns g c = record {
  items = sym (append-nil c.loop-home.list.items)
      ∙ ap (λ (l : List ℕ). c.loop-home.list.items ++ l) (sym c.in-None.ensures.steps.0)
      ∙ c.loop-home.invariant
      ∙ c.into_iter-home-iterator.ensures.into_iter_gives
      ∙ c.keys-home-items.ensures.rest
      ∙ ap indexed_homes c.self.view_is;
}
