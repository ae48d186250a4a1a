use Rattle.std.proofs.Common.{ap, ◌∙◌, rules}
use Rattle.log_home.specs.Index.{Entries, find_in, from_number}
use Rattle.log_home.proofs.Entries.{find_forgot}
use Rattle.log_home.proofs.index.LogIndex.forget.Goals as goal

pub returns : goal.returns
returns g c = λ b.
    find_forgot _ c.args.below _ (λ k v kept w f' t. search rules) c.self.inside.tree.entries _
    c.retain.ensures.was_ordered c.retain.ensures.filtered b
    ∙ ap (λ (m : Entries). from_number c.args.below (find_in m b)) c.self.view_is
