use Rattle.std.proofs.Common.{ap, ◌∙◌, None}
use Rattle.std.specs.Prelude.{Option, unwrap_or}
use Rattle.log_home.specs.declared.index.Newest.{Newest}
use Rattle.log_home.specs.Index.{Entries, find_in}
use Rattle.log_home.proofs.Entries.{find_is}
use Rattle.log_home.proofs.index.LogIndex.find.Goals as goal

pub returns-in-Some : goal.returns-in-Some
returns-in-Some g c =
    ap (λ (o : Option (Option Newest)). unwrap_or o None) c.in-Some.ensures.value
    ∙ find_is c.self.inside.tree.entries c.args.home
    ∙ ap (λ (m : Entries). find_in m c.args.home) c.self.view_is

pub returns-in-None : goal.returns-in-None
returns-in-None g c =
    ap (λ (o : Option (Option Newest)). unwrap_or o None) c.in-None.ensures.value
    ∙ find_is c.self.inside.tree.entries c.args.home
    ∙ ap (λ (m : Entries). find_in m c.args.home) c.self.view_is
