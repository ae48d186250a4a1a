use Rattle.std.proofs.Common.{List, ap, ◌∙◌}
use Rattle.service.specs.declared.entry.Entry.{Entry}
use Rattle.service.specs.Marks.{has_unmarked}
use Rattle.service.specs.inside.Raising.{raise_by}
use Rattle.service.proofs.shared.Shared.last_raise.Goals as goal

pub returns : goal.returns
returns g c = λ before last is.
    c.raise_by.ensures ∙ ap (λ (l : List Entry). raise_by (has_unmarked l) c.args.reply.now)
    (c.before_last.ensures before last is)
