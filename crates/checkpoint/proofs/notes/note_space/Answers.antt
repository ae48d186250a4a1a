use Rattle.std.proofs.Common.{sym, ◌∙◌}
use Rattle.checkpoint.proofs.Noting.{AreNoted-no_space}
use Rattle.checkpoint.proofs.notes.note_space.Goals as goal

pub returns-else-has : goal.returns-else-has
returns-else-has g c =
    AreNoted-no_space c.args.spaces.now.map c.args.pcid c.args.notes.now (sym c.has.ensures.there ∙ c.if-has.false)
