use Rattle.std.proofs.Common.{◌∙◌, arith}
use Rattle.session.proofs.AtOnce.{noted_nothing, noted_stores}
use Rattle.session.proofs.notes.Notes.after_stores.Goals as goal

pub returns-then-count-eq0 : goal.returns-then-count-eq0
returns-then-count-eq0 c = λ bytes long. noted_nothing c.args.self bytes (omega (arith, long, c.if-count-eq0.true))

pub returns-else-count-eq0 : goal.returns-else-count-eq0
returns-else-count-eq0 c =
    λ bytes long. c.after.ensures ∙ noted_stores c.args.self bytes (omega (arith, long, c.if-count-eq0.false))
