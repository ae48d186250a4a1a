use Rattle.std.proofs.Common.{sym, subst}
use Rattle.session.specs.Lines.{HasNoFeed}
use Rattle.session.proofs.Writing.{ok_after, not_memory}
use Rattle.session.proofs.serving.write_bad.Goals as goal

pub returns-in-Ok : goal.returns-in-Ok
returns-in-Ok g c =
    ok_after c.write_cause.result c.map_err.result c.map_err.ensures.variant
    (λ wrote. (
      not_memory c.args.cause.now c.in_default.not-Memory,
      (c.deref.result.now, subst HasNoFeed (sym c.deref.ensures.value) c.in-Ok.ensures, wrote),
    )) c.write_cause.ensures
