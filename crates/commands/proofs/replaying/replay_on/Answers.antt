use Rattle.std.proofs.Common.{◌≡◌, ◌∙◌, List, length, IfSome, ap, sym, subst}
use Rattle.std.proofs.lemmas.List.{length-map}
use Rattle.engine.specs.Listening.{HasListened}
use Rattle.traces.specs.declared.line.Line.{Line}
use Rattle.commands.specs.declared.replaying.Comparer.{Comparer}
use Rattle.commands.specs.inside.Replay.{texts_of, verdict_by, IsVerdict, Compares}
use Rattle.commands.proofs.Comparing.{verdict_follows, said_so}
use Rattle.commands.proofs.replaying.replay_on.Goals as goal

pub returns-in-Ok-clause-ran : goal.returns-in-Ok-clause-ran
returns-in-Ok-clause-ran g c =
    let ran = c.in-Ok.ensures.ran in
    let old = c.new-comparer.result in
    let new = c.run.new.listener in
    let lines = c.args.trace.now.entries.items in
    let made = c.new-comparer.ensures in
    let same : old.entries.now ≡ lines = ap (λ (o : Comparer). o.entries.now) made ∙ c.deref.ensures.value in
    let count : length c.args.steps.now ≡ length old.entries.now =
    ap length c.requires ∙ length-map lines (λ line. line.step) ∙ ap length (sym same) in
    let heard : HasListened Compares (length old.entries.now) old ran.0 new =
    subst (λ n. HasListened Compares n old ran.0 new) count ran.1 in
    let says = verdict_follows old ran.0 new (ap (λ (o : Comparer). o.same) made)
    (ap (λ (o : Comparer). o.differs) made) (ap (λ (o : Comparer). o.refused) made) heard in
    let verdict = verdict_by new.refused new.differs new.same in (
      ran.0,
      ran.2,
      said_so c.verdict.result verdict (IsVerdict (texts_of lines) ran.0) c.verdict.ensures
          (subst (λ (entries : List Line). IfSome verdict (IsVerdict (texts_of entries) ran.0)) same says),
    )
