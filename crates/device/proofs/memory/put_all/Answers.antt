use Rattle.std.proofs.Common.{ℕ, List, [], ◌∷◌, length, sym, ◌∙◌, ap, subst}
use Rattle.device.specs.inside.Logged.{change_of}
use Rattle.device.specs.inside.Replay.{with_choice, AreWithin}
use Rattle.device.proofs.Replay.{within_at, with_choice-more}
use Rattle.device.proofs.memory.put_all.Goals as goal

pub put_one-requires-clause-within : goal.put_one-requires-clause-within
put_one-requires-clause-within g c =
    subst (λ n. AreWithin n (change_of c.entry-item.result ∷ [])) (sym c.loop-entry.auto.content)
    (within_at c.args.log.now c.loop-entry.entry-index
    (length c.args.content.now) c.entry-item.result c.loop-entry-test.true c.entry-item.is c.requires.within)

pub loop-entry-preserved : goal.loop-entry-preserved
loop-entry-preserved g c =
    c.put_one.ensures
    ∙ ap (λ (l : List ℕ). with_choice (change_of c.entry-item.result ∷ []) c.args.choice.now l) c.loop-entry.invariant
    ∙ sym (with_choice-more c.args.log.now c.loop-entry.entry-index c.entry-item.result c.args.choice.now
    c.args.content.now c.loop-entry-test.true c.entry-item.is)
