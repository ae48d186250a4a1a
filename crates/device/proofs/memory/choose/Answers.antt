use Rattle.std.proofs.Common.{◌≡◌, ◌-◌, ℕ, List, length, take, drop, sym, ◌∙◌, ap, subst, arith}
use Rattle.std.proofs.lemmas.Slice.{between_to_end}
use Rattle.device.specs.declared.log.Logged.{Logged}
use Rattle.device.specs.inside.Logged.{changes_of}
use Rattle.device.specs.inside.Replay.{with_choice, AreWithin}
use Rattle.device.proofs.Replay.{AreWithin-drop, with_choice-chosen}
use Rattle.device.proofs.memory.choose.Goals as goal

rest : {A : Type 0} (n : ℕ) (log : List (Logged A)) → take (length log - n) (drop n log) ≡ drop n log
rest n log = between_to_end log n (length log) (omega arith)

pub put_all-requires-clause-within : goal.put_all-requires-clause-within
put_all-requires-clause-within g c =
    subst (λ (l : List (Logged g.row.A.Denot)). AreWithin (length c.args.content.now) (changes_of l))
    (sym (rest c.args.synced c.args.log.now))
    (AreWithin-drop c.args.log.now c.args.synced (length c.args.content.now) c.requires.within)

pub returns : goal.returns
returns g c =
    c.put_all.ensures
    ∙ ap (λ (l : List (Logged g.row.A.Denot)). with_choice (changes_of l) c.args.choice.now c.args.content.now)
    (rest c.args.synced c.args.log.now)
    ∙ with_choice-chosen c.args.log.now c.args.synced c.args.choice.now c.args.content.now c.requires.choice
    c.requires.since c.requires.within
