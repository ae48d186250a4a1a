use Rattle.log_store.specs.Rounds.{IsOfAll, IsResting, round_left}
use Rattle.embedded_log.specs.inside.Leading.{LeadsLog}
use Rattle.embedded_log.specs.inside.Rounds.{MakesWhileFull}
use Rattle.embedded_log.proofs.steps.make_round.Given as goal

abbrev pub invariant-loop-files : goal.invariant-loop-files
invariant-loop-files g l = MakesWhileFull l.initial.files l.files
    × (IsResting l.initial.files.pager.store → IsOfAll l.files.pager.store) × LeadsLog l.initial.files l.files

abbrev pub decreases-loop-files : goal.decreases-loop-files
decreases-loop-files g l = round_left l.files.pager.store
