use Rattle.machine_log.specs.inside.Committing.{HasPutUpTo}
use Rattle.machine_log.proofs.committing.put_records.Given as goal

abbrev pub invariant-loop-place : goal.invariant-loop-place
invariant-loop-place g l =
    HasPutUpTo g.D.Device l.shown l.batch l.firsts.shown l.firsts.volume l.place l.initial.pager l.pager
