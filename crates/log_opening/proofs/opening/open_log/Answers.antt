use Rattle.log_opening.proofs.Opened.{crash_behind}
use Rattle.log_opening.proofs.opening.open_log.Goals as goal

pub returns-in-Ok-finish-clause-crash : goal.returns-in-Ok-finish-clause-crash
returns-in-Ok-finish-clause-crash g c = λ honest.
    crash_behind g.D.Device c.args.log.now c.args.device.now c.look.new.device c.finish.new.device honest
    c.look.ensures.unwritten (c.finish.ensures.crash (c.in-Ok.ensures.looked honest))

pub returns-clause-crash : goal.returns-clause-crash
returns-clause-crash g c = λ honest.
    crash_behind g.D.Device c.args.log.now c.args.device.now c.look.new.device c.finish.new.device honest
    c.look.ensures.unwritten (c.finish.ensures.crash (c.in-Ok.ensures.looked honest))
