use Rattle.std.proofs.Common.{arith, not}
use Rattle.log_opening.proofs.Opened.{crash_preparing, crash_switching, has_opened, selected_by}
use Rattle.log_opening.proofs.opening.finish.Goals as goal

pub returns-in-Err-prepare-clause-crash : goal.returns-in-Err-prepare-clause-crash
returns-in-Err-prepare-clause-crash g c = λ looked.
    crash_preparing g.D.Device c.args.log.now c.args.looked.now.found c.args.looked.now.next c.args.device.now
    c.ring-ring.ensures.log looked c.prepare.new.device
    c.prepare.ensures.keeps

pub returns-in-Ok-switch-clause-opened : goal.returns-in-Ok-switch-clause-opened
returns-in-Ok-switch-clause-opened g c = λ looked.
    has_opened g.D.Device c.args.log.now c.args.looked.now.found c.args.looked.now.next c.args.device.now
    c.ring-ring.ensures.log looked c.prepare.new.device
    c.prepare.ensures.keeps (c.in-Ok-prepare.ensures.ready looked.honest) c.requires.start c.switch.new.device
    (omega (arith, c.requires.long, c.prepare.ensures.same.same_length, c.ring-ring.ensures.log.some_homes))
    (c.in-Ok-switch.ensures.switched (c.prepare.ensures.same.honest.1 looked.honest))

pub returns-in-Ok-switch-clause-crash : goal.returns-in-Ok-switch-clause-crash
returns-in-Ok-switch-clause-crash g c = λ looked.
    crash_switching g.D.Device c.args.log.now c.args.looked.now.found c.args.looked.now.next c.args.device.now
    c.ring-ring.ensures.log looked c.prepare.new.device
    c.prepare.ensures.keeps (c.in-Ok-prepare.ensures.ready looked.honest) c.requires.start c.switch.new.device
    (c.switch.ensures.crash (c.prepare.ensures.same.honest.1 looked.honest)
    (c.in-Ok-prepare.ensures.synced looked.honest))

pub returns-clause-crash : goal.returns-clause-crash
returns-clause-crash g c = λ looked.
    crash_switching g.D.Device c.args.log.now c.args.looked.now.found c.args.looked.now.next c.args.device.now
    c.ring-ring.ensures.log looked c.prepare.new.device
    c.prepare.ensures.keeps (c.in-Ok-prepare.ensures.ready looked.honest) c.requires.start c.switch.new.device
    (c.switch.ensures.crash (c.prepare.ensures.same.honest.1 looked.honest)
    (c.in-Ok-prepare.ensures.synced looked.honest))

pub returns-in-Ok-switch-clause-selected : goal.returns-in-Ok-switch-clause-selected
returns-in-Ok-switch-clause-selected g c = λ looked.
    selected_by g.D.Device (not c.args.looked.now.found.second) c.prepare.new.device c.switch.new.device
    (omega (arith, c.requires.long, c.prepare.ensures.same.same_length, c.ring-ring.ensures.log.some_homes))
    (c.in-Ok-switch.ensures.switched (c.prepare.ensures.same.honest.1 looked.honest))
