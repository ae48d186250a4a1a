use Rattle.log_store.specs.Rounds.{round_left}
use Rattle.log_room.specs.inside.Leading.{HasStepped}
use Rattle.log_room.proofs.room.make_round.Given as goal

abbrev pub invariant-steps : goal.invariant-steps
invariant-steps g l = HasStepped g.D.Device l.initial.pager l.pager

abbrev pub decreases-steps : goal.decreases-steps
decreases-steps g l = round_left l.pager.store
