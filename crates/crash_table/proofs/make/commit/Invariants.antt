use Rattle.crash_table.proofs.Making.{IsUnderWay}
use Rattle.crash_table.proofs.make.commit.Given as goal

abbrev pub invariant-loop : goal.invariant-loop
invariant-loop g l = IsUnderWay g.D.Device l.initial.machine l.p l.counter l.machine
