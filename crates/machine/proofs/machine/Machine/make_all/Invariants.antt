use Rattle.machine.proofs.Names.{◌≤◌, length, take, StepsTaken}
use Rattle.machine.proofs.machine.Machine.make_all.Given as goal

abbrev pub invariant-loop-i : goal.invariant-loop-i
invariant-loop-i g l = record {
  taken : StepsTaken g.D.Device l.fn.self (take l.i l.steps) (take l.i l.replies) l.self;
  within : l.i ≤ length l.steps;
}
