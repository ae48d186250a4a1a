use Rattle.std.proofs.Common.{◌≡◌, ◌≤◌, take}
use Rattle.service.specs.Gathering.{answered_calls}
use Rattle.driver.specs.inside.Begun.{HaveMade}
use Rattle.driver.proofs.running.make_steps.Given as goal

abbrev pub invariant-loop-i : goal.invariant-loop-i
invariant-loop-i g l = HaveMade (take l.i l.steps) l.cpus × (l.made ≡ answered_calls l.cpus) × (l.made ≤ l.capacity)
