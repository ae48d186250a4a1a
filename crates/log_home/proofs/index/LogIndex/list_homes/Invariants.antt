use Rattle.std.proofs.Common.{◌≡◌, ◌++◌}
use Rattle.log_home.proofs.index.LogIndex.list_homes.Given as goal

abbrev pub invariant-loop-home : goal.invariant-loop-home
invariant-loop-home g l = (l.list.items ++ l.home-iterator ≡ l.initial.home-iterator)
