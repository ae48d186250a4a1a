use Rattle.std.proofs.Common.{rules}
use Rattle.horizon.proofs.Rises.{forks}
use Rattle.horizon.proofs.Horizon.another.Goals as goal

pub split_pass-requires : goal.split_pass-requires
split_pass-requires c = (search rules, (search rules, (search rules, forks _ _)))
