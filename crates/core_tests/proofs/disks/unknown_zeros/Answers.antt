use Rattle.std.proofs.Common.{ℕ, ◌*◌}
use Rattle.std.proofs.lemmas.List.{length-replicate}
use Rattle.core_tests.proofs.disks.unknown_zeros.Goals as goal

pub new-requires : goal.new-requires
new-requires g c = λ κs below. (below, length-replicate {A = ℕ} (4096 * c.args.blocks) 0)
