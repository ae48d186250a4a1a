use Rattle.std.proofs.Common.{◌*◌, replicate}
use Rattle.core_tests.proofs.disks.unknown_zeros.Given as goal

-- its content: zeros
abbrev pub ghost-new : goal.ghost-new
ghost-new g a = replicate (4096 * a.blocks) 0
