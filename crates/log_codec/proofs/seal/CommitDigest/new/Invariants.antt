use Rattle.std.proofs.Common.{◌-◌, ◌*◌, take}
use Rattle.std.specs.Prelude.{bit_xor}
use Rattle.xxh64.specs.Xxh64.{HasMessage}
use Rattle.log_codec.specs.Commit.{log_body}
use Rattle.log_codec.proofs.seal.CommitDigest.new.Given as goal

abbrev pub invariant-loop-index : goal.invariant-loop-index
invariant-loop-index l =
    HasMessage l.hasher (bit_xor l.key l.epoch)
    (take (4096 * l.index - 8) (log_body (record { number = l.number; homes = l.homes })))
