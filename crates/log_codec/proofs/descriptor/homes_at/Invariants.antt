use Rattle.std.proofs.Common.{◌≡◌, ◌+◌, ◌-◌, ◌*◌, ◌++◌, drop}
use Rattle.volume_codec.specs.Text.{numbers_in}
use Rattle.log_codec.proofs.descriptor.homes_at.Given as goal

abbrev pub invariant-loop-i : goal.invariant-loop-i
invariant-loop-i g l =
    l.homes.items ++ numbers_in 4 (l.count - l.i) (drop (32 + 4 * l.i) l.bytes) ≡ numbers_in 4 l.count (drop 32 l.bytes)
