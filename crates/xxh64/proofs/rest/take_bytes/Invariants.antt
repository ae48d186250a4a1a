use Rattle.std.proofs.Common.{◌≡◌}
use Rattle.xxh64.specs.Xxh64.{bytes_after}
use Rattle.xxh64.proofs.rest.take_bytes.Given as goal

abbrev pub invariant-bytes : goal.invariant-bytes
invariant-bytes l = l.acc ≡ bytes_after l.fn.acc l.rest l.from l.i
