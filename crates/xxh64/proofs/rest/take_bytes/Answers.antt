use Rattle.std.proofs.Common.{◌≡◌, ap, sym, ◌∙◌, arith, refl, add-one}
use Rattle.xxh64.specs.Xxh64.{bytes_after, with_byte}
use Rattle.xxh64.proofs.rest.take_bytes.Goals as goal

pub bytes-init : goal.bytes-init
unfolding bytes_after
bytes-init c = refl

pub bytes-preserved : goal.bytes-preserved
unfolding bytes_after
bytes-preserved c = rw (add-one, c.with_byte-acc.ensures, c.bytes.invariant) refl

pub returns : goal.returns
returns c = c.bytes.invariant ∙ ap (bytes_after c.args.acc c.args.rest.now c.args.from) (omega arith)
