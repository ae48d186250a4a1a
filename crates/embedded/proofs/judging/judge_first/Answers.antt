use Rattle.std.proofs.Common.{sym, ◌∙◌}
use Rattle.std.proofs.lemmas.Bool.{iff_false}
use Rattle.device.specs.Memory.{seen_of}
use Rattle.deferred_disk.specs.Deferred.{as_memory}
use Rattle.embedded.proofs.First.{has_none, has_volume, long_enough, same_magic}
use Rattle.embedded.proofs.judging.judge_first.Goals as goal

pub returns-then-has_no_magic-clause-none : goal.returns-then-has_no_magic-clause-none
returns-then-has_no_magic-clause-none g c = λ is well.
    let bytes = seen_of (as_memory c.args.disk.now) in
    let block = c.peek_first.new.block in
    has_none bytes block (same_magic bytes block (c.peek_first.ensures well))
    (c.has_no_magic.ensures.0 c.if-has_no_magic.true)

pub returns-clause-some : goal.returns-clause-some
returns-clause-some g c = λ is well.
    let bytes = seen_of (as_memory c.args.disk.now) in
    let block = c.peek_first.new.block in
    has_volume bytes block (long_enough bytes (sym c.is_of_disk.ensures ∙ c.if-not-is_of_disk.false))
    (same_magic bytes block (c.peek_first.ensures well)) (iff_false c.has_no_magic.ensures c.if-has_no_magic.false)
