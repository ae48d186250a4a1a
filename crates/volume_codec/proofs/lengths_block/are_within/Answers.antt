use Rattle.std.proofs.Common.{refl, arith}
use Rattle.std.proofs.lemmas.Bool.{false≢true}
use Rattle.volume_codec.proofs.Lengths.{first_more, first_all, too_high}
use Rattle.volume_codec.proofs.lengths_block.are_within.Goals as goal

pub returns-then-lengths-file : goal.returns-then-lengths-file
returns-then-lengths-file g c = (
  λ t. absurd (false≢true t),
  λ are. absurd (too_high c.args.table.now c.args.lengths.now c.loop-file.file c.capacity.result
      (omega arith) c.capacity.ensures (omega (arith, c.if-lengths-file.true)) are),
)

pub loop-file-preserved : goal.loop-file-preserved
loop-file-preserved g c = first_more c.args.table.now c.args.lengths.now c.loop-file.file c.capacity.result
    c.loop-file.invariant c.capacity.ensures (omega (arith, c.if-lengths-file.false))

pub returns : goal.returns
returns g c = (
  λ t. first_all c.args.table.now c.args.lengths.now c.loop-file.file c.requires (omega arith) c.loop-file.invariant,
  λ are. refl,
)
