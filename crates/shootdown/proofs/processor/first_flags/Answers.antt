use Rattle.std.proofs.Common.{replicate, set, true, refl, ap, ◌∙◌, arith}
use Rattle.shootdown.specs.Processors.{first_flags, pcids}
use Rattle.shootdown.proofs.Words.{flags_of-marked, flags_of-zeros}
use Rattle.shootdown.proofs.processor.first_flags.Goals as goal

pub returns : goal.returns
unfolding first_flags
returns c =
    flags_of-marked (replicate 64 0) c.mark.new.mask 0 true (omega arith) c.mark.ensures
    ∙ ap (λ flags. set flags 0 true) (flags_of-zeros 64 pcids refl)
