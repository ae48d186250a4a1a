use Rattle.std.proofs.Common.{sym, ◌∙◌}
use Rattle.new_volume.proofs.Zeros.{zero_each, each_zero}
use Rattle.new_volume.proofs.new_file.is_zero.Goals as goal

pub returns : goal.returns
returns c = (
  λ is. zero_each c.args.bytes.now (sym c.passes_all.ensures ∙ is),
  λ zeros. c.passes_all.ensures ∙ each_zero c.args.bytes.now zeros,
)
