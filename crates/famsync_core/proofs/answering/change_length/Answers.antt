use mir.Val.{SFits}
use mir.Syntax.{w32}
use Rattle.std.proofs.Common.{◌∙◌, arith}
use Rattle.std.proofs.Math.Facts.{to_z-of_z}
use Rattle.famsync_core.proofs.answering.change_length.Goals as goal

pub returns : goal.returns
returns c =
    let fits : SFits w32 c.code_of_reading.result = omega (arith, c.code_of_reading.type_inv) in (
      c.set_length-outcome.result,
      to_z-of_z {w = w32} fits ∙ c.code_of_reading.ensures.code,
      c.code_of_reading.ensures.wanted,
      c.set_length-outcome.ensures,
    )
