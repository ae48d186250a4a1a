use mir.Val.{SFits}
use mir.Syntax.{w32}
use Rattle.std.proofs.Common.{◌∙◌, sym, arith}
use Rattle.std.proofs.Math.Facts.{to_z-of_z}
use Rattle.std.proofs.lemmas.Bool.{eq-eqb}
use Rattle.std.specs.Prelude.{length}
use Rattle.famsync_core.proofs.Reading.{Copied, answers_read, copied_none, copied_some}
use Rattle.famsync_core.proofs.answering.read_page.Goals.{then-is_ok, else-is_ok}
use Rattle.famsync_core.proofs.answering.read_page.Goals as goal

pub returns : goal.returns
returns c =
    let fits : SFits w32 c.code_of_reading.result = omega (arith, c.code_of_reading.type_inv) in
    let read = c.read-outcome in
    let old = c.args.to.now in
    let copied : Copied read.result old read.new.block c.if-is_ok.to = elim c.if-is_ok.branch [
      | then-is_ok w ↦ copied_some read.result old read.new.block c.if-is_ok.to
          (sym c.is_ok.ensures.value ∙ w.if-is_ok.true) (w.to-is ∙ w.copy_from_slice.ensures.after)
      | else-is_ok w ↦ copied_none read.result old read.new.block c.if-is_ok.to
          (sym c.is_ok.ensures.value ∙ w.if-is_ok.false) w.to-is
    ] in
    answers_read c.args.volume.now read.new.self c.args.page read.result old read.new.block c.if-is_ok.to _
    c.args.wanted.now c.code_of_reading.new.wanted
    (eq-eqb (length old) 4096 (omega (arith, c.if-to-ne4096.false)))
    (to_z-of_z {w = w32} fits ∙ c.code_of_reading.ensures.code) c.code_of_reading.ensures.wanted copied read.ensures
