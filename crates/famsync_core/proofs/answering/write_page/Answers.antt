use mir.Val.{SFits}
use mir.Syntax.{w32}
use Rattle.std.proofs.Common.{◌∙◌, ℕ, List, arith, subst}
use Rattle.std.proofs.Math.Facts.{to_z-of_z}
use Rattle.std.proofs.lemmas.Bool.{eq-eqb}
use Rattle.std.specs.Prelude.{length}
use Rattle.famsync_core.specs.Held.{is_block}
use Rattle.famsync_core.specs.Requests.{IsWritten}
use Rattle.famsync_core.proofs.Cases.{on_true}
use Rattle.famsync_core.proofs.answering.write_page.Goals as goal

pub returns-in-Some : goal.returns-in-Some
returns-in-Some c =
    let fits : SFits w32 c.code_of_outcome.result = omega (arith, c.code_of_outcome.type_inv) in
    let bytes = c.args.bytes.now in
    on_true (is_block bytes) _ _ (eq-eqb (length bytes) 4096 c.in-Some.ensures.cases.long) (
      c.write.result,
      to_z-of_z {w = w32} fits ∙ c.code_of_outcome.ensures,
      subst (λ (l : List ℕ). IsWritten c.args.volume.now c.args.page l c.write.result c.write.new.self)
          c.in-Some.ensures.cases.same c.write.ensures,
    )
