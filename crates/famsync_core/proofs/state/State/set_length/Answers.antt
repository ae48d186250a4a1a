use mir.Val.{SFits}
use mir.Syntax.{w32}
use Rattle.std.proofs.Common.{◌∙◌, ℕ, ℤ, Option, ap, sym, subst, arith}
use Rattle.std.proofs.Math.Facts.{to_z-of_z}
use Rattle.std.specs.Prelude.{IfSome, min, ◌^◌, ◌-◌}
use Rattle.famsync_core.specs.Held.{HeldVolume}
use Rattle.famsync_core.specs.Requests.{AnswersSetLength}
use Rattle.famsync_core.specs.declared.volume.OpenVolume.{OpenVolume}
use Rattle.famsync_core.proofs.state.State.set_length.Goals as goal

pub returns-clause-answers : goal.returns-clause-answers
returns-clause-answers c =
    let set = c.change_length in
    let fits : SFits w32 set.result = omega (arith, set.type_inv) in
    let Answers = λ (v : OpenVolume) (file : ℕ) (code : ℤ).
    AnswersSetLength v file c.args.length code c.args.wanted.now set.new.wanted set.new.volume in
    let file = min c.args.file (2 ^ 16 - 1) in
    subst (λ (code : ℤ). IfSome c.args.self.now.volume (λ v. Answers v file code)) (sym (to_z-of_z {w = w32} fits))
    (subst (λ (o : Option OpenVolume). IfSome o (λ v. Answers v file set.result))
    (sym (ap (λ (held : HeldVolume). held.volume) (sym c.self.view_is) ∙ c.in-Some.is))
    (subst (λ (f : ℕ). Answers c.in-Some.volume f set.result) c.min.ensures set.ensures))
