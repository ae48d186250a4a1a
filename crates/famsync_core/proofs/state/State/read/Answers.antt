use mir.Val.{SFits}
use mir.Syntax.{w32}
use Rattle.std.proofs.Common.{◌∙◌, ℤ, Option, ap, sym, subst, arith}
use Rattle.std.proofs.Math.Facts.{to_z-of_z}
use Rattle.std.specs.Prelude.{IfSome}
use Rattle.page_entry.specs.declared.numbers.FilePage.{FilePage}
use Rattle.famsync_core.specs.Held.{HeldVolume, page_numbered}
use Rattle.famsync_core.specs.Requests.{AnswersRead}
use Rattle.famsync_core.specs.declared.volume.OpenVolume.{OpenVolume}
use Rattle.famsync_core.proofs.state.State.read.Goals as goal

pub returns-clause-answers : goal.returns-clause-answers
returns-clause-answers c =
    let read = c.read_page in
    let fits : SFits w32 read.result = omega (arith, read.type_inv) in
    let Answers = λ (v : OpenVolume) (page : FilePage) (code : ℤ).
    AnswersRead v page c.args.to.now read.new.to code c.args.wanted.now read.new.wanted read.new.volume in
    let page = page_numbered c.args.file c.args.page in
    subst (λ (code : ℤ). IfSome c.args.self.now.volume (λ v. Answers v page code)) (sym (to_z-of_z {w = w32} fits))
    (subst (λ (o : Option OpenVolume). IfSome o (λ v. Answers v page read.result))
    (sym (ap (λ (held : HeldVolume). held.volume) (sym c.self.view_is) ∙ c.in-Some.is))
    (subst (λ (p : FilePage). Answers c.in-Some.volume p read.result) c.page_numbered.ensures read.ensures))
