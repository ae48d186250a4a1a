use mir.Val.{SFits}
use mir.Syntax.{w32}
use Rattle.std.proofs.Common.{◌∙◌, ℕ, ℤ, Option, ap, sym, subst, arith}
use Rattle.std.proofs.Math.Facts.{to_z-of_z}
use Rattle.std.specs.Prelude.{IfSome}
use Rattle.deferred_disk.specs.Deferred.{Deferred}
use Rattle.famsync_core.specs.Held.{HeldVolume}
use Rattle.famsync_core.specs.Opening.{AnswersOpen, most_pages}
use Rattle.famsync_core.proofs.state.State.open.Goals as goal

pub returns-in-Some-clause-answers : goal.returns-in-Some-clause-answers
returns-in-Some-clause-answers c =
    let opened = c.open_volume-opened in
    let told = c.hold in
    let fits : SFits w32 told.result = omega (arith, told.type_inv) in
    let held = c.args.self.now in
    let Answers = λ (h : HeldVolume) (disk : Deferred) (most : ℕ) (code : ℤ).
    AnswersOpen h disk most code c.args.wanted.now told.new.wanted told.new.self in
    let most = most_pages c.args.pages in
    subst (λ (code : ℤ). IfSome held.disk (λ disk. Answers held disk most code)) (sym (to_z-of_z {w = w32} fits))
    (subst (λ (o : Option Deferred). IfSome o (λ disk. Answers held disk most told.result))
    (sym (ap (λ (h : HeldVolume). h.disk) (sym c.self.view_is) ∙ sym c.take.ensures.value ∙ c.in-Some.is))
    (subst (λ (n : ℕ). Answers held c.in-Some.disk n told.result) c.most_pages.ensures
    (subst (λ (h : HeldVolume). Answers h c.in-Some.disk c.most_pages.result told.result) c.self.view_is
    (opened.result, opened.ensures, told.ensures))))
