use Rattle.std.proofs.Common.{Option, Ok, subst}
use Rattle.std.proofs.lemmas.Result.{err_from_is_err_and}
use Rattle.driver.specs.Programs.{IsAttempt}
use Rattle.driver.specs.declared.acts.Answer.{Answer}
use Rattle.driver.specs.inside.Working.{IsAttempted}
use Rattle.driver.proofs.Calls.{more_calls}
use Rattle.driver.proofs.Working.{made_later}
use Rattle.driver.proofs.acts.made.Goals as goal

pub returns-in_err-answer : goal.returns-in_err-answer
returns-in_err-answer g c =
    let p = err_from_is_err_and c.from_residual.result c.from_residual.ensures.1 in
    rw p.1 (more_calls (IsAttempt c.args.act.now) c.args.cpu.now c.loop.cpu c.attempted.new.cpu c.loop.invariant.2
    c.in_err-answer.ensures)

pub returns-in-Some-2 : goal.returns-in-Some-2
returns-in-Some-2 g c =
    let act = c.args.act.now in
    let new = c.attempted.new.cpu in
    let So : Option Answer → Type 0 = λ o. IsAttempted act (Ok o) c.loop.cpu new in
    made_later act c.in-Some-2.answer.reply c.args.cpu.now c.loop.cpu new c.loop.invariant.2
    (subst So c.in-Some-2.is c.in_ok-answer.ensures)

pub loop-preserved : goal.loop-preserved
loop-preserved g c =
    let act = c.args.act.now in
    let new = c.attempted.new.cpu in
    let So : Option Answer → Type 0 = λ o. IsAttempted act (Ok o) c.loop.cpu new in (
      tt,
      tt,
      more_calls (IsAttempt act) c.args.cpu.now c.loop.cpu new c.loop.invariant.2
          (subst So c.in_default.is c.in_ok-answer.ensures),
    )
