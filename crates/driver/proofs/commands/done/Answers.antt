use Rattle.std.proofs.Common.{◌≡◌, ◌∙◌, true, false, sym, ap}
use Rattle.driver.specs.Programs.{is_begun}
use Rattle.std.proofs.lemmas.Result.{err_from_is_err_and}
use Rattle.driver.proofs.Completed.{cut_in_access, done_so, done_at_once}
use Rattle.driver.proofs.commands.done.Goals as goal

pub returns-in_err-begun : goal.returns-in_err-begun
returns-in_err-begun g c =
    let p = err_from_is_err_and c.from_residual.result c.from_residual.ensures.1 in
    rw p.1 (cut_in_access c.args.act.now c.args.cpu.now c.served.new.cpu c.in_err-begun.ensures)

pub returns-else-has_begun : goal.returns-else-has_begun
returns-else-has_begun g c =
    let answer = c.in_ok-begun.ensures in
    let begun : is_begun c.in_ok-begun.begun.reply ≡ false = sym c.if-has_begun.ensures in
    done_at_once c.args.act.now answer.0 c.args.cpu.now c.served.new.cpu answer.1 answer.2
    (ap is_begun answer.3 ∙ begun)

pub returns-then-has_begun : goal.returns-then-has_begun
returns-then-has_begun g c =
    let answer = c.in_ok-begun.ensures in
    let begun : is_begun c.in_ok-begun.begun.reply ≡ true = sym c.if-has_begun.ensures in
    done_so c.args.act.now answer.0 c.changed.result c.args.cpu.now c.served.new.cpu c.changed.new.cpu answer.1 answer.2
    (ap is_begun answer.3 ∙ begun) c.changed.ensures
