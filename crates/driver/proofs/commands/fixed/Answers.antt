use Rattle.std.proofs.Common.{◌≡◌, false, sym}
use Rattle.driver.specs.Programs.{is_fixed}
use Rattle.std.proofs.lemmas.Result.{err_from_is_err_and}
use Rattle.driver.proofs.Working.{fix_attempts, fix_made, fix_reply, made_again}
use Rattle.driver.proofs.commands.fixed.Goals as goal

pub returns-in_err-answer : goal.returns-in_err-answer
returns-in_err-answer g c =
    let p = err_from_is_err_and c.from_residual.result c.from_residual.ensures.1 in
    rw p.1 (fix_attempts c.args.act.now c.args.fix.now c.args.cpu.now c.made.new.cpu
    c.requires c.in_err-answer.ensures)

pub returns-then-is_fixed : goal.returns-then-is_fixed
returns-then-is_fixed g c =
    let act = c.args.act.now in
    let old = c.args.cpu.now in
    made_again act c.made-then-is_fixed.result old c.made.new.cpu c.made-then-is_fixed.new.cpu
    (fix_made act c.args.fix.now c.in_ok-answer.answer.reply old c.made.new.cpu c.requires
    c.in_ok-answer.ensures) c.made-then-is_fixed.ensures

pub returns-else-is_fixed : goal.returns-else-is_fixed
returns-else-is_fixed g c =
    let reply = c.in_ok-answer.answer.reply in
    let unfixed : is_fixed reply ≡ false = sym c.if-is_fixed.ensures in
    fix_reply c.args.act.now c.args.fix.now reply c.args.cpu.now c.made.new.cpu c.requires c.in_ok-answer.ensures
    unfixed
