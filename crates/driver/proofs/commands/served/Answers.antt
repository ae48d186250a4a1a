use Rattle.std.proofs.lemmas.Result.{err_from_is_err_and}
use Rattle.driver.specs.Programs.{IsAccessAttempt, is_fault, fix_of}
use Rattle.driver.proofs.Calls.{more_calls}
use Rattle.driver.proofs.Working.{fault_made, fix_found, reply_later}
use Rattle.driver.proofs.commands.served.Goals as goal

pub returns-in_err-answer-2 : goal.returns-in_err-answer-2
returns-in_err-answer-2 g c =
    let act = c.args.act.now in
    let reply = c.loop.answer.reply in
    let found = fix_found (is_fault reply) (fix_of act) c.in-Some-fix_for.fix c.in-Some-fix_for.ensures in
    let p = err_from_is_err_and c.from_residual-in_err-answer-2.result c.from_residual-in_err-answer-2.ensures.1 in
    rw p.1 (more_calls (IsAccessAttempt act) c.args.cpu.now c.loop.cpu c.fixed.new.cpu
    (fault_made act reply c.args.cpu.now c.loop.cpu found.0 c.loop.invariant.2) c.in_err-answer-2.ensures)

pub loop-preserved : goal.loop-preserved
loop-preserved g c =
    let act = c.args.act.now in
    let reply = c.loop.answer.reply in
    let found = fix_found (is_fault reply) (fix_of act) c.in-Some-fix_for.fix c.in-Some-fix_for.ensures in (
      tt,
      tt,
      reply_later act _ c.args.cpu.now c.loop.cpu c.fixed.new.cpu
          (fault_made act reply c.args.cpu.now c.loop.cpu found.0 c.loop.invariant.2) c.in_ok-answer-2.ensures,
    )
