use Rattle.std.proofs.Common.{◌≡◌, false, sym}
use Rattle.std.proofs.lemmas.Result.{err_from_is_err_and}
use Rattle.driver.specs.Programs.{IsAttempt, is_put_off}
use Rattle.driver.proofs.Calls.{attempts}
use Rattle.driver.proofs.Working.{none_more, put_off_to_wait, put_off_to_flush, flushed_after, made_once, off_to_flush}
use Rattle.driver.proofs.acts.attempted.Goals as goal

pub returns-in_err-seen : goal.returns-in_err-seen
returns-in_err-seen g c =
    let p = err_from_is_err_and c.from_residual.result c.from_residual.ensures.1 in
    rw p.1 (attempts c.args.act.now c.args.cpu.now c.ready.new.cpu c.ready.ensures)

pub returns-in_err-reply : goal.returns-in_err-reply
returns-in_err-reply g c =
    let act = c.args.act.now in
    let old = c.args.cpu.now in
    let ready = c.ready.new.cpu in
    let p = err_from_is_err_and c.from_residual-in_err-reply.result c.from_residual-in_err-reply.ensures.1 in
    rw p.1 (none_more (IsAttempt act) old ready c.called.new.cpu
    (attempts act old ready c.ready.ensures) c.in_err-reply.ensures.called)

pub returns-in_err-waited : goal.returns-in_err-waited
returns-in_err-waited g c =
    let p = err_from_is_err_and c.from_residual-in_err-waited.result c.from_residual-in_err-waited.ensures.1 in
    rw p.1 (put_off_to_wait c.args.act.now c.in_ok-reply.reply c.args.cpu.now c.ready.new.cpu
    c.called.new.cpu c.ready.ensures c.in_ok-reply.ensures.called (sym c.if-has_to_wait.ensures))

pub returns-then-has_to_wait : goal.returns-then-has_to_wait
returns-then-has_to_wait g c =
    put_off_to_wait c.args.act.now c.in_ok-reply.reply c.args.cpu.now c.ready.new.cpu c.called.new.cpu
    c.ready.ensures c.in_ok-reply.ensures.called (sym c.if-has_to_wait.ensures)

pub returns-in_err-called : goal.returns-in_err-called
returns-in_err-called g c =
    let act = c.args.act.now in
    let old = c.args.cpu.now in
    let p = err_from_is_err_and c.from_residual-in_err-called.result c.from_residual-in_err-called.ensures.1 in
    rw p.1 (none_more (IsAttempt act) old c.called.new.cpu c.called-then-has_to_flush.new.cpu
    (put_off_to_flush act c.in_ok-reply.reply old c.ready.new.cpu c.called.new.cpu c.ready.ensures
    c.in_ok-reply.ensures.called (sym c.if-has_to_wait.ensures) (sym c.if-has_to_flush.ensures))
    c.in_err-called.ensures.called)

pub returns-then-has_to_flush : goal.returns-then-has_to_flush
returns-then-has_to_flush g c =
    let act = c.args.act.now in
    let old = c.args.cpu.now in
    flushed_after act _ old c.called.new.cpu c.called-then-has_to_flush.new.cpu
    (put_off_to_flush act c.in_ok-reply.reply old c.ready.new.cpu c.called.new.cpu c.ready.ensures
    c.in_ok-reply.ensures.called (sym c.if-has_to_wait.ensures) (sym c.if-has_to_flush.ensures))
    c.in_ok-called.ensures.called

pub returns : goal.returns
returns g c =
    let reply = c.in_ok-reply.reply in
    let off : is_put_off reply ≡ false =
    off_to_flush reply false (sym c.if-has_to_wait.ensures) (sym c.if-has_to_flush.ensures) in
    made_once c.args.act.now reply c.args.cpu.now c.ready.new.cpu c.called.new.cpu c.ready.ensures
    c.in_ok-reply.ensures.called off
