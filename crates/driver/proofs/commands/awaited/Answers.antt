use Rattle.std.proofs.Common.{refl}
use Rattle.std.proofs.lemmas.Result.{err_from_is_err_and}
use Rattle.driver.specs.Programs.{IsAwaitAttempt}
use Rattle.driver.proofs.Calls.{more_calls}
use Rattle.driver.proofs.Working.{await_access, await_ends, await_other, ends_later, not_other}
use Rattle.driver.proofs.Completed.{cut_in_await}
use Rattle.driver.proofs.commands.awaited.Goals as goal

pub returns-in_err-loaded : goal.returns-in_err-loaded
returns-in_err-loaded g c =
    let va = c.args.va in
    let byte = c.args.byte in
    let new = c.served.new.cpu in
    let p = err_from_is_err_and c.from_residual.result c.from_residual.ensures.1 in
    rw p.1 (cut_in_await va byte c.args.cpu.now new (more_calls (IsAwaitAttempt va byte) c.args.cpu.now c.loop.cpu new
    c.loop.invariant.3 (await_access va byte c.loop.cpu new c.in_err-loaded.ensures)))

pub returns-in_err-waited : goal.returns-in_err-waited
returns-in_err-waited g c =
    let va = c.args.va in
    let byte = c.args.byte in
    let new = c.served.new.cpu in
    let other = c.if-has_other_byte.ensures.0 refl in
    let p = err_from_is_err_and c.from_residual-in_err-waited.result c.from_residual-in_err-waited.ensures.1 in
    rw p.1 (cut_in_await va byte c.args.cpu.now new (more_calls (IsAwaitAttempt va byte) c.args.cpu.now c.loop.cpu new
    c.loop.invariant.3
    (await_other va byte c.in_ok-loaded.loaded.reply c.loop.cpu new other c.in_ok-loaded.ensures)))

pub returns-else-has_other_byte : goal.returns-else-has_other_byte
returns-else-has_other_byte g c =
    let va = c.args.va in
    let byte = c.args.byte in
    let new = c.served.new.cpu in
    let answer = c.in_ok-loaded.ensures in (
      answer.0,
      ends_later (IsAwaitAttempt va byte) answer.0 c.args.cpu.now c.loop.cpu new c.loop.invariant.3
          (await_ends va byte answer.0 c.loop.cpu new answer.1),
      answer.2,
      not_other byte c.in_ok-loaded.loaded.reply answer.0.1 c.if-has_other_byte.ensures.1 answer.3,
    )

pub loop-preserved : goal.loop-preserved
loop-preserved g c =
    let va = c.args.va in
    let byte = c.args.byte in
    let new = c.served.new.cpu in
    let other = c.if-has_other_byte.ensures.0 refl in (
      tt,
      tt,
      refl,
      more_calls (IsAwaitAttempt va byte) c.args.cpu.now c.loop.cpu new c.loop.invariant.3
          (await_other va byte c.in_ok-loaded.loaded.reply c.loop.cpu new other c.in_ok-loaded.ensures),
    )
