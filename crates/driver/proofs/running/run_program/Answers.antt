use Rattle.std.proofs.Common.{List, subst, refl}
use Rattle.scripts.specs.declared.command.Command.{Command}
use Rattle.driver.specs.Programs.{FollowsProgram}
use Rattle.driver.specs.inside.Working.{IsDone}
use Rattle.driver.proofs.Programs.{run_none, run_one}
use Rattle.driver.proofs.running.run_program.Goals as goal

pub returns-then-number-programs : goal.returns-then-number-programs
returns-then-number-programs g c =
    let program = c.index-programs-number.result in
    let new = c.worked-end.new.cpu in
    let So : List Command → Type 0 =
    λ l. IsDone (FollowsProgram l) c.worked-end.result c.args.cpu.now new in
    run_one (λ program. program.items) c.args.programs.now c.args.number program c.worked-end.result c.args.cpu.now new
    c.if-number-programs.true c.index-programs-number.is (subst So c.deref.ensures.value c.worked-end.ensures)

pub returns-else-number-programs : goal.returns-else-number-programs
returns-else-number-programs g c =
    run_none (λ program. program.items) c.args.programs.now c.args.number c.args.cpu.now c.args.cpu.now
    c.if-number-programs.false refl
