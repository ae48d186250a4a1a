use Rattle.std.proofs.Common.{ℕ, List, subst, IfOk, IfErr}
use Rattle.log_recovery.specs.inside.Commit.{FindsNext, RefusesNext}
use Rattle.log_recovery.proofs.commit.read_next.Goals as goal

pub returns-in-ByByte-clause-found : goal.returns-in-ByByte-clause-found
returns-in-ByByte-clause-found g c = λ honest.
    let read = c.in_ok-first.ensures.read in
    let P : List ℕ → Type 0 = λ bytes. IfOk c.next_by_byte.result
    (FindsNext c.args.log.now c.args.epoch c.args.position c.args.number c.args.left bytes) in
    subst P read.same (c.next_by_byte.ensures.found c.args.epoch (read.honest.1 honest))

pub returns-in-ByByte-clause-refused : goal.returns-in-ByByte-clause-refused
returns-in-ByByte-clause-refused g c = λ honest.
    let read = c.in_ok-first.ensures.read in
    let P : List ℕ → Type 0 = λ bytes. IfErr c.next_by_byte.result
    (RefusesNext c.args.log.now c.args.epoch c.args.position c.args.number c.args.left bytes) in
    subst P read.same (c.next_by_byte.ensures.refused c.args.epoch (read.honest.1 honest))
