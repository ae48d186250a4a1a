use Rattle.std.specs.Prelude.{Result, Ok, Err, OnOk}
use Rattle.machine_log.proofs.parts.DiskParts.unless_failed.Goals as goal

whatever : {T E P : Type 0} (result : Result T E) → P → OnOk result P
whatever (Ok x) p = p
whatever (Err fault) p = tt

pub returns-then-works-clause-works : goal.returns-then-works-clause-works
returns-then-works-clause-works g c = whatever c.args.outcome (c.works.ensures c.if-works.true)
