use Rattle.std.proofs.Common.{IfOk, IfErr, subst}
use Rattle.crash_states.specs.Calls.{ListedDisk, device_calls_of}
use Rattle.crash_table.specs.Runs.{AreMadeByLog}
use Rattle.crash_table.specs.LogTrials.{IsNotListedByLog}
use Rattle.crash_table.proofs.running.list.Goals as goal

pub returns-in-Ok-clause-calls : goal.returns-in-Ok-clause-calls
returns-in-Ok-clause-calls g c =
    let P : ListedDisk → Type 0 = λ disk. IfOk c.list_on.result
    (λ listed. AreMadeByLog disk c.args.shape c.args.steps.now listed.replies.items listed.counts.items
    (device_calls_of listed.calls.items)) in
    subst P c.in-Ok.ensures c.list_on.ensures.calls

pub returns-in-Ok-clause-refused : goal.returns-in-Ok-clause-refused
returns-in-Ok-clause-refused g c =
    let P : ListedDisk → Type 0 = λ disk. IfErr c.list_on.result (IsNotListedByLog disk c.args.shape) in
    subst P c.in-Ok.ensures c.list_on.ensures.refused
