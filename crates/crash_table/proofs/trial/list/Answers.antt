use Rattle.std.proofs.Common.{List, IfOk, IfErr, subst}
use Rattle.device.specs.Memory.{seen_of}
use Rattle.volume_codec.specs.Files.{File}
use Rattle.volume_codec.specs.Recovery.{RecoversTo}
use Rattle.crash_states.specs.Calls.{ListedDisk, device_calls_of}
use Rattle.crash_table.specs.Calls.{AreMade}
use Rattle.crash_table.specs.Trials.{IsNotListed}
use Rattle.crash_table.proofs.trial.list.Goals as goal

pub returns-in-Ok-clause-files : goal.returns-in-Ok-clause-files
returns-in-Ok-clause-files g c =
    let P : ListedDisk → Type 0 = λ disk.
    IfOk c.list_on.result (λ listed. (files : List File) × RecoversTo (seen_of disk.inner) files) in
    subst P c.in-Ok.ensures c.list_on.ensures.files

pub returns-in-Ok-clause-calls : goal.returns-in-Ok-clause-calls
returns-in-Ok-clause-calls g c =
    let P : ListedDisk → Type 0 = λ disk. IfOk c.list_on.result
    (λ listed. AreMade disk c.args.plan.now.shape c.args.plan.now.steps.now listed.replies.items listed.counts.items
    (device_calls_of listed.calls.items)) in
    subst P c.in-Ok.ensures c.list_on.ensures.calls

pub returns-in-Ok-clause-refused : goal.returns-in-Ok-clause-refused
returns-in-Ok-clause-refused g c =
    let P : ListedDisk → Type 0 = λ disk. IfErr c.list_on.result (IsNotListed disk c.args.plan.now.shape) in
    subst P c.in-Ok.ensures c.list_on.ensures.refused
