use Rattle.std.proofs.lemmas.Result.{IfOk-weaker}
use Rattle.recovery.specs.Volume.{files_of}
use Rattle.crash_table.proofs.files.open_files.Goals as goal

pub returns-in-Ok : goal.returns-in-Ok
returns-in-Ok g c = λ honest.
    let disk = g.D.Device in
    let volume = c.in-Ok.volume in
    let has = c.in-Ok.ensures.opens.ended honest in
    let files = files_of volume.table (disk.seen volume.device) in
    IfOk-weaker c.read_files.result _ _
    (λ read same. (files, c.opened_as_recovered.ensures.files c.args.device volume.device volume.table has, same))
    (c.read_files.ensures (c.in-Ok.ensures.opens.kept.honest.1 honest))
