use Rattle.std.specs.Prelude.{is_ok}
use Rattle.volume_codec.specs.Files.{asked_by, lengths_asked}
use Rattle.log_format.specs.Formatting.{laying_works, finishing_works}
use Rattle.log_format.proofs.Works.{did_then, did_short}
use Rattle.log_format.proofs.formatting.write_fresh.Goals as goal

pub returns-in-Err-clause-did : goal.returns-in-Err-clause-did
returns-in-Err-clause-did g c = did_short g.D.Device
    (laying_works c.args.table.now (lengths_asked (asked_by c.args.files.now))) (finishing_works c.args.table.now)
    c.args.device.now c.lay_log.new.device c.in-Err.ensures.did

pub returns-clause-did : goal.returns-clause-did
returns-clause-did g c = did_then g.D.Device
    (laying_works c.args.table.now (lengths_asked (asked_by c.args.files.now))) (finishing_works c.args.table.now)
    (is_ok c.finish_log.result) c.args.device.now c.lay_log.new.device c.finish_log.new.device c.in-Ok.ensures.did
    c.finish_log.ensures.did
