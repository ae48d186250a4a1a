use Rattle.fault.proofs.FixLaws.{in_frame-kept, in_frame-copied, in_frame-read}
use Rattle.fault.proofs.bring.frame_for.Goals as goal

pub returns-in-Ok-Keep-clause-found : goal.returns-in-Ok-Keep-clause-found
returns-in-Ok-Keep-clause-found g c =
    let planned = rw c.in-Ok-Keep.field-0-is at c.in-Ok-Keep.ensures in
    in_frame-kept (g.D.Device.is_honest c.args.device.now)
    (g.D.Device.seen c.args.device.now) c.args.frames.now c.args.checkpoint.now c.args.fault c.in-Ok-Keep.frame planned

pub returns-in-Ok-Copy-clause-found : goal.returns-in-Ok-Copy-clause-found
returns-in-Ok-Copy-clause-found g c =
    let planned = rw c.in-Ok-Copy.field-0-is at c.in-Ok-Copy.ensures in
    in_frame-copied (g.D.Device.is_honest c.args.device.now)
    (g.D.Device.seen c.args.device.now) c.args.frames.now c.args.checkpoint.now c.args.fault c.in-Ok-Copy.frame
    c.keep_copy.result c.keep_copy.new.frames planned c.keep_copy.ensures.copied c.keep_copy.ensures.ok

pub returns-in-Ok-Read-clause-found : goal.returns-in-Ok-Read-clause-found
returns-in-Ok-Read-clause-found g c =
    let planned = rw c.in-Ok-Read.field-0-is at c.in-Ok-Read.ensures in
    in_frame-read (g.D.Device.is_honest c.args.device.now) (g.D.Device.seen c.args.device.now) c.args.frames.now
    c.args.checkpoint.now c.args.fault c.read_in.result c.read_in.new.frames planned c.read_in.ensures.read
