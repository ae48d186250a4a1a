use Rattle.std.proofs.Common.{◌<◌, length, refl, arith}
use Rattle.deferred_disk.proofs.Waits.{within_at}
use Rattle.deferred_disk.proofs.waiting.make_first.Goals as goal

pub make_call-requires : goal.make_call-requires
make_call-requires g c =
    let log = c.args.log.now in
    let some : 0 < length log.items = omega (arith, log.ok.0, c.in-Some.ensures.variant.0 refl) in
    within_at log.items 0 (length (g.D.Device.seen c.args.device.now)) c.in-Some.call.now some
    c.in-Some.ensures.lookup c.requires
