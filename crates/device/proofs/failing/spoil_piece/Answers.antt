use Rattle.std.proofs.Common.{take, ap}
use Rattle.device.proofs.Spoiling.{spoilt_part}
use Rattle.device.proofs.failing.spoil_piece.Goals as goal

pub returns-clause-spoilt : goal.returns-clause-spoilt
returns-clause-spoilt g c = λ honest.
    spoilt_part c.write.result c.args.at c.args.len 4096 (take c.args.len c.piece-piece.result)
    (g.D.Device.seen c.args.device.now) (g.D.Device.seen c.write.new.self)
    c.requires.piece (ap (take c.args.len) c.piece-piece.ensures) (c.write.ensures.written honest)
