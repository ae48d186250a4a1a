use Rattle.device.proofs.Replay.{write_left, write_keeps, write_time, write_any}
use Rattle.device.proofs.memory.MemDiskDevice.write.Goals as goal

pub returns-clause-left : goal.returns-clause-left
returns-clause-left g c = write_left c.apply_write.result c.args.self.now c.apply_write.new.self c.args.at
    c.args.bytes.now c.requires c.apply_write.ensures.ok c.apply_write.ensures.err

pub returns-clause-keeps : goal.returns-clause-keeps
returns-clause-keeps g c = write_keeps c.apply_write.result c.args.self.now c.apply_write.new.self c.args.at
    c.args.bytes.now c.requires c.apply_write.ensures.ok c.apply_write.ensures.err

pub returns-clause-time : goal.returns-clause-time
returns-clause-time g c = write_time c.apply_write.result c.args.self.now c.apply_write.new.self c.args.at
    c.args.bytes.now c.requires c.apply_write.ensures.ok c.apply_write.ensures.err

pub returns-clause-any : goal.returns-clause-any
returns-clause-any g c = write_any c.apply_write.result c.args.self.now c.apply_write.new.self c.args.at
    c.args.bytes.now c.requires c.apply_write.ensures.ok
