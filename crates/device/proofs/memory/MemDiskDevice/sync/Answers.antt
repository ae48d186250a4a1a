use Rattle.device.proofs.Replay.{sync_time}
use Rattle.device.proofs.memory.MemDiskDevice.sync.Goals as goal

pub returns-clause-time : goal.returns-clause-time
returns-clause-time g c =
    sync_time c.apply_sync.result c.args.self.now c.apply_sync.new.self c.apply_sync.ensures.ok c.apply_sync.ensures.err
