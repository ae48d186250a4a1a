-- What a disk's clauses on its file say of the disk.
use Rattle.std.proofs.Common.{ap, rules, length}
use Rattle.device.proofs.Fitting.{read_over, same_over, kept_over, write_over, torn_over, durable_over, stays_over}
use Rattle.device.proofs.file.FileDiskDevice.TheImpl.Goals as goal

pub read-tells : goal.read-tells
read-tells g c = search (
  rules,
  read_over g.F.BlockFile c.args.self.now c.new.self.now _ c.ensures.counted c.result c.args.at
      (length c.args.buffer.now) c.new.buffer.now c.ensures.bytes,
  same_over g.F.BlockFile c.args.self.now c.new.self.now _ c.ensures.counted c.ensures.same,
  stays_over g.F.BlockFile c.args.self.now c.new.self.now _ c.ensures.counted c.ensures.honest
      (λ honest. ap length c.ensures.same),
)

pub write-tells : goal.write-tells
write-tells g c = search (
  rules,
  write_over g.F.BlockFile c.args.self.now c.new.self.now _ c.ensures.counted c.result c.args.at c.args.bytes.now
      c.ensures.len c.ensures.written,
  torn_over g.F.BlockFile c.args.self.now c.new.self.now _ c.ensures.counted c.result c.args.at
      (length c.args.bytes.now) c.ensures.len c.ensures.torn,
  stays_over g.F.BlockFile c.args.self.now c.new.self.now _ c.ensures.counted c.ensures.honest c.ensures.len,
)

pub sync-tells : goal.sync-tells
sync-tells g c = search (
  rules,
  kept_over g.F.BlockFile c.args.self.now c.new.self.now _ c.ensures.counted c.ensures.same,
  durable_over g.F.BlockFile c.args.self.now c.new.self.now _ c.ensures.counted c.result c.ensures.durable,
  stays_over g.F.BlockFile c.args.self.now c.new.self.now _ c.ensures.counted c.ensures.honest
      (λ honest. ap length (c.ensures.same honest)),
)
