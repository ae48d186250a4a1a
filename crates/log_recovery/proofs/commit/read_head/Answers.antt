use Rattle.std.proofs.Common.{◌≡◌, ◌++◌, ◌∙◌, arith, rules, refl, sym, ap, length, take, length-append}
use Rattle.std.proofs.lemmas.List.{take_all}
use Rattle.log_recovery.proofs.Blocks.{ring_first, ring_read, begins_still}
use Rattle.log_recovery.proofs.OnlyReading.{reads_nothing, reads_then}
use Rattle.log_recovery.proofs.commit.read_head.Goals as goal

pub read_block-requires : goal.read_block-requires
read_block-requires g c =
    let log = c.block_behind.ensures.log in
    omega (arith, c.block_behind.ensures.low, log.some_homes, c.requires.long, c.loop-i.invariant.len)

pub loop-i-init : goal.loop-i-init
loop-i-init g c =
    let first = c.args.first.now in
    let pushed : c.extend_from_slice.new.self.items ≡ first = search rules in
    let whole : length first ≡ 4096 = c.told-first in
    record {
      read = reads_nothing g.D.Device c.args.device.now (g.met.D.Device.since_now c.args.device.now);
      len = refl;
      faults = refl;
      head = λ honest. pushed ∙ c.requires.first honest ∙ sym (ring_first c.args.log.now.ring
          (g.D.Device.seen c.args.device.now) c.args.position);
      size = ap length pushed ∙ whole;
      begins = ap (take 4096) pushed ∙ take_all 4096 first (omega (arith, whole));
    }

pub loop-i-preserved : goal.loop-i-preserved
loop-i-preserved g c =
    let i = c.loop-i.invariant in
    let e = c.in_ok-block.ensures in
    let block = c.in_ok-block.block in
    let pushed : c.extend_from_slice-in-loop-i.new.self.items ≡ c.loop-i.head.items ++ block = search rules in
    let whole : length block ≡ 4096 = search rules in
    record {
      read = reads_then i.read e.read;
      len = e.len ∙ i.len;
      faults = e.faults ∙ i.faults;
      head = λ honest. ring_read c.args.log.now.ring (g.D.Device.seen c.args.device.now)
          (g.D.Device.seen c.loop-i.device) c.args.position c.loop-i.i c.block_behind.result c.loop-i.head.items block
          c.extend_from_slice-in-loop-i.new.self.items pushed (i.head honest) (e.bytes (i.read.honest.1 honest))
          i.read.same c.block_behind.ensures.value;
      size = omega (arith, ap length pushed, length-append c.loop-i.head.items block, whole, i.size);
      begins = begins_still c.loop-i.head.items block c.args.first.now c.extend_from_slice-in-loop-i.new.self.items
          c.loop-i.i pushed i.size c.loop-i.auto.i i.begins;
    }
