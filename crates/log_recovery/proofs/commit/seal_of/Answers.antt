use Rattle.std.proofs.Common.{◌≡◌, ◌+◌, ◌++◌, ◌<◌, ◌^◌, ◌∙◌, ℕ, List, arith, ap, subst, refl, length}
use Rattle.log_codec.specs.declared.sealing.Sealing.TheVariants.{ByDigest}
use Rattle.log_codec.specs.Commit.{LogDescriptor, log_seal}
use Rattle.log_codec.specs.Log.{ring_block, ring_bytes}
use Rattle.log_codec.specs.Seal.{HasTakenCommit}
use Rattle.log_codec.specs.Chain.{records_position}
use Rattle.log_recovery.specs.Reading.{logged_of}
use Rattle.log_recovery.proofs.Blocks.{ring_read, length-ring_bytes}
use Rattle.log_recovery.proofs.OnlyReading.{reads_then}
use Rattle.log_recovery.proofs.commit.seal_of.Goals as goal

pub read_block-requires : goal.read_block-requires
read_block-requires g c =
    let log = c.block_behind.ensures.log in
    omega (arith, c.block_behind.ensures.low, log.some_homes, c.requires.long, c.loop-i.invariant.len)

pub loop-i-preserved : goal.loop-i-preserved
loop-i-preserved g c =
    let i = c.loop-i.invariant in
    let e = c.in_ok-block.ensures in
    let ring = c.args.log.now.ring in
    let bytes = g.D.Device.seen c.args.device.now in
    let commit = c.args.commit.now in
    let p : ℕ = commit.position + commit.head in
    let place : commit.position + (commit.head + c.loop-i.i) ≡ p + c.loop-i.i = omega arith in
    let taken : List ℕ = ring_bytes ring bytes p c.loop-i.i in
    record {
      read = reads_then i.read e.read;
      len = e.len ∙ i.len;
      faults = e.faults ∙ i.faults;
      digest = λ honest.
          let P : List ℕ → Type 0 = λ l. HasTakenCommit c.add.new.self c.args.key c.args.epoch (logged_of commit) l in
          subst P (ring_read ring bytes (g.D.Device.seen c.loop-i.device) p c.loop-i.i c.block_behind.result taken
          c.in_ok-block.block (taken ++ c.in_ok-block.block) refl refl (e.bytes (i.read.honest.1 honest)) i.read.same
          (c.block_behind.ensures.value ∙ ap (ring_block ring) place))
          (c.add.ensures c.args.key c.args.epoch (logged_of commit) taken (i.digest honest));
    }

pub returns-clause-seal : goal.returns-clause-seal
returns-clause-seal g c = λ honest.
    let ring = c.args.log.now.ring in
    let bytes = g.D.Device.seen c.args.device.now in
    let commit = c.args.commit.now in
    let d : LogDescriptor = logged_of commit in
    let p : ℕ = commit.position + commit.head in
    let n : ℕ = c.loop-i.i in
    let few = c.requires.few in
    let count : n ≡ length commit.homes.items = omega (
      arith,
      c.loop-i-test.false,
      c.loop-i.auto.i-end,
      c.len-i-end.ensures,
      c.deref.ensures.len,
      ap length c.deref.ensures.value,
    ) in
    let place : p ≡ records_position commit.position d = ap (λ k. commit.position + k) c.requires.head in
    let short : length (ring_bytes ring bytes p n) < 2 ^ 32 =
    omega (arith, count, few, length-ring_bytes ring bytes p n) in
    let seal : List ℕ → List ℕ = λ l. log_seal (ByDigest c.args.key) c.args.epoch d l in
    c.seal.ensures c.args.key c.args.epoch d (ring_bytes ring bytes p n) (c.loop-i.invariant.digest honest) few short
    ∙ ap (λ k. seal (ring_bytes ring bytes k n)) place
    ∙ ap (λ k. seal (ring_bytes ring bytes (records_position commit.position d) k)) count
