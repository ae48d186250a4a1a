use Rattle.std.proofs.Common.{ap, sym, ◌∙◌, arith}
use Rattle.volume_codec.proofs.ReadingLemmas.{other_by_ne}
use Rattle.log_codec.specs.Start.{start_text}
use Rattle.log_codec.proofs.Starts.{reads_start, read_start_value}
use Rattle.log_codec.proofs.start.decode_start.Goals as goal
use Rattle.log_codec.proofs.start.decode_start.Goals.{then-start-eq0-via-then-start-eq0}
use Rattle.log_codec.proofs.start.decode_start.Goals.{then-start-eq0-via-else-start-eq0+then-start-eq0-2}
use Rattle.log_codec.proofs.start.decode_start.Goals.{then-start-eq0-via-else-start-eq0+else-start-eq0-2+then-start-ring}

pub returns-then-start-eq0-clause-none : goal.returns-then-start-eq0-clause-none
returns-then-start-eq0-clause-none c = λ start is.
    let ring = c.ring-ring.ensures.log in
    let r = reads_start c.args.log.now.ring start c.args.block.now ring.few_ring is in
    let s = is.start in
    elim c.then-start-eq0.branch [
      | then-start-eq0-via-then-start-eq0 w ↦
          absurd (omega (arith, r.number, s.some_number, c.u64_at.ensures, w.if-start-eq0.true))
      | then-start-eq0-via-else-start-eq0+then-start-eq0-2 w ↦
          absurd (omega (arith, r.epoch, s.some_epoch, c.u64_at-2.ensures, w.if-start-eq0-2.true))
      | then-start-eq0-via-else-start-eq0+else-start-eq0-2+then-start-ring w ↦ absurd (omega (
        arith,
        r.position,
        s.within,
        c.u32_at.ensures,
        c.ring-ring.ensures.value,
        w.if-start-ring.true,
      ))
    ]

pub returns-then-ne-clause-none : goal.returns-then-ne-clause-none
returns-then-ne-clause-none c = λ start is.
    let ring = c.ring-ring.ensures.log in
    let same = read_start_value c.args.log.now.ring start c.args.block.now c.u32_at.result c.u64_at.result
    c.u64_at-2.result ring.few_ring is c.u32_at.ensures c.u64_at.ensures c.u64_at-2.ensures in
    other_by_ne _ _ _ c.ne.ensures c.if-ne.true (c.encode_start.ensures ∙ ap start_text same ∙ sym is.spelled)
