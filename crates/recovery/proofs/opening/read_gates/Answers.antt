use Rattle.std.proofs.Common.{◌*◌, ap, length-set, ◌∙◌, arith}
use Rattle.volume_codec.specs.Recovery.{IsOpen}
use Rattle.volume_codec.proofs.Layouts.{few_journals, first_home-within}
use Rattle.recovery.proofs.FoundJournals.{gate_read, gate_more}
use Rattle.recovery.proofs.Kept.{read_then}
use Rattle.recovery.proofs.opening.read_gates.Goals as goal

pub read-requires : goal.read-requires
read-requires g c =
    omega (
      arith,
      c.gate_block-block.ensures.low,
      first_home-within c.args.geometry.now c.gate_block-block.ensures.geometry,
      c.loop-journal.invariant.len,
      c.requires,
      c.from.ensures,
    )

pub loop-journal-preserved : goal.loop-journal-preserved
loop-journal-preserved g c =
    let i = c.loop-journal.invariant in
    let e = c.in_ok-read.ensures in
    record {
      len = e.kept.len ∙ i.len;
      whole = length-set c.loop-journal.gates c.loop-journal.journal _ ∙ i.whole;
      honest = (λ h. i.honest.0 (e.kept.honest.0 h), λ h. e.kept.honest.1 (i.honest.1 h));
      read = read_then i.read e.read;
      found = λ h.
          let at = ap (λ k. 4096 * k) (c.from.ensures ∙ c.gate_block-block.ensures.value) in
          gate_more c.loop-journal.gates c.loop-journal.journal _
          (IsOpen (g.D.Device.seen c.args.device.now) c.args.geometry.now.slots)
          (omega (arith, i.whole, few_journals c.args.geometry.now.layout, c.journals-journal-end.ensures.value))
          (gate_read _ _ c.read.new.buffer c.args.geometry.now.slots c.loop-journal.journal _ 1 i.read.same at
          (omega arith) (e.bytes (i.honest.1 h)))
          (i.found h);
      faults = e.kept.cause ∙ i.faults;
      calls = λ small. omega (arith, small, i.calls, e.calls);
    }
