use Rattle.std.proofs.Common.{false, refl, arith}
use Rattle.std.proofs.lemmas.Bool.{both_ways}
use Rattle.machine_log.proofs.Records.{of_journal, journal_within}
use Rattle.machine_log.proofs.shown.is_of_journal.Goals as goal

pub returns-then-block-first : goal.returns-then-block-first
returns-then-block-first c = (
  λ e. absurd (both_ways false refl e),
  λ is. let within = journal_within c.args.geometry.now c.args.journal c.args.block is in
      absurd (omega (arith, within.0, c.if-block-first.true, c.descriptor_block-first.ensures.value)),
)

pub returns-then-block-first-2 : goal.returns-then-block-first-2
returns-then-block-first-2 c = (
  λ e. absurd (both_ways false refl e),
  λ is. let within = journal_within c.args.geometry.now c.args.journal c.args.block is in
      absurd (omega (
        arith,
        within.1,
        c.if-block-first.false,
        c.if-block-first-2.true,
        c.descriptor_block-first.ensures.value,
        c.descriptor_blocks.ensures.value,
        c.slots.ensures.value,
      )),
)

pub returns : goal.returns
returns c = (
  λ e. of_journal c.args.geometry.now c.args.journal c.args.block
      (omega (arith, c.if-block-first.false, c.descriptor_block-first.ensures.value))
      (omega (
        arith,
        c.if-block-first.false,
        c.if-block-first-2.false,
        c.descriptor_block-first.ensures.value,
        c.descriptor_blocks.ensures.value,
        c.slots.ensures.value,
      )),
  λ is. refl,
)
