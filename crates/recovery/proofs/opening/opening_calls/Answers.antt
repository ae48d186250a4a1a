use Rattle.std.proofs.Common.{ap, refl, arith}
use Rattle.volume_codec.specs.Layout.{journals_of, lengths_blocks}
use Rattle.recovery.proofs.RecoveredLengths.{carrying_next, carrying_end}
use Rattle.recovery.proofs.opening.opening_calls.Goals as goal

pub loop-journal-init : goal.loop-journal-init
loop-journal-init g c = λ small. refl

pub loop-journal-preserved : goal.loop-journal-preserved
loop-journal-preserved g c = λ small.
    let next = carrying_next c.args.found.now c.loop-journal.journal-index c.journal-item.result (omega arith)
    c.journal-item.is in
    omega (arith, small, next, c.loop-journal.invariant small, c.carrying_calls.ensures)

pub returns : goal.returns
returns g c = λ small.
    let none = carrying_end c.args.found.now c.loop-journal.journal-index (omega arith) in
    let journals = ap journals_of c.layout-layout.ensures.value in
    let lengths = ap lengths_blocks c.layout-layout.ensures.value in
    let sum = c.loop-journal.invariant
    (omega (arith, small, journals, lengths, c.journals.ensures, c.lengths_blocks.ensures.value)) in
    omega (arith, small, none, sum, journals, lengths, c.journals.ensures, c.lengths_blocks.ensures.value)
