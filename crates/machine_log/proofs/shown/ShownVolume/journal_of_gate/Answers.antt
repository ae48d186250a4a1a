use Rattle.std.proofs.Common.{arith, ap, sym, subst, ◌∙◌, inl, inr}
use Rattle.std.proofs.lemmas.Bool.{cases_eq}
use Rattle.volume_codec.specs.Layout.{gate_block}
use Rattle.machine_log.specs.Shown.{ShownValue, IsNoGate}
use Rattle.machine_log.proofs.shown.ShownVolume.journal_of_gate.Goals as goal

pub loop-journal-init : goal.loop-journal-init
loop-journal-init g c = λ j lt is. absurd (omega (arith, lt))

pub loop-journal-preserved : goal.loop-journal-preserved
loop-journal-preserved g c = λ j lt is. elim (cases_eq j c.loop-journal.journal) [
  | inl same ↦ c.if-gate-block.false
      (c.gate_block-gate.ensures.value ∙ ap (gate_block c.self.inside.geometry.slots) (sym same) ∙ sym is)
  | inr other ↦ c.loop-journal.invariant j (omega (arith, lt)) is
]

pub returns-clause-none : goal.returns-clause-none
returns-clause-none g c =
    subst (λ (s : ShownValue). IsNoGate s.geometry c.args.block) c.self.view_is (λ j lt is.
    c.loop-journal.invariant j (omega (arith, lt, c.loop-journal-test.false, c.journals-journal-end.ensures.value)) is)
