use Rattle.std.proofs.Common.{◌<◌, arith, subst, inl, inr}
use Rattle.std.proofs.lemmas.Bool.{cases_eq, both_ways}
use Rattle.volume_codec.specs.Layout.{journals_of}
use Rattle.machine_log.specs.Shown.{ShownValue, IsOfJournal, IsOfNoJournal}
use Rattle.machine_log.proofs.shown.ShownVolume.journal_of.Goals as goal

pub loop-journal-init : goal.loop-journal-init
loop-journal-init g c = λ j lt is. absurd (omega (arith, lt))

pub loop-journal-preserved : goal.loop-journal-preserved
loop-journal-preserved g c = λ j lt is. elim (cases_eq j c.loop-journal.journal) [
  | inl same ↦ both_ways c.is_of_journal.result c.if-is_of_journal.false
      (c.is_of_journal.ensures.1 (subst (λ k. IsOfJournal c.self.inside.geometry k c.args.block) same is))
  | inr other ↦ c.loop-journal.invariant j (omega (arith, lt)) is
]

pub returns-then-is_of_journal-clause-some : goal.returns-then-is_of_journal-clause-some
returns-then-is_of_journal-clause-some g c =
    let geometry = c.self.inside.geometry in
    let lt : c.loop-journal.journal < journals_of geometry.layout =
    omega (arith, c.loop-journal-test.true, c.journals-journal-end.ensures.value) in
    subst (λ (s : ShownValue). (c.loop-journal.journal < journals_of s.geometry.layout)
    × IsOfJournal s.geometry c.loop-journal.journal c.args.block) c.self.view_is
    (lt, c.is_of_journal.ensures.0 c.if-is_of_journal.true)

pub returns-clause-none : goal.returns-clause-none
returns-clause-none g c =
    subst (λ (s : ShownValue). IsOfNoJournal s.geometry c.args.block) c.self.view_is (λ j lt is.
    c.loop-journal.invariant j (omega (arith, lt, c.loop-journal-test.false, c.journals-journal-end.ensures.value)) is)
