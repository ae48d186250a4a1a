use Rattle.std.proofs.Common.{ℕ, ◌≡◌, Some, refl, sym, ap, ◌∙◌, subst, arith}
use Rattle.std.specs.Prelude.{slice_get}
use Rattle.std.proofs.lemmas.Bool.{false≢true}
use Rattle.std.proofs.lemmas.Option.{slice_get_within, slice_get-get_or, get_or_from_slice_get}
use Rattle.service.specs.Trace.{of_processor}
use Rattle.service.specs.Gathering.{CpuState}
use Rattle.service.proofs.Counting.{below_more}
use Rattle.service.proofs.gathering.are_answered.Goals as goal

pub loop-cpu-preserved : goal.loop-cpu-preserved
loop-cpu-preserved g c =
    let trace = c.args.trace.now in
    let cpus = c.args.cpus.now in
    let item = c.cpu-item.result in
    let number : c.cpu.inside.p ≡ item.number = ap (λ (cpu : CpuState). cpu.number) c.cpu.view_is in
    let here : of_processor item.number trace ≡ item.answered =
    ap (λ (p : ℕ). of_processor p trace) (sym number) ∙ c.if-not-is_answered.ensures.0 refl ∙ c.answered.ensures in
    let P : CpuState → Type 0 = λ cpu. of_processor cpu.number trace ≡ cpu.answered in
    below_more (λ (i : ℕ). (cpu : CpuState) → slice_get cpus i ≡ Some cpu → P cpu)
    c.loop-cpu.cpu-index c.loop-cpu.invariant
    (λ cpu at. subst P (c.cpu-item.is ∙ get_or_from_slice_get cpus c.loop-cpu.cpu-index cpu item at) here)

pub returns : goal.returns
returns g c = (
  λ _ i cpu at.
      c.loop-cpu.invariant i (omega (arith, slice_get_within c.args.cpus.now i cpu at, c.loop-cpu-test.false)) cpu at,
  λ _. refl,
)

pub returns-then-not-is_answered : goal.returns-then-not-is_answered
returns-then-not-is_answered g c =
    let trace = c.args.trace.now in
    let cpus = c.args.cpus.now in
    let i = c.loop-cpu.cpu-index in
    let item = c.cpu-item.result in
    let number : c.cpu.inside.p ≡ item.number = ap (λ (cpu : CpuState). cpu.number) c.cpu.view_is in
    let at : slice_get cpus i ≡ Some item = slice_get-get_or cpus i item c.loop-cpu-test.true
    ∙ ap (λ (cpu : CpuState). Some cpu) (sym c.cpu-item.is) in (
      λ no. absurd (false≢true no),
      λ all. absurd (false≢true (sym c.if-not-is_answered.true ∙ c.is_answered.ensures.1 (
          ap (λ (p : ℕ). of_processor p trace) number ∙ all i item at ∙ sym c.answered.ensures))),
    )
