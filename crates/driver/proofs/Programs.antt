-- Processors made their steps, and then ran their programs: what the trace that is gathered has of it.
use Rattle.std.proofs.Common.{ℕ, ◌≡◌, ◌∙◌, ◌<◌, inl, inr, List, ◌++◌, Option, Some, None, map, length}
use Rattle.std.proofs.Common.{[], ◌∷◌, ◌≤◌, suc, zero, get_or, Result, refl, sym, ap, subst, arith}
use Rattle.std.proofs.lemmas.Option.{slice_get-map, slice_get-get_or}
use Rattle.std.specs.Option.{option_map}
use Rattle.std.proofs.lemmas.List.{map-append, length-replicate}
use Rattle.std.specs.Prelude.{slice_get}
use Rattle.device.specs.declared.device.Device.{Ghosts}
use Rattle.machine.specs.declared.act.Act.{Act}
use Rattle.machine.specs.declared.act.Reply.{Reply}
use Rattle.machine.specs.declared.act.Shape.{Shape}
use Rattle.machine.specs.declared.act.Step.{Step}
use Rattle.machine.specs.State.{Whole}
use Rattle.engine.specs.Engine.{HasStarted}
use Rattle.scripts.specs.declared.command.Command.{Command}
use Rattle.service.specs.declared.entry.Entry.{Entry}
use Rattle.service.specs.Gathering.{CpuState, HasGathered}
use Rattle.service.specs.Trace.{of_processor}
use Rattle.driver.specs.Driver.{acts_of, BeginsWith, AreSetUp}
use Rattle.driver.specs.Programs.{FollowsProgram, HasGoneOn, RunsProgram, HaveRunPrograms, acts_in}
use Rattle.driver.specs.declared.acts.Stop.{Stop}
use Rattle.driver.specs.inside.Working.{IsDone}
use Rattle.driver.specs.inside.Begun.{HaveMade, HaveBegun, HaveRun, AreReady}
use Rattle.driver.proofs.Completed.{on_still, on_program, done_or_begun}
use Rattle.driver.proofs.Runs.{one_value}
use Rattle.driver.proofs.Steps.{firsts}

-- a processor went on by its program
on_run : (program : Option (List Command)) (old new : CpuState) → RunsProgram program old new → HasGoneOn old new
on_run None old new same = on_still old new same
on_run (Some program) old new (whole, made, went, more) = went

-- each processor ran its program from where it was
pub each_ran : (steps : List Step) (programs : List (List Command)) (old new : List CpuState) → HaveMade steps old
    → ((i : ℕ) (cpu : CpuState) → slice_get new i ≡ Some cpu
    → (before : CpuState) × (slice_get old i ≡ Some before) × RunsProgram (slice_get programs i) before cpu)
    → HaveRun steps programs new
each_ran steps programs old new made ran = record {
  each = λ i cpu at.
      let so = ran i cpu at in
      (so.0, made.each i so.0 so.1, so.2);
}

-- the calls of a processor that is gathered are its entries
gathered_as : {D : Type 0} (disk : Ghosts D) (origin : Option (Whole D)) (entries : ℕ) (cpus : List CpuState)
    (machine : Whole D) (trace : List Entry)
    → HasGathered disk origin entries cpus machine trace
    → (start : Whole D) → origin ≡ Some start → (p : ℕ) → p < length start.state.hardware.shootdown.processors
    → (i : ℕ) × (cpu : CpuState) × (slice_get cpus i ≡ Some cpu) × (cpu.number ≡ p)
    × (cpu.answered ≡ of_processor p trace)
gathered_as {D} disk origin entries cpus machine trace found start is p below =
    let Within : Whole D → Type 0 = λ w. p < length w.state.hardware.shootdown.processors in
    let same : found.first ≡ start = one_value origin found.first start found.start_is is in
    let among = found.whole p (subst Within (sym same) below) in
    let Answered : ℕ → Type 0 = λ q. among.1.answered ≡ of_processor q trace in
    (among.0, among.1, among.2, among.3, subst Answered among.3 (sym (found.each among.0 among.1 among.2)))

-- each made its steps, and then ran its program
of_each : {D : Type 0} (disk : Ghosts D) (origin : Option (Whole D)) (entries : ℕ) (cpus : List CpuState)
    (machine : Whole D) (trace : List Entry) (steps : List Step) (programs : List (List Command))
    → HasGathered disk origin entries cpus machine trace → HaveRun steps programs cpus
    → (start : Whole D) → origin ≡ Some start → (p : ℕ) → p < length start.state.hardware.shootdown.processors
    → (first last : CpuState) × (last.number ≡ p) × (last.answered ≡ of_processor p trace)
    × (map (λ a. a.0) first.answered ≡ acts_of p steps) × RunsProgram (slice_get programs p) first last
of_each disk origin entries cpus machine trace steps programs found ran start is p below =
    let own = gathered_as disk origin entries cpus machine trace found start is p below in
    let i : ℕ = own.0 in
    let cpu : CpuState = own.1 in
    let run = ran.each i cpu own.2 in
    let first : CpuState = run.0 in
    let numbered : cpu.number ≡ i = (on_run (slice_get programs i) first cpu run.2).0 ∙ run.1.0 in
    let here : i ≡ p = sym numbered ∙ own.3 in
    let Acts : ℕ → Type 0 = λ q. firsts first.answered ≡ acts_of q steps in
    let Runs : ℕ → Type 0 = λ q. RunsProgram (slice_get programs q) first cpu in
    (first, cpu, own.3, own.4, subst Acts here run.1.1, subst Runs here run.2)

-- each began to make its steps
begun_each : {D : Type 0} (disk : Ghosts D) (origin : Option (Whole D)) (entries : ℕ) (cpus : List CpuState)
    (machine : Whole D) (trace : List Entry) (steps : List Step)
    → HasGathered disk origin entries cpus machine trace → HaveBegun steps cpus
    → (start : Whole D) → origin ≡ Some start → (p : ℕ) → p < length start.state.hardware.shootdown.processors
    → BeginsWith (acts_in p trace) (acts_of p steps)
begun_each disk origin entries cpus machine trace steps found begun start is p below =
    let own = gathered_as disk origin entries cpus machine trace found start is p below in
    let cpu : CpuState = own.1 in
    let so = begun.each own.0 cpu own.2 in
    let here : own.0 ≡ p = sym so.0 ∙ own.3 in
    let Begins : ℕ → Type 0 = λ q. BeginsWith (firsts cpu.answered) (acts_of q steps) in
    subst (λ (l : List (Act × Reply)). BeginsWith (firsts l) (acts_of p steps)) own.4 (subst Begins here so.1)

pub run_or_full : {D : Type 0} (disk : Ghosts D) (origin : Option (Whole D)) (entries capacity : ℕ)
    (cpus : List CpuState) (machine : Whole D) (trace : List Entry) (steps : List Step)
    (programs : List (List Command))
    → HasGathered disk origin entries cpus machine trace → AreReady steps programs capacity cpus
    → (start : Whole D) → origin ≡ Some start
    → HaveRunPrograms (length start.state.hardware.shootdown.processors) steps programs capacity trace
run_or_full {D} disk origin entries capacity cpus machine trace steps programs found (inl full) start is =
    inl (found.counted ∙ full.0, begun_each disk origin entries cpus machine trace steps found full.1 start is)
run_or_full {D} disk origin entries capacity cpus machine trace steps programs found (inr ran) start is =
    inr (of_each disk origin entries cpus machine trace steps programs found ran start is)

-- a machine as it was booted has as many processors as its shape says
pub booted_with : {D : Type 0} (disk : Ghosts D) (before : D) (shape : Shape) (start : Whole D) (steps : List Step)
    (programs : List (List Command)) (capacity : ℕ) (trace : List Entry)
    → HasStarted disk before shape start
    → HaveRunPrograms (length start.state.hardware.shootdown.processors) steps programs capacity trace
    → HaveRunPrograms shape.cpus steps programs capacity trace
booted_with {D} disk before shape start steps programs capacity trace started so =
    let count : Whole D → ℕ = λ w. length w.state.hardware.shootdown.processors in
    let same : count start ≡ shape.cpus = ap count started.booted ∙ length-replicate shape.cpus _ in
    subst (λ (n : ℕ). HaveRunPrograms n steps programs capacity trace) same so

-- acts that a processor was called for first are its first entries
begun_with : (steps : List Step) (p : ℕ) (first last : CpuState) (entries : List (Act × Reply))
    → last.answered ≡ entries → firsts first.answered ≡ acts_of p steps → HasGoneOn first last
    → BeginsWith (acts_of p steps) (firsts entries)
begun_with steps p first last entries answered made went =
    let rest : List (Act × Reply) = went.1.0 in (
      firsts rest,
      ap firsts (sym answered) ∙ ap firsts went.1.1
          ∙ map-append (λ (a : Act × Reply). a.0) first.answered rest
          ∙ ap (λ (l : List Act). l ++ firsts rest) made,
    )

-- processors that ran their programs had made their steps
pub set_up_so : (processors : ℕ) (steps : List Step) (programs : List (List Command)) (capacity : ℕ)
    (trace : List Entry)
    → HaveRunPrograms processors steps programs capacity trace → AreSetUp processors steps capacity trace
set_up_so processors steps programs capacity trace (inl full) = inl full.0
set_up_so processors steps programs capacity trace (inr ran) = inr (λ p below.
    let run = ran p below in
    begun_with steps p run.0 run.1 (of_processor p trace) run.3 run.4
    (on_run (slice_get programs p) run.0 run.1 run.5))

-- a processor that has no program
none_past : {A : Type 0} (xs : List A) (i : ℕ) → length xs ≤ i → slice_get xs i ≡ None
none_past [] i past = refl
none_past (x ∷ xs) zero past = absurd (omega (arith, past))
none_past (x ∷ xs) (suc i) past = none_past xs i (omega (arith, past))

pub run_none : {A : Type 0} (f : A → List Command) (programs : List A) (i : ℕ) (old new : CpuState)
    → length programs ≤ i → new ≡ old → RunsProgram (slice_get (map f programs) i) old new
run_none f programs i old new past same =
    let none : slice_get (map f programs) i ≡ None = slice_get-map f programs i
    ∙ ap (option_map f) (none_past programs i past) in
    subst (λ (o : Option (List Command)). RunsProgram o old new) (sym none) same

-- and one that has one
pub run_one : {A : Type 0} (f : A → List Command) (programs : List A) (i : ℕ) (program : A)
    (result : Result (Unit {0}) Stop) (old new : CpuState)
    → i < length programs → program ≡ get_or programs i program → IsDone (FollowsProgram (f program)) result old new
    → RunsProgram (slice_get (map f programs) i) old new
run_one {A} f programs i program result old new within is done =
    let one : slice_get (map f programs) i ≡ Some (f program) = slice_get-map f programs i
    ∙ ap (option_map f) (slice_get-get_or programs i program within ∙ ap (λ (p : A). Some p) (sym is)) in
    subst (λ (o : Option (List Command)). RunsProgram o old new) (sym one)
    (done_or_begun (FollowsProgram (f program)) result old new (on_program (f program) old new) done)
