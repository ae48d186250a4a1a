-- What is left of a machine that was booted, put together.
use Rattle.std.proofs.Common.{ℕ, ◌≡◌, ◌∙◌, List, Option, Some, None, Result, Ok, Err, IfOk, ap, sym, subst}
use Rattle.device.specs.declared.device.Device.{Ghosts}
use Rattle.machine.specs.declared.act.Reply.{Reply}
use Rattle.machine.specs.declared.act.Shape.{Shape}
use Rattle.machine.specs.declared.act.Step.{Step}
use Rattle.machine.specs.Runs.{StepsTaken}
use Rattle.machine.specs.State.{Whole}
use Rattle.engine.specs.Engine.{HasStarted, HasRun}
use Rattle.driver.specs.declared.running.NotRun.{NotRun}
use Rattle.driver.specs.declared.running.NotRun.TheVariants.{Start, Share, Gather}
use Rattle.driver.specs.Driver.{RunsFrom, HasNotShared, HasNotRun}

-- the value of an option, or another
abbrev value_or : {A : Type 0} → A → Option A → A
value_or other None = other
value_or other (Some value) = value

-- an option has one value
pub one_value : {A : Type 0} (option : Option A) (a b : A) → option ≡ Some a → option ≡ Some b → a ≡ b
one_value option a b is_a is_b = ap (value_or a) (sym is_a ∙ is_b)

-- what the law of the engine says of any start holds of the one that the service's name stands for
pub runs_from : {D : Type 0} (disk : Ghosts D) (origin : Option (Whole D)) (first machine : Whole D) (steps : List Step)
    (replies : List Reply) (device : D)
    → ((before : D) (shape : Shape) (start : Whole D) (steps : List Step) (replies : List Reply)
    → HasStarted disk before shape start → StepsTaken disk start steps replies machine
    → HasRun disk before shape steps replies machine.device)
    → device ≡ machine.device → origin ≡ Some first → StepsTaken disk first steps replies machine
    → (start : Whole D) → origin ≡ Some start → RunsFrom disk start steps replies device
runs_from {D} disk origin first machine steps replies device law same is_first legal start is_start =
    λ before shape started.
    let Led : Whole D → Type 0 = λ from. StepsTaken disk from steps replies machine in
    let Ran : D → Type 0 = λ after. HasRun disk before shape steps replies after in
    let led : StepsTaken disk start steps replies machine =
    subst Led (one_value origin first start is_first is_start) legal in
    subst Ran (sym same) (law before shape start steps replies started led)

-- what holds of each value of an option holds of the one that it has
pub of_the_one : {S A E : Type 0} (result : Result A E) (origin : Option S) (P : S → A → Type 0) (start : S)
    → origin ≡ Some start → IfOk result (λ a. (s : S) → origin ≡ Some s → P s a) → IfOk result (P start)
of_the_one (Ok a) origin P start is all = all start is
of_the_one (Err e) origin P start is all = tt

-- a machine that failed was booted
pub refused_so : {D : Type 0} (disk : Ghosts D) (before : D) (shape : Shape) (capacity : ℕ) (start : Whole D)
    (refused : NotRun D)
    → HasStarted disk before shape start → HasNotShared disk start capacity refused
    → HasNotRun disk before shape capacity refused
refused_so disk before shape capacity start (Start refusal after) started failed = absurd failed
refused_so disk before shape capacity start (Share refusal after) started failed = (start, started, failed)
refused_so disk before shape capacity start (Gather refusal after) started failed = (start, started, failed)
