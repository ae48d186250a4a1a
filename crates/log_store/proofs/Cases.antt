-- A step by its cases.
use Rattle.std.proofs.Common.{◌≡◌, ◌≢◌, ◌==◌, ℕ, Bool, true, false, Option, Some, None, length, sym, subst}
use Rattle.std.specs.Prelude.{MatchBool}
use Rattle.log_commits.specs.Behind.{MayMove, RefusesMove}
use Rattle.log_commits.specs.declared.behind.MoveFault.TheVariants.{Device}
use Rattle.log_home.specs.declared.index.Newest.{Newest}
use Rattle.log_home.specs.Work.{MayStep, RefusesStep, next_copy, stepped}
use Rattle.log_store.specs.declared.stage.HomeStage.{HomeStage}
use Rattle.log_store.specs.declared.stage.HomeStage.TheVariants.{Resting, Copying, Written, Sure}
use Rattle.log_store.specs.declared.fault.Progress.{Progress}
use Rattle.log_store.specs.declared.fault.Progress.TheVariants.{Idle, Began, Copied, Wrote, Synced, Moved}
use Rattle.log_store.specs.declared.fault.StoreFault.TheVariants.{Move}
use Rattle.log_store.specs.Store.{StoreValue, StepsBy, HasMovedStart, MayStepBy, RefusesStepBy, begun_work, working}

-- what holds of each kind of step holds of a step
pub step_cases : (old new : StoreValue) (P : HomeStage → Progress → StoreValue → Type 0)
    → (old.tail.used ≡ 0 → P Resting Idle old)
    → (old.tail.used ≢ 0 → P Resting Began (working old (begun_work old)))
    → (old.work.done ≢ length old.work.homes → P Copying Copied (working old (stepped old.work)))
    → (old.work.done ≡ length old.work.homes → P Copying Wrote (record old { stage = Written }))
    → P Written Synced (record old { stage = Sure }) → (HasMovedStart old new old.work.oldest → P Sure Moved new)
    → (stage : HomeStage) (progress : Progress) → StepsBy old stage new progress → P stage progress new
step_cases old new P idle began copied wrote synced moved Resting Idle is =
    subst (P Resting Idle) (sym is.1) (idle is.0)
step_cases old new P idle began copied wrote synced moved Resting Began is =
    subst (P Resting Began) (sym is.1) (began is.0)
step_cases old new P idle began copied wrote synced moved Copying Copied is =
    subst (P Copying Copied) (sym is.1) (copied is.0)
step_cases old new P idle began copied wrote synced moved Copying Wrote is =
    subst (P Copying Wrote) (sym is.1) (wrote is.0)
step_cases old new P idle began copied wrote synced moved Written Synced is = subst (P Written Synced) (sym is) synced
step_cases old new P idle began copied wrote synced moved Sure Moved is = moved is
step_cases old new P idle began copied wrote synced moved stage progress is = absurd is

-- a step of which a device call failed could be made
pub failed_step_may : (s : StoreValue) (stage : HomeStage) → RefusesStepBy s stage (Move Device) → MayStepBy s stage
failed_step_may s Resting refused = absurd refused
failed_step_may s Copying refused =
    by (s.work.done == length s.work.homes) (next_copy s.work s.entries) refused
  where
    by : (moves : Bool) (o : Option (ℕ × Newest))
        → MatchBool moves (RefusesMove s.tail s.work.oldest Device) (RefusesStep s.tail o Device)
        → MatchBool moves (MayMove s.tail s.work.oldest) (MayStep s.tail o)
    by true o refused = refused
    by false None refused = tt
    by false (Some copy) refused = refused
failed_step_may s Written refused = refused
failed_step_may s Sure refused = refused
