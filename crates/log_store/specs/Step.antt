-- A step that writes commits home, made or refused.
use Rattle.std.specs.Prelude.{◌≡◌, ◌≢◌, ◌↔◌, ℕ, true, List, length, Result, is_ok, IfOk, IfErr, OnOk}
use Rattle.device.specs.declared.device.Device.{Ghosts}
use Rattle.device.specs.Device.{LeavesOnly}
use Rattle.log_commits.specs.Behind.{LeftUnchanged}
use Rattle.log_commits.specs.Calls.{DidAll}
use Rattle.log_commits.specs.declared.behind.MoveFault.TheVariants.{Device}
use Rattle.log_store.specs.declared.stage.HomeStage.{HomeStage}
use Rattle.log_store.specs.declared.fault.Progress.{Progress}
use Rattle.log_store.specs.declared.fault.StoreFault.{StoreFault}
use Rattle.log_store.specs.declared.fault.StoreFault.TheVariants.{Move, OutOfMemory}
use Rattle.log_store.specs.Store.{StoreValue, IsStoreOver, StepsBy, MayStepBy, RefusesStepBy, step_works}

-- The step of a store at this stage. A refused step changes nothing. If a device call fails, the tail accepts no
-- further call.
pub record MakesStoreStep {D : Type 0} (disk : Ghosts D) (s : StoreValue) (stage : HomeStage)
    (result : Result Progress StoreFault) (after : StoreValue) (old new : D) : Type 0 where
  pub may : OnOk result (MayStepBy s stage)
  pub value : IfOk result (StepsBy s stage after)
  pub did : IfErr result (λ fault. fault ≢ OutOfMemory) → MayStepBy s stage
      → DidAll disk old (step_works s stage) (is_ok result) new
  pub refused : IfErr result (RefusesStepBy s stage)
  pub unchanged : IfErr result (λ fault. fault ≢ Move Device → (after ≡ s) × (new ≡ old))
  pub spent : IfErr result (λ fault. fault ≡ Move Device → after.tail ≡ record s.tail { spent = true })
  pub len : length (disk.seen new) ≡ length (disk.seen old)
  pub honest : disk.is_honest new ↔ disk.is_honest old

-- If the store agrees with the device, a crash within the step leaves all commits made before. After a successful step
-- the store agrees with the device again, with the same contents.
pub record StaysOver {D : Type 0} (disk : Ghosts D) (s : StoreValue) (stage : HomeStage)
    (result : Result Progress StoreFault) (after : StoreValue) (old new : D) : Type 0 where
  pub leaves : (contents : ℕ → List ℕ) → disk.is_honest old → IsStoreOver disk s contents old
      → LeavesOnly disk.moment disk.left_since old new (LeftUnchanged s.tail contents)
  pub store : (contents : ℕ → List ℕ) → disk.is_honest old → IsStoreOver disk s contents old
      → OnOk result (IsStoreOver disk after contents new)
