-- What every call on a log keeps.
use Rattle.std.specs.Prelude.{◌≡◌, ◌≢◌, ◌↔◌, true, length, Result, IfErr}
use Rattle.device.specs.declared.device.Device.{Ghosts}
use Rattle.log_commits.specs.Tail.{TailValue}

-- A refused call changes nothing. If a device call fails (the fault `failed`), the tail is as before, but it takes no
-- further call.
pub record KeepsTail {D T F : Type 0} (disk : Ghosts D) (failed : F) (result : Result T F) (old new : TailValue)
    (before after : D) : Type 0 where
  pub unchanged : IfErr result (λ fault. fault ≢ failed → (new ≡ old) × (after ≡ before))
  pub spent : IfErr result (λ fault. fault ≡ failed → new ≡ record old { spent = true })
  pub len : length (disk.seen after) ≡ length (disk.seen before)
  pub honest : disk.is_honest after ↔ disk.is_honest before
