-- A disk that fails one of its calls.
use Rattle.std.specs.Prelude.{◌≡◌, ℕ, ◌+◌, ◌-◌, ◌^◌, ◌<◌, Bool, if◌then◌else◌, List, replicate, Result, IsOk, IsErr}
use Rattle.device.specs.Count.{raised}

-- The inner disk, the number of the call that fails (counted from 1, or 0 if none does), and the disk's own counts.
pub record Failing (D : Type 0) : Type 0 where
  pub inner : D
  pub fails_at : ℕ
  pub calls : ℕ
  pub faults : ℕ

-- a disk of which no call has been made
abbrev pub failing : {D : Type 0} → D → ℕ → Failing D
failing inner fails_at = record { inner = inner; fails_at = fails_at; calls = 0; faults = 0 }

-- The next call is the call that fails.
abbrev pub IsDue : {D : Type 0} → Failing D → Type 0
IsDue disk = disk.calls + 1 ≡ disk.fails_at

-- the disk after a call that left the inner disk in this state, and that succeeded or failed
abbrev pub after_call : {D : Type 0} → Failing D → D → Bool → Failing D
after_call disk inner done = record disk {
  inner = inner;
  calls = raised disk.calls;
  faults = if done then disk.faults else raised disk.faults;
}

-- The call was passed on: the inner disk counts one call, and one fault if the call failed.
pub record IsPassedOn {D T E : Type 0} (calls_made faults_met : D → ℕ) (old new : D)
    (result : Result T E) : Type 0 where
  pub calls : calls_made old < 2 ^ 64 - 1 → calls_made new ≡ calls_made old + 1
  pub failed : IsErr result → faults_met old < 2 ^ 64 - 1 → faults_met new ≡ faults_met old + 1
  pub done : IsOk result → faults_met new ≡ faults_met old

-- n bytes of 0xEE
unfoldable pub spoilt : ℕ → List ℕ
spoilt n = replicate n 0xEE
