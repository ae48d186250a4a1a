-- What each call of this crate preserves of its device, and how the counts of device calls and of their faults rise.
use Rattle.std.specs.Prelude.{◌≡◌, ◌↔◌, ℕ, ◌+◌, ◌<◌, ◌≤◌, ◌^◌, length, Result, MatchResult}
use Rattle.device.specs.declared.device.Device.{Ghosts}
use Rattle.page_entry.specs.declared.refusal.Refusal.{Refusal}
use Rattle.page_entry.specs.declared.refusal.Refusal.TheVariants.{Device, OutOfMemory, NotAVolume, Damaged, BadShape}

-- The count rose by `n`. Nothing is claimed if the sum is 2^64 or more, because a count stays at 2^64 - 1.
abbrev pub Rises : ℕ → ℕ → ℕ → Type 0
Rises n old new = old + n < 2 ^ 64 → new ≡ old + n

-- The count rose by at most `n`. Nothing is claimed if the sum is 2^64 or more, because a count stays at 2^64 - 1.
abbrev pub RisesWithin : ℕ → ℕ → ℕ → Type 0
RisesWithin n old new = old + n < 2 ^ 64 → new ≤ old + n

-- If the refusal is `Device`, one device call failed. With any other refusal of a volume, none failed.
abbrev pub HasCause : ℕ → ℕ → Refusal → Type 0
HasCause old new Device = Rises 1 old new
HasCause old new OutOfMemory = new ≡ old
HasCause old new NotAVolume = new ≡ old
HasCause old new Damaged = new ≡ old
HasCause old new BadShape = new ≡ old
HasCause old new _ = ⊥

-- The device is as long and as honest as before. If the result is `Ok`, no device call failed. Otherwise the failed
-- calls match the refusal (`HasCause`).
pub record IsAccounted {D X : Type 0} (disk : Ghosts D) (old : D) (result : Result X Refusal) (new : D) : Type 0 where
  pub honest : disk.is_honest new ↔ disk.is_honest old
  pub len : length (disk.seen new) ≡ length (disk.seen old)
  pub cause : MatchResult result (λ _. disk.faults_met new ≡ disk.faults_met old)
      (HasCause (disk.faults_met old) (disk.faults_met new))
