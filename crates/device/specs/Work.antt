-- Work for a device, and its effect on the device's bytes.
use Rattle.std.specs.Prelude.{ℕ, ◌≡◌, ◌+◌, ◌*◌, ◌⊎◌, List, length, take, drop}
use Rattle.device.specs.Device.{written, Torn, TornFrom}

pub data Work : Type 0 where
  -- The bytes are written at this offset.
  WriteAt : (at : ℕ) (bytes : List ℕ) → Work
  -- The block `from` is read, and written at the block `to`. Block i begins at byte 4,096 * i.
  CopyBlock : (from to : ℕ) → Work
  -- Everything that was written is made durable.
  Sync : Work
  -- No call is made.
  Nothing : Work

-- the bytes after work whose calls succeed
abbrev pub worked : List ℕ → Work → List ℕ
worked disk (WriteAt at bytes) = written disk at bytes
worked disk (CopyBlock from to) = written disk (4096 * to) (take 4096 (drop (4096 * from) disk))
worked disk Sync = disk
worked disk Nothing = disk

-- The bytes after work with a failed call: the range that the work writes may contain any bytes.
abbrev pub TornByWork : Work → List ℕ → List ℕ → Type 0
TornByWork (WriteAt at bytes) disk new = Torn at (length bytes) disk new
TornByWork (CopyBlock from to) disk new = Torn (4096 * to) 4096 disk new
TornByWork Sync disk new = new ≡ disk
TornByWork Nothing disk new = new ≡ disk

-- The list c is what a crash may leave within the work, or after it and before a sync. `lists` are those that a crash
-- might have left before the work.
abbrev pub TornFromWork : Work → (List ℕ → Type 0) → List ℕ → Type 0
TornFromWork (WriteAt at bytes) lists c = TornFrom at (length bytes) lists c
TornFromWork (CopyBlock from to) lists c = TornFrom (4096 * to) 4096 lists c
TornFromWork Sync lists c = lists c
TornFromWork Nothing lists c = lists c

-- the number of device calls that the work makes
abbrev pub calls_of : Work → ℕ
calls_of (WriteAt at bytes) = 1
calls_of (CopyBlock from to) = 2
calls_of Sync = 1
calls_of Nothing = 0

-- The numbers of calls before and after work of which a call failed. A copy may have made only the read, or both calls.
abbrev pub HasFailed : Work → ℕ → ℕ → Type 0
HasFailed (WriteAt at bytes) old new = new ≡ old + 1
HasFailed (CopyBlock from to) old new = (new ≡ old + 1) ⊎ (new ≡ old + 2)
HasFailed Sync old new = new ≡ old + 1
HasFailed Nothing old new = ⊥
