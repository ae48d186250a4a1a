-- The effect of device calls, as one record.
use Rattle.std.specs.Prelude.{◌≡◌, ◌≢◌, ◌↔◌, ℕ, ◌+◌, ◌^◌, ◌<◌, Bool, true}
use Rattle.std.specs.Prelude.{false, if◌then◌else◌, MatchBool, List, length}
use Rattle.device.specs.Count.{raised}
use Rattle.device.specs.Device.{Only, LeavesOnly}
use Rattle.device.specs.Work.{Work, CopyBlock, Sync, Nothing, worked, TornByWork, TornFromWork, calls_of, HasFailed}
use Rattle.device.specs.declared.device.Device.{Ghosts}

-- The work that was asked of a device was done, or its last call failed.
pub record Did {D : Type 0} (disk : Ghosts D) (old : D) (work : Work) (done : Bool) (new : D) : Type 0 where
  -- the bytes that a read returns
  pub seen : disk.is_honest old
      → MatchBool done (disk.seen new ≡ worked (disk.seen old) work) (TornByWork work (disk.seen old) (disk.seen new))
  -- If a block was to be copied, and only the read was made and failed, no bytes changed.
  pub unread : disk.is_honest old → done ≡ false → (from to : ℕ) → work ≡ CopyBlock from to
      → disk.calls_made old + 2 < 2 ^ 64 → disk.calls_made new ≡ disk.calls_made old + 1
      → disk.seen new ≡ disk.seen old
  pub still : work ≡ Nothing → new ≡ old
  -- the contents that a crash may leave, now and at any moment since `old`
  pub left : (c : List ℕ) → disk.may_leave new c → TornFromWork work (disk.may_leave old) c
  pub keeps : disk.is_honest old → work ≢ Sync → (c : List ℕ) → disk.may_leave old c → disk.may_leave new c
  pub durable : disk.is_honest old → done ≡ true → work ≡ Sync → Only (disk.may_leave new) (disk.seen old)
  pub time : LeavesOnly disk.moment disk.left_since old new (TornFromWork work (disk.may_leave old))
  pub honest : disk.is_honest new ↔ disk.is_honest old
  pub same_length : length (disk.seen new) ≡ length (disk.seen old)
  pub carried : disk.carried new ≡ disk.carried old
  -- the number of calls that were made, and the number that failed
  pub calls : disk.calls_made old + calls_of work < 2 ^ 64
      → MatchBool done (disk.calls_made new ≡ disk.calls_made old + calls_of work)
      (HasFailed work (disk.calls_made old) (disk.calls_made new))
  pub faults : disk.faults_met new ≡ (if done then disk.faults_met old else raised (disk.faults_met old))
