-- Device calls, and a disk in memory that lists its calls and fails one of them.
use Rattle.std.specs.Prelude.{ℕ, zero, suc, ◌≡◌, ◌+◌, ◌==◌, not, if◌then◌else◌, Bool, true, false}
use Rattle.std.specs.Prelude.{List, [], ◌∷◌, ◌++◌, length, map}
use Rattle.std.specs.List.{count_by, AllByRecursion}
use Rattle.device.specs.Count.{raised}
use Rattle.device.specs.Memory.{Recorded, DiskChange, after_read, after_change}
use Rattle.device.specs.Memory.DiskChange.{write, sync}
use Rattle.crash_states.specs.declared.call.Call.{Call}
use Rattle.crash_states.specs.declared.call.CallKind.{CallKind}
use Rattle.crash_states.specs.declared.call.CallKind.TheVariants.{Read, Write, Sync}

-- A device call: its kind, its offset, the number of bytes that it reads or writes, the bytes that it writes, and
-- whether it failed.
pub record DeviceCall : Type 0 where
  pub kind : CallKind
  pub at : ℕ
  pub len : ℕ
  pub written : List ℕ
  pub failed : Bool

abbrev pub call_of : {A : Type 0} → Call A → DeviceCall
call_of call = record {
  kind = call.kind;
  at = call.at;
  len = call.len;
  written = call.written.items;
  failed = call.failed;
}

abbrev pub device_calls_of : {A : Type 0} → List (Call A) → List DeviceCall
device_calls_of calls = map (λ call. call_of call) calls

-- each call, as the disk lists it
abbrev pub read_call : ℕ → ℕ → Bool → DeviceCall
read_call at len failed = record { kind = Read; at = at; len = len; written = []; failed = failed }

abbrev pub write_call : ℕ → List ℕ → Bool → DeviceCall
write_call at bytes failed = record { kind = Write; at = at; len = length bytes; written = bytes; failed = failed }

abbrev pub sync_call : Bool → DeviceCall
sync_call failed = record { kind = Sync; at = 0; len = 0; written = []; failed = failed }

abbrev pub failing : DeviceCall → DeviceCall
failing call = record call { failed = true }

-- The calls up to the call of this number, counted from 1, which fails. If there is no such call, all calls.
abbrev pub calls_until : List DeviceCall → ℕ → List DeviceCall
calls_until [] fails = []
calls_until (call ∷ calls) zero = call ∷ calls
calls_until (call ∷ calls) (suc zero) = failing call ∷ []
calls_until (call ∷ calls) (suc (suc fails)) = call ∷ calls_until calls (suc fails)

-- A disk in memory that lists its calls and fails one. `fails_at` is the number of that call, counted from 1, or 0 if
-- none fails. `refused` is whether the disk ran out of memory for a call. `made` and `faults` are its own counts.
pub record ListedDisk : Type 0 where
  pub inner : Recorded
  pub fails_at : ℕ
  pub calls : List DeviceCall
  pub refused : Bool
  pub made : ℕ
  pub faults : ℕ

-- a listed disk with these fields
abbrev pub listed_as : {A : Type 0} → Recorded → ℕ → List (Call A) → Bool → ℕ → ℕ → ListedDisk
listed_as inner fails_at calls refused made faults = record {
  inner = inner;
  fails_at = fails_at;
  calls = device_calls_of calls;
  refused = refused;
  made = made;
  faults = faults;
}

-- a disk of which no call has been made
abbrev pub listing : Recorded → ℕ → ListedDisk
listing inner fails_at = record {
  inner = inner;
  fails_at = fails_at;
  calls = [];
  refused = false;
  made = 0;
  faults = 0;
}

-- whether the next call is the call that fails
abbrev pub is_due : ListedDisk → Bool
is_due disk = disk.made + 1 == disk.fails_at

-- The inner disk after a call. A read or a write that fails is still passed on to it. A sync that fails isn't.
abbrev pub changed_as : CallKind → Recorded → DeviceCall → Recorded
changed_as Read disk call = after_read disk
changed_as Write disk call = after_change disk (write call.at call.written)
changed_as Sync disk call = if call.failed then disk else after_change disk sync

-- A call was made, and it and its failure are counted. The rest holds unless memory was refused, for this call or an
-- earlier one. The call is listed last, it failed exactly if it was due, and the inner disk has its change.
pub record ListsCall (call : DeviceCall) (old new : ListedDisk) : Type 0 where
  pub fails_at : new.fails_at ≡ old.fails_at
  pub made : new.made ≡ raised old.made
  pub faults : new.faults ≡ (if call.failed then raised old.faults else old.faults)
  pub before : new.refused ≡ false → old.refused ≡ false
  pub more : new.refused ≡ false → new.calls ≡ old.calls ++ call ∷ []
  pub due : new.refused ≡ false → call.failed ≡ is_due old
  pub inner : new.refused ≡ false → new.inner ≡ changed_as call.kind old.inner call

-- the writes and syncs that the inner disk records for calls, after these older ones, with the newest first
abbrev pub change_by : CallKind → DeviceCall → List DiskChange → List DiskChange
change_by Read call older = older
change_by Write call older = write call.at call.written ∷ older
change_by Sync call older = if call.failed then older else sync ∷ older

abbrev pub changes_by : List DeviceCall → List DiskChange → List DiskChange
changes_by [] older = older
changes_by (call ∷ calls) older = changes_by calls (change_by call.kind call older)

-- whether the inner disk counts the call: each call except a sync that failed
abbrev pub is_passed_on : CallKind → Bool → Bool
is_passed_on Read failed = true
is_passed_on Write failed = true
is_passed_on Sync failed = not failed

-- A read writes no bytes, the length of a write is that of its bytes, and a sync has neither place nor length.
abbrev pub HasItsLength : CallKind → DeviceCall → Type 0
HasItsLength Read call = call.written ≡ []
HasItsLength Write call = call.len ≡ length call.written
HasItsLength Sync call = (call.at ≡ 0) × (call.len ≡ 0) × (call.written ≡ [])

-- The list agrees with the disk's counts of calls and of failures. The inner disk, which was new, recorded exactly the
-- listed writes and successful syncs, in order, with their places and bytes. It counted these calls and the reads.
pub record ListsItsCalls (disk : ListedDisk) : Type 0 where
  pub count : disk.made ≡ length disk.calls
  pub faults : disk.faults ≡ count_by (λ call. call.failed) disk.calls
  pub recorded : disk.inner.changes ≡ changes_by disk.calls []
  pub passed : disk.inner.calls ≡ count_by (λ call. is_passed_on call.kind call.failed) disk.calls
  pub sound : disk.inner.faults ≡ 0
  pub lengths : AllByRecursion (λ call. HasItsLength call.kind call) disk.calls
