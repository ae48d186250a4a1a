-- What a crash leaves while a machine is booted over the disk that shows a volume, and what a failed boot leaves.
use Rattle.std.proofs.Common.{List, ℕ, ◌≤◌, Result, Ok, Err, inl, inr, sym, subst, arith}
use Rattle.device.specs.Device.{Only}
use Rattle.device.specs.declared.device.Device.{Ghosts}
use Rattle.page_entry.specs.declared.refusal.Refusal.{Refusal}
use Rattle.volume_codec.specs.Files.{File}
use Rattle.volume_codec.specs.Recovery.{RecoversTo}
use Rattle.volume_codec.specs.Super.{SuperValue}
use Rattle.recovery.specs.Opening.{Opens}
use Rattle.recovery.specs.Openings.{RecoversAs}
use Rattle.machine.specs.declared.act.Shape.{Shape}
use Rattle.engine.specs.Engine.{HasNotStarted}
use Rattle.log_volume.specs.Files.{RecoversToLog}
use Rattle.machine_log.specs.Disk.{LogDiskValue, left_at, moment_in, shown_by}
use Rattle.machine_log.specs.Made.{IsTold}
use Rattle.machine_log.specs.Serving.{StandsFor}
use Rattle.machine_log.specs.inside.Times.{since_now, now_is_since as left_now}
use Rattle.machine_log.specs.inside.Standing.{Stands}

-- since a disk was opened, a crash leaves what recovers as something that one might have left before
abbrev pub LeavesAlike : {D : Type 0} → Ghosts D → Type 0
LeavesAlike {D} disk = (before after : LogDiskValue D) (result : Result SuperValue Refusal) (w : List ℕ)
    → disk.is_honest before.device → Opens (shown_by disk) before result after
    → left_at disk.moment after (moment_in disk.moment before) w
    → RecoversAs ((shown_by disk).may_leave before) w

-- the opening of the disk in a boot that failed
pub opens_of : {D : Type 0} (disk : Ghosts D) (shown : LogDiskValue D) (shape : Shape) (after : LogDiskValue D)
    (refusal : Refusal) → HasNotStarted (shown_by disk) shown shape after refusal
    → (result : Result SuperValue Refusal) × Opens (shown_by disk) shown result after
opens_of disk shown shape after refusal (inl opens) = (Err refusal, opens)
opens_of disk shown shape after refusal (inr (table, opens, refuses)) = (Ok table, opens)

module _ {D : Type 0} (disk : Ghosts D) (left_as : LeavesAlike disk) (files : List File)
    (shown after : LogDiskValue D) (result : Result SuperValue Refusal)
    (opens : Opens (shown_by disk) shown result after) (honest : disk.is_honest shown.device)
    (recovers : RecoversTo ((shown_by disk).seen shown) files)
    (only : Only ((shown_by disk).may_leave shown) ((shown_by disk).seen shown))
    (stands : Stands disk after) where
  pub honest_after : disk.is_honest after.device
  honest_after = opens.kept.honest.1 honest

  stood_for : (c w : List ℕ) → left_at disk.moment after (moment_in disk.moment shown) w → StandsFor c w
      → RecoversToLog c files
  stood_for c w left stood =
      let alike = left_as shown after result w honest opens left in
      let R : List ℕ → Type 0 = λ l. RecoversTo l files in
      let before : RecoversTo alike.0 files = subst R (sym (only alike.0 alike.1)) recovers in
      stood files (record {
        table = before.table;
        contents = before.contents;
        recovers = alike.2 before.table before.contents before.recovers;
        lengths = before.lengths;
        files_are = before.files_are;
      })

  pub left_in_boot : (c : List ℕ) → disk.left_since after.device (disk.moment shown.device) c → IsTold after c
      → RecoversToLog c files
  left_in_boot c left tells = let s = stands honest_after shown c left tells in stood_for c s.0 s.1 s.2

  -- a crash after it
  pub left_after_boot : ((d : D) (t : ℕ) (c : List ℕ) → t ≤ disk.moment d → disk.may_leave d c → disk.left_since d t c)
      → (c : List ℕ) → disk.may_leave after.device c → IsTold after c → RecoversToLog c files
  left_after_boot now_is_since c may tells =
      let s = stands honest_after after c (now_is_since after.device (disk.moment after.device) c (omega arith) may)
      tells in
      stood_for c s.0
      (left_now disk.moment after (moment_in disk.moment shown) s.0 (since_now disk.moment after s.0 s.1)) s.2
