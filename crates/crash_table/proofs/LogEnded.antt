-- How a run over a volume with a log ends that a failing call keeps from beginning.
use Rattle.std.proofs.Common.{◌≡◌, inr, List, [], Err, sym, subst}
use Rattle.device.specs.declared.device.Device.{Ghosts}
use Rattle.page_entry.specs.declared.refusal.Refusal.{Refusal}
use Rattle.page_entry.specs.declared.refusal.Refusal.TheVariants.{Device}
use Rattle.machine.specs.declared.act.Reply.{Reply}
use Rattle.machine.specs.declared.act.Shape.{Shape}
use Rattle.machine.specs.declared.act.Step.{Step}
use Rattle.machine_log.specs.Disk.{LogDiskValue}
use Rattle.machine_log.specs.Opening.{IsCountedDisk}
use Rattle.crash_table.specs.Runs.{HasEndedByLog}

-- without replies, on the device that the opening left
pub ended_at_opening : {D : Type 0} (disk : Ghosts D) (before : D) (shape : Shape) (steps : List Step)
    (refusal : Refusal) (device after : D) (replies : List Reply)
    → IsCountedDisk {X = LogDiskValue D} disk before (Err refusal) device
    → (refusal ≡ Device) × (after ≡ device) × (replies ≡ []) → HasEndedByLog disk before shape steps replies after
ended_at_opening {D} disk before shape steps refusal device after replies counted is =
    let P : Refusal → Type 0 = λ e. IsCountedDisk {X = LogDiskValue D} disk before (Err e) device in
    let Q : D → Type 0 = λ d. IsCountedDisk {X = LogDiskValue D} disk before (Err Device) d in
    inr (is.2, subst Q (sym is.1) (subst P is.0 counted))
