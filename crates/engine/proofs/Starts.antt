-- A machine that was booted over an opened volume is at the start of a run.
use Rattle.std.proofs.Common.{List, refl, sym, ◌∙◌, inl, inr, subst}
use Rattle.device.specs.declared.device.Device.{Ghosts}
use Rattle.page_entry.specs.declared.refusal.Refusal.{Refusal}
use Rattle.volume_codec.specs.Files.{File}
use Rattle.volume_codec.specs.Recovery.{RecoversTo}
use Rattle.recovery.specs.Opening.{HasOpened}
use Rattle.recovery.specs.Volume.{VolumeState, IsAtRest, files_of}
use Rattle.recovery.proofs.Reopened.{opened_files as recovered_files}
use Rattle.machine.specs.declared.act.Reply.{Reply}
use Rattle.machine.specs.declared.act.Shape.{Shape}
use Rattle.machine.specs.declared.act.Step.{Step}
use Rattle.machine.specs.Crashes.{Begins}
use Rattle.machine.specs.Fresh.{IsShape, fresh}
use Rattle.machine.specs.Runs.{StepsTaken}
use Rattle.machine.specs.State.{Whole}
use Rattle.engine.specs.Engine.{HasStarted, HasNotStarted, KeepsDevice}
use Rattle.engine.proofs.Runs.{taken_kept}

-- the files that an honest device recovered to when it was opened
opened_files : {D : Type 0} (disk : Ghosts D) (before : D) (volume : VolumeState D)
    → HasOpened disk before volume.table volume.device
    → RecoversTo (disk.seen before) (files_of volume.table (disk.seen volume.device))
opened_files disk before volume has = recovered_files disk before volume.device volume.table has

booted_begins : {D : Type 0} (disk : Ghosts D) (volume : VolumeState D) (shape : Shape)
    → IsShape volume.table shape → IsAtRest disk volume → disk.is_honest volume.device
    → Begins disk (files_of volume.table (disk.seen volume.device))
    (record { state = fresh volume.table volume.lengths shape; device = volume.device })
booted_begins disk volume shape shaped rest honest = record {
  fresh = record { shape = shape; fits = shaped; as_booted = refl };
  volume = rest.holds;
  files_are = refl;
  fit = rest.lengths_fit;
  lengths_are = rest.lengths_are;
  honest = honest;
  synced = rest.synced;
}

-- so a run may begin on it
pub begins : {D : Type 0} (disk : Ghosts D) (before : D) (shape : Shape)
    (start : Whole D) (started : HasStarted disk before shape start)
    → disk.is_honest before
    → (files : List File) × RecoversTo (disk.seen before) files × Begins disk files start
begins {D} disk before shape start started honest =
    let volume = started.volume in
    let here = started.opened.kept.honest.1 honest in
    let files = files_of volume.table (disk.seen volume.device) in
    let P : Whole D → Type 0 = λ w. Begins disk files w in (
      files,
      opened_files disk before volume (started.opened.ended honest),
      subst P (sym started.booted)
          (booted_begins disk volume shape started.shaped (started.well_formed.at_rest here) here),
    )

-- the device is kept by a start, by a refusal, and by a run
pub started_kept : {D : Type 0} (disk : Ghosts D) (before : D) (shape : Shape) (start : Whole D)
    → HasStarted disk before shape start
    → KeepsDevice disk before start.device
started_kept {D} disk before shape start started =
    let P : Whole D → Type 0 = λ w. KeepsDevice disk before w.device in
    let kept = started.opened.kept in
    subst P (sym started.booted) (record { honest = kept.honest; len = kept.len })

pub refused_kept : {D : Type 0} (disk : Ghosts D) (before : D) (shape : Shape) (after : D) (refusal : Refusal)
    → HasNotStarted disk before shape after refusal
    → KeepsDevice disk before after
refused_kept disk before shape after refusal (inl opens) = record { honest = opens.kept.honest; len = opens.kept.len }
refused_kept disk before shape after refusal (inr (table, opens, why)) =
    record { honest = opens.kept.honest; len = opens.kept.len }

pub run_kept : {D : Type 0} (disk : Ghosts D) (before : D) (shape : Shape)
    (start : Whole D) (steps : List Step) (replies : List Reply) (last : Whole D)
    → HasStarted disk before shape start → StepsTaken disk start steps replies last
    → KeepsDevice disk before last.device
run_kept disk before shape start steps replies last started taken =
    let first = started_kept disk before shape start started in
    let rest = taken_kept disk start steps replies last taken in
    record { honest = (λ h. first.honest.0 (rest.0.0 h), λ h. rest.0.1 (first.honest.1 h)); len = rest.1 ∙ first.len }
