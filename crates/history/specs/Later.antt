-- What openings find after a run and a crash, even after further openings and crashes.
use Rattle.std.specs.Prelude.{ℕ, ◌≡◌, List, Result, Ok, Err}
use Rattle.device.specs.declared.device.Device.{Ghosts}
use Rattle.page_entry.specs.declared.refusal.Refusal.{Refusal}
use Rattle.page_entry.specs.declared.refusal.Refusal.TheVariants.{Device, OutOfMemory}
use Rattle.volume_codec.specs.Files.{File}
use Rattle.volume_codec.specs.Super.{SuperValue}
use Rattle.volume_codec.specs.Recovery.{RecoversTo}
use Rattle.recovery.specs.Counts.{Rises}
use Rattle.recovery.specs.Opening.{Opens}
use Rattle.recovery.specs.Openings.{IsRestarted, IsLater}
use Rattle.recovery.specs.Volume.{files_of}
use Rattle.history.specs.History.{Event, files_after, IsDurablePrefix}

-- `found` are the files after a durable prefix of the history.
pub record AreDurable (files : List File) (history : List Event) (found : List File) : Type 0 where
  pub prefix : List Event
  pub durable : IsDurablePrefix prefix history
  pub files_are : found ≡ files_after files prefix

-- The result of opening a device with these files. It is exactly these files, or `Device` if one device call failed, or
-- `OutOfMemory` if none failed. It is refused for no other reason.
abbrev pub OpensTo : {D : Type 0} → Ghosts D → List File → D → Result SuperValue Refusal → D → Type 0
OpensTo disk files device (Ok table) after = files_of table (disk.seen after) ≡ files
OpensTo disk files device (Err Device) after = Rises 1 (disk.faults_met device) (disk.faults_met after)
OpensTo disk files device (Err OutOfMemory) after = disk.faults_met after ≡ disk.faults_met device
OpensTo disk files device (Err refusal) after = ⊥

-- These files are found on the device: its bytes recover to them, and each opening has a result that `OpensTo` allows.
pub record Finds {D : Type 0} (disk : Ghosts D) (files : List File) (device : D) : Type 0 where
  pub recovers : RecoversTo (disk.seen device) files
  pub opened : (result : Result SuperValue Refusal) (after : D) → Opens disk device result after
      → OpensTo disk files device result after

-- The files after some durable prefix of the history are found on the device.
pub record FindsDurable {D : Type 0} (disk : Ghosts D) (files : List File) (history : List Event) (device : D)
    : Type 0 where
  pub found : List File
  pub durable : AreDurable files history found
  pub finds : Finds disk found device

-- Let a crash leave any of `lists`. Then these files are found. They are still found after any number of openings, each
-- with or without a crash within it or after it.
abbrev pub KeepsFiles : {D : Type 0} → Ghosts D → List File → (List ℕ → Type 0) → Type 0
KeepsFiles {D} disk files lists =
    (first later : D) (n : ℕ) → IsRestarted disk lists first → IsLater disk n first later → Finds disk files later

-- Let a crash leave any of `lists`. Then the files after some durable prefix of the history are found. The same files
-- are found after any number of openings, each with or without a crash within it or after it.
abbrev pub FindsAfterCrash : {D : Type 0} → Ghosts D → List File → List Event → (List ℕ → Type 0) → Type 0
FindsAfterCrash {D} disk files history lists =
    (first : D) → IsRestarted disk lists first → (found : List File) × AreDurable files history found
    × ((n : ℕ) (later : D) → IsLater disk n first later → Finds disk found later)
