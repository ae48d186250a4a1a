-- A volume with a log, and one in layout 4 with the same files.
use Rattle.std.specs.Prelude.{ℕ, ◌≡◌, ◌⊎◌, List, alloc_error}
use Rattle.page_entry.specs.declared.refusal.Refusal.{Refusal}
use Rattle.volume_codec.specs.Files.{File}
use Rattle.volume_codec.specs.Recovery.{RecoversTo}
use Rattle.log_volume.specs.Files.{RecoversToLog}
use Rattle.machine_log.specs.Opening.{RefusesDisk}
use Rattle.crash_states.specs.declared.crash_fault.CrashFault.{CrashFault}
use Rattle.crash_states.specs.declared.crash_fault.CrashFault.TheVariants.{Memory}
use Rattle.crash_table.specs.Marks.{contents_of}
use Rattle.crash_table.specs.Trials.{cause_of}

-- The bytes of the volume with a log, the bytes of its files, and the bytes of the volume in layout 4.
pub record TwinValue : Type 0 where
  pub image : List ℕ
  pub files : List (List ℕ)
  pub shown : List ℕ

-- Both volumes recover to the same files, and `files` are the bytes of these.
pub record IsTwin (twin : TwinValue) : Type 0 where
  pub found : List File
  pub by_log : RecoversToLog twin.image found
  pub by_journals : RecoversTo twin.shown found
  pub bytes_are : twin.files ≡ contents_of found

-- Why these bytes have no twin: memory was refused, or no disk shows them.
abbrev pub HasNoTwin : List ℕ → CrashFault → Type 0
HasNoTwin image why = (why ≡ Memory alloc_error)
    ⊎ ((refusal : Refusal) × (why ≡ cause_of refusal) × RefusesDisk image refusal)
