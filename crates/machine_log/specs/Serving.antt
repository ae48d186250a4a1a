-- A volume with a log, as its disk shows it: a volume in layout 4 with the same files.
use Rattle.std.specs.Prelude.{◌≡◌, ℕ, ◌+◌, ◌-◌, ◌≤◌, List}
use Rattle.volume_codec.specs.declared.layout.Layout.TheVariants.{Four}
use Rattle.volume_codec.specs.Files.{File}
use Rattle.volume_codec.specs.Layout.{first_home}
use Rattle.volume_codec.specs.Recovery.{RecoversTo}
use Rattle.volume_codec.specs.Super.{SuperValue, Fits}
use Rattle.log_codec.specs.Log.{IsCommitSize, first_log_home}
use Rattle.log_volume.specs.Super.{LogSuperValue}
use Rattle.log_volume.specs.Files.{RecoversToLog}

-- The super block of the disk: the same files in layout 4, and a record slot for each record that a commit to the log
-- may have.
pub record IsShownTable (v : LogSuperValue) (t : SuperValue) : Type 0 where
  pub layout : t.layout ≡ Four
  pub files : t.files ≡ v.files
  pub slots : IsCommitSize v.ring t.slots
  pub most : (n : ℕ) → IsCommitSize v.ring n → n ≤ t.slots
  pub fits : Fits t

-- The home block of the volume that corresponds to home block `b` of the disk. Both volumes begin with the lengths, and
-- their files follow in the same order.
abbrev pub volume_home : LogSuperValue → SuperValue → ℕ → ℕ
volume_home v t b = b + first_log_home v.ring - first_home t.layout t.slots

-- Bytes `c` of the volume's device stand for bytes `w` of the disk: if `w` recover to files, `c` recover to the same
-- files by their log.
abbrev pub StandsFor : List ℕ → List ℕ → Type 0
StandsFor c w = (files : List File) → RecoversTo w files → RecoversToLog c files
