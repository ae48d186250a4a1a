-- Whether a volume with a log is whole, and whether its log has commits.
use Rattle.std.specs.Prelude.{List, [], ◌∷◌, ℕ}
use Rattle.volume_codec.specs.Files.{File}
use Rattle.volume_codec.specs.Layout.{block_at}
use Rattle.log_codec.specs.declared.start.LogStart.{LogStart}
use Rattle.log_codec.specs.Commit.{LogDescriptor}
use Rattle.log_codec.specs.Chain.{HasLog}
use Rattle.log_volume.specs.Super.{LogSuperValue, IsLogSuper, log_of}
use Rattle.log_volume.specs.Files.{RecoversToLog}
use Rattle.inspection.specs.declared.health.Health.{Health}
use Rattle.inspection.specs.declared.health.Health.TheVariants.{Clean, NeedsOpening}

-- `bytes` recover to files, and `chain` are the commits of their log.
pub record HoldsLog (bytes : List ℕ) (chain : List LogDescriptor) : Type 0 where
  pub table : LogSuperValue
  pub super_block : IsLogSuper table (block_at bytes 0)
  pub start : LogStart
  pub log : HasLog (log_of table) start chain bytes
  pub files : List File
  pub recovers : RecoversToLog bytes files

-- The bytes recover to files. If the log has no commit, the volume is clean; otherwise it needs opening.
abbrev pub IsLogHealth : List ℕ → Health → Type 0
IsLogHealth bytes Clean = HoldsLog bytes []
IsLogHealth bytes NeedsOpening =
    (oldest : LogDescriptor) × (later : List LogDescriptor) × HoldsLog bytes (oldest ∷ later)
