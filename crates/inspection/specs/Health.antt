-- Whether a volume is whole, and whether it needs opening.
use Rattle.std.specs.Prelude.{ℕ, List, [], ◌∷◌}
use Rattle.volume_codec.specs.Files.{File}
use Rattle.volume_codec.specs.Super.{SuperValue}
use Rattle.volume_codec.specs.Recovery.{Batch, IsVolume, RecoversTo}
use Rattle.inspection.specs.declared.health.Health.{Health}
use Rattle.inspection.specs.declared.health.Health.TheVariants.{Clean, NeedsOpening}

-- `bytes` recover to files, and `batches` are the batches of their open journals.
pub record HoldsFiles (bytes : List ℕ) (batches : List Batch) : Type 0 where
  pub table : SuperValue
  pub volume : IsVolume table batches bytes
  pub files : List File
  pub recovers : RecoversTo bytes files

-- The bytes recover to files. Without an open journal the volume is clean; with one it needs opening.
abbrev pub IsHealth : List ℕ → Health → Type 0
IsHealth bytes Clean = HoldsFiles bytes []
IsHealth bytes NeedsOpening = (newest : Batch) × (older : List Batch) × HoldsFiles bytes (newest ∷ older)
