-- A file that isn't there.
use Rattle.std.proofs.Common.{◌≡◌, ℕ, List, refl}
use Rattle.volume_codec.specs.Files.{File}
use Rattle.volume_reading.specs.Volume.{RecoversToAny}
use Rattle.volume_files.specs.declared.copying.CopyFault.{CopyFault}
use Rattle.volume_files.specs.declared.copying.CopyFault.TheVariants.{NoFile, Pages}
use Rattle.volume_files.specs.Export.{HasNone, IsNotExported}

pub not_exported : (bytes name : List ℕ) (files : List File) → RecoversToAny bytes files → (fault : CopyFault)
    → (fault ≡ NoFile → HasNone files name) → IsNotExported bytes name fault
not_exported bytes name files recovers NoFile none = (files, recovers, none refl)
not_exported bytes name files recovers (Pages fault) none = tt
