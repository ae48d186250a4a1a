-- Files at their capacities, for the table of layout 1, and the only super block that a request can mean.
use Rattle.std.specs.Prelude.{ℕ, List, map}
use Rattle.volume_codec.specs.Files.{AskedFile}
use Rattle.log_codec.specs.declared.sealing.Sealing.{Sealing}
use Rattle.log_volume.specs.Super.{LogSuperValue}

-- Each file with its capacity as its length.
abbrev pub full_files : List AskedFile → List AskedFile
full_files files = map (λ f. record { name = f.name; length = f.capacity; capacity = f.capacity }) files

-- The super block with the requested seal, log and files.
abbrev pub log_asked : Sealing → List AskedFile → ℕ → LogSuperValue
log_asked sealing files ring = record {
  sealing = sealing;
  ring = ring;
  files = map (λ f. record { name = f.name; capacity = f.capacity }) files;
}
