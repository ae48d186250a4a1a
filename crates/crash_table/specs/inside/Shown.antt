-- The disk that shows a volume with a log.
use Rattle.std.specs.Prelude.{ℕ, ◌≡◌, List}
use Rattle.device.specs.Memory.{Recorded, seen_of, new_disk}
use Rattle.volume_codec.specs.Files.{File}
use Rattle.volume_codec.specs.Recovery.{RecoversTo}
use Rattle.log_volume.specs.Files.{RecoversToLog}
use Rattle.machine_log.specs.Disk.{LogDiskValue}
use Rattle.machine_log.specs.Opening.{shown_bytes}

-- A disk that was opened over a copy of these bytes shows their files.
pub record IsShownBy (image : List ℕ) (disk : LogDiskValue Recorded) : Type 0 where
  pub fresh : disk.memory ≡ new_disk (shown_bytes disk.volume disk.table (seen_of disk.device))
  pub files : (files : List File) → RecoversToLog image files → RecoversTo (seen_of disk.memory) files
