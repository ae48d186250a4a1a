-- The parts of an opening.
use Rattle.std.specs.Prelude.{◌≡◌, Bool, List, [], map, slice_index}
use Rattle.device.specs.declared.device.Device.{Ghosts}
use Rattle.device.specs.Device.{Only}
use Rattle.volume_codec.specs.Files.{TableFile, AskedFile}
use Rattle.volume_codec.specs.Layout.{block_at}
use Rattle.log_codec.specs.declared.start.LogStart.{LogStart}
use Rattle.log_codec.specs.Chain.{HasLog}
use Rattle.log_codec.specs.Start.{counts_second}
use Rattle.log_volume.specs.Super.{LogSuperValue, log_of, log_super_text}

-- These files in the form of a request, each with its capacity as its length.
abbrev pub asked_whole : List TableFile → List AskedFile
asked_whole files = map (λ f. record { name = f.name; length = f.capacity; capacity = f.capacity }) files

-- The device contains this volume, and all of it is synced. The log has this start and no commit. `second` is whether
-- the second start is selected.
pub record IsOpenedLog {D : Type 0} (disk : Ghosts D) (v : LogSuperValue) (start : LogStart) (second : Bool)
    (device : D) : Type 0 where
  pub super_block : block_at (disk.seen device) 0 ≡ log_super_text v
  pub log : HasLog (log_of v) start [] (disk.seen device)
  pub synced : Only (disk.may_leave device) (disk.seen device)
  pub selected : second ≡ counts_second (slice_index (disk.seen device) 4096)
