use Rattle.std.proofs.Common.{◌≡◌, take, map}
use Rattle.recovery.specs.Volume.{files_of}
use Rattle.recovery.specs.VolumeReading.{IsVolumeOnlyRead}
use Rattle.crash_table.proofs.files.read_files.Given as goal

abbrev pub invariant-loop-file : goal.invariant-loop-file
invariant-loop-file g l = IsVolumeOnlyRead g.D.Device l.initial.volume l.volume
    × (g.D.Device.is_honest l.initial.volume.device
    → map (λ v. v.items) l.files.items
    ≡ take l.file (map (λ f. f.bytes) (files_of l.initial.volume.table (g.D.Device.seen l.initial.volume.device))))
