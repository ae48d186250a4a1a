use Rattle.std.proofs.Common.{◌≡◌, take, map}
use Rattle.device.specs.Memory.{seen_of}
use Rattle.crash_table.specs.Marks.{contents_of}
use Rattle.crash_table.proofs.log_reading.read_each.Given as goal

abbrev pub invariant-loop-file : goal.invariant-loop-file
invariant-loop-file g l = (seen_of l.disk ≡ seen_of l.initial.disk)
    × (map (λ v. v.items) l.files.items
    ≡ take l.file (contents_of (g.V.FoundFiles.files l.volume (seen_of l.initial.disk))))
