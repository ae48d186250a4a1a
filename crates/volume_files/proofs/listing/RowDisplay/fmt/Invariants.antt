use Rattle.std.proofs.Common.{◌++◌, take}
use Rattle.std.specs.List.{flat_map}
use Rattle.std.specs.Fmt.{HasWritten, IsPlainFormatter}
use Rattle.volume_files.specs.Dump.{byte_text, offset_text}
use Rattle.volume_files.proofs.listing.RowDisplay.fmt.Given as goal

abbrev pub invariant-loop-byte : goal.invariant-loop-byte
invariant-loop-byte g l =
    IsPlainFormatter l.fn.f → HasWritten g.W.Write.write_str_gives l.fn.f
    (offset_text l.at ++ flat_map byte_text (take l.byte-index l.byte-items)) l.f
