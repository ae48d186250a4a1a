-- The layouts with a log.
use Rattle.std.specs.Prelude.{ℕ, ◌==◌, if◌then◌else◌, Option, Some, None}
use Rattle.command_line.specs.declared.job.Seal.{Seal}
use Rattle.command_line.specs.declared.job.Seal.TheVariants.{Byte, Digest}

-- How this layout seals commits: 5 by a byte, 6 by digests with this key. No other layout has a log.
abbrev pub seal_in : ℕ → Option ℕ → Option Seal
seal_in layout key =
    if layout == 5 then Some Byte else if layout == 6 then Some (Digest key) else None
