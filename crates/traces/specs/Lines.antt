-- The entries that were read from a trace.
use Rattle.std.specs.Prelude.{ℕ, List, string_bytes}
use Rattle.machine.specs.declared.act.Step.{Step}
use Rattle.traces.specs.declared.line.Line.{Line}

-- the entry's step, and the text of its reply
abbrev pub entry_in : Line → Step × List ℕ
entry_in line = (line.step, string_bytes line.reply)
