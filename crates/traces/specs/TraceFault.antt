-- Why a trace is refused.
use Rattle.scripts.specs.ScriptFault.{IsMemory as IsScriptMemory}
use Rattle.traces.specs.declared.trace_fault.TraceFault.{TraceFault}
use Rattle.traces.specs.declared.trace_fault.TraceFault.TheVariants.{NotUtf8, Empty, Shape, NotJson, Form, Step, Memory}

-- The fault is a lack of memory.
abbrev pub IsMemory : TraceFault → Type 0
IsMemory (Memory cause) = Unit {0}
IsMemory (Shape cause) = IsScriptMemory cause
IsMemory NotUtf8 = ⊥
IsMemory Empty = ⊥
IsMemory (NotJson line cause) = ⊥
IsMemory (Form line) = ⊥
IsMemory (Step line cause) = ⊥
