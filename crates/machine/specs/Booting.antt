-- Why a machine is not booted.
use Rattle.page_entry.specs.declared.refusal.Refusal.{Refusal}
use Rattle.page_entry.specs.declared.refusal.Refusal.TheVariants.{BadShape, OutOfMemory}
use Rattle.volume_codec.specs.Super.{SuperValue}
use Rattle.machine.specs.declared.act.Shape.{Shape}
use Rattle.machine.specs.Fresh.{IsShape}

-- BadShape exactly if a machine over a volume with this table cannot have the shape. If it can have the shape, memory
-- may be refused.
abbrev pub RefusesShape : SuperValue → Shape → Refusal → Type 0
RefusesShape table shape BadShape = IsShape table shape → ⊥
RefusesShape table shape OutOfMemory = IsShape table shape
RefusesShape table shape why = ⊥
