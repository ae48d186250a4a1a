-- Which replies report that the device failed.
use Rattle.std.specs.Prelude.{Bool, true, false}
use Rattle.machine.specs.declared.act.Reply.{Reply}
use Rattle.machine.specs.declared.act.Reply.TheVariants.{Refused}
use Rattle.page_entry.specs.declared.refusal.Refusal.{Refusal}
use Rattle.page_entry.specs.declared.refusal.Refusal.TheVariants.{Device}

-- whether the refusal reports that the device failed
abbrev pub is_device : Refusal → Bool
is_device Device = true
is_device _ = false

-- whether the reply reports that the device failed
abbrev pub reports_failure : Reply → Bool
reports_failure (Refused refusal) = is_device refusal
reports_failure _ = false
