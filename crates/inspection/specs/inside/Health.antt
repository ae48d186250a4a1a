-- The health of a volume by its journals.
use Rattle.std.specs.Prelude.{Bool, true, false, is_some}
use Rattle.inspection.specs.declared.found.Journal.{Journal}
use Rattle.inspection.specs.declared.health.Health.{Health}
use Rattle.inspection.specs.declared.health.Health.TheVariants.{Clean, NeedsOpening}

-- Whether the journal's gate is open.
abbrev pub is_open : {Z : Type 0} → Journal Z → Bool
is_open journal = is_some journal.descriptor

-- The health of a volume. The argument is whether some journal is open.
abbrev pub health_by : Bool → Health
health_by true = NeedsOpening
health_by false = Clean
