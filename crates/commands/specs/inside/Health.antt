-- The exit status of a check that finds no damage.
use Rattle.std.specs.Prelude.{ℕ}
use Rattle.inspection.specs.declared.health.Health.{Health}
use Rattle.inspection.specs.declared.health.Health.TheVariants.{Clean, NeedsOpening}

-- 0 if the volume is clean, 1 if it needs an opening
abbrev pub health_status : Health → ℕ
health_status Clean = 0
health_status NeedsOpening = 1
