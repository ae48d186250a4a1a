-- The failure that names a step.
use Rattle.std.specs.Prelude.{ℕ, ◌≡◌}
use Rattle.commands.specs.declared.failure.Failure.{Failure}
use Rattle.commands.specs.declared.failure.Failure.TheVariants.{Step}

-- The failure is that of the step with this number, whose reply reports a device failure.
abbrev pub IsFailedStep : Failure → ℕ → Type 0
IsFailedStep (Step path step) number = step ≡ number
IsFailedStep _ number = ⊥
