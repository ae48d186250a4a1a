-- The failures that can have their cause in a volume.
use Rattle.std.specs.Prelude.{ℕ, ◌≡◌, List}
use Rattle.page_entry.specs.declared.refusal.Refusal.{Refusal}
use Rattle.volume_files.specs.declared.failure.FileFailure.{FileFailure}
use Rattle.volume_files.specs.declared.failure.FileFailure.TheVariants.{Disk, Output, Memory}

-- The volume at this path was refused, with a refusal that satisfies `such`. Or the output couldn't be written, or
-- memory was refused.
abbrev pub IsOfVolume : List ℕ → (Refusal → Type 0) → FileFailure → Type 0
IsOfVolume path such (Disk at cause) = (at.now ≡ path) × such cause.refusal
IsOfVolume path such (Output fault) = Unit {0}
IsOfVolume path such (Memory fault) = Unit {0}
IsOfVolume path such failure = ⊥
