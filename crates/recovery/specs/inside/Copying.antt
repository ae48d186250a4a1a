-- The effect of laying out a volume for the files of another volume.
use Rattle.std.specs.Prelude.{◌⊎◌, ℕ, ◌-◌, ◌*◌, List, length}
use Rattle.device.specs.Device.{TornFrom}
use Rattle.device.specs.declared.device.Device.{Ghosts}
use Rattle.volume_codec.specs.Files.{AskedFile}
use Rattle.volume_codec.specs.Super.{SuperValue, block_count}
use Rattle.recovery.specs.Format.{HasShape}

-- A crash may leave `c` while a volume of a layout is laid out. `c` is what a crash might have left before, perhaps
-- with other bytes in the volume's blocks except block 0.
abbrev pub LeftByLaying : {E : Type 0} → Ghosts E → ℕ → List AskedFile → ℕ → E → List ℕ → Type 0
LeftByLaying other layout files slots before c = other.may_leave before c
    ⊎ ((table : SuperValue) × HasShape layout files slots (length (other.seen before)) table
    × TornFrom 4096 (4096 * block_count table - 4096) (other.may_leave before) c)
