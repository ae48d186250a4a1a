-- Why files weren't listed, and whether a device call failed.
use Rattle.std.specs.Prelude.{ℕ, ◌≡◌, Result, Ok, Err}
use Rattle.page_entry.specs.declared.refusal.Refusal.TheVariants.{Device}
use Rattle.recovery.specs.Counts.{Rises}
use Rattle.volume_reading.specs.declared.form.ListFault.{ListFault}
use Rattle.volume_reading.specs.declared.form.ListFault.TheVariants.{Unreadable, Unwritten}

-- A file that couldn't be read is refused with `Device`. A fault of writing may be any.
abbrev pub IsOfDevice : ListFault → Type 0
IsOfDevice (Unreadable refusal) = refusal ≡ Device
IsOfDevice (Unwritten fault) = Unit {0}

-- The files were listed, or a fault ended the listing. `old` and `new` are the numbers of failed device calls before
-- and after. If a file couldn't be read, the refusal is `Device`, and one call failed. Otherwise none failed.
abbrev pub HasListed : {X : Type 0} → ℕ → ℕ → Result X ListFault → Type 0
HasListed old new (Ok done) = new ≡ old
HasListed old new (Err (Unreadable refusal)) = (refusal ≡ Device) × Rises 1 old new
HasListed old new (Err (Unwritten fault)) = new ≡ old
