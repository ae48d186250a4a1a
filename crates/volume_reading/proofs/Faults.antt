-- What follows of why files weren't written.
use Rattle.std.proofs.Common.{ℕ, Result, Ok, Err}
use Rattle.std.specs.Prelude.{IfErr}
use Rattle.volume_reading.specs.declared.form.ListFault.TheVariants.{Unreadable, Unwritten}
use Rattle.volume_reading.specs.declared.form.ListFault.{ListFault}
use Rattle.volume_reading.specs.Faults.{HasListed, IsOfDevice}

-- a file that couldn't be read is the device's
pub of_device : {X : Type 0} (old new : ℕ) (result : Result X ListFault) → HasListed old new result
    → IfErr result IsOfDevice
of_device {X} old new (Ok done) listed = tt
of_device {X} old new (Err (Unreadable refusal)) listed = listed.0
of_device {X} old new (Err (Unwritten fault)) listed = tt
