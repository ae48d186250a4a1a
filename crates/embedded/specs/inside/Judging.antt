-- What prevents the opening of a volume before a call is recorded.
use Rattle.std.specs.Prelude.{◌≡◌, ◌⊎◌, true, false, get_or}
use Rattle.page_entry.specs.declared.refusal.Refusal.TheVariants as refusals
use Rattle.device.specs.Memory.{seen_of}
use Rattle.deferred_disk.specs.Deferred.{Deferred, as_memory, IsSuppliedWell}
use Rattle.volume_codec.specs.Recovery.{IsNotAVolume}
use Rattle.embedded.specs.declared.reading.Unread.{Unread}
use Rattle.embedded.specs.declared.reading.Unread.TheVariants.{Wanted, Refused}
use Rattle.embedded.specs.Supplying.{is_of_disk}

-- A block of the disk isn't known, memory was refused, or the disk contains no volume with journals.
abbrev pub StopsOpening : Deferred → Unread → Type 0
StopsOpening disk (Wanted block) = (is_of_disk disk block ≡ true) × (get_or disk.known block false ≡ false)
StopsOpening disk (Refused why) =
    (why ≡ refusals.OutOfMemory)
    ⊎ ((why ≡ refusals.NotAVolume) × (IsSuppliedWell disk → IsNotAVolume (seen_of (as_memory disk))))
