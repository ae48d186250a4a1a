-- The result of opening a disk.
use Rattle.std.specs.Prelude.{◌≡◌, ℕ, ⊤, false, get_or, min, Ok, Some}
use Rattle.deferred_disk.specs.Deferred.{Deferred, after_read}
use Rattle.volume_codec.specs.Layout.{max_frames}
use Rattle.recovery.specs.Opening.{Opens}
use Rattle.recovery.specs.Volume.{IsWellFormed}
use Rattle.pager.specs.State.{newly_opened, volume_in}
use Rattle.embedded.specs.declared.reading.Unread.{Unread}
use Rattle.embedded.specs.declared.reading.Unread.TheVariants.{Wanted, Refused}
use Rattle.embedded.specs.Embedded.{EmbeddedState, just_opened}
use Rattle.embedded.specs.Recorded.{deferred_disk}

-- An open volume after an opening of this disk. A commit takes at most `most` pages of files.
abbrev pub OpensVolume : Deferred → (most : ℕ) → EmbeddedState → Type 0
OpensVolume disk most e =
    Opens deferred_disk disk (Ok e.pager.table) e.pager.device
    × (e ≡ just_opened (newly_opened (volume_in e.pager)
    (min most (max_frames e.pager.table.layout e.pager.table.slots))))
    × IsWellFormed deferred_disk (volume_in e.pager)

-- If a block is wanted, it isn't known, and the disk only made a read that lacked this block. No write or sync was
-- recorded.
abbrev pub KeepsForWanted : Deferred → Unread → Deferred → Type 0
KeepsForWanted before (Wanted block) after =
    (get_or before.known block false ≡ false) × (after ≡ after_read before (Some block) false)
KeepsForWanted before (Refused why) after = ⊤
