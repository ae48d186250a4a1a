-- Why a request was refused, and which block it lacked.
use Rattle.std.specs.Prelude.{ℕ, ◌≡◌, ◌^◌, ◌≤◌, Option, Some}
use Rattle.page_entry.specs.declared.refusal.Refusal.{Refusal}
use Rattle.page_entry.specs.declared.refusal.Refusal.TheVariants as refusals
use Rattle.embedded.specs.declared.reading.Unread.{Unread}
use Rattle.embedded.specs.declared.reading.Unread.TheVariants.{Wanted, Refused}

-- The refusal of the pager. A device call fails if it lacks a block.
abbrev pub pager_refusal : Unread → Refusal
pager_refusal (Wanted block) = refusals.Device
pager_refusal (Refused why) = why

-- A wanted block is the block that the disk lacked. If the refusal is `Device`, the disk lacked no block whose number
-- has at most 32 bits.
abbrev pub ReportsWanted : Option ℕ → Unread → Type 0
ReportsWanted wanted (Wanted block) = wanted ≡ Some block
ReportsWanted wanted (Refused why) = why ≡ refusals.Device → (block : ℕ) → wanted ≡ Some block → 2 ^ 32 ≤ block
