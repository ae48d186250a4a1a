-- Any number of later openings, and what they find.
use Rattle.std.specs.Prelude.{◌≡◌, ◌⊎◌, ℕ, zero, suc, Bool, true, List, Result, Ok, Err}
use Rattle.device.specs.Device.{Only}
use Rattle.device.specs.declared.device.Device.{Ghosts}
use Rattle.page_entry.specs.declared.refusal.Refusal.{Refusal}
use Rattle.page_entry.specs.declared.refusal.Refusal.TheVariants.{Device, OutOfMemory}
use Rattle.volume_codec.specs.Files.{File}
use Rattle.volume_codec.specs.Layout.{block_at}
use Rattle.volume_codec.specs.Super.{SuperValue}
use Rattle.volume_codec.specs.Recovery.{Recovers, RecoversTo}
use Rattle.recovery.specs.Opening.{Opens}

-- A device after a crash that left one of these lists. A read returns that list, and a further crash leaves nothing
-- else. The device is honest.
pub record IsRestarted {D : Type 0} (disk : Ghosts D) (lists : List ℕ → Type 0) (device : D) : Type 0 where
  pub left : lists (disk.seen device)
  pub only : Only (disk.may_leave device) (disk.seen device)
  pub honest : disk.is_honest device

-- An honest device on which a volume with these files was made. It recovers to these files, and all of it is synced.
pub record IsMade {D : Type 0} (disk : Ghosts D) (files : List File) (device : D) : Type 0 where
  pub honest : disk.is_honest device
  pub synced : Only (disk.may_leave device) (disk.seen device)
  pub recovers : RecoversTo (disk.seen device) files

-- `device` is the device after an opening of `before`, or one after a crash at some moment since that opening began.
pub record FollowsOpening {D : Type 0} (disk : Ghosts D) (before device : D) : Type 0 where
  pub result : Result SuperValue Refusal
  pub after : D
  pub opens : Opens disk before result after
  pub then : (device ≡ after) ⊎ IsRestarted disk (disk.left_since after (disk.moment before)) device

-- The device `first`, or one after a crash of it, was opened this number of times. `device` is the device afterwards. A
-- crash may have come within or after each opening.
abbrev pub IsLater : {D : Type 0} → Ghosts D → ℕ → D → D → Type 0
IsLater disk zero first device = (device ≡ first) ⊎ IsRestarted disk (disk.may_leave first) device
IsLater {D} disk (suc n) first device = (before : D) × IsLater disk n first before × FollowsOpening disk before device

-- `c` recovers to the contents to which one of `lists` recovers.
abbrev pub RecoversAs : (List ℕ → Type 0) → List ℕ → Type 0
RecoversAs lists c = (d : List ℕ) × lists d
    × ((table : SuperValue) (contents : ℕ → List ℕ) → Recovers table contents d → Recovers table contents c)

-- Each of these lists recovers to files that pass the test.
abbrev pub AllRecover : (List File → Bool) → (List ℕ → Type 0) → Type 0
AllRecover test lists = (c : List ℕ) → lists c → (files : List File) × RecoversTo c files × (test files ≡ true)

-- If the opening returned a table, the device then has these bytes, and they are the contents to which one of `lists`
-- recovers. If it was refused, a device call failed, or memory was refused.
abbrev pub FindsAmong : (List ℕ → Type 0) → Result SuperValue Refusal → List ℕ → Type 0
FindsAmong lists (Ok table) bytes = (d : List ℕ) × lists d × Recovers table (block_at bytes) d
FindsAmong lists (Err refusal) bytes = (refusal ≡ Device) ⊎ (refusal ≡ OutOfMemory)
