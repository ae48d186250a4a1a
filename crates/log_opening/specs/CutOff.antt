-- Openings that crashes interrupt, one after another.
use Rattle.std.specs.Prelude.{ℕ, zero, suc, List}
use Rattle.device.specs.declared.device.Device.{Ghosts}
use Rattle.device.specs.Device.{LeavesOnly, Only}
use Rattle.log_codec.specs.Log.{LogValue}
use Rattle.log_codec.specs.Chain.{LogRecovers}
use Rattle.log_opening.specs.Opening.{LeftByLogOpening}

-- A device after a crash that left one of these lists. It reads as that list, and a further crash leaves nothing else.
pub record StartsAgain {D : Type 0} (disk : Ghosts D) (lists : List ℕ → Type 0) (device : D) : Type 0 where
  pub left : lists (disk.seen device)
  pub only : Only (disk.may_leave device) (disk.seen device)
  pub honest : disk.is_honest device

-- The device after a crash on `first` and this many further openings, each interrupted by a crash.
abbrev pub IsCutOff : {D : Type 0} → Ghosts D → LogValue → ℕ → D → D → Type 0
IsCutOff disk g zero first device = StartsAgain disk (disk.may_leave first) device
IsCutOff {D} disk g (suc n) first device = (before : D) × (after : D) × IsCutOff disk g n first before
    × LeavesOnly disk.moment disk.left_since before after (LeftByLogOpening disk g before)
    × StartsAgain disk (disk.left_since after (disk.moment before)) device

-- Each of these lists recovers to these contents.
abbrev pub AllRecoverTo : LogValue → (ℕ → List ℕ) → (List ℕ → Type 0) → Type 0
AllRecoverTo g contents lists = (c : List ℕ) → lists c → LogRecovers g contents c
