-- The effects of the device calls of formatting.
use Rattle.std.specs.Prelude.{◌≡◌, ◌⊎◌, ℕ, ◌+◌, ◌-◌, ◌*◌, ◌/◌, ◌≤◌, Bool, true, false}
use Rattle.std.specs.Prelude.{List, length, Result, OnOk}
use Rattle.device.specs.Device.{written, Torn, TornFrom, Only, LeavesOnly}
use Rattle.device.specs.Did.{Did}
use Rattle.device.specs.Work.{Work}
use Rattle.device.specs.declared.device.Device.{Ghosts}
use Rattle.page_entry.specs.declared.refusal.Refusal.{Refusal}
use Rattle.volume_codec.specs.Layout.{journals_of, lengths_blocks, first_home}
use Rattle.volume_codec.specs.declared.file_spec.FileSpec.{FileSpec}
use Rattle.volume_codec.specs.Super.{SuperValue, block_count}
use Rattle.recovery.specs.Counts.{Rises, RisesWithin, IsAccounted}

-- A device with these bytes has at least this number of blocks. At most 64 files are requested, as a volume can have no
-- more.
pub record HasRoom (blocks : ℕ) (files : List FileSpec) (bytes : List ℕ) : Type 0 where
  pub long : 4096 * blocks ≤ length bytes
  pub few : length files ≤ 64

-- The second of two works was requested only after the first was done.
abbrev pub DidBoth : {D : Type 0} → Ghosts D → D → Work → Work → Bool → D → Type 0
DidBoth {D} disk old first second done new =
    ((done ≡ false) × Did disk old first false new)
    ⊎ ((mid : D) × Did disk old first true mid × Did disk mid second done new)

-- The `n` bytes from offset `at` on were written in pieces, with `asked` device calls. Or one of these calls failed,
-- and no later one was made. All other bytes are as before, also after a crash.
pub record HasOverwritten {D X : Type 0} (disk : Ghosts D) (at n asked : ℕ) (old : D)
    (result : Result X Refusal) (new : D)
    : Type 0 where
  pub torn : disk.is_honest old → Torn at n (disk.seen old) (disk.seen new)
  pub left : (c : List ℕ) → disk.may_leave new c → TornFrom at n (disk.may_leave old) c
  pub time : LeavesOnly disk.moment disk.left_since old new (TornFrom at n (disk.may_leave old))
  pub kept : IsAccounted disk old result new
  pub calls : OnOk result (Rises asked (disk.calls_made old) (disk.calls_made new))
  pub most : RisesWithin asked (disk.calls_made old) (disk.calls_made new)

-- the number of device calls that lay out a volume
abbrev pub laying_calls : SuperValue → ℕ
laying_calls table =
    (block_count table - first_home table.layout table.slots + 7) / 8 + lengths_blocks table.layout
    + journals_of table.layout

-- Earlier writes were synced, and then block 0 was written and synced. Or one of these calls failed, and no later one
-- was made.
pub record HasFinished {D X : Type 0} (disk : Ghosts D) (block : List ℕ) (old : D) (result : Result X Refusal) (new : D)
    : Type 0 where
  pub done : disk.is_honest old → OnOk result (disk.seen new ≡ written (disk.seen old) 0 block)
  pub synced : disk.is_honest old → OnOk result (Only (disk.may_leave new) (disk.seen new))
  pub torn : disk.is_honest old → Torn 0 4096 (disk.seen old) (disk.seen new)
  -- block 0 is torn only after all else is synced
  pub time : disk.is_honest old → LeavesOnly disk.moment disk.left_since old new
      (λ c. disk.may_leave old c ⊎ (disk.may_leave old (disk.seen old) × Torn 0 4096 (disk.seen old) c))
  pub kept : IsAccounted disk old result new
  pub calls : OnOk result (Rises 3 (disk.calls_made old) (disk.calls_made new))
  pub most : RisesWithin 3 (disk.calls_made old) (disk.calls_made new)
