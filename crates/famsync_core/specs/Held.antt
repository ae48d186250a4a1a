-- What a C program holds of a volume between two calls.
use Rattle.std.specs.Prelude.{ℕ, zero, suc, ◌==◌, ◌^◌, ◌-◌, min, Bool, false, get_or, List, length}
use Rattle.std.specs.Prelude.{Option, Some, None}
use Rattle.std.specs.Option.{option_map, option_map_or, option_or, option_and_then}
use Rattle.page_entry.specs.declared.numbers.FilePage.{FilePage}
use Rattle.device.specs.Memory.{DiskChange}
use Rattle.deferred_disk.specs.Deferred.{Deferred, after_forget, waits_behind, with_waiting}
use Rattle.volume_codec.specs.Super.{SuperValue}
use Rattle.log_volume.specs.Super.{table_of}
use Rattle.log_files.specs.State.{on_device}
use Rattle.embedded.specs.Embedded.{over_device, with_pager, with_call_made}
use Rattle.embedded.specs.Supplying.{is_of_disk, is_free, may_forget, with_supplied}
use Rattle.embedded_log.specs.State.{with_files, with_log_call_made}
use Rattle.embedded_log.specs.Supplying.{may_forget_log}
use Rattle.famsync_core.specs.declared.volume.OpenVolume.{OpenVolume}
use Rattle.famsync_core.specs.declared.volume.OpenVolume.TheVariants.{Journals, Log}

-- the disk of a volume that isn't open yet, or an open volume of either kind
pub record HeldVolume : Type 0 where
  pub disk : Option Deferred
  pub volume : Option OpenVolume

-- the state before the opening, and the state after it
abbrev pub unopened : Deferred → HeldVolume
unopened disk = record { disk = Some disk; volume = None }

abbrev pub holding : OpenVolume → HeldVolume
holding volume = record { disk = None; volume = Some volume }

-- ---- an open volume

-- the volume's table of files, and the files' lengths
abbrev pub table_in : OpenVolume → SuperValue
table_in (Journals e) = e.pager.table
table_in (Log e) = table_of e.files.table

abbrev pub file_lengths : OpenVolume → List ℕ
file_lengths (Journals e) = e.pager.lengths
file_lengths (Log e) = e.files.lengths

-- the volume's disk, and the same volume over another disk
abbrev pub disk_of : OpenVolume → Deferred
disk_of (Journals e) = e.pager.device
disk_of (Log e) = e.files.pager.device

abbrev pub over_disk : OpenVolume → Deferred → OpenVolume
over_disk (Journals e) disk = Journals (with_pager e (over_device e.pager disk))
over_disk (Log e) disk = Log (with_files e (on_device e.files disk))

-- whether the host needn't keep a block
abbrev pub may_lose : OpenVolume → ℕ → Bool
may_lose (Journals e) block = may_forget e.pager block
may_lose (Log e) block = may_forget_log e.files block

-- the disk, and the volume, after the host made the oldest waiting call
abbrev pub without_oldest : Deferred → Deferred
without_oldest disk = with_waiting disk (disk.waiting - 1)

abbrev pub without_oldest_call : OpenVolume → OpenVolume
without_oldest_call (Journals e) = Journals (with_call_made e (without_oldest e.pager.device))
without_oldest_call (Log e) = Log (with_log_call_made e (without_oldest e.files.pager.device))

-- ---- a volume, open or not

-- the disk of the open volume, or of the volume that isn't open yet
abbrev pub disk_in : HeldVolume → Option Deferred
disk_in held = option_or (option_map (λ v. disk_of v) held.volume) held.disk

-- the state after this change of the disk
abbrev pub on_disk : (Deferred → Deferred) → HeldVolume → HeldVolume
on_disk change held = option_map_or
    (λ v. record held { volume = Some (over_disk v (change (disk_of v))) }) held.volume
    (record held { disk = option_map change held.disk })

-- the state after the host supplied this block; the state after a block was forgotten
abbrev pub after_supplied : ℕ → List ℕ → HeldVolume → HeldVolume
after_supplied block bytes held = on_disk (λ disk. with_supplied disk block bytes) held

abbrev pub after_forgotten : ℕ → HeldVolume → HeldVolume
after_forgotten block held = on_disk (λ disk. after_forget disk block) held

-- whether the host needn't keep a block
abbrev pub needs_no : HeldVolume → ℕ → Bool
needs_no held block = option_map_or (λ v. may_lose v block) held.volume
    (option_map_or (λ disk. is_free disk block) held.disk false)

-- the number of waiting calls; and the waiting call after `others` older ones
abbrev pub waiting_in : HeldVolume → ℕ
waiting_in held = option_map_or (λ disk. disk.waiting) (disk_in held) 0

abbrev pub waits_in : ℕ → HeldVolume → Option DiskChange
waits_in others held = option_and_then (λ disk. waits_behind others disk) (disk_in held)

-- the state after the host made the oldest waiting call
abbrev pub after_call_made : HeldVolume → HeldVolume
after_call_made held = option_map_or
    (λ v. record held { volume = Some (without_oldest_call v) }) held.volume
    (record held { disk = option_map without_oldest held.disk })

-- the state after the host made this many of the oldest waiting calls
abbrev pub after_calls_made : ℕ → HeldVolume → HeldVolume
after_calls_made zero held = held
after_calls_made (suc n) held = after_call_made (after_calls_made n held)

-- whether the disk contains a block; and whether the block is known
abbrev pub has_block : HeldVolume → ℕ → Bool
has_block held block = option_map_or (λ disk. is_of_disk disk block) (disk_in held) false

abbrev pub knows : HeldVolume → ℕ → Bool
knows held block = option_map_or (λ disk. get_or disk.known block false) (disk_in held) false

-- The page of a file with these numbers. A number that is too large for its type becomes the largest one, which no
-- volume contains.
abbrev pub page_numbered : ℕ → ℕ → FilePage
page_numbered file page = record { file = min file (2 ^ 16 - 1); page = min page (2 ^ 32 - 1) }

-- whether these bytes have the length of a block
abbrev pub is_block : List ℕ → Bool
is_block bytes = length bytes == 4096
