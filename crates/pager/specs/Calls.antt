-- What the calls of a pager do, and why they are refused.
use Rattle.std.specs.Prelude.{ℕ, ◌≡◌, ◌⊎◌, Ok, Err, ◌+◌, ◌-◌, ◌*◌, ◌/◌, ◌%◌, ◌^◌, ◌==◌, ◌||◌, ◌&&◌, not, nat_lt, nat_le}
use Rattle.std.specs.Prelude.{Bool, true, false, List, [], ◌∷◌, ◌++◌, drop, length, slice_set, slice_index_or}
use Rattle.std.specs.Prelude.{Option, Some, None, is_none, if◌then◌else◌}
use Rattle.std.specs.Option.{option_or}
use Rattle.page_entry.specs.declared.numbers.FilePage.{FilePage}
use Rattle.page_entry.specs.declared.refusal.Refusal.{Refusal}
use Rattle.page_entry.specs.declared.refusal.Refusal.TheVariants as refusals
use Rattle.device.specs.declared.device.Device.{Ghosts}
use Rattle.volume_codec.specs.Layout.{first_home, lengths_blocks}
use Rattle.volume_codec.specs.Lengths.{lengths_text}
use Rattle.volume_codec.specs.Super.{SuperValue, capacities_in, first_home_of, pages_of}
use Rattle.recovery.specs.Opening.{Opens}
use Rattle.journal.specs.Pages.{home_of}
use Rattle.journal.specs.declared.flushed.Flushed.{Flushed}
use Rattle.journal.specs.declared.flushed.Flushed.TheVariants.{Done}
use Rattle.journal.specs.WriteOuts.{begun, is_busy, outs_home, outs_after}
use Rattle.kept_blocks.specs.Blocks.{Blocks, homes_in, with_home, with_zeros, without_run, cut_in, cut_to}
use Rattle.pager.specs.State.{PagerState, file_length, up_to_end, is_full, reserved, kept_bytes, current_in, record_for}

-- Opening a pager over the device is refused for the reason `why`, and leaves the device `after`. Either the opening of
-- its volume is refused, or it succeeds, and then memory is refused.
abbrev pub RefusesPagerOpening : {D : Type 0} → Ghosts D → D → Refusal → D → Type 0
RefusesPagerOpening disk before why after = Opens disk before (Err why) after
    ⊎ ((why ≡ refusals.OutOfMemory) × ((table : SuperValue) × Opens disk before (Ok table) after))

-- this reason if the condition holds, otherwise none
abbrev pub reason_if : Bool → Refusal → Option Refusal
reason_if true why = Some why
reason_if false why = None

-- the first of these reasons
abbrev pub first_reason : List (Option Refusal) → Option Refusal
first_reason [] = None
first_reason (reason ∷ reasons) = option_or reason (first_reason reasons)

-- The reason for refusing a page. `NoFile`: there is no such file. `Einval`: the page begins at the file's end or past
-- it.
abbrev pub page_refusal : List ℕ → FilePage → Option Refusal
page_refusal lengths owner =
    first_reason (reason_if (nat_le (length lengths) owner.file) refusals.NoFile
    ∷ reason_if (nat_le (file_length lengths owner.file) (4096 * owner.page)) refusals.Einval ∷ [])

-- The reason for refusing to put a page: the first that applies. The reasons for refusing the page come first.
-- `Broken`: a device call of a commit failed. `NoFrame`: the next commit has no room for the page.
abbrev pub put_refusal : {D : Type 0} → PagerState D → FilePage → Option Refusal
put_refusal s owner =
    first_reason (page_refusal s.lengths owner
    ∷ reason_if s.write_outs.broken refusals.Broken
    ∷ reason_if (is_full s.table s.most s.staged (home_of s.table owner)) refusals.NoFrame ∷ [])

-- Putting a page is refused for this reason. `OutOfMemory` is possible if there is no other reason.
abbrev pub RefusesPut : {D : Type 0} → PagerState D → FilePage → Refusal → Type 0
RefusesPut s owner refusals.OutOfMemory = put_refusal s owner ≡ None
RefusesPut s owner why = put_refusal s owner ≡ Some why

-- The pager after a page was put. The page has these bytes up to its file's end, and zeros after it.
abbrev pub after_put : {D : Type 0} → PagerState D → FilePage → List ℕ → PagerState D
after_put s owner bytes = record s {
  staged = with_home s.staged (home_of s.table owner) (up_to_end s.lengths owner bytes);
}

-- The reason for refusing a commit. `Broken`: a device call of an earlier commit failed. `Busy`: no further batch may
-- begin, or all numbers of marks are used.
abbrev pub commit_refusal : {D : Type 0} → PagerState D → Option Refusal
commit_refusal s =
    first_reason (reason_if s.write_outs.broken refusals.Broken
    ∷ reason_if (is_busy s.write_outs || nat_le (2 ^ 32 - 1) s.marks) refusals.Busy ∷ [])

-- The pager after a commit of these blocks began, with the next mark. If there are no blocks, no batch begins.
abbrev pub committed_with : {D : Type 0} → PagerState D → Blocks → PagerState D
committed_with s [] = record s { marks = s.marks + 1 }
committed_with s (block ∷ blocks) = record s {
  staged = [];
  write_outs = begun s.write_outs (s.marks + 1) (homes_in (block ∷ blocks));
  records = s.records ++ (block ∷ blocks) ∷ [];
  marks = s.marks + 1;
}

abbrev pub after_commit : {D : Type 0} → PagerState D → PagerState D
after_commit s = committed_with s s.staged

-- the bytes of the record that the next step writes, if it writes one
abbrev pub next_bytes : {D : Type 0} → PagerState D → List ℕ
next_bytes s = record_for s.records (outs_home s.write_outs)

-- the blocks of the write-outs after a step with this answer; those of a finished write-out are dropped
abbrev pub records_after : Flushed → List Blocks → List Blocks
records_after (Done mark) records = drop 1 records
records_after answer records = records

-- the pager after a step with this answer, which leaves the device in this state
abbrev pub after_step : {D : Type 0} → PagerState D → Flushed → D → PagerState D
after_step s answer device = record s {
  write_outs = outs_after s.write_outs answer;
  records = records_after answer s.records;
  device = device;
}

-- the number of device calls that read a page: 1 if the page exists and its bytes aren't kept in memory, otherwise 0
abbrev pub read_calls : {D : Type 0} → PagerState D → FilePage → ℕ
read_calls s owner =
    if is_none (page_refusal s.lengths owner) && is_none (kept_bytes s.staged s.records (home_of s.table owner))
    then 1 else 0

-- ---- lengths

-- the page in which a file of this length ends, or the page that begins at its end
abbrev pub end_page : ℕ → ℕ → FilePage
end_page file end = record { file = file; page = end / 4096 }

-- The put blocks after a file grows. The page in which it ended has the bytes `last`, with zeros from the old end on.
-- Each page after it has only zeros. All these pages are put.
abbrev pub grown : SuperValue → ℕ → ℕ → ℕ → List ℕ → Blocks → Blocks
grown table file from to last staged =
    with_home (with_zeros staged (home_of table (end_page file from) + 1) (pages_of to - (from / 4096 + 1)))
    (home_of table (end_page file from)) (cut_to (from % 4096) last)

-- The put blocks after a file shrinks. Its pages past the new end are no longer put. If the page in which it ends is
-- put, it has zeros from the new end on.
abbrev pub shrunk : SuperValue → ℕ → ℕ → ℕ → Blocks → Blocks
shrunk table file from to staged =
    cut_in (without_run staged (first_home_of table file + pages_of to) (first_home_of table file + pages_of from))
    (home_of table (end_page file to)) (to % 4096)

-- The put blocks after a file's length changes to `to`, if the page in which it ended had the bytes `last`. The block
-- of the lengths is also put.
abbrev pub restaged : SuperValue → List ℕ → ℕ → ℕ → List ℕ → Blocks → Blocks
restaged table lengths file to last staged =
    with_home (if nat_lt (file_length lengths file) to then grown table file (file_length lengths file) to last staged
    else shrunk table file (file_length lengths file) to staged)
    (first_home table.layout table.slots) (lengths_text (slice_set lengths file to))

-- whether the next commit has no room for these blocks
abbrev pub is_overfull : SuperValue → ℕ → Blocks → Bool
is_overfull table most staged =
    nat_lt (most + lengths_blocks table.layout) (length staged + reserved table staged)

-- The reason for refusing a change of a file's length. `Broken`: a device call of a commit failed. `NoFrame`: the next
-- commit would have no room for the blocks that are put then. Their number doesn't depend on the bytes of a page.
abbrev pub new_length_refusal : {D : Type 0} → PagerState D → ℕ → ℕ → Option Refusal
new_length_refusal s file to =
    first_reason (reason_if s.write_outs.broken refusals.Broken
    ∷ reason_if (is_overfull s.table s.most (restaged s.table s.lengths file to [] s.staged)) refusals.NoFrame ∷ [])

-- The reason for refusing to set a file's length: the first that applies. `Einval`: the layout has no block for
-- lengths. `NoFile`: there is no such file. `Einval`: the file's home blocks have no room for this length. The reasons
-- for refusing a change come last, and apply only if the length changes.
abbrev pub set_length_refusal : {D : Type 0} → PagerState D → ℕ → ℕ → Option Refusal
set_length_refusal s file to =
    first_reason (reason_if (lengths_blocks s.table.layout == 0) refusals.Einval
    ∷ reason_if (nat_le (length s.lengths) file) refusals.NoFile
    ∷ reason_if (nat_lt (slice_index_or (capacities_in s.table) file 0) to) refusals.Einval
    ∷ (if to == file_length s.lengths file then None else new_length_refusal s file to) ∷ [])

-- whether the change makes a device call: the file grows, it ended within a page, and this page isn't kept in memory
abbrev pub reads_last : {D : Type 0} → PagerState D → ℕ → ℕ → Bool
reads_last s file to =
    nat_lt (file_length s.lengths file) to && not (file_length s.lengths file % 4096 == 0)
    && is_none (kept_bytes s.staged s.records (home_of s.table (end_page file (file_length s.lengths file))))

-- Setting a length is refused for this reason. `OutOfMemory` is possible if there is no other reason and the length
-- changes. `Device` is possible if there is no other reason and the change makes a device call.
abbrev pub RefusesSetLength : {D : Type 0} → PagerState D → ℕ → ℕ → Refusal → Type 0
RefusesSetLength s file to refusals.OutOfMemory =
    (set_length_refusal s file to ≡ None) × ((to == file_length s.lengths file) ≡ false)
RefusesSetLength s file to refusals.Device = (set_length_refusal s file to ≡ None) × (reads_last s file to ≡ true)
RefusesSetLength s file to why = set_length_refusal s file to ≡ Some why

-- the number of device calls that set a file's length
abbrev pub length_calls : {D : Type 0} → PagerState D → ℕ → ℕ → ℕ
length_calls s file to = if is_none (set_length_refusal s file to) && reads_last s file to then 1 else 0

-- the bytes that callers read from the page in which a file ends, if a read of the disk returns the bytes `disk`
abbrev pub last_page : {D : Type 0} → PagerState D → List ℕ → ℕ → List ℕ
last_page s disk file =
    current_in s.staged s.records disk (home_of s.table (end_page file (file_length s.lengths file)))

-- The pager after a file's length changed to `to`. The page in which the file ended had the bytes `last`.
abbrev pub resized_to : {D : Type 0} → PagerState D → ℕ → ℕ → List ℕ → D → PagerState D
resized_to s file to last device = record s {
  lengths = slice_set s.lengths file to;
  staged = restaged s.table s.lengths file to last s.staged;
  device = device;
}

-- the pager after a file's length is set; nothing changes if the file had this length already
abbrev pub after_length : {D : Type 0} → PagerState D → ℕ → ℕ → List ℕ → D → PagerState D
after_length s file to last device =
    if to == file_length s.lengths file then s else resized_to s file to last device
