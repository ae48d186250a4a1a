-- What the calls report about an open volume.
use Rattle.std.specs.Prelude.{ℕ, ℤ, pos, ◌≡◌, ◌-◌, ◌*◌, ◌^◌, ◌≤◌, ◌==◌, ◌&&◌, min, nat_le, nat_lt}
use Rattle.std.specs.Prelude.{List, length, slice_get, slice_index, Option, Some, None, unwrap_or, is_some, is_none}
use Rattle.std.specs.Prelude.{Bool, true, MatchBool, if◌then◌else◌}
use Rattle.std.specs.Option.{option_map_or}
use Rattle.std.specs.List.{sum_by}
use Rattle.page_entry.specs.declared.numbers.FilePage.{FilePage}
use Rattle.device.specs.Device.{written}
use Rattle.volume_codec.specs.Layout.{lengths_blocks, first_file_home, journals_of}
use Rattle.volume_codec.specs.Super.{capacities_in, names_in, pages_of}
use Rattle.journal.specs.Pages.{home_of}
use Rattle.kept_blocks.specs.Blocks.{bytes_in}
use Rattle.pager.specs.State.{file_length, reserved}
use Rattle.pager.specs.Calls.{page_refusal}
use Rattle.log_codec.specs.Log.{first_log_file_home}
use Rattle.log_files.specs.State.{log_home_of, pages_put}
use Rattle.famsync_core.specs.Codes.{ok_code, argument_code, none_code, order_code}
use Rattle.famsync_core.specs.Held.{HeldVolume, file_lengths, table_in}
use Rattle.famsync_core.specs.declared.volume.OpenVolume.{OpenVolume}
use Rattle.famsync_core.specs.declared.volume.OpenVolume.TheVariants.{Journals, Log}

-- a value of the open volume, or the code that none is open
abbrev pub told : (OpenVolume → ℤ) → HeldVolume → ℤ
told value held = option_map_or value held.volume order_code

-- a count, as C gets it; and a truth value, as C gets it
abbrev pub count_code : ℕ → ℤ
count_code count = pos (min count (2 ^ 63 - 1))

abbrev pub flag_code : Bool → ℤ
flag_code is = if is then pos 1 else pos 0

-- ---- its files

abbrev pub files_told : OpenVolume → ℤ
files_told v = count_code (length (table_in v).files)

-- The answer is the length of a file in bytes, and the most pages that it can have, which have room for that length. Or
-- there is no such file.
abbrev pub AnswersFile : OpenVolume → (file : ℕ) → ℤ → (size size' pages pages' : ℕ) → Type 0
AnswersFile v file code size size' pages pages' = MatchBool (nat_lt file (length (table_in v).files))
    ((code ≡ ok_code) × (size' ≡ file_length (file_lengths v) file)
    × (pages' ≡ pages_of (slice_index (capacities_in (table_in v)) file)) × (size' ≤ 4096 * pages'))
    ((code ≡ argument_code) × (size' ≡ size) × (pages' ≡ pages))

-- The name is copied to the beginning of the buffer, and its length is answered. The argument is invalid if there is no
-- such name, or no room for it.
abbrev pub CopiesName : Option (List ℕ) → ℤ → (old new : List ℕ) → Type 0
CopiesName (Some name) code old new = MatchBool (nat_le (length name) (length old))
    ((code ≡ count_code (length name)) × (new ≡ written old 0 name))
    ((code ≡ argument_code) × (new ≡ old))
CopiesName None code old new = (code ≡ argument_code) × (new ≡ old)

-- the same for the name of a file
abbrev pub AnswersName : OpenVolume → (file : ℕ) → ℤ → (old new : List ℕ) → Type 0
AnswersName v file code old new = CopiesName (slice_get (names_in (table_in v)) file) code old new

-- ---- its commits

-- the most pages of a commit
abbrev pub frames_told : OpenVolume → ℤ
frames_told (Journals e) = pos e.pager.most
frames_told (Log e) = pos e.files.most

-- the first block of the files
abbrev pub head_told : OpenVolume → ℤ
head_told (Journals e) = pos (first_file_home e.pager.table.layout e.pager.table.slots)
head_told (Log e) = pos (first_log_file_home e.files.table.ring)

-- whether commits share their syncs
abbrev pub shares_told : OpenVolume → ℤ
shares_told (Journals e) = flag_code (journals_of e.pager.table.layout == 4)
shares_told (Log e) = flag_code true

-- the last mark that is acknowledged, or 0
abbrev pub acknowledged_told : OpenVolume → ℤ
acknowledged_told (Journals e) = pos (unwrap_or e.acknowledged 0)
acknowledged_told (Log e) = pos (unwrap_or e.acknowledged 0)

-- the number of pages in the next commit; and whether this page is one of them
abbrev pub staged_told : OpenVolume → ℤ
staged_told (Journals e) = count_code (length e.pager.staged
    - (lengths_blocks e.pager.table.layout - reserved e.pager.table e.pager.staged))
staged_told (Log e) = count_code (pages_put e.files.table e.files.pager.staged)

abbrev pub is_staged_told : FilePage → OpenVolume → ℤ
is_staged_told page (Journals e) = flag_code (is_none (page_refusal e.pager.lengths page)
    && is_some (bytes_in e.pager.staged (home_of e.pager.table page)))
is_staged_told page (Log e) = flag_code (is_none (page_refusal e.files.lengths page)
    && is_some (bytes_in e.files.pager.staged (log_home_of e.files.table page)))

-- The number of pages that commits still have to write home. For a log, the number of its blocks that are in use.
abbrev pub unwritten_told : OpenVolume → ℤ
unwritten_told (Journals e) = count_code (min (2 ^ 64 - 1) (sum_by (λ blocks. length blocks) e.pager.records))
unwritten_told (Log e) = pos e.files.pager.store.tail.used

-- For a volume with a log: the number of the log's blocks, how many of these are in use, and the number of its commits.
abbrev pub AnswersLog : OpenVolume → ℤ → (blocks blocks' used used' commits commits' : ℕ) → Type 0
AnswersLog (Journals e) code blocks blocks' used used' commits commits' =
    (code ≡ none_code) × (blocks' ≡ blocks) × (used' ≡ used) × (commits' ≡ commits)
AnswersLog (Log e) code blocks blocks' used used' commits commits' =
    (code ≡ ok_code) × (blocks' ≡ e.files.table.ring) × (used' ≡ e.files.pager.store.tail.used)
    × (commits' ≡ e.files.pager.store.tail.number - e.files.pager.store.tail.start.number)
