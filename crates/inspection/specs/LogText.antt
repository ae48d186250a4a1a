-- The lines that are printed about a volume with a log.
use Rattle.std.specs.Prelude.{ℕ, zero, suc, ◌+◌, ◌*◌, codes, List, [], ◌∷◌, ◌++◌, length, slice_index}
use Rattle.std.specs.Fmt.{decimal}
use Rattle.volume_codec.specs.Super.{first_home_of, capacities_in}
use Rattle.log_codec.specs.declared.sealing.Sealing.{Sealing}
use Rattle.log_codec.specs.declared.sealing.Sealing.TheVariants.{ByByte, ByDigest}
use Rattle.log_codec.specs.Log.{LogValue}
use Rattle.log_codec.specs.Chain.{chain_blocks}
use Rattle.log_volume.specs.Super.{LogSuperValue, table_of, log_of}
use Rattle.log_recovery.specs.Reading.{chain_of}
use Rattle.volume_reading.specs.declared.logged.LoggedVolume.{LoggedVolume}
use Rattle.inspection.specs.Text.{name_of, file_text}

-- the number of the layout
abbrev pub log_layout : Sealing → ℕ
log_layout ByByte = 5
log_layout (ByDigest key) = 6

abbrev pub log_volume_text : ℕ → ℕ → ℕ → List ℕ
log_volume_text layout ring blocks =
    codes "layout " ++ decimal layout ++ codes ", log of " ++ decimal ring ++ codes " blocks, "
    ++ decimal blocks ++ codes " blocks, " ++ decimal (4096 * blocks) ++ codes " bytes\n"

abbrev pub log_volume_line : LogValue → List ℕ
log_volume_line g = log_volume_text (log_layout g.sealing) g.ring g.blocks

-- The first home block of file `i`. It follows the one in `table_of` by the blocks of the log and one block of lengths.
abbrev pub log_home_of : LogSuperValue → ℕ → ℕ
log_home_of v i = first_home_of (table_of v) i + v.ring + 1

-- file i, whose length is n
abbrev pub log_file_line : LogSuperValue → ℕ → ℕ → List ℕ
log_file_line v i n =
    file_text (name_of (table_of v) i) n (slice_index (capacities_in (table_of v)) i) (log_home_of v i)

-- The files before file `i`. `lengths` are the lengths of all files.
abbrev pub log_file_lines : LogSuperValue → List ℕ → ℕ → List ℕ
log_file_lines v lengths zero = []
log_file_lines v lengths (suc i) = log_file_lines v lengths i ++ log_file_line v i (slice_index lengths i)

-- A log in this epoch, whose `commits` commits use `used` blocks.
abbrev pub log_line : ℕ → ℕ → ℕ → List ℕ
log_line commits used epoch =
    codes "log: " ++ (decimal commits ++ (codes " commits in " ++ (decimal used ++ (codes " blocks, epoch "
    ++ (decimal epoch ++ 10 ∷ [])))))

-- Everything that an inspection finds in a volume with a log.
abbrev pub log_info_text : {Z : Type 0} → LoggedVolume Z → List ℕ
log_info_text found =
    log_volume_line (log_of found.table)
    ++ log_file_lines found.table found.lengths.items (length found.table.files)
    ++ log_line (length found.log.commits.items) (chain_blocks (chain_of found.log.commits.items))
    found.log.start.epoch
