-- What an inspection finds in a volume with a log, as JSON. The members of an object are sorted by name.
use Rattle.std.specs.Prelude.{ℕ, zero, suc, ◌*◌, codes, List, [], ◌∷◌, ◌++◌, length, slice_index}
use Rattle.serde_json.specs.Data.{Data, object, member, no_members}
use Rattle.volume_codec.specs.Super.{capacities_in, pages_of}
use Rattle.log_codec.specs.Log.{LogValue}
use Rattle.log_codec.specs.Chain.{chain_blocks}
use Rattle.log_volume.specs.Super.{LogSuperValue, table_of, log_of}
use Rattle.log_recovery.specs.Reading.{chain_of}
use Rattle.volume_reading.specs.declared.logged.LoggedVolume.{LoggedVolume}
use Rattle.inspection.specs.Text.{name_of}
use Rattle.inspection.specs.Json.{num, list, file_members}
use Rattle.inspection.specs.LogText.{log_layout, log_home_of}

-- file i, whose length is n
abbrev pub log_file_data : LogSuperValue → ℕ → ℕ → Data
log_file_data v i n = file_members (name_of (table_of v) i) n (slice_index (capacities_in (table_of v)) i)
    (pages_of (slice_index (capacities_in (table_of v)) i)) (log_home_of v i)

-- The files before file `i`. `lengths` are the lengths of all files.
abbrev pub log_files_data : LogSuperValue → List ℕ → ℕ → List Data
log_files_data v lengths zero = []
log_files_data v lengths (suc i) = log_files_data v lengths i ++ log_file_data v i (slice_index lengths i) ∷ []

-- A log of `ring` blocks in this epoch. Its `commits` commits use `used` blocks.
abbrev pub log_data : ℕ → ℕ → ℕ → ℕ → Data
log_data ring commits used epoch =
    object (member (codes "blocks") (num ring)
    (member (codes "commits") (num commits)
    (member (codes "epoch") (num epoch)
    (member (codes "used") (num used) no_members))))

-- a volume with these files and this log
abbrev pub log_volume_data : ℕ → ℕ → Data → Data → Data
log_volume_data layout blocks files log =
    object (member (codes "blocks") (num blocks)
    (member (codes "bytes") (num (4096 * blocks))
    (member (codes "files") files
    (member (codes "layout") (num layout)
    (member (codes "log") log no_members)))))

abbrev pub log_value_data : LogValue → Data → Data → Data
log_value_data g files log = log_volume_data (log_layout g.sealing) g.blocks files log

-- Everything that an inspection finds in a volume with a log.
abbrev pub log_info_data : {Z : Type 0} → LoggedVolume Z → Data
log_info_data found = log_value_data (log_of found.table)
    (list (log_files_data found.table found.lengths.items (length found.table.files)))
    (log_data found.table.ring (length found.log.commits.items)
    (chain_blocks (chain_of found.log.commits.items)) found.log.start.epoch)
