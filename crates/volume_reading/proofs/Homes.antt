-- The home blocks of a file.
use Rattle.std.proofs.Common.{ℕ, ◌+◌, ◌<◌, length, take, slice_index, arith}
use Rattle.volume_codec.specs.Super.{pages_of, total_pages, capacities_in}
use Rattle.volume_codec.proofs.Public.{total_pages-take_more, total_pages-take_le}
use Rattle.log_volume.specs.Super.{LogSuperValue, table_of}

-- a page of a file lies before the end of all files
pub page_below : (v : LogSuperValue) (file page : ℕ) → file < length v.files
    → page < pages_of (slice_index (capacities_in (table_of v)) file)
    → total_pages (take file v.files) + page < total_pages v.files
page_below v file page there within =
    omega (arith, within, total_pages-take_more v.files file there, total_pages-take_le v.files (file + 1))
