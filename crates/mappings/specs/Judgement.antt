-- Which pages may be mapped, and why a call is refused (POSIX.1-2024, mmap, munmap, mprotect).
use Rattle.std.specs.Prelude.{ℕ, ◌+◌, ◌/◌, ◌%◌, ◌^◌, Bool, not, ◌&&◌, ◌==◌, nat_le}
use Rattle.std.specs.Prelude.{nat_lt, if◌then◌else◌, Option, Some, None, Result, Ok, Err}
use Rattle.std.specs.Int.{div_ceil}
use Rattle.page_entry.specs.declared.refusal.Refusal.{Refusal}
use Rattle.page_entry.specs.declared.refusal.Refusal.TheVariants.{Einval, Enomem, Eacces, Overlap}
use Rattle.mappings.specs.declared.place.Place.{Place}
use Rattle.mappings.specs.declared.place.Rights.{Rights}
use Rattle.mappings.specs.declared.page_range.PageRange.{PageRange}
use Rattle.mappings.specs.Places.{Places, allows, any_mapped, all_mapped, any_forbids}

-- Rule: rounded length: The length of a range of bytes is rounded up to whole pages.
-- The pages that contain the `len` bytes from address `va` on.
abbrev pub pages_holding : ℕ → ℕ → PageRange
pages_holding va len = record { first = va / 4096; count = div_ceil len 4096 }

-- whether the range has at least one page, and all its addresses are from 4,096 up to 2^47
abbrev pub is_user_range : PageRange → Bool
is_user_range range = nat_lt 0 range.first && nat_lt 0 range.count && nat_le (range.first + range.count) (2 ^ 35)

-- whether the range may be mapped to a file from this page on: it has at most 65,536 pages, and its file pages are
-- below 2^32
abbrev pub is_mappable : PageRange → ℕ → Bool
is_mappable range page = is_user_range range && nat_le range.count 65536 && nat_le (page + range.count) (2 ^ 32)

-- The pages of the `len` bytes from address `va` on. `Einval` if `va` isn't a multiple of 4,096, or these pages aren't
-- a user range.
abbrev pub range_of_bytes : ℕ → ℕ → Result PageRange Refusal
range_of_bytes va len = if va % 4096 == 0
    && is_user_range (pages_holding va len) then Ok (pages_holding va len) else Err Einval

-- The pages of the `len` bytes from address `va` on, and the file page at `offset`. `Einval` if `va` or `offset` isn't
-- a multiple of 4,096, or these pages can't be mapped from this file page on.
abbrev pub mapped_pages_of : ℕ → ℕ → ℕ → Result (PageRange × ℕ) Refusal
mapped_pages_of va len offset =
    if va % 4096 == 0 && offset % 4096 == 0
    && is_mappable (pages_holding va len) (offset / 4096) then Ok (pages_holding va len, offset / 4096)
    else Err Einval

-- why these pages can't be mapped to the file pages from `place` on
abbrev pub add_refusal : Places → PageRange → Place → Option Refusal
add_refusal places range place =
    if not (is_mappable range place.page) then Some Einval
    else (if not (allows place.access place.rights) then Some Eacces
    else (if any_mapped places range.first range.count then Some Overlap else None))

-- why these pages can't be unmapped
abbrev pub remove_refusal : PageRange → Option Refusal
remove_refusal range = if is_user_range range then None else Some Einval

-- why the rights of these pages can't be changed to `rights`
abbrev pub protect_refusal : Places → PageRange → Rights → Option Refusal
protect_refusal places range rights =
    if not (is_user_range range) then Some Einval
    else (if not (all_mapped places range.first range.count) then Some Enomem
    else (if any_forbids places range.first range.count rights then Some Eacces else None))

-- the result of a call that fails for this reason, or succeeds if there is none
abbrev pub answer_unless : Option Refusal → Result (Unit {0}) Refusal
answer_unless None = Ok tt
answer_unless (Some why) = Err why
