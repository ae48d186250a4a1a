-- How calls on address spaces are checked: first their arguments, then the existing mappings (POSIX.1-2024, mmap,
-- munmap, mprotect).
use Rattle.std.specs.Prelude.{ℕ, ◌&&◌, ◌/◌, Bool, nat_lt, if◌then◌else◌, Option, Some, None, Result, Ok, Err}
use Rattle.std.specs.Int.{div_ceil}
use Rattle.page_entry.specs.declared.refusal.Refusal.{Refusal}
use Rattle.page_entry.specs.declared.refusal.Refusal.TheVariants.{Einval, Enomem, OutOfMemory}
use Rattle.mappings.specs.declared.place.Rights.{Rights}
use Rattle.mappings.specs.declared.page_range.PageRange.{PageRange}
use Rattle.mappings.specs.Places.{any_mapped, all_mapped}
use Rattle.mappings.specs.Judgement.{range_of_bytes, mapped_pages_of, protect_refusal}
use Rattle.spaces.specs.Spaces.{Spaces, has_space, space_at, IsLowestFree}

-- whether a space may map pages: it exists, and it isn't space 0
abbrev pub is_user_space : Spaces → ℕ → Bool
is_user_space spaces pcid = nat_lt 0 pcid && has_space spaces pcid

-- The pages of the `len` bytes from `va` on in a space. `Einval` if there is no such space, `va` isn't a multiple of
-- 4,096, or these pages aren't a user range.
abbrev pub judged_range : Spaces → ℕ → ℕ → ℕ → Result PageRange Refusal
judged_range spaces pcid va len = if is_user_space spaces pcid then range_of_bytes va len else Err Einval

-- The pages to map, and the page of the file at the offset. `Einval` if they can't be mapped.
abbrev pub judged_mapping : Spaces → ℕ → ℕ → ℕ → ℕ → Result (PageRange × ℕ) Refusal
judged_mapping spaces pcid va len offset =
    if is_user_space spaces pcid then mapped_pages_of va len offset else Err Einval

-- the pages, or the refusal if there is one
abbrev pub unless : Option Refusal → PageRange → Result PageRange Refusal
unless None range = Ok range
unless (Some why) range = Err why

-- The pages of a checked range, if their mappings may have these rights. `Enomem` if a page isn't mapped. `Eacces` if a
-- file was opened for reading only.
abbrev pub allowed : Spaces → ℕ → Rights → Result PageRange Refusal → Result PageRange Refusal
allowed spaces pcid rights (Ok range) = unless (protect_refusal (space_at spaces pcid).places range rights) range
allowed spaces pcid rights (Err why) = Err why

-- the pages of the `len` bytes from `va` on in a space, if their mappings may have these rights
abbrev pub judged_protection : Spaces → ℕ → ℕ → ℕ → Rights → Result PageRange Refusal
judged_protection spaces pcid va len rights = allowed spaces pcid rights (judged_range spaces pcid va len)

-- whether at least one page of the range is mapped
abbrev pub maps_some : Spaces → ℕ → PageRange → Bool
maps_some spaces pcid range = any_mapped (space_at spaces pcid).places range.first range.count

-- whether each page of the `len` bytes from `va` on is mapped
abbrev pub maps_each : Spaces → ℕ → ℕ → ℕ → Bool
maps_each spaces pcid va len = all_mapped (space_at spaces pcid).places (va / 4096) (div_ceil len 4096)

-- Why no space is created. `Enomem`: no PCID is free. `OutOfMemory`: a PCID is free, but there is too little memory.
abbrev pub CreateRefused : Spaces → Refusal → Type 0
CreateRefused spaces Enomem = (pcid : ℕ) → IsLowestFree spaces pcid → ⊥
CreateRefused spaces OutOfMemory = (pcid : ℕ) × IsLowestFree spaces pcid
CreateRefused spaces why = ⊥
