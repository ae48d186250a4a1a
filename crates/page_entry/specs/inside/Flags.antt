-- The flags of a present entry: the bit of each flag, its value in an entry, and the entry with the flag set or clear.
use Rattle.std.specs.Prelude.{ℕ, Bool, Option}
use Rattle.page_entry.specs.Entry.{Mapped, is_writable, is_accessed, is_dirty}
use Rattle.page_entry.specs.Entry.{with_writable_of, with_accessed_of, with_dirty_of}
use Rattle.page_entry.specs.declared.entry.EntryFlag.{EntryFlag}
use Rattle.page_entry.specs.declared.entry.EntryFlag.TheVariants.{Writable, Accessed, Dirty}

abbrev pub bit_of : EntryFlag → ℕ
bit_of Writable = 1
bit_of Accessed = 5
bit_of Dirty = 6

abbrev pub flag_of : EntryFlag → Option Mapped → Bool
flag_of Writable e = is_writable e
flag_of Accessed e = is_accessed e
flag_of Dirty e = is_dirty e

abbrev pub with_flag_of : EntryFlag → Option Mapped → Bool → Option Mapped
with_flag_of Writable e b = with_writable_of e b
with_flag_of Accessed e b = with_accessed_of e b
with_flag_of Dirty e b = with_dirty_of e b
