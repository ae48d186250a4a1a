-- An entry of a page table. It is absent, or it maps a frame, and records the right to write and the processor's use of
-- it. See Intel SDM volume 3, "4-Level Paging": the format of an entry that maps a 4 KiB page.
use Rattle.std.specs.Prelude.{ℕ, ◌+◌, ◌*◌, ◌/◌, ◌%◌, ◌^◌, ◌<◌, ◌≡◌, ◌==◌, Bool, true}
use Rattle.std.specs.Prelude.{false, if◌then◌else◌, Option, Some, None, unwrap_or}

-- The fields of a present entry.
pub record Mapped : Type 0 where
  pub frame : ℕ
  pub writable : Bool
  pub accessed : Bool
  pub dirty : Bool

-- the weight of a bit if it is set, otherwise 0
abbrev pub flag_weight : Bool → ℕ → ℕ
flag_weight set weight = if set then weight else 0

-- The bits of an entry: bit 0 present, 1 writable, 2 user, 5 accessed, 6 dirty, 51:12 the frame. Each present entry has
-- the user bit set.
abbrev pub bits_of : Option Mapped → ℕ
bits_of None = 0
bits_of (Some m) =
    1 + flag_weight m.writable 2 + 4 + flag_weight m.accessed 32 + flag_weight m.dirty 64 + m.frame * 4096

-- whether bit k is set
abbrev pub has_bit : ℕ → ℕ → Bool
has_bit n k = n / 2 ^ k % 2 == 1

-- the entry with these bits
abbrev pub entry_of : ℕ → Option Mapped
entry_of n = if has_bit n 0 then Some
    (record { frame = n / 4096; writable = has_bit n 1; accessed = has_bit n 5; dirty = has_bit n 6 }) else None

-- `n` consists of the bits of an entry, and no other bit is set. The frame's number is below 2^32, though the format
-- has 40 bits for it.
pub record IsEntry (n : ℕ) : Type 0 where
  pub named : bits_of (entry_of n) ≡ n
  pub small : n / 4096 < 2 ^ 32

-- whether the entry allows a store; an absent one allows nothing
abbrev pub is_writable : Option Mapped → Bool
is_writable None = false
is_writable (Some m) = m.writable

-- whether a walk used the entry
abbrev pub is_accessed : Option Mapped → Bool
is_accessed None = false
is_accessed (Some m) = m.accessed

-- whether a walk for a store used the entry
abbrev pub is_dirty : Option Mapped → Bool
is_dirty None = false
is_dirty (Some m) = m.dirty

-- the frame that the entry maps; 0 if the entry is absent
abbrev pub frame_of : Option Mapped → ℕ
frame_of None = 0
frame_of (Some m) = m.frame

-- a present entry of frame 0 with all its flags clear
abbrev pub blank : Mapped
blank = record { frame = 0; writable = false; accessed = false; dirty = false }

-- the entry made present (blank if it was absent), or made absent
abbrev pub with_present_of : Option Mapped → Bool → Option Mapped
with_present_of e true = Some (unwrap_or e blank)
with_present_of e false = None

-- the entry with or without the right to write; an absent entry stays absent, here and below
abbrev pub with_writable_of : Option Mapped → Bool → Option Mapped
with_writable_of None b = None
with_writable_of (Some m) b = Some (record m { writable = b })

-- the entry with or without the accessed bit
abbrev pub with_accessed_of : Option Mapped → Bool → Option Mapped
with_accessed_of None b = None
with_accessed_of (Some m) b = Some (record m { accessed = b })

-- the entry with or without the dirty bit
abbrev pub with_dirty_of : Option Mapped → Bool → Option Mapped
with_dirty_of None b = None
with_dirty_of (Some m) b = Some (record m { dirty = b })

-- the entry mapping another frame
abbrev pub with_frame_of : Option Mapped → ℕ → Option Mapped
with_frame_of None f = None
with_frame_of (Some m) f = Some (record m { frame = f })

-- the entry after a checkpoint: neither writable nor dirty
abbrev pub protected_of : Option Mapped → Option Mapped
protected_of None = None
protected_of (Some m) = Some (record m { writable = false; dirty = false })
