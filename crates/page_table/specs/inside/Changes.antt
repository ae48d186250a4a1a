-- How a change affects the entries of a range.
use Rattle.std.specs.Prelude.{ℕ, ◌≡◌, false, if◌then◌else◌, Option, Some, None}
use Rattle.std.specs.Ordering.{nat_cmp}
use Rattle.std.specs.FinMap as maps
use Rattle.page_entry.specs.Entry.{Mapped, entry_of, bits_of, with_writable_of}
use Rattle.page_table.specs.Table.{TableState, in_range, protected_if}
use Rattle.page_table.specs.declared.change.Change.{Change}
use Rattle.page_table.specs.declared.change.Change.TheVariants.{Clear, MakeReadOnly, Protect}

-- the entry after a change
abbrev pub changed_by : Change → Option Mapped → Option Mapped
changed_by Clear entry = None
changed_by MakeReadOnly entry = with_writable_of entry false
changed_by (Protect marked) None = None
changed_by (Protect marked) (Some entry) = Some (protected_if marked.now entry)

-- the entry's bits after a change
abbrev pub changed_bits : Change → ℕ → ℕ
changed_bits change bits = bits_of (changed_by change (entry_of bits))

-- The new table differs from the old one only in its entries. They are equal to any map with these entries: in the
-- range, the old entries after the change; elsewhere, the old entries.
abbrev pub ChangesRange : Change → ℕ → ℕ → TableState → TableState → Type 0
ChangesRange change start end old new = (entries : maps.FinMap nat_cmp Mapped)
    → ((page : ℕ) → maps.get entries page
    ≡ (if in_range start end page then changed_by change (maps.get old.entries page) else maps.get old.entries page))
    → new ≡ record old { entries = entries }
