-- Which layouts a volume may be migrated to, and which have a log.
use Rattle.std.specs.Prelude.{ℕ, ◌≡◌, ◌⊎◌, ◌<◌, ◌≤◌, List, codes, length, take}
use Rattle.volume_codec.specs.Layout.{number_of, lengths_blocks, block_at}
use Rattle.volume_codec.specs.declared.layout.Layout.{Layout}

-- A volume in the layout `old` may be migrated to the layout with this number. Files may grow in the new layout, and
-- its number isn't lower.
abbrev pub MayMigrate : Layout → ℕ → Type 0
MayMigrate old number = (new : Layout) × (number_of new ≡ number) × (0 < lengths_blocks new) × (number_of old ≤ number)

-- The first block begins with the magic of a layout with a log.
abbrev pub HasLogMagic : List ℕ → Type 0
HasLogMagic bytes = (4096 ≤ length bytes)
    × ((take 8 (block_at bytes 0) ≡ codes "FAMSYNC5") ⊎ (take 8 (block_at bytes 0) ≡ codes "FAMSYNC6"))
