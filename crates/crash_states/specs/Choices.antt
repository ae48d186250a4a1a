-- What a crash leaves in each choice. Of each block written since the last sync it leaves all, half or none of the
-- written bytes, or one byte everywhere.
use Rattle.std.specs.Prelude.{ℕ, zero, suc, ◌+◌, ◌-◌, ◌*◌, ◌/◌, ◌%◌, ◌^◌, ◌==◌, nat_le, nat_lt, min, ◌&&◌}
use Rattle.std.specs.Prelude.{if◌then◌else◌, Bool, List, [], ◌∷◌, ◌++◌, length}
use Rattle.std.specs.Prelude.{take, drop, replicate, slice_get, slice_index, Option, Some, None}
use Rattle.std.specs.List.{list_any}
use Rattle.device.specs.Device.{written}
use Rattle.crash_states.specs.declared.call.CallKind.{CallKind}
use Rattle.crash_states.specs.declared.call.CallKind.TheVariants.{Read, Write, Sync}
use Rattle.crash_states.specs.declared.choice.Choice.{Choice}
use Rattle.crash_states.specs.declared.choice.Choice.TheVariants.{Old, New, Fill, Halves, Mixture, OneNew, OneOld}
use Rattle.crash_states.specs.Calls.{DeviceCall}

-- the bytes of a disk at the last sync, the bytes that a read returns, and each block written since, once
pub record Content : Type 0 where
  pub synced : List ℕ
  pub seen : List ℕ
  pub unsynced : List ℕ

abbrev pub all_synced : List ℕ → Content
all_synced bytes = record { synced = bytes; seen = bytes; unsynced = [] }

-- the blocks, and one more unless it is among them
abbrev pub with_block : List ℕ → ℕ → List ℕ
with_block blocks b = if list_any (λ block. block == b) blocks then blocks else blocks ++ b ∷ []

-- the blocks, and n more from block `first` on
abbrev pub with_blocks : List ℕ → ℕ → ℕ → List ℕ
with_blocks blocks first zero = blocks
with_blocks blocks first (suc n) = with_block (with_blocks blocks first n) (first + n)

-- the number of blocks that `len` bytes from an offset on touch, for at least one byte
abbrev pub blocks_touched : ℕ → ℕ → ℕ
blocks_touched at len = (at + len - 1) / 4096 + 1 - at / 4096

-- the content after a write began
abbrev pub begun_write : Content → ℕ → List ℕ → Content
begun_write content at [] = content
begun_write content at (byte ∷ bytes) = record content {
  seen = written content.seen at (byte ∷ bytes);
  unsynced = with_blocks content.unsynced (at / 4096) (blocks_touched at (length (byte ∷ bytes)));
}

-- the content after a call of this kind began
abbrev pub begun_as : CallKind → Content → DeviceCall → Content
begun_as Read content call = content
begun_as Write content call = begun_write content call.at call.written
begun_as Sync content call = content

-- the content after a call of this kind succeeded
abbrev pub ended_as : CallKind → Content → Content
ended_as Read content = content
ended_as Write content = content
ended_as Sync content = all_synced content.seen

-- the same for an optional call
abbrev pub call_begun : Content → Option DeviceCall → Content
call_begun content None = content
call_begun content (Some call) = begun_as call.kind content call

abbrev pub call_ended : Content → Option DeviceCall → Content
call_ended content None = content
call_ended content (Some call) = ended_as call.kind content

-- the content before the call of this index, counted from 0, and within that call
abbrev pub content_before : List ℕ → List DeviceCall → ℕ → Content
content_before image calls zero = all_synced image
content_before image calls (suc i) =
    call_ended (call_begun (content_before image calls i) (slice_get calls i)) (slice_get calls i)

abbrev pub content_within : List ℕ → List DeviceCall → ℕ → Content
content_within image calls i = call_begun (content_before image calls i) (slice_get calls i)

-- whether this bit of a number of 64 bits is set
abbrev pub has_bit : ℕ → ℕ → Bool
has_bit bits i = nat_lt i 64 && (bits / 2 ^ i % 2 == 1)

-- the number of bytes of the unsynced block of index i that a crash leaves as they were written
abbrev pub new_bytes : Choice → ℕ → ℕ
new_bytes Old i = 0
new_bytes New i = 4096
new_bytes (Fill byte) i = 0
new_bytes Halves i = 2048
new_bytes (Mixture bits) i = if has_bit bits i then 4096 else 0
new_bytes (OneNew block) i = if i == block then 4096 else 0
new_bytes (OneOld block) i = if i == block then 0 else 4096

-- bytes, in which n places from `at` on have the bytes of `others`, if `others` is long enough
abbrev pub with_copied : List ℕ → List ℕ → ℕ → ℕ → List ℕ
with_copied bytes others at n = take at bytes ++ take n (drop at others) ++ drop (at + n) bytes

-- the synced bytes, with the first n unsynced blocks as the choice leaves them
abbrev pub left_of_blocks : Choice → Content → ℕ → List ℕ
left_of_blocks choice content zero = content.synced
left_of_blocks choice content (suc n) =
    with_copied (left_of_blocks choice content n) content.seen (4096 * slice_index content.unsynced n)
    (new_bytes choice n)

-- The bytes that a choice names. A crash leaves these bytes in each place that was written since the last sync, and the
-- old bytes in all other places.
abbrev pub left_by : Choice → Content → List ℕ
left_by (Fill byte) content = replicate (length content.synced) byte
left_by choice content = left_of_blocks choice content (length content.unsynced)

-- ---- the choices that are tried for a crash

-- The first n mixtures of blocks. For each of the first n blocks: only this block is new, and only this block is old.
abbrev pub first_mixtures : ℕ → List Choice
first_mixtures zero = []
first_mixtures (suc n) = first_mixtures n ++ Mixture (n + 1) ∷ []

abbrev pub first_ones : ℕ → List Choice
first_ones zero = []
first_ones (suc n) = first_ones n ++ OneNew n ∷ OneOld n ∷ []

-- For at most 4 blocks: each mixture of old and new blocks. For more: the first 15 blocks, one by one.
abbrev pub mixtures_of : ℕ → List Choice
mixtures_of blocks = if nat_le blocks 4 then first_mixtures (2 ^ blocks - 2) else first_ones (min blocks 15)

-- If no block is unsynced, there is one choice. Otherwise there are all old, all new, three bytes everywhere, the
-- halves, and mixtures.
abbrev pub choices_of : ℕ → List Choice
choices_of zero = Old ∷ []
choices_of (suc blocks) =
    Old ∷ New ∷ Fill 0x00 ∷ Fill 0xA7 ∷ Fill 0xFF ∷ Halves ∷ mixtures_of (suc blocks)
