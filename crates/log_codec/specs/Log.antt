-- Where the parts of a volume with a log lie. Block 0 is the super block. Block 1 selects one of two starts, which are
-- blocks 2 and 3. The log follows, a ring of blocks, then the lengths block, then the home blocks of files.
use Rattle.std.specs.Prelude.{ℕ, ◌+◌, ◌*◌, ◌/◌, ◌%◌, ◌<◌, ◌≤◌, ◌^◌, List}
use Rattle.volume_codec.specs.Layout.{block_at}
use Rattle.volume_codec.specs.Recovery.{blocks_from}
use Rattle.log_codec.specs.declared.sealing.Sealing.{Sealing}

-- The parts of a volume with a log: how its commits are sealed, the number of the log's blocks, and the number of all
-- blocks.
pub record LogValue : Type 0 where
  pub sealing : Sealing
  pub ring : ℕ
  pub blocks : ℕ

-- The first home block, behind a log of `ring` blocks. It contains the lengths of the files.
abbrev pub first_log_home : ℕ → ℕ
first_log_home ring = 4 + ring

-- the first home block of the files
abbrev pub first_log_file_home : ℕ → ℕ
first_log_file_home ring = 5 + ring

-- The rules of a volume with a log: the log has 4 to 2^24 blocks, the volume has at least one home block of a file, and
-- it has fewer than 2^32 blocks.
pub record IsLog (g : LogValue) : Type 0 where
  pub some_ring : 4 ≤ g.ring
  pub few_ring : g.ring ≤ 2 ^ 24
  pub some_homes : first_log_file_home g.ring < g.blocks
  pub few_blocks : g.blocks < 2 ^ 32

-- The block at a position of the log. Positions wrap around.
abbrev pub ring_block : ℕ → ℕ → ℕ
ring_block ring p = 4 + p % ring

-- The bytes of `n` blocks from position `p` of the log, around the ring.
abbrev pub ring_bytes : ℕ → List ℕ → ℕ → ℕ → List ℕ
ring_bytes ring bytes p n = blocks_from (λ i. block_at bytes (ring_block ring i)) p n

-- The number of descriptor blocks of a commit with this number of records. A descriptor has 32 bytes, and 4 more for
-- each record.
abbrev pub log_descriptor_blocks : ℕ → ℕ
log_descriptor_blocks records = (4 * records + 4127) / 4096

-- the number of blocks of such a commit: its descriptor and its records
abbrev pub log_commit_blocks : ℕ → ℕ
log_commit_blocks records = log_descriptor_blocks records + records

-- A commit may have this number of records: 1 to 65,535, and the log has at least one block more than the commit.
pub record IsCommitSize (ring records : ℕ) : Type 0 where
  pub some : 0 < records
  pub few : records ≤ 65535
  pub room : log_commit_blocks records + 1 ≤ ring
