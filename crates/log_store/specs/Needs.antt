-- Blocks that a step or a commit reads, or writes in part.
use Rattle.std.specs.Prelude.{ℕ, ◌+◌, Option, Some, None}
use Rattle.log_codec.specs.declared.sealing.Sealing.{Sealing}
use Rattle.log_codec.specs.declared.sealing.Sealing.TheVariants.{ByByte, ByDigest}
use Rattle.log_codec.specs.Log.{ring_block, log_commit_blocks}
use Rattle.log_commits.specs.Tail.{TailValue}
use Rattle.log_home.specs.declared.index.Newest.{Newest}
use Rattle.log_home.specs.Work.{next_copy}
use Rattle.log_store.specs.declared.stage.HomeStage.{HomeStage}
use Rattle.log_store.specs.declared.stage.HomeStage.TheVariants.{Resting, Copying, Written, Sure}
use Rattle.log_store.specs.Store.{StoreValue}

-- The block of the record that a step copies.
abbrev pub copied_from : Option (ℕ × Newest) → Option ℕ
copied_from None = None
copied_from (Some copy) = Some copy.1.block

-- The block that a step reads or writes in part. It is the block of the record that the step copies. Or it is block 1,
-- if the step selects a start and so writes its first byte.
abbrev pub step_block_by : StoreValue → HomeStage → Option ℕ
step_block_by s Resting = None
step_block_by s Copying = copied_from (next_copy s.work s.entries)
step_block_by s Written = None
step_block_by s Sure = Some 1

abbrev pub step_block : StoreValue → Option ℕ
step_block s = step_block_by s s.stage

-- The two blocks of the log that a commit of this many blocks, at this position, writes in part. If a byte seals
-- commits, they are the commit's first block and the block after it. The commit writes the first block's seal last, and
-- closes the seal of the block after it.
abbrev pub edges_by : Sealing → ℕ → ℕ → ℕ → Option (ℕ × ℕ)
edges_by ByByte ring position blocks = Some (ring_block ring position, ring_block ring (position + blocks))
edges_by (ByDigest key) ring position blocks = None

-- These two blocks for the next commit, with this many records.
abbrev pub commit_edges : TailValue → ℕ → Option (ℕ × ℕ)
commit_edges t records = edges_by t.log.sealing t.log.ring t.position (log_commit_blocks records)
