-- Blocks that must be known before a step or a commit, so that none of its device calls fails for lack of a block.
use Rattle.std.specs.Prelude.{ℕ, Bool, false, get_or, if◌then◌else◌, List, Option, Some, None}
use Rattle.deferred_disk.specs.Deferred.{Deferred, or_else}
use Rattle.log_store.specs.Needs.{step_block}
use Rattle.log_files.specs.State.{LogFilesState}
use Rattle.log_files.specs.Needs.{put_edges}

-- this block, if it isn't known
abbrev pub if_lacking : List Bool → Option ℕ → Option ℕ
if_lacking known None = None
if_lacking known (Some block) = if get_or known block false then None else Some block

-- the first of two blocks that isn't known
abbrev pub first_lacking : List Bool → Option (ℕ × ℕ) → Option ℕ
first_lacking known None = None
first_lacking known (Some blocks) = or_else (if_lacking known (Some blocks.0)) (if_lacking known (Some blocks.1))

-- The block that the next step needs and that isn't known. After a failed device call, no block is needed.
abbrev pub lacked_by_step : LogFilesState Deferred → Option ℕ
lacked_by_step s =
    if s.pager.store.tail.spent then None else if_lacking s.pager.device.known (step_block s.pager.store)

-- The first block that the next commit needs and that isn't known. After a failed device call, no block is needed.
abbrev pub lacked_by_commit : LogFilesState Deferred → Option ℕ
lacked_by_commit s =
    if s.pager.store.tail.spent then None
    else first_lacking s.pager.device.known (put_edges s.pager.store.tail s.pager.staged)
