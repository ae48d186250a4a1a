-- Blocks of a volume with a log that a host needn't keep.
use Rattle.std.specs.Prelude.{ℕ, nat_le, Bool, not, ◌==◌, ◌&&◌}
use Rattle.deferred_disk.specs.Deferred.{Deferred}
use Rattle.log_codec.specs.Log.{first_log_home}
use Rattle.log_files.specs.State.{LogFilesState}
use Rattle.embedded.specs.Supplying.{is_free}

-- whether the block belongs to the log or to a file, and no waiting call writes to it
abbrev pub may_forget_log : LogFilesState Deferred → ℕ → Bool
may_forget_log s block =
    nat_le 4 block && not (block == first_log_home s.table.ring) && is_free s.pager.device block
