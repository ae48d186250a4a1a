-- What a crash leaves of the device on which a host makes the calls of a volume with a log.
use Rattle.std.specs.Prelude.{ℕ, List, Contains}
use Rattle.deferred_disk.specs.Deferred.{Deferred}
use Rattle.volume_codec.specs.Files.{File}
use Rattle.history.specs.History.{Mark}
use Rattle.log_files.specs.State.{LogFilesState}
use Rattle.log_histories.specs.Runs.{ReadsBackAmongLog}
use Rattle.embedded_log.specs.Serving.{HasPassedLogMark}

-- These bytes read back as the files after a durable prefix that contains the mark. It is a durable prefix of the
-- history up to the mark's acknowledgement and some of the later events.
pub record KeepsLogMark (files : List File) (mark : ℕ) (s : LogFilesState Deferred)
    (reached : HasPassedLogMark files mark s) (c : List ℕ) : Type 0 where
  pub among : ReadsBackAmongLog files reached.earlier reached.later c
  pub marked : Contains among.back.prefix (Mark mark)
