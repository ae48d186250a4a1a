-- What a crash leaves of the device on which a host makes the calls of an embedded volume.
use Rattle.std.specs.Prelude.{ℕ, List, Contains}
use Rattle.deferred_disk.specs.Deferred.{Deferred}
use Rattle.volume_codec.specs.Files.{File}
use Rattle.history.specs.History.{Mark}
use Rattle.pager.specs.State.{PagerState}
use Rattle.pager.specs.Runs.{ReadsBackAmong}
use Rattle.embedded.specs.Embedded.{HasPassedMark}

-- These bytes read back as the files after a durable prefix that contains the mark. It is a durable prefix of the
-- history up to the mark's acknowledgement and some of the later events.
pub record KeepsMark (files : List File) (mark : ℕ) (pager : PagerState Deferred)
    (reached : HasPassedMark files mark pager) (c : List ℕ) : Type 0 where
  pub among : ReadsBackAmong files reached.earlier reached.later c
  pub marked : Contains among.back.prefix (Mark mark)
