-- What a crash leaves while a host makes the calls.
use Rattle.std.proofs.Common.{◌≤◌, ℕ, List, take, arith}
use Rattle.std.proofs.lemmas.List.Elements.{Contains-append_left}
use Rattle.deferred_disk.specs.Deferred.{Deferred, as_memory, carried_moment}
use Rattle.device.specs.Memory.{left_since_of}
use Rattle.volume_codec.specs.Files.{File}
use Rattle.history.specs.History.{Acknowledge}
use Rattle.pager.specs.State.{PagerState}
use Rattle.pager.specs.Runs.{ReadsBackAmong}
use Rattle.embedded.specs.Embedded.{HasPassedMark}
use Rattle.embedded.specs.Hosting.{KeepsMark}

-- since an earlier moment
pub sooner : (disk : Deferred) (t : ℕ) (c : List ℕ) → t ≤ carried_moment disk
    → left_since_of (as_memory disk) (carried_moment disk) c → left_since_of (as_memory disk) t c
sooner disk t c le (newer, most, time, left) = (newer, most, omega (arith, le, time), left)

-- a mark that is acknowledged is in each durable prefix
pub kept : (files : List File) (mark : ℕ) (pager : PagerState Deferred) (reached : HasPassedMark files mark pager)
    (c : List ℕ) → ReadsBackAmong files reached.earlier reached.later c → KeepsMark files mark pager reached c
kept files mark pager reached c among = record {
  among = among;
  marked = among.back.durable.acknowledged mark
      (Contains-append_left reached.earlier (take among.later reached.later) (Acknowledge mark) reached.acknowledges);
}
