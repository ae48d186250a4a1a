-- What a crash may leave: bytes that recover to the files after a durable prefix of a history.
use Rattle.std.specs.Prelude.{ℕ, List}
use Rattle.volume_codec.specs.Files.{File}
use Rattle.volume_codec.specs.Recovery.{RecoversTo}
use Rattle.history.specs.History.{Event, files_after, IsDurablePrefix}

-- `disk` recovers to the files after a durable prefix of the history. Such a prefix is empty or ends with a mark, and
-- contains every acknowledged mark.
pub record ReadsBack (files : List File) (history : List Event) (disk : List ℕ) : Type 0 where
  pub prefix : List Event
  pub durable : IsDurablePrefix prefix history
  pub recovers : RecoversTo disk (files_after files prefix)
