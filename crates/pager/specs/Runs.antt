-- What a crash can leave since an earlier state of a pager.
use Rattle.std.specs.Prelude.{ℕ, List, ◌++◌, take}
use Rattle.volume_codec.specs.Files.{File}
use Rattle.history.specs.History.{Event}
use Rattle.history.specs.Reading.{ReadsBack}

-- These bytes read back as the files after a durable prefix of the history, extended with the first `later` events.
pub record ReadsBackAmong (files : List File) (history events : List Event) (c : List ℕ) : Type 0 where
  pub later : ℕ
  pub back : ReadsBack files (history ++ take later events) c
