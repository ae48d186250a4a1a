-- Whether a log that was found has commits.
use Rattle.std.proofs.Common.{◌≡◌, ◌<◌, ℕ, List, [], ◌∷◌, length, arith}
use Rattle.log_codec.specs.declared.start.LogStart.{LogStart}
use Rattle.log_codec.specs.Log.{LogValue}
use Rattle.log_codec.specs.Commit.{LogDescriptor}
use Rattle.log_codec.specs.Chain.{HasLog}
use Rattle.log_volume.specs.Super.{log_of}
use Rattle.log_recovery.specs.declared.found.FoundCommit.{FoundCommit}
use Rattle.log_recovery.specs.Reading.{logged_of, chain_of}
use Rattle.volume_reading.specs.declared.logged.LoggedVolume.{LoggedVolume}
use Rattle.volume_reading.specs.Logged.{IsLoggedVolume, logged_files}
use Rattle.inspection.specs.LogHealth.{HoldsLog}

module _ {Z : Type 0} where
  no_commit : (g : LogValue) (s : LogStart) (cs : List (FoundCommit Z)) (bytes : List ℕ) → length cs ≡ 0
      → HasLog g s (chain_of cs) bytes → HasLog g s [] bytes
  no_commit g s [] bytes none log = log
  no_commit g s (c ∷ cs) bytes none log = absurd (omega (arith, none))

  some_commit : (g : LogValue) (s : LogStart) (cs : List (FoundCommit Z)) (bytes : List ℕ) → 0 < length cs
      → HasLog g s (chain_of cs) bytes
      → (oldest : LogDescriptor) × (later : List LogDescriptor) × HasLog g s (oldest ∷ later) bytes
  some_commit g s [] bytes some log = absurd (omega (arith, some))
  some_commit g s (c ∷ cs) bytes some log = (logged_of c, chain_of cs, log)

  pub clean_log : (bytes : List ℕ) (found : LoggedVolume Z) → IsLoggedVolume bytes found
      → length found.log.commits.items ≡ 0 → HoldsLog bytes []
  clean_log bytes found is none = record {
    table = found.table;
    super_block = is.super_block;
    start = found.log.start;
    log = no_commit (log_of found.table) found.log.start found.log.commits.items bytes none is.log.log;
    files = logged_files found bytes;
    recovers = is.recovers;
  }

  pub unclean_log : (bytes : List ℕ) (found : LoggedVolume Z) → IsLoggedVolume bytes found
      → 0 < length found.log.commits.items
      → (oldest : LogDescriptor) × (later : List LogDescriptor) × HoldsLog bytes (oldest ∷ later)
  unclean_log bytes found is some =
      let log = some_commit (log_of found.table) found.log.start found.log.commits.items bytes some is.log.log in (
        log.0,
        log.1,
        record {
          table = found.table;
          super_block = is.super_block;
          start = found.log.start;
          log = log.2;
          files = logged_files found bytes;
          recovers = is.recovers;
        },
      )
