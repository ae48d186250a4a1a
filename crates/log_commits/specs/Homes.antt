-- The home blocks of a log's commits, and the start behind some of these commits.
use Rattle.std.specs.Prelude.{◌≡◌, ◌⊎◌, ℕ, ◌+◌, ◌-◌, ◌*◌, ◌%◌, List, [], ◌∷◌, length, take, drop}
use Rattle.std.specs.List.{Contains}
use Rattle.volume_codec.specs.Layout.{block_at}
use Rattle.log_codec.specs.declared.start.LogStart.{LogStart}
use Rattle.log_codec.specs.Log.{LogValue, first_log_home}
use Rattle.log_codec.specs.Start.{HasLogStart}
use Rattle.log_codec.specs.Commit.{LogDescriptor}
use Rattle.log_codec.specs.Chain.{IsLogHome, chain_end, chain_blocks}
use Rattle.log_commits.specs.Tail.{TailValue}

-- One of these commits has a record of home block `b`.
abbrev pub IsLoggedHome : List LogDescriptor → ℕ → Type 0
IsLoggedHome [] b = ⊥
IsLoggedHome (d ∷ ds) b = Contains d.homes b ⊎ IsLoggedHome ds b

-- `new` is `old`, except in home blocks of these commits.
pub record DiffersInHomes (g : LogValue) (chain : List LogDescriptor) (old new : List ℕ) : Type 0 where
  pub same_length : length new ≡ length old
  pub low : take (4096 * first_log_home g.ring) new ≡ take (4096 * first_log_home g.ring) old
  pub homes : (b : ℕ) → IsLogHome g b → (block_at new b ≡ block_at old b) ⊎ IsLoggedHome chain b

-- The start behind these commits.
abbrev pub start_behind_of : LogValue → LogStart → List LogDescriptor → LogStart
start_behind_of g s ds = record {
  position = chain_end s.position ds % g.ring;
  number = s.number + length ds;
  epoch = s.epoch;
}

-- The tail of the log from that start on.
abbrev pub tail_from : TailValue → List LogDescriptor → TailValue
tail_from t ds = record t { start = start_behind_of t.log t.start ds; used = t.used - chain_blocks ds }

-- Each home block of the commits `ds` contains its recovered bytes, or a younger commit has a record of it.
abbrev pub AreWrittenHome : LogValue → (ℕ → List ℕ) → List LogDescriptor → List LogDescriptor → List ℕ → Type 0
AreWrittenHome g contents ds younger bytes =
    (b : ℕ) → IsLogHome g b → IsLoggedHome ds b → IsLoggedHome younger b ⊎ (block_at bytes b ≡ contents b)

-- When a start behind some commits may be selected: only blocks 0 to 3 changed, this start is selected in the new
-- bytes, and the home blocks of these commits are written.
pub record MayStartBehind (t : TailValue) (contents : ℕ → List ℕ) (ds younger : List LogDescriptor)
    (old new : List ℕ) : Type 0 where
  pub same_length : length new ≡ length old
  pub same_behind : drop 16384 new ≡ drop 16384 old
  pub start : HasLogStart t.log.ring (start_behind_of t.log t.start ds) new
  pub written : AreWrittenHome t.log contents ds younger old
