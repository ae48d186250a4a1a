-- What is assumed about bytes that a crash left, if a digest seals commits.
use Rattle.std.specs.Prelude.{⊤, ◌≡◌, ℕ, ◌≤◌, List, [], ◌∷◌, ◌++◌, length}
use Rattle.log_codec.specs.declared.sealing.Sealing.{Sealing}
use Rattle.log_codec.specs.declared.sealing.Sealing.TheVariants.{ByByte, ByDigest}
use Rattle.log_codec.specs.declared.start.LogStart.{LogStart}
use Rattle.log_codec.specs.Log.{LogValue, ring_bytes}
use Rattle.log_codec.specs.Start.{HasLogStart}
use Rattle.log_codec.specs.Commit.{LogDescriptor}
use Rattle.log_codec.specs.Chain.{records_position, chain_end}
use Rattle.log_commits.specs.Tail.{AreRead}

-- Each commit that can be read from these bytes, with this number or a later one, was made.
abbrev pub ReadsMade : (LogDescriptor → List ℕ → Type 0) → LogValue → ℕ → List ℕ → Type 0
ReadsMade Made g number bytes =
    (s : LogStart) (ds : List LogDescriptor) (d : LogDescriptor) → HasLogStart g.ring s bytes
    → AreRead g s.epoch s.position s.number g.ring (ds ++ d ∷ []) bytes → number ≤ d.number
    → Made d (ring_bytes g.ring bytes (records_position (chain_end s.position ds) d) (length d.homes))

-- The premise on bytes that a crash leaves: no torn commit has the digest of a whole one. So each commit that can be
-- read was made. If a byte seals, there is no premise.
abbrev pub TellsTornBy : Sealing → (LogDescriptor → List ℕ → Type 0) → LogValue → ℕ → List ℕ → Type 0
TellsTornBy ByByte Made g number bytes = ⊤
TellsTornBy (ByDigest key) Made g number bytes = ReadsMade Made g number bytes

abbrev pub TellsTorn : (LogDescriptor → List ℕ → Type 0) → LogValue → ℕ → List ℕ → Type 0
TellsTorn Made g number bytes = TellsTornBy g.sealing Made g number bytes

-- The commits that were made: this one with these records, or none.
abbrev pub IsThis : LogDescriptor → List ℕ → LogDescriptor → List ℕ → Type 0
IsThis this records d others = (d ≡ this) × (others ≡ records)

abbrev pub IsNone : LogDescriptor → List ℕ → Type 0
IsNone d records = ⊥
