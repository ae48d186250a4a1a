-- The end of a log, as a session knows it, and what it means for the bytes of the volume.
use Rattle.std.specs.Prelude.{⊤, ◌≡◌, ◌≢◌, ℕ, ◌+◌, ◌-◌, ◌*◌, ◌%◌, ◌<◌, ◌≤◌, Bool, List, [], ◌∷◌, length, slice_index}
use Rattle.volume_codec.specs.Layout.{block_at}
use Rattle.log_codec.specs.declared.sealing.Sealing.{Sealing}
use Rattle.log_codec.specs.declared.sealing.Sealing.TheVariants.{ByByte, ByDigest}
use Rattle.log_codec.specs.declared.start.LogStart.{LogStart}
use Rattle.log_codec.specs.Log.{LogValue, IsLog, ring_block, log_commit_blocks}
use Rattle.log_codec.specs.Start.{HasLogStart}
use Rattle.log_codec.specs.Commit.{LogDescriptor}
use Rattle.log_codec.specs.Chain.{IsNextCommit, IsLogHome, position_after, chain_end, chain_blocks, contents_of_log}

-- The log, the selected start, the position and the number of the next commit, the number of blocks in use, and whether
-- a device call has failed.
pub record TailValue : Type 0 where
  pub log : LogValue
  pub start : LogStart
  pub position : ℕ
  pub number : ℕ
  pub used : ℕ
  pub spent : Bool

-- The rules of a tail.
pub record IsTail (t : TailValue) : Type 0 where
  pub log : IsLog t.log
  pub within : t.position < t.log.ring
  pub room : t.used ≤ t.log.ring

-- the tail of a log without commits
abbrev pub tail_at : LogValue → LogStart → Bool → TailValue
tail_at log start spent = record {
  log = log;
  start = start;
  position = (start.position + 0) % log.ring;
  number = start.number;
  used = 0;
  spent = spent;
}

-- These commits can be read from position `p` on, in order, each with the next number. More may follow.
abbrev pub AreRead : LogValue → ℕ → ℕ → ℕ → ℕ → List LogDescriptor → List ℕ → Type 0
AreRead g epoch p number left [] bytes = ⊤
AreRead g epoch p number left (d ∷ ds) bytes =
    IsNextCommit g epoch p number left d bytes
    × AreRead g epoch (position_after p d) (number + 1) (left - log_commit_blocks (length d.homes)) ds bytes

-- `bytes` contain a log with this start, whose first commits are `chain`. More may follow.
pub record BeginsLog (g : LogValue) (s : LogStart) (chain : List LogDescriptor) (bytes : List ℕ) : Type 0 where
  pub long : 4096 * g.blocks ≤ length bytes
  pub start : HasLogStart g.ring s bytes
  pub commits : AreRead g s.epoch s.position s.number g.ring chain bytes

-- The next commit may be written at position `p`. If a byte seals, the seal there is closed. If a digest seals, any
-- bytes may be there.
abbrev pub MayGoOn : Sealing → ℕ → ℕ → List ℕ → Type 0
MayGoOn ByByte ring p bytes = slice_index (block_at bytes (ring_block ring p)) 0 ≢ 0xA7
MayGoOn (ByDigest key) ring p bytes = ⊤

-- `bytes` contain the log before this tail, with these contents.
pub record HoldsLog (t : TailValue) (contents : ℕ → List ℕ) (bytes : List ℕ) : Type 0 where
  pub chain : List LogDescriptor
  pub log : BeginsLog t.log t.start chain bytes
  pub next : MayGoOn t.log.sealing t.log.ring t.position bytes
  pub position_is : t.position ≡ chain_end t.start.position chain % t.log.ring
  pub number_is : t.number ≡ t.start.number + length chain
  pub used_is : t.used ≡ chain_blocks chain
  pub contents_are : (b : ℕ) → IsLogHome t.log b → contents b ≡ contents_of_log t.log t.start.position chain bytes b

-- These bytes contain no commit with the next number at this tail, even if it had the room of the whole log. If a byte
-- seals, this holds of all bytes that contain the log.
abbrev pub EndsAtTailBy : Sealing → TailValue → List ℕ → Type 0
EndsAtTailBy ByByte t bytes = ⊤
EndsAtTailBy (ByDigest key) t bytes =
    (d : LogDescriptor) → IsNextCommit t.log t.start.epoch t.position t.number t.log.ring d bytes → ⊥

abbrev pub EndsAtTail : TailValue → List ℕ → Type 0
EndsAtTail t bytes = EndsAtTailBy t.log.sealing t bytes

-- `bytes` contain a log, with any start, whose commits below this number have these contents. More may follow.
pub record HoldsUpTo (g : LogValue) (number : ℕ) (contents : ℕ → List ℕ) (bytes : List ℕ) : Type 0 where
  pub start : LogStart
  pub chain : List LogDescriptor
  pub log : BeginsLog g start chain bytes
  pub number_is : number ≡ start.number + length chain
  pub contents_are : (b : ℕ) → IsLogHome g b → contents b ≡ contents_of_log g start.position chain bytes b
