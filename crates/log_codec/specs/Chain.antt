-- What the bytes of a volume with a log recover to: the chain of sealed commits from the selected start.
use Rattle.std.specs.Prelude.{◌≡◌, ◌≢◌, ℕ, ◌+◌, ◌-◌, ◌*◌, ◌<◌, ◌≤◌, ◌==◌, if◌then◌else◌}
use Rattle.std.specs.Prelude.{List, [], ◌∷◌, ◌++◌, length, slice_index}
use Rattle.volume_codec.specs.Layout.{block_at}
use Rattle.log_codec.specs.declared.sealing.Sealing.{Sealing}
use Rattle.log_codec.specs.declared.sealing.Sealing.TheVariants.{ByByte, ByDigest}
use Rattle.log_codec.specs.declared.start.LogStart.{LogStart}
use Rattle.log_codec.specs.Log.{LogValue, first_log_home, ring_block, ring_bytes}
use Rattle.log_codec.specs.Log.{log_descriptor_blocks, log_commit_blocks}
use Rattle.log_codec.specs.Start.{HasLogStart}
use Rattle.log_codec.specs.Commit.{LogDescriptor, IsLogged, log_body, log_seal}

-- the position of the records of a commit at position p
abbrev pub records_position : ℕ → LogDescriptor → ℕ
records_position p d = p + log_descriptor_blocks (length d.homes)

-- The position behind a commit at position `p`.
abbrev pub position_after : ℕ → LogDescriptor → ℕ
position_after p d = p + log_commit_blocks (length d.homes)

-- The commit `d` is at position `p` of the log in these bytes, with the seal of its records in this epoch.
pub record IsSealedAt (g : LogValue) (epoch p : ℕ) (d : LogDescriptor) (bytes : List ℕ) : Type 0 where
  pub logged : IsLogged g d
  pub sealed : ring_bytes g.ring bytes p (log_descriptor_blocks (length d.homes))
      ≡ log_seal g.sealing epoch d (ring_bytes g.ring bytes (records_position p d) (length d.homes)) ++ log_body d

-- The number of blocks that no commit may use. If a byte seals, one block is kept free for the next seal.
abbrev pub spare_blocks : Sealing → ℕ
spare_blocks ByByte = 1
spare_blocks (ByDigest key) = 0

-- `d` is the next commit of a chain: it is sealed and has this number. With the spare blocks, it fits into the `left`
-- blocks that the chain leaves.
pub record IsNextCommit (g : LogValue) (epoch p number left : ℕ) (d : LogDescriptor) (bytes : List ℕ) : Type 0 where
  pub sealed : IsSealedAt g epoch p d bytes
  pub number_is : d.number ≡ number
  pub room : log_commit_blocks (length d.homes) + spare_blocks g.sealing ≤ left

-- The log ends at position `p`. If a byte seals, the seal there is closed; an open seal over anything but the next
-- commit is damage. If a digest seals, the next commit isn't there.
abbrev pub LogEndsAt : Sealing → LogValue → ℕ → ℕ → ℕ → ℕ → List ℕ → Type 0
LogEndsAt ByByte g epoch p number left bytes = slice_index (block_at bytes (ring_block g.ring p)) 0 ≢ 0xA7
LogEndsAt (ByDigest key) g epoch p number left bytes =
    (d : LogDescriptor) → IsNextCommit g epoch p number left d bytes → ⊥

-- The commits from position `p` to the end of the log, the oldest first. Each has the next number.
abbrev pub IsChain : LogValue → ℕ → ℕ → ℕ → ℕ → List LogDescriptor → List ℕ → Type 0
IsChain g epoch p number left [] bytes = LogEndsAt g.sealing g epoch p number left bytes
IsChain g epoch p number left (d ∷ ds) bytes =
    IsNextCommit g epoch p number left d bytes
    × IsChain g epoch (position_after p d) (number + 1) (left - log_commit_blocks (length d.homes)) ds bytes

-- The position behind all commits of a chain.
abbrev pub chain_end : ℕ → List LogDescriptor → ℕ
chain_end p [] = p
chain_end p (d ∷ ds) = chain_end (position_after p d) ds

-- The number of blocks of a chain's commits.
abbrev pub chain_blocks : List LogDescriptor → ℕ
chain_blocks [] = 0
chain_blocks (d ∷ ds) = log_commit_blocks (length d.homes) + chain_blocks ds

-- `bytes` contain a log with this start, and `chain` are its commits.
pub record HasLog (g : LogValue) (s : LogStart) (chain : List LogDescriptor) (bytes : List ℕ) : Type 0 where
  pub long : 4096 * g.blocks ≤ length bytes
  pub start : HasLogStart g.ring s bytes
  pub commits : IsChain g s.epoch s.position s.number g.ring chain bytes

-- The block with the record of home block `b` in a commit, or `other` if the commit has none. The commit's records
-- begin at position `p`.
abbrev pub logged_or : ℕ → ℕ → ℕ → List ℕ → ℕ → ℕ
logged_or ring other p [] b = other
logged_or ring other p (home ∷ homes) b = if b == home then ring_block ring p else logged_or ring other (p + 1) homes b

-- The block with the recovered bytes of home block `b`: its record in the newest commit that has one, or else `other`.
abbrev pub newest_or : ℕ → ℕ → ℕ → List LogDescriptor → ℕ → ℕ
newest_or ring other p [] b = other
newest_or ring other p (d ∷ ds) b =
    newest_or ring (logged_or ring other (records_position p d) d.homes b) (position_after p d) ds b

-- The contents that these bytes recover to, if this chain begins at position `p`.
abbrev pub contents_of_log : LogValue → ℕ → List LogDescriptor → List ℕ → ℕ → List ℕ
contents_of_log g p chain bytes b = block_at bytes (newest_or g.ring b p chain b)

-- `b` is a home block of a volume with a log.
pub record IsLogHome (g : LogValue) (b : ℕ) : Type 0 where
  pub low : first_log_home g.ring ≤ b
  pub high : b < g.blocks

-- The log of these bytes recovers to these contents.
pub record LogRecovers (g : LogValue) (contents : ℕ → List ℕ) (bytes : List ℕ) : Type 0 where
  pub start : LogStart
  pub chain : List LogDescriptor
  pub log : HasLog g start chain bytes
  pub contents_are : (b : ℕ) → IsLogHome g b → contents b ≡ contents_of_log g start.position chain bytes b

-- The log is damaged: these bytes contain no log.
abbrev pub IsDamagedLog : LogValue → List ℕ → Type 0
IsDamagedLog g bytes = (s : LogStart) (chain : List LogDescriptor) → HasLog g s chain bytes → ⊥
