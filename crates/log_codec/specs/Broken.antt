-- Why bytes are no descriptor of a commit with a given number.
use Rattle.std.specs.Prelude.{◌≢◌, ℕ, ◌+◌, ◌-◌, ◌*◌, ◌<◌, ◌⊎◌, List, length, take, drop}
use Rattle.volume_codec.specs.Descriptor.{RiseWithin}
use Rattle.volume_codec.specs.Text.{number_text, number_in, numbers_in, zeros}
use Rattle.log_codec.specs.declared.broken.Broken.{Broken}
use Rattle.log_codec.specs.declared.broken.Broken.TheVariants.{Length, Number, Count, Reserved, Padding, Homes}
use Rattle.log_codec.specs.declared.broken.Broken.TheVariants.{OutOfMemory}
use Rattle.log_codec.specs.Log.{LogValue, IsCommitSize, first_log_home, log_descriptor_blocks}
use Rattle.log_codec.specs.Commit.{IsCommitNumber}

-- The number of records of a descriptor with these bytes.
abbrev pub records_said : List ℕ → ℕ
records_said bytes = number_in 4 (drop 16 bytes)

-- The home blocks of a descriptor with these bytes.
abbrev pub homes_said : List ℕ → List ℕ
homes_said bytes = numbers_in 4 (records_said bytes) (drop 32 bytes)

-- The first block of a descriptor already breaks the rule with this name.
abbrev pub BreaksFirstRule : LogValue → ℕ → List ℕ → Broken → Type 0
BreaksFirstRule g number bytes Length = length bytes < 4096
BreaksFirstRule g number bytes Number =
    (IsCommitNumber number → ⊥) ⊎ (take 8 (drop 8 bytes) ≢ number_text 8 number)
BreaksFirstRule g number bytes Count = IsCommitSize g.ring (records_said bytes) → ⊥
BreaksFirstRule g number bytes _ = ⊥

-- The bytes break the rule with this name. Memory may be refused for any bytes.
abbrev pub BreaksLogRule : LogValue → ℕ → List ℕ → Broken → Type 0
BreaksLogRule g number bytes Length =
    (length bytes < 4096) ⊎ (length bytes ≢ 4096 * log_descriptor_blocks (records_said bytes))
BreaksLogRule g number bytes Number = BreaksFirstRule g number bytes Number
BreaksLogRule g number bytes Count = BreaksFirstRule g number bytes Count
BreaksLogRule g number bytes Reserved = take 12 (drop 20 bytes) ≢ zeros 12
BreaksLogRule g number bytes Padding =
    drop (32 + 4 * records_said bytes) bytes ≢ zeros (length bytes - (32 + 4 * records_said bytes))
BreaksLogRule g number bytes Homes = RiseWithin (first_log_home g.ring) g.blocks (homes_said bytes) → ⊥
BreaksLogRule g number bytes OutOfMemory = Unit {0}
