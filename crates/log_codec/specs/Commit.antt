-- A commit of the log: a descriptor of one or more blocks, then its records. The descriptor begins with a seal of eight
-- bytes, which marks the commit as complete. The rest is its body: the commit's number and the home block of each
-- record.
use Rattle.std.specs.Prelude.{◌≡◌, ℕ, ◌+◌, ◌-◌, ◌*◌, ◌<◌, ◌^◌, List, ◌∷◌, ◌++◌, length, drop, bit_xor}
use Rattle.std.specs.List.{flat_map}
use Rattle.volume_codec.specs.Descriptor.{RiseWithin}
use Rattle.volume_codec.specs.Text.{number_text, zeros, padded}
use Rattle.xxh64.specs.Xxh64.{xxh64}
use Rattle.log_codec.specs.declared.sealing.Sealing.{Sealing}
use Rattle.log_codec.specs.declared.sealing.Sealing.TheVariants.{ByByte, ByDigest}
use Rattle.log_codec.specs.Log.{LogValue, IsCommitSize, first_log_home, log_descriptor_blocks}

-- The content of a descriptor: the commit's number, and the home block of record `i` at place `i`.
pub record LogDescriptor : Type 0 where
  pub number : ℕ
  pub homes : List ℕ

-- A commit may have this number: it is at least 1, and the next number is below 2^64 too.
pub record IsCommitNumber (n : ℕ) : Type 0 where
  pub some : 0 < n
  pub small : n + 1 < 2 ^ 64

-- The rules of a descriptor's value: the number and the size are those of a possible commit. Its home blocks are blocks
-- of the volume, in strictly rising order.
pub record IsLogged (g : LogValue) (d : LogDescriptor) : Type 0 where
  pub number : IsCommitNumber d.number
  pub size : IsCommitSize g.ring (length d.homes)
  pub rising : RiseWithin (first_log_home g.ring) g.blocks d.homes

-- The only encoding of a descriptor's body: all of its blocks except the eight bytes of seal.
abbrev pub log_body : LogDescriptor → List ℕ
log_body d =
    padded (4096 * log_descriptor_blocks (length d.homes) - 8)
    (number_text 8 d.number ++ number_text 4 (length d.homes) ++ zeros 12 ++ flat_map (number_text 4) d.homes)

-- The grammar of descriptors, in a volume with this log: after any eight bytes of seal, these bytes encode this value.
pub record IsLogDescriptor (g : LogValue) (d : LogDescriptor) (bytes : List ℕ) : Type 0 where
  pub logged : IsLogged g d
  pub spelled : drop 8 bytes ≡ log_body d

-- The open seal of a log whose commits a byte seals.
abbrev pub open_seal : List ℕ
open_seal = 0xA7 ∷ zeros 7

-- The seal of a commit with these records: an open seal, or the digest of the body and the records. The digest's seed
-- is the volume's key, xored with the epoch.
abbrev pub log_seal : Sealing → ℕ → LogDescriptor → List ℕ → List ℕ
log_seal ByByte epoch d records = open_seal
log_seal (ByDigest key) epoch d records = number_text 8 (xxh64 (bit_xor key epoch) (log_body d ++ records))
