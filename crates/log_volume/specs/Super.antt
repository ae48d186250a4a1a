-- The super block of a volume with a log, in layouts 5 and 6: how commits are sealed, the number of blocks of the log,
-- and the table of files.
use Rattle.std.specs.Prelude.{◌≡◌, ◌≢◌, ℕ, ◌+◌, ◌<◌, ◌^◌, List, ◌++◌, length, take, codes}
use Rattle.page_entry.specs.declared.refusal.Refusal.{Refusal}
use Rattle.page_entry.specs.declared.refusal.Refusal.TheVariants.{OutOfMemory, NotAVolume, Damaged}
use Rattle.volume_codec.specs.declared.layout.Layout.TheVariants.{One}
use Rattle.volume_codec.specs.Files.{TableFile}
use Rattle.volume_codec.specs.Layout.{first_file_home}
use Rattle.volume_codec.specs.Text.{number_text, padded}
use Rattle.volume_codec.specs.Super.{SuperValue, Fits, total_pages, entries_text}
use Rattle.log_codec.specs.declared.sealing.Sealing.{Sealing}
use Rattle.log_codec.specs.declared.sealing.Sealing.TheVariants.{ByByte, ByDigest}
use Rattle.log_codec.specs.Log.{LogValue, IsLog, first_log_file_home, ring_block}

-- The fields of a super block: how commits are sealed, the number of blocks of the log, and the files in order.
pub record LogSuperValue : Type 0 where
  pub sealing : Sealing
  pub ring : ℕ
  pub files : List TableFile

-- The table of files, as that of a volume in layout 1 with one slot.
abbrev pub table_of : LogSuperValue → SuperValue
table_of v = record { layout = One; files = v.files; slots = 1 }

-- The places of the parts of the volume. The home blocks of files follow the lengths.
abbrev pub log_of : LogSuperValue → LogValue
log_of v = record {
  sealing = v.sealing;
  ring = v.ring;
  blocks = first_log_file_home v.ring + total_pages v.files;
}

-- The first eight bytes of a super block. In layout 5 a byte seals commits, in layout 6 a digest.
abbrev pub log_magic : Sealing → List ℕ
log_magic ByByte = codes "FAMSYNC5"
log_magic (ByDigest key) = codes "FAMSYNC6"

-- The key that salts digests. It is zero if a byte seals commits.
abbrev pub key_of : Sealing → ℕ
key_of ByByte = 0
key_of (ByDigest key) = key

-- The 32 bytes before the entries of files: the magic, the number of files, and the number of blocks of the log. Then
-- follow the number of all blocks, the first block of the log, and the key.
abbrev pub log_super_head : LogSuperValue → List ℕ
log_super_head v =
    log_magic v.sealing ++ number_text 4 (length v.files) ++ number_text 4 v.ring
    ++ number_text 4 ((log_of v).blocks) ++ number_text 4 (ring_block v.ring 0) ++ number_text 8 (key_of v.sealing)

-- The only encoding of a value, in 4,096 bytes. The entries are those of its table.
abbrev pub log_super_text : LogSuperValue → List ℕ
log_super_text v = padded 4096 (log_super_head v ++ entries_text (first_file_home One 1) v.files)

-- The rules for a value: those of its table and of its log, and a key below 2^64.
pub record FitsLog (v : LogSuperValue) : Type 0 where
  pub table : Fits (table_of v)
  pub log : IsLog (log_of v)
  pub small_key : key_of v.sealing < 2 ^ 64

-- The grammar of these super blocks: `block` is the encoding of the value `v`.
pub record IsLogSuper (v : LogSuperValue) (block : List ℕ) : Type 0 where
  pub fits : FitsLog v
  pub spelled : block ≡ log_super_text v

-- Why a block is refused. Without the magic of layout 5 or 6, it is no volume with a log. If it has such a magic but is
-- the encoding of no value, it is damaged. Memory may be refused for any block.
abbrev pub RefusesLogSuper : List ℕ → Refusal → Type 0
RefusesLogSuper block NotAVolume = (sealing : Sealing) → take 8 block ≢ log_magic sealing
RefusesLogSuper block Damaged = (sealing : Sealing) × (take 8 block ≡ log_magic sealing)
    × ((v : LogSuperValue) → IsLogSuper v block → ⊥)
RefusesLogSuper block OutOfMemory = Unit {0}
RefusesLogSuper block _ = ⊥
