-- What a seal means, and the digest of a commit, which is computed piece by piece.
use Rattle.std.specs.Prelude.{◌≡◌, ◌≢◌, ℕ, List, ◌++◌, bit_xor, slice_index}
use Rattle.xxh64.specs.Xxh64.{HasMessage}
use Rattle.log_codec.specs.declared.seal.ByteSeal.{ByteSeal}
use Rattle.log_codec.specs.declared.seal.ByteSeal.TheVariants.{Closed, Open, Damaged}
use Rattle.log_codec.specs.declared.seal.CommitDigest.{CommitDigest}
use Rattle.log_codec.specs.Commit.{LogDescriptor, log_body, open_seal}

-- What eight bytes mean in a log whose commits a byte seals. The first byte 0xA7 opens the seal, and seven zeros must
-- follow it. Any other first byte closes the seal.
abbrev pub SealSays : ByteSeal → List ℕ → Type 0
SealSays Closed bytes = slice_index bytes 0 ≢ 0xA7
SealSays Open bytes = bytes ≡ open_seal
SealSays Damaged bytes = (slice_index bytes 0 ≡ 0xA7) × (bytes ≢ open_seal)

-- The digest covers the body of this descriptor and these records, with this key and epoch.
abbrev pub HasTakenCommit : CommitDigest → ℕ → ℕ → LogDescriptor → List ℕ → Type 0
HasTakenCommit digest key epoch d records = HasMessage digest.hasher (bit_xor key epoch) (log_body d ++ records)
