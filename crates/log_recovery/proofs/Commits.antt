-- A commit that was read is the next one, and where none was read there is none.
use Rattle.std.proofs.Common.{◌≡◌, ◌≢◌, ℕ, ◌+◌, ◌*◌, ◌≤◌, Bool, List, length, take, drop, get_or}
use Rattle.std.proofs.Common.{sym, ap, subst, ◌∙◌, arith}
use Rattle.std.proofs.lemmas.List.{get_or-take, get_or-drop}
use Rattle.page_entry.specs.declared.refusal.Refusal.{Refusal}
use Rattle.page_entry.specs.declared.refusal.Refusal.TheVariants.{Device, OutOfMemory, Damaged}
use Rattle.volume_codec.specs.Layout.{block_at}
use Rattle.log_codec.specs.declared.broken.Broken.{Broken}
use Rattle.log_codec.specs.declared.broken.Broken.TheVariants as broken
use Rattle.log_codec.specs.declared.sealing.Sealing.{Sealing}
use Rattle.log_codec.specs.declared.sealing.Sealing.TheVariants.{ByByte, ByDigest}
use Rattle.log_codec.specs.declared.start.LogStart.{LogStart}
use Rattle.log_codec.specs.Log.{LogValue, IsLog, ring_block, ring_bytes, log_descriptor_blocks}
use Rattle.log_codec.specs.Log.{log_commit_blocks}
use Rattle.log_codec.specs.Start.{IsStartBlock, HasLogStart, counts_second, start_block}
use Rattle.log_codec.specs.Commit.{LogDescriptor, IsLogDescriptor, open_seal, log_seal}
use Rattle.log_codec.specs.Broken.{BreaksFirstRule, BreaksLogRule, records_said}
use Rattle.log_codec.specs.Chain.{IsNextCommit, IsChain, records_position, spare_blocks}
use Rattle.log_codec.proofs.Public.{first_of_ring, count_within, next_first, next_descriptor, next_found, open_end}
use Rattle.log_codec.proofs.Public.{damaged_chain, reads_body, one_value, breaks_all}
use Rattle.log_recovery.specs.Reading.{RefusesLog}
use Rattle.log_recovery.specs.inside.Commit.{RefusesHead, RefusesNext, refusal_by}
use Rattle.log_recovery.proofs.Blocks.{ring_seal}

-- no commit lies where the first block breaks a rule
pub none_first : (g : LogValue) (p number left : ℕ) (first bytes : List ℕ) (b : Broken) → IsLog g
    → 4096 * g.blocks ≤ length bytes → first ≡ block_at bytes (ring_block g.ring p)
    → BreaksFirstRule g number first b → (epoch : ℕ) (d : LogDescriptor)
    → IsNextCommit g epoch p number left d bytes → ⊥
none_first g p number left first bytes b log long is breaks epoch d next =
    let P : List ℕ → Type 0 = λ block. BreaksFirstRule g number block b in
    (next_first g epoch p number left d bytes b log long next).1 (subst P is breaks)

-- none of a size that no commit has, or without room in the blocks that are left
pub none_sized : (g : LogValue) (p number left count : ℕ) (first bytes : List ℕ) → IsLog g
    → 4096 * g.blocks ≤ length bytes → first ≡ block_at bytes (ring_block g.ring p) → count ≡ records_said first
    → (log_commit_blocks count + spare_blocks g.sealing ≤ left → ⊥) → (epoch : ℕ) (d : LogDescriptor)
    → IsNextCommit g epoch p number left d bytes → ⊥
none_sized g p number left count first bytes log long is said none epoch d next =
    let same : count ≡ length d.homes =
    said ∙ ap records_said is ∙ (next_first g epoch p number left d bytes broken.OutOfMemory log long next).0 in
    let P : ℕ → Type 0 = λ n. log_commit_blocks n + spare_blocks g.sealing ≤ left in
    none (subst P (sym same) next.room)

-- none where the blocks of the descriptor break a rule
pub none_described : (g : LogValue) (p number left count : ℕ) (first bytes head : List ℕ) (b : Broken) → IsLog g
    → 4096 * g.blocks ≤ length bytes → first ≡ block_at bytes (ring_block g.ring p) → count ≡ records_said first
    → head ≡ ring_bytes g.ring bytes p (log_descriptor_blocks count) → b ≢ broken.OutOfMemory
    → BreaksLogRule g number head b → (epoch : ℕ) (d : LogDescriptor)
    → IsNextCommit g epoch p number left d bytes → ⊥
none_described g p number left count first bytes head b log long is said read not breaks epoch d next =
    let same : count ≡ length d.homes =
    said ∙ ap records_said is ∙ (next_first g epoch p number left d bytes broken.OutOfMemory log long next).0 in
    let P : List ℕ → Type 0 = λ l. BreaksLogRule g number l b in
    let there : head ≡ ring_bytes g.ring bytes p (log_descriptor_blocks (length d.homes)) =
    read ∙ ap (λ n. ring_bytes g.ring bytes p (log_descriptor_blocks n)) same in
    breaks_all g number (ring_bytes g.ring bytes p (log_descriptor_blocks (length d.homes))) b log
    (subst P there breaks) not d next.number_is
    (next_descriptor g epoch p number left d bytes next).0

-- so a rule that is broken refuses the descriptor
pub refused_by : (g : LogValue) (p number left count : ℕ) (first bytes head : List ℕ) (b : Broken) → IsLog g
    → 4096 * g.blocks ≤ length bytes → first ≡ block_at bytes (ring_block g.ring p) → count ≡ records_said first
    → head ≡ ring_bytes g.ring bytes p (log_descriptor_blocks count) → BreaksLogRule g number head b
    → RefusesHead g p number left bytes (refusal_by b)
refused_by g p number left count first bytes head broken.Length log long is said read breaks =
    none_described g p number left count first bytes head broken.Length log long is said read (λ e. cc) breaks
refused_by g p number left count first bytes head broken.Number log long is said read breaks =
    none_described g p number left count first bytes head broken.Number log long is said read (λ e. cc) breaks
refused_by g p number left count first bytes head broken.Count log long is said read breaks =
    none_described g p number left count first bytes head broken.Count log long is said read (λ e. cc) breaks
refused_by g p number left count first bytes head broken.Reserved log long is said read breaks =
    none_described g p number left count first bytes head broken.Reserved log long is said read (λ e. cc) breaks
refused_by g p number left count first bytes head broken.Padding log long is said read breaks =
    none_described g p number left count first bytes head broken.Padding log long is said read (λ e. cc) breaks
refused_by g p number left count first bytes head broken.Homes log long is said read breaks =
    none_described g p number left count first bytes head broken.Homes log long is said read (λ e. cc) breaks
refused_by g p number left count first bytes head broken.OutOfMemory log long is said read breaks = tt

-- the size of a descriptor that was read, and the number of its records
pub described_size : (g : LogValue) (d : LogDescriptor) (bytes first : List ℕ) (head count : ℕ) → IsLog g
    → IsLogDescriptor g d bytes → length bytes ≡ 4096 * head → take 4096 bytes ≡ first → count ≡ records_said first
    → (head ≡ log_descriptor_blocks (length d.homes)) × (length d.homes ≡ count)
described_size g d bytes first head count log is size begins said =
    let r = reads_body g d bytes log is in (
      omega (arith, size, r.size),
      sym (said ∙ ap records_said (sym begins) ∙ count_within bytes ∙ r.count),
    )

-- one descriptor lies at a position
one_there : (g : LogValue) (p : ℕ) (d e : LogDescriptor) (bytes : List ℕ) → IsLog g
    → 4096 * g.blocks ≤ length bytes
    → IsLogDescriptor g d (ring_bytes g.ring bytes p (log_descriptor_blocks (length d.homes)))
    → IsLogDescriptor g e (ring_bytes g.ring bytes p (log_descriptor_blocks (length e.homes))) → d ≡ e
one_there g p d e bytes log long is other =
    let many : length e.homes ≡ length d.homes = sym (count_of e other) ∙ count_of d is in
    let P : ℕ → Type 0 = λ n. IsLogDescriptor g e (ring_bytes g.ring bytes p (log_descriptor_blocks n)) in
    one_value g d e (ring_bytes g.ring bytes p (log_descriptor_blocks (length d.homes))) log is (subst P many other)
  where
    count_of : (x : LogDescriptor)
        → IsLogDescriptor g x (ring_bytes g.ring bytes p (log_descriptor_blocks (length x.homes)))
        → records_said (block_at bytes (ring_block g.ring p)) ≡ length x.homes
    count_of x said =
        let blocks : ℕ = log_descriptor_blocks (length x.homes) in
        ap records_said (sym (first_of_ring g bytes p blocks log long (omega arith)))
        ∙ count_within (ring_bytes g.ring bytes p blocks)
        ∙ (reads_body g x (ring_bytes g.ring bytes p blocks) log said).count

-- the records of a commit at a position
abbrev pub records_there : LogValue → ℕ → LogDescriptor → List ℕ → List ℕ
records_there g p d bytes = ring_bytes g.ring bytes (records_position p d) (length d.homes)

-- a commit whose descriptor was read is the next one if the first block has the seal of its records
pub found_there : (g : LogValue) (epoch p number left : ℕ) (d : LogDescriptor) (first bytes : List ℕ) → IsLog g
    → 4096 * g.blocks ≤ length bytes → first ≡ block_at bytes (ring_block g.ring p)
    → IsLogDescriptor g d (ring_bytes g.ring bytes p (log_descriptor_blocks (length d.homes)))
    → take 8 first ≡ log_seal g.sealing epoch d (records_there g p d bytes) → d.number ≡ number
    → log_commit_blocks (length d.homes) + spare_blocks g.sealing ≤ left → IsNextCommit g epoch p number left d bytes
found_there g epoch p number left d first bytes log long is says seals numbered fits =
    next_found g epoch p number left d bytes says
    (ring_seal g bytes p (log_descriptor_blocks (length d.homes)) log long (omega arith) ∙ ap (take 8) (sym is) ∙ seals)
    numbered fits

-- where it has another seal, none lies there
pub none_sealed : (g : LogValue) (epoch p number left : ℕ) (d : LogDescriptor) (first bytes : List ℕ) → IsLog g
    → 4096 * g.blocks ≤ length bytes → first ≡ block_at bytes (ring_block g.ring p)
    → IsLogDescriptor g d (ring_bytes g.ring bytes p (log_descriptor_blocks (length d.homes)))
    → (take 8 first ≡ log_seal g.sealing epoch d (records_there g p d bytes) → ⊥)
    → (e : LogDescriptor) → IsNextCommit g epoch p number left e bytes → ⊥
none_sealed g epoch p number left d first bytes log long is says other e next =
    let there = next_descriptor g epoch p number left e bytes next in
    let same : e ≡ d = one_there g p e d bytes log long there.0 says in
    let seals : take 8 first ≡ log_seal g.sealing epoch e (records_there g p e bytes) =
    ap (take 8) is ∙ sym (ring_seal g bytes p (log_descriptor_blocks (length e.homes)) log long (omega arith))
    ∙ there.1 in
    let P : LogDescriptor → Type 0 =
    λ x. take 8 first ≡ log_seal g.sealing epoch x (records_there g p x bytes) in
    other (subst P same seals)

-- the seal of its records, as it was computed by what was read since
pub digest_there : (g : LogValue) (key epoch p q : ℕ) (d : LogDescriptor) (bytes now seal : List ℕ)
    → g.sealing ≡ ByDigest key → q ≡ p → now ≡ bytes
    → seal ≡ log_seal (ByDigest key) epoch d (records_there g q d now)
    → seal ≡ log_seal g.sealing epoch d (records_there g p d bytes)
digest_there g key epoch p q d bytes now seal sealing at same is =
    is ∙ ap (λ n. log_seal (ByDigest key) epoch d (records_there g n d now)) at
    ∙ ap (λ (l : List ℕ). log_seal (ByDigest key) epoch d (records_there g p d l)) same
    ∙ ap (λ (s : Sealing). log_seal s epoch d (records_there g p d bytes)) (sym sealing)

-- ---- where a byte seals

-- the seal of each commit
pub byte_seal : (sealing : Sealing) (epoch : ℕ) (d : LogDescriptor) (records : List ℕ) → sealing ≡ ByByte
    → log_seal sealing epoch d records ≡ open_seal
byte_seal sealing epoch d records is = ap (λ (s : Sealing). log_seal s epoch d records) is

-- no chain goes on at an open seal without the next commit
pub open_without : (g : LogValue) (epoch p number left : ℕ) (first bytes : List ℕ) → g.sealing ≡ ByByte
    → first ≡ block_at bytes (ring_block g.ring p) → get_or (take 8 first) 0 0 ≡ 0xA7
    → ((d : LogDescriptor) → IsNextCommit g epoch p number left d bytes → ⊥)
    → (ds : List LogDescriptor) → IsChain g epoch p number left ds bytes → ⊥
open_without g epoch p number left first bytes byte is opened none =
    open_end g epoch p number left bytes byte
    (ap (λ (l : List ℕ). get_or l 0 0) (sym is) ∙ sym (get_or-take 8 first 0 0 (omega arith)) ∙ opened) none

-- an open seal over no descriptor
pub refuses_open : (g : LogValue) (epoch p number left : ℕ) (first bytes : List ℕ) (refusal : Refusal)
    → g.sealing ≡ ByByte → first ≡ block_at bytes (ring_block g.ring p) → take 8 first ≡ open_seal
    → RefusesHead g p number left bytes refusal → RefusesNext g epoch p number left bytes refusal
refuses_open g epoch p number left first bytes Damaged byte is opened none =
    open_without g epoch p number left first bytes byte is (ap (λ (l : List ℕ). get_or l 0 0) opened) (none epoch)
refuses_open g epoch p number left first bytes Device byte is opened h = tt
refuses_open g epoch p number left first bytes OutOfMemory byte is opened h = tt
refuses_open g epoch p number left first bytes _ byte is opened h = absurd h

-- a seal that opens and isn't the open one
pub refuses_seal : (g : LogValue) (epoch p number left : ℕ) (first bytes : List ℕ) → IsLog g
    → 4096 * g.blocks ≤ length bytes → g.sealing ≡ ByByte → first ≡ block_at bytes (ring_block g.ring p)
    → get_or (take 8 first) 0 0 ≡ 0xA7 → (take 8 first ≢ open_seal)
    → (ds : List LogDescriptor) → IsChain g epoch p number left ds bytes → ⊥
refuses_seal g epoch p number left first bytes log long byte is opened other =
    open_without g epoch p number left first bytes byte is opened
    (λ d next. other (ap (take 8) is
    ∙ sym (ring_seal g bytes p (log_descriptor_blocks (length d.homes)) log long (omega arith))
    ∙ (next_descriptor g epoch p number left d bytes next).1
    ∙ byte_seal g.sealing epoch d (records_there g p d bytes) byte))

-- ---- the whole log

-- the start that counts
pub start_there : (ring : ℕ) (s : LogStart) (bytes now first block : List ℕ) (b : ℕ) (second : Bool)
    → first ≡ block_at bytes 1 → now ≡ bytes → second ≡ counts_second (get_or first 0 0) → b ≡ start_block second
    → block ≡ block_at now b → IsStartBlock ring s block
    → (second ≡ counts_second (get_or bytes 4096 0)) × HasLogStart ring s bytes
start_there ring s bytes now first block b second selecting same selects at read is =
    let byte : get_or first 0 0 ≡ get_or bytes 4096 0 =
    ap (λ (l : List ℕ). get_or l 0 0) selecting
    ∙ get_or-take 4096 (drop 4096 bytes) 0 0 (omega arith) ∙ get_or-drop 4096 bytes 0 0 in
    let counts : second ≡ counts_second (get_or bytes 4096 0) = selects ∙ ap counts_second byte in
    let P : List ℕ → Type 0 = λ l. IsStartBlock ring s l in (
      counts,
      subst P (read ∙ ap (λ (l : List ℕ). block_at l b) same
          ∙ ap (block_at bytes) (at ∙ ap start_block counts)) is,
    )

pub refuses_log : (g : LogValue) (s : LogStart) (bytes : List ℕ) (refusal : Refusal) → IsLog g
    → HasLogStart g.ring s bytes → RefusesNext g s.epoch s.position s.number g.ring bytes refusal
    → RefusesLog g bytes refusal
refuses_log g s bytes Damaged log is none = damaged_chain g s bytes log is none
refuses_log g s bytes Device log is h = tt
refuses_log g s bytes OutOfMemory log is h = tt
refuses_log g s bytes _ log is h = absurd h
