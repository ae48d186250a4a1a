-- The bytes of a log have at most one chain, and what a further commit makes of the recovered blocks.
use Rattle.std.proofs.Common.{◌≡◌, ◌≢◌, ℕ, zero, suc, ◌+◌, ◌-◌, ◌*◌, ◌%◌, ◌^◌, ◌<◌, ◌≤◌, ◌==◌, List, [], ◌∷◌, ◌++◌}
use Rattle.std.proofs.Common.{Bool, true, false, cond, length, take, drop, get_or, refl, sym, ap, subst, ◌∙◌, arith}
use Rattle.std.proofs.Common.{add-zero, add_assoc, inl, inr}
use Rattle.std.specs.List.{AllByRecursion}
use Rattle.std.proofs.lemmas.Bool.Decides.{nat_tests}
use Rattle.std.proofs.lemmas.List.{drop_at, take_at, drop-take, take-take, get_or-take, length-take-le}
use Rattle.std.proofs.lemmas.List.{take-append-drop}
use Rattle.byteorder.specs.Numbers.{big_from-take}
use Rattle.volume_codec.specs.Descriptor.{RiseWithin}
use Rattle.volume_codec.specs.Layout.{block_at}
use Rattle.volume_codec.specs.Recovery.{blocks_from}
use Rattle.volume_codec.specs.Text.{number_text, number_in}
use Rattle.volume_codec.proofs.Public.{length-block_at, length-number_text, rising_at}
use Rattle.log_codec.specs.declared.broken.Broken.{Broken}
use Rattle.log_codec.specs.declared.broken.Broken.TheVariants.{Length, Number, Count}
use Rattle.log_codec.specs.declared.sealing.Sealing.{Sealing}
use Rattle.log_codec.specs.declared.sealing.Sealing.TheVariants.{ByByte, ByDigest}
use Rattle.log_codec.specs.declared.start.LogStart.{LogStart}
use Rattle.log_codec.specs.Log.{LogValue, IsLog, IsCommitSize, ring_block, ring_bytes}
use Rattle.log_codec.specs.Log.{log_descriptor_blocks, log_commit_blocks}
use Rattle.log_codec.specs.Start.{IsLogStart, HasLogStart}
use Rattle.log_codec.specs.Commit.{LogDescriptor, IsCommitNumber, IsLogged, IsLogDescriptor}
use Rattle.log_codec.specs.Commit.{log_body, log_seal, open_seal}
use Rattle.log_codec.specs.Broken.{BreaksFirstRule, records_said}
use Rattle.log_codec.specs.Chain.{IsSealedAt, IsNextCommit, LogEndsAt, IsChain, HasLog, records_position}
use Rattle.log_codec.specs.Chain.{position_after}
use Rattle.log_codec.specs.Chain.{chain_end, logged_or, newest_or, contents_of_log, IsLogHome, LogRecovers}
use Rattle.log_codec.specs.Chain.{spare_blocks, chain_blocks, IsDamagedLog}
use Rattle.log_codec.proofs.Starts.{one_start_of}
use Rattle.log_codec.proofs.Digests.{length-open_seal}
use Rattle.log_codec.proofs.Reading.{BodyReadsAs, reads_body, one_value}

pub length-log_seal : (sealing : Sealing) (epoch : ℕ) (d : LogDescriptor) (records : List ℕ)
    → length (log_seal sealing epoch d records) ≡ 8
length-log_seal ByByte epoch d records = length-open_seal
length-log_seal (ByDigest key) epoch d records = length-number_text 8 _

-- the number in bytes that reach far enough is that of all bytes
pub count_within : (bytes : List ℕ) → number_in 4 (drop 16 (take 4096 bytes)) ≡ number_in 4 (drop 16 bytes)
unfolding number_in
count_within bytes = ap (number_in 4) (drop-take 16 4080 bytes) ∙ big_from-take 0 4 4080 (drop 16 bytes) (omega arith)

-- the first of the blocks from a position on
pub first_of_ring : (g : LogValue) (bytes : List ℕ) (p n : ℕ) → IsLog g → 4096 * g.blocks ≤ length bytes → 0 < n
    → take 4096 (ring_bytes g.ring bytes p n) ≡ block_at bytes (ring_block g.ring p)
first_of_ring g bytes p zero log long some = absurd (omega arith)
first_of_ring g bytes p (suc n) log long some =
    let ring = log.some_ring in
    let homes = log.some_homes in
    let within : p % g.ring < g.ring = omega arith in
    let first : List ℕ = block_at bytes (ring_block g.ring p) in
    take_at first (blocks_from (λ i. block_at bytes (ring_block g.ring i)) (p + 1) n) 4096
    (length-block_at bytes (ring_block g.ring p) (omega arith))

-- a commit whose descriptor and records lie at a position of other bytes, too
pub next_alike : (g : LogValue) (epoch p q number left : ℕ) (d : LogDescriptor) (old new : List ℕ)
    → ring_bytes g.ring new q (log_descriptor_blocks (length d.homes))
    ≡ ring_bytes g.ring old p (log_descriptor_blocks (length d.homes))
    → ring_bytes g.ring new (records_position q d) (length d.homes)
    ≡ ring_bytes g.ring old (records_position p d) (length d.homes)
    → IsNextCommit g epoch p number left d old → IsNextCommit g epoch q number left d new
next_alike g epoch p q number left d old new head records is = record {
  sealed = record {
    logged = is.sealed.logged;
    sealed = head ∙ is.sealed.sealed
        ∙ ap (λ (l : List ℕ). log_seal g.sealing epoch d l ++ log_body d) (sym records);
  };
  number_is = is.number_is;
  room = is.room;
}

-- the descriptor of a sealed commit
said_there : (g : LogValue) (epoch p : ℕ) (d : LogDescriptor) (bytes : List ℕ) → IsSealedAt g epoch p d bytes
    → IsLogDescriptor g d (ring_bytes g.ring bytes p (log_descriptor_blocks (length d.homes)))
said_there g epoch p d bytes is =
    let records : List ℕ = ring_bytes g.ring bytes (records_position p d) (length d.homes) in
    record {
      logged = is.logged;
      spelled = ap (drop 8) is.sealed
          ∙ drop_at (log_seal g.sealing epoch d records) (log_body d) 8 (length-log_seal g.sealing epoch d records);
    }

-- the number of records is what the first block says
count_there : (g : LogValue) (epoch p : ℕ) (d : LogDescriptor) (bytes : List ℕ) → IsLog g
    → 4096 * g.blocks ≤ length bytes → IsSealedAt g epoch p d bytes
    → records_said (block_at bytes (ring_block g.ring p)) ≡ length d.homes
count_there g epoch p d bytes log long is =
    let blocks : ℕ = log_descriptor_blocks (length d.homes) in
    let whole : List ℕ = ring_bytes g.ring bytes p blocks in
    ap records_said (sym (first_of_ring g bytes p blocks log long (omega arith)))
    ∙ count_within whole ∙ (reads_body g d whole log (said_there g epoch p d bytes is)).count

pub one_sealed : (g : LogValue) (epoch p : ℕ) (d e : LogDescriptor) (bytes : List ℕ) → IsLog g
    → 4096 * g.blocks ≤ length bytes → IsSealedAt g epoch p d bytes → IsSealedAt g epoch p e bytes → d ≡ e
one_sealed g epoch p d e bytes log long is other =
    let many : length e.homes ≡ length d.homes =
    sym (count_there g epoch p e bytes log long other) ∙ count_there g epoch p d bytes log long is in
    let P : ℕ → Type 0 = λ n. IsLogDescriptor g e (ring_bytes g.ring bytes p (log_descriptor_blocks n)) in
    one_value g d e (ring_bytes g.ring bytes p (log_descriptor_blocks (length d.homes))) log
    (said_there g epoch p d bytes is) (subst P many (said_there g epoch p e bytes other))

-- the number is within the first block, too
number_within : (bytes : List ℕ) → take 8 (drop 8 (take 4096 bytes)) ≡ take 8 (drop 8 bytes)
number_within bytes =
    ap (take 8) (drop-take 8 4088 bytes) ∙ take-take 8 4088 (drop 8 bytes) (omega arith)

-- the first block of the next commit
pub next_first : (g : LogValue) (epoch p number left : ℕ) (d : LogDescriptor) (bytes : List ℕ) (broken : Broken)
    → IsLog g → 4096 * g.blocks ≤ length bytes → IsNextCommit g epoch p number left d bytes
    → (records_said (block_at bytes (ring_block g.ring p)) ≡ length d.homes)
    × (BreaksFirstRule g number (block_at bytes (ring_block g.ring p)) broken → ⊥)
next_first g epoch p number left d bytes broken log long is = (said, by broken)
  where
    first : List ℕ
    first = block_at bytes (ring_block g.ring p)

    blocks : ℕ
    blocks = log_descriptor_blocks (length d.homes)

    said : records_said first ≡ length d.homes
    said = count_there g epoch p d bytes log long is.sealed

    whole : List ℕ
    whole = ring_bytes g.ring bytes p blocks

    begins : take 4096 whole ≡ first
    begins = first_of_ring g bytes p blocks log long (omega arith)

    reads : BodyReadsAs d whole
    reads = reads_body g d whole log (said_there g epoch p d bytes is.sealed)

    logged : IsLogged g d
    logged = is.sealed.logged

    same : take 8 (drop 8 first) ≡ number_text 8 number
    same = ap (λ (l : List ℕ). take 8 (drop 8 l)) (sym begins) ∙ number_within whole ∙ reads.numbered
        ∙ ap (number_text 8) is.number_is

    numbered : IsCommitNumber number
    numbered = let P : ℕ → Type 0 = λ n. IsCommitNumber n in subst P is.number_is logged.number

    sized : IsCommitSize g.ring (records_said first)
    sized = let P : ℕ → Type 0 = λ n. IsCommitSize g.ring n in subst P (sym said) logged.size

    four : 4096 ≤ length whole
    four = omega (arith, reads.size)

    full : length first ≡ 4096
    full = ap length (sym begins) ∙ length-take-le 4096 whole four

    by : (b : Broken) → BreaksFirstRule g number first b → ⊥
    by Length h = omega (arith, full, h)
    by Number (inl none) = none numbered
    by Number (inr other) = other same
    by Count h = h sized
    by _ h = h

-- the descriptor of the next commit
pub next_descriptor : (g : LogValue) (epoch p number left : ℕ) (d : LogDescriptor) (bytes : List ℕ)
    → IsNextCommit g epoch p number left d bytes
    → IsLogDescriptor g d (ring_bytes g.ring bytes p (log_descriptor_blocks (length d.homes)))
    × (take 8 (ring_bytes g.ring bytes p (log_descriptor_blocks (length d.homes)))
    ≡ log_seal g.sealing epoch d (ring_bytes g.ring bytes (records_position p d) (length d.homes)))
next_descriptor g epoch p number left d bytes is =
    let records : List ℕ = ring_bytes g.ring bytes (records_position p d) (length d.homes) in
    let seal : List ℕ = log_seal g.sealing epoch d records in (
      said_there g epoch p d bytes is.sealed,
      ap (take 8) is.sealed.sealed ∙ take_at seal (log_body d) 8 (length-log_seal g.sealing epoch d records),
    )

-- a descriptor under the seal of its records is that of a sealed commit
pub next_found : (g : LogValue) (epoch p number left : ℕ) (d : LogDescriptor) (bytes : List ℕ)
    → IsLogDescriptor g d (ring_bytes g.ring bytes p (log_descriptor_blocks (length d.homes)))
    → take 8 (ring_bytes g.ring bytes p (log_descriptor_blocks (length d.homes)))
    ≡ log_seal g.sealing epoch d (ring_bytes g.ring bytes (records_position p d) (length d.homes))
    → d.number ≡ number → log_commit_blocks (length d.homes) + spare_blocks g.sealing ≤ left
    → IsNextCommit g epoch p number left d bytes
next_found g epoch p number left d bytes says seals numbered fits =
    let head : List ℕ = ring_bytes g.ring bytes p (log_descriptor_blocks (length d.homes)) in
    let records : List ℕ = ring_bytes g.ring bytes (records_position p d) (length d.homes) in
    record {
      sealed = record {
        logged = says.logged;
        sealed = sym (take-append-drop 8 head) ∙ ap (λ (l : List ℕ). l ++ drop 8 head) seals
            ∙ ap (λ (l : List ℕ). log_seal g.sealing epoch d records ++ l) says.spelled;
      };
      number_is = numbered;
      room = fits;
    }

-- where a byte seals, the seal of a commit is open
open_there : (g : LogValue) (epoch p : ℕ) (d : LogDescriptor) (bytes : List ℕ) → IsLog g
    → 4096 * g.blocks ≤ length bytes → g.sealing ≡ ByByte → IsSealedAt g epoch p d bytes
    → get_or (block_at bytes (ring_block g.ring p)) 0 0 ≡ 0xA7
open_there g epoch p d bytes log long byte is =
    let blocks : ℕ = log_descriptor_blocks (length d.homes) in
    let whole : List ℕ = ring_bytes g.ring bytes p blocks in
    let records : List ℕ = ring_bytes g.ring bytes (records_position p d) (length d.homes) in
    let sealed : whole ≡ open_seal ++ log_body d =
    is.sealed ∙ ap (λ (s : Sealing). log_seal s epoch d records ++ log_body d) byte in
    ap (λ (l : List ℕ). get_or l 0 0) (sym (first_of_ring g bytes p blocks log long (omega arith)))
    ∙ get_or-take 4096 whole 0 0 (omega arith) ∙ ap (λ (l : List ℕ). get_or l 0 0) sealed

-- no commit lies where the log ends
not_both : (sealing : Sealing) (g : LogValue) (epoch p number left : ℕ) (d : LogDescriptor) (bytes : List ℕ) → IsLog g
    → 4096 * g.blocks ≤ length bytes → g.sealing ≡ sealing → LogEndsAt sealing g epoch p number left bytes
    → IsNextCommit g epoch p number left d bytes → ⊥
not_both ByByte g epoch p number left d bytes log long same ends is =
    ends (open_there g epoch p d bytes log long same is.sealed)
not_both (ByDigest key) g epoch p number left d bytes log long same ends is = ends d is

pub one_chain : (g : LogValue) (epoch p number left : ℕ) (ds es : List LogDescriptor) (bytes : List ℕ) → IsLog g
    → 4096 * g.blocks ≤ length bytes → IsChain g epoch p number left ds bytes → IsChain g epoch p number left es bytes
    → ds ≡ es
one_chain g epoch p number left [] [] bytes log long is other = refl
one_chain g epoch p number left [] (e ∷ es) bytes log long is other =
    absurd (not_both g.sealing g epoch p number left e bytes log long refl is other.0)
one_chain g epoch p number left (d ∷ ds) [] bytes log long is other =
    absurd (not_both g.sealing g epoch p number left d bytes log long refl other is.0)
one_chain g epoch p number left (d ∷ ds) (e ∷ es) bytes log long is other =
    let same : e ≡ d = one_sealed g epoch p e d bytes log long other.0.sealed is.0.sealed in
    let P : LogDescriptor → Type 0 = λ x. IsChain g epoch (position_after p x) (number + 1)
    (left - log_commit_blocks (length x.homes)) es bytes in
    let after : ℕ = left - log_commit_blocks (length d.homes) in
    let rest = one_chain g epoch (position_after p d) (number + 1) after ds es bytes log long is.1
    (subst P same other.1) in
    ap (λ (x : LogDescriptor). x ∷ ds) (sym same) ∙ ap (λ (xs : List LogDescriptor). e ∷ xs) rest

-- the bytes of a log have one start and one chain
pub one_log_there : (g : LogValue) (s t : LogStart) (ds es : List LogDescriptor) (bytes : List ℕ) → IsLog g
    → HasLog g s ds bytes → HasLog g t es bytes → (s ≡ t) × (ds ≡ es)
one_log_there g s t ds es bytes log is other =
    let same : t ≡ s = one_start_of g.ring t s _ log.few_ring other.start is.start in
    let P : LogStart → Type 0 = λ x. IsChain g x.epoch x.position x.number g.ring es bytes in (
      sym same,
      one_chain g s.epoch s.position s.number g.ring ds es bytes log is.long is.commits (subst P same other.commits),
    )

pub same_contents : (g : LogValue) (contents others : ℕ → List ℕ) (bytes : List ℕ) (b : ℕ) → IsLog g
    → LogRecovers g contents bytes → LogRecovers g others bytes → IsLogHome g b → contents b ≡ others b
same_contents g contents others bytes b log is other home =
    let same = one_log_there g is.start other.start is.chain other.chain bytes log is.log other.log in
    is.contents_are b home
    ∙ ap (λ (s : LogStart). contents_of_log g s.position is.chain bytes b) same.0
    ∙ ap (λ (ds : List LogDescriptor). contents_of_log g other.start.position ds bytes b) same.1
    ∙ sym (other.contents_are b home)

-- ---- where a log ends

pub open_end : (g : LogValue) (epoch p number left : ℕ) (bytes : List ℕ) → g.sealing ≡ ByByte
    → get_or (block_at bytes (ring_block g.ring p)) 0 0 ≡ 0xA7
    → ((d : LogDescriptor) → IsNextCommit g epoch p number left d bytes → ⊥)
    → (ds : List LogDescriptor) → IsChain g epoch p number left ds bytes → ⊥
open_end g epoch p number left bytes byte opened none [] is =
    let P : Sealing → Type 0 = λ s. LogEndsAt s g epoch p number left bytes in subst P byte is opened
open_end g epoch p number left bytes byte opened none (d ∷ ds) is = none d is.0

pub digest_end : (g : LogValue) (key epoch p number left : ℕ) (bytes : List ℕ) → g.sealing ≡ ByDigest key
    → ((d : LogDescriptor) → IsNextCommit g epoch p number left d bytes → ⊥) → IsChain g epoch p number left [] bytes
digest_end g key epoch p number left bytes digest none =
    let P : Sealing → Type 0 = λ s. LogEndsAt s g epoch p number left bytes in subst P (sym digest) none

-- a chain goes on with the next commit
pub goes_on : (g : LogValue) (epoch p number left : ℕ) (d : LogDescriptor) (ds : List LogDescriptor) (bytes : List ℕ)
    → IsLog g → 4096 * g.blocks ≤ length bytes → IsNextCommit g epoch p number left d bytes
    → IsChain g epoch p number left ds bytes
    → (rest : List LogDescriptor) × (ds ≡ d ∷ rest) × IsChain g epoch (position_after p d) (number + 1)
    (left - log_commit_blocks (length d.homes)) rest bytes
goes_on g epoch p number left d [] bytes log long next is =
    absurd (not_both g.sealing g epoch p number left d bytes log long refl is next)
goes_on g epoch p number left d (e ∷ es) bytes log long next is =
    let same : e ≡ d = one_sealed g epoch p e d bytes log long is.0.sealed next.sealed in
    let P : LogDescriptor → Type 0 = λ x. IsChain g epoch (position_after p x) (number + 1)
    (left - log_commit_blocks (length x.homes)) es bytes in
    (es, ap (λ (x : LogDescriptor). x ∷ es) same, subst P same is.1)

pub damaged_chain : (g : LogValue) (s : LogStart) (bytes : List ℕ) → IsLog g → HasLogStart g.ring s bytes
    → ((ds : List LogDescriptor) → IsChain g s.epoch s.position s.number g.ring ds bytes → ⊥) → IsDamagedLog g bytes
damaged_chain g s bytes log is none = λ t ds has.
    let same : t ≡ s = one_start_of g.ring t s _ log.few_ring has.start is in
    let P : LogStart → Type 0 = λ x. IsChain g x.epoch x.position x.number g.ring ds bytes in
    none ds (subst P same has.commits)

-- ---- the room of a chain

pub ends_behind : (p : ℕ) (ds : List LogDescriptor) → chain_end p ds ≡ p + chain_blocks ds
ends_behind p [] = sym (add-zero p)
ends_behind p (d ∷ ds) =
    ends_behind (position_after p d) ds ∙ add_assoc p (log_commit_blocks (length d.homes)) (chain_blocks ds)

pub chain_fits : (g : LogValue) (epoch p number left : ℕ) (ds : List LogDescriptor) (bytes : List ℕ)
    → spare_blocks g.sealing ≤ left → IsChain g epoch p number left ds bytes
    → chain_blocks ds + spare_blocks g.sealing ≤ left
chain_fits g epoch p number left [] bytes spare is = omega arith
chain_fits g epoch p number left (d ∷ ds) bytes spare is =
    let blocks : ℕ = log_commit_blocks (length d.homes) in
    let here : blocks + spare_blocks g.sealing ≤ left = is.0.room in
    let rest = chain_fits g epoch (position_after p d) (number + 1) (left - blocks) ds bytes (omega arith) is.1 in
    omega arith

-- the number behind a chain
number_behind : (g : LogValue) (epoch p number left : ℕ) (ds : List LogDescriptor) (bytes : List ℕ)
    → number < 2 ^ 64 → IsChain g epoch p number left ds bytes → number + length ds < 2 ^ 64
number_behind g epoch p number left [] bytes small is = omega arith
number_behind g epoch p number left (d ∷ ds) bytes small is =
    let next = is.0.sealed.logged.number.small in
    let here : d.number ≡ number = is.0.number_is in
    let rest = number_behind g epoch (position_after p d) (number + 1) (left - log_commit_blocks (length d.homes)) ds
    bytes (omega arith) is.1 in
    omega arith

pub start_behind : (g : LogValue) (s : LogStart) (ds : List LogDescriptor) (bytes : List ℕ) → IsLog g
    → HasLog g s ds bytes → s.epoch + 1 < 2 ^ 64
    → IsLogStart g.ring (record {
      position = chain_end s.position ds % g.ring;
      number = s.number + length ds;
      epoch = s.epoch + 1;
    })
start_behind g s ds bytes log has small =
    let ring = log.some_ring in
    let start = has.start.start in
    record {
      within = omega arith;
      some_number = omega arith;
      small_number = number_behind g s.epoch s.position s.number g.ring ds bytes start.small_number has.commits;
      some_epoch = omega arith;
      small_epoch = small;
    }

-- ---- recovered blocks

-- a commit more stands before all others
pub newest_more : (ring other p : ℕ) (ds : List LogDescriptor) (d : LogDescriptor) (b : ℕ)
    → newest_or ring other p (ds ++ d ∷ []) b
    ≡ logged_or ring (newest_or ring other p ds b) (records_position (chain_end p ds) d) d.homes b
newest_more ring other p [] d b = refl
newest_more ring other p (e ∷ ds) d b =
    newest_more ring (logged_or ring other (records_position p e) e.homes b) (position_after p e) ds d b

-- the home block at a place has the record of that place
pub logged_at : (ring other p low high i : ℕ) (homes : List ℕ) → RiseWithin low high homes → i < length homes
    → logged_or ring other p homes (get_or homes i 0) ≡ ring_block ring (p + i)
logged_at ring other p low high i [] rise h = absurd (omega arith)
logged_at ring other p low high zero (n ∷ ns) rise h =
    let here : (n == n) ≡ true = grind (arith, nat_tests) in
    ap (λ (t : Bool). cond t (ring_block ring p) (logged_or ring other (p + 1) ns n)) here
    ∙ ap (ring_block ring) (sym (add-zero p))
logged_at ring other p low high (suc i) (n ∷ ns) rise h =
    let above = rising_at (n + 1) high ns i rise.2 (omega arith) in
    let apart : (get_or ns i 0 == n) ≡ false = grind (arith, nat_tests, above.0) in
    let place : p + 1 + i ≡ p + suc i = omega arith in
    ap (λ (t : Bool). cond t (ring_block ring p) (logged_or ring other (p + 1) ns (get_or ns i 0))) apart
    ∙ logged_at ring other (p + 1) (n + 1) high i ns rise.2 (omega arith) ∙ ap (ring_block ring) place

-- a block that these homes don't have is read elsewhere
pub logged_other : (ring other p b : ℕ) (homes : List ℕ) → AllByRecursion (λ home. home ≢ b) homes
    → logged_or ring other p homes b ≡ other
logged_other ring other p b [] h = refl
logged_other ring other p b (n ∷ ns) h =
    let apart : n ≢ b = h.0 in
    let test : (b == n) ≡ false = grind (arith, nat_tests) in
    ap (λ (t : Bool). cond t (ring_block ring p) (logged_or ring other (p + 1) ns b)) test
    ∙ logged_other ring other (p + 1) b ns h.1
