-- Logs in bytes that agree in the blocks of the ring.
use Rattle.std.proofs.Common.{◌≡◌, ℕ, zero, suc, ◌+◌, ◌-◌, ◌%◌, ◌<◌, List, [], ◌∷◌, ◌++◌, length, get_or}
use Rattle.std.proofs.Common.{refl, sym, ap, subst, ◌∙◌, arith}
use Rattle.std.proofs.Math.Nat.{mod-add-mod}
use Rattle.std.proofs.lemmas.Nat.{mod_below}
use Rattle.volume_codec.specs.Layout.{block_at}
use Rattle.log_codec.specs.declared.sealing.Sealing.{Sealing}
use Rattle.log_codec.specs.declared.sealing.Sealing.TheVariants.{ByByte, ByDigest}
use Rattle.log_codec.specs.Log.{LogValue, ring_block, ring_bytes, log_descriptor_blocks, log_commit_blocks}
use Rattle.log_codec.specs.Commit.{LogDescriptor, log_body, log_seal}
use Rattle.log_codec.specs.Chain.{IsNextCommit, LogEndsAt, IsChain, records_position, position_after}
use Rattle.log_codec.specs.Chain.{chain_end}
use Rattle.log_codec.proofs.Public.{next_alike}

-- new has the blocks of the ring that old has
abbrev pub SameRing : ℕ → List ℕ → List ℕ → Type 0
SameRing ring old new = (p : ℕ) → block_at new (ring_block ring p) ≡ block_at old (ring_block ring p)

pub ring_low : (ring p : ℕ) → 0 < ring → ring_block ring p < 4 + ring
ring_low ring p some = omega (arith, mod_below p ring some)

same_bytes : (ring p n : ℕ) (old new : List ℕ) → SameRing ring old new
    → ring_bytes ring new p n ≡ ring_bytes ring old p n
same_bytes ring p zero old new same = refl
same_bytes ring p (suc n) old new same =
    ap (λ (l : List ℕ). l ++ ring_bytes ring new (p + 1) n) (same p)
    ∙ ap (λ (l : List ℕ). block_at old (ring_block ring p) ++ l) (same_bytes ring (p + 1) n old new same)

pub next_same : (g : LogValue) (epoch p number left : ℕ) (d : LogDescriptor) (old new : List ℕ)
    → SameRing g.ring old new → IsNextCommit g epoch p number left d old → IsNextCommit g epoch p number left d new
next_same g epoch p number left d old new same is =
    next_alike g epoch p p number left d old new
    (same_bytes g.ring p (log_descriptor_blocks (length d.homes)) old new same)
    (same_bytes g.ring (records_position p d) (length d.homes) old new same) is

ends_by : (sealing : Sealing) (g : LogValue) (epoch p number left : ℕ) (old new : List ℕ) → SameRing g.ring old new
    → LogEndsAt sealing g epoch p number left old → LogEndsAt sealing g epoch p number left new
ends_by ByByte g epoch p number left old new same ends = λ opened.
    ends (ap (λ (l : List ℕ). get_or l 0 0) (sym (same p)) ∙ opened)
ends_by (ByDigest key) g epoch p number left old new same ends = λ d is.
    ends d (next_same g epoch p number left d new old (λ q. sym (same q)) is)

pub ends_same : (g : LogValue) (epoch p number left : ℕ) (old new : List ℕ) → SameRing g.ring old new
    → LogEndsAt g.sealing g epoch p number left old → LogEndsAt g.sealing g epoch p number left new
ends_same g epoch p number left old new same ends = ends_by g.sealing g epoch p number left old new same ends

pub chain_same : (g : LogValue) (epoch p number left : ℕ) (ds : List LogDescriptor) (old new : List ℕ)
    → SameRing g.ring old new → IsChain g epoch p number left ds old → IsChain g epoch p number left ds new
chain_same g epoch p number left [] old new same is = ends_same g epoch p number left old new same is
chain_same g epoch p number left (d ∷ ds) old new same is = (
  next_same g epoch p number left d old new same is.0,
  chain_same g epoch (position_after p d) (number + 1) (left - log_commit_blocks (length d.homes)) ds old new same is.1,
)

-- where a byte seals, the seal behind a chain is closed
pub closed_behind : (g : LogValue) (epoch p number left : ℕ) (ds : List LogDescriptor) (bytes : List ℕ)
    → g.sealing ≡ ByByte → IsChain g epoch p number left ds bytes
    → get_or (block_at bytes (ring_block g.ring (chain_end p ds))) 0 0 ≡ 0xA7 → ⊥
closed_behind g epoch p number left [] bytes byte is =
    let P : Sealing → Type 0 = λ s. LogEndsAt s g epoch p number left bytes in subst P byte is
closed_behind g epoch p number left (d ∷ ds) bytes byte is =
    closed_behind g epoch (position_after p d) (number + 1) (left - log_commit_blocks (length d.homes)) ds bytes byte
    is.1

ring_round : (ring p : ℕ) → ring_block ring (p % ring) ≡ ring_block ring p
ring_round ring p =
    let none : p % ring + 0 ≡ p % ring = omega arith in
    let all : p + 0 ≡ p = omega arith in
    ap (λ n. 4 + n % ring) (sym none) ∙ ap (λ n. 4 + n) (mod-add-mod p ring 0) ∙ ap (λ n. 4 + n % ring) all

-- so a log ends there in each epoch
pub ends_behind : (g : LogValue) (epoch p number left : ℕ) (ds : List LogDescriptor) (bytes : List ℕ)
    → g.sealing ≡ ByByte → IsChain g epoch p number left ds bytes → (other q n room : ℕ)
    → q ≡ chain_end p ds % g.ring → LogEndsAt g.sealing g other q n room bytes
ends_behind g epoch p number left ds bytes byte is other q n room at =
    let P : Sealing → Type 0 = λ s. LogEndsAt s g other q n room bytes in
    let there : ring_block g.ring q ≡ ring_block g.ring (chain_end p ds) =
    ap (ring_block g.ring) at ∙ ring_round g.ring (chain_end p ds) in
    subst P (sym byte) (λ opened. closed_behind g epoch p number left ds bytes byte is
    (ap (λ b. get_or (block_at bytes b) 0 0) (sym there) ∙ opened))
