-- Logs in bytes that agree where their commits lie.
use Rattle.std.proofs.Common.{◌≡◌, ℕ, ◌+◌, ◌-◌, ◌*◌, ◌<◌, ◌≤◌, ◌==◌, List, [], ◌∷◌, ◌++◌}
use Rattle.std.proofs.Common.{true, false, cond, length, take, drop, refl, sym, ap, subst, ◌∙◌, arith}
use Rattle.std.proofs.lemmas.List.{take_at, drop_at}
use Rattle.volume_codec.specs.Layout.{block_at}
use Rattle.log_codec.specs.Log.{LogValue, ring_block, ring_bytes, log_descriptor_blocks, log_commit_blocks}
use Rattle.log_codec.specs.Commit.{LogDescriptor}
use Rattle.log_codec.specs.Chain.{IsNextCommit, LogEndsAt, IsChain, records_position}
use Rattle.log_codec.specs.Chain.{position_after, chain_end, chain_blocks, logged_or, newest_or}
use Rattle.log_codec.proofs.Public.{next_alike}
use Rattle.log_commits.specs.Tail.{AreRead}
use Rattle.log_commits.specs.Commit.{committed_to}
use Rattle.log_commits.proofs.Places.{same_ring, length-block, block_low}

-- n blocks from position p on in old, and from position q on in new, are the same
abbrev pub SameBlocks : ℕ → ℕ → ℕ → ℕ → List ℕ → List ℕ → Type 0
SameBlocks ring p q n old new =
    (k : ℕ) → k < n → block_at new (ring_block ring (q + k)) ≡ block_at old (ring_block ring (p + k))

-- those behind the first a of them
pub same_behind : (ring p q a n : ℕ) (old new : List ℕ) → SameBlocks ring p q (a + n) old new
    → SameBlocks ring (p + a) (q + a) n old new
same_behind ring p q a n old new same = λ k lt.
    ap (λ x. block_at new (ring_block ring x)) (omega arith) ∙ same (a + k) (omega arith)
    ∙ ap (λ x. block_at old (ring_block ring x)) (omega arith)

pub same_first : (ring p q a n : ℕ) (old new : List ℕ) → SameBlocks ring p q n old new → a ≤ n
    → SameBlocks ring p q a old new
same_first ring p q a n old new same le = λ k lt. same k (omega arith)

-- a commit in the same blocks
pub next_moved : (g : LogValue) (epoch p q number left : ℕ) (d : LogDescriptor) (old new : List ℕ)
    → SameBlocks g.ring p q (log_commit_blocks (length d.homes)) old new → IsNextCommit g epoch p number left d old
    → IsNextCommit g epoch q number left d new
next_moved g epoch p q number left d old new same is =
    let count : ℕ = length d.homes in
    let blocks : ℕ = log_descriptor_blocks count in
    next_alike g epoch p q number left d old new
    (same_ring g.ring q p blocks new old (λ k lt. same k (omega arith)))
    (same_ring g.ring (q + blocks) (p + blocks) count new old (same_behind g.ring p q blocks count old new same)) is

-- commits in the same blocks, with more room
pub read_moved : (g : LogValue) (epoch p q number left wide : ℕ) (ds : List LogDescriptor) (old new : List ℕ)
    → SameBlocks g.ring p q (chain_blocks ds) old new → left ≤ wide → AreRead g epoch p number left ds old
    → AreRead g epoch q number wide ds new
read_moved g epoch p q number left wide [] old new same le are = tt
read_moved g epoch p q number left wide (d ∷ ds) old new same le are =
    let n : ℕ = log_commit_blocks (length d.homes) in
    let moved = next_moved g epoch p q number left d old new
    (same_first g.ring p q n (n + chain_blocks ds) old new same (omega arith)) are.0 in (
      record { sealed = moved.sealed; number_is = moved.number_is; room = omega (arith, moved.room, le) },
      read_moved g epoch (p + n) (q + n) (number + 1) (left - n) (wide - n) ds old new
          (same_behind g.ring p q n (chain_blocks ds) old new same) (omega arith) are.1,
    )

-- one commit more
pub read_more : (g : LogValue) (epoch p number left : ℕ) (ds : List LogDescriptor) (d : LogDescriptor)
    (bytes : List ℕ) → AreRead g epoch p number left ds bytes
    → IsNextCommit g epoch (chain_end p ds) (number + length ds) (left - chain_blocks ds) d bytes
    → AreRead g epoch p number left (ds ++ d ∷ []) bytes
read_more g epoch p number left [] d bytes are next =
    let P : ℕ → Type 0 = λ n. IsNextCommit g epoch p n left d bytes in
    let Q : ℕ → Type 0 = λ n. IsNextCommit g epoch p (number + 0) n d bytes in
    let none : left - 0 ≡ left = omega arith in
    let here : number + 0 ≡ number = omega arith in
    (subst P here (subst Q none next), tt)
read_more g epoch p number left (e ∷ ds) d bytes are next =
    let n : ℕ = log_commit_blocks (length e.homes) in
    let end : ℕ = chain_end (position_after p e) ds in
    let P : ℕ → Type 0 = λ x. IsNextCommit g epoch end x (left - (n + chain_blocks ds)) d bytes in
    let Q : ℕ → Type 0 = λ x. IsNextCommit g epoch end (number + 1 + length ds) x d bytes in
    let numbers : number + length (e ∷ ds) ≡ number + 1 + length ds = omega arith in
    let rest : left - (n + chain_blocks ds) ≡ left - n - chain_blocks ds = omega arith in (
      are.0,
      read_more g epoch (position_after p e) (number + 1) (left - n) ds d bytes are.1
          (subst Q rest (subst P numbers next)),
    )

-- those behind the first ones
pub read_behind : (g : LogValue) (epoch p number left : ℕ) (ds es : List LogDescriptor) (bytes : List ℕ)
    → AreRead g epoch p number left (ds ++ es) bytes
    → AreRead g epoch (chain_end p ds) (number + length ds) (left - chain_blocks ds) es bytes
read_behind g epoch p number left [] es bytes are =
    let P : ℕ → Type 0 = λ n. AreRead g epoch p n left es bytes in
    let Q : ℕ → Type 0 = λ n. AreRead g epoch p (number + 0) n es bytes in
    let none : left ≡ left - 0 = omega arith in
    let here : number ≡ number + 0 = omega arith in
    subst Q none (subst P here are)
read_behind g epoch p number left (d ∷ ds) es bytes are =
    let n : ℕ = log_commit_blocks (length d.homes) in
    let end : ℕ = chain_end (position_after p d) ds in
    let P : ℕ → Type 0 = λ x. AreRead g epoch end x (left - n - chain_blocks ds) es bytes in
    let Q : ℕ → Type 0 = λ x. AreRead g epoch end (number + length (d ∷ ds)) x es bytes in
    let numbers : number + 1 + length ds ≡ number + length (d ∷ ds) = omega arith in
    let rest : left - n - chain_blocks ds ≡ left - (n + chain_blocks ds) = omega arith in
    subst Q rest (subst P numbers (read_behind g epoch (position_after p d) (number + 1) (left - n) ds es bytes are.1))

-- all commits of a log can be read
pub read_of_chain : (g : LogValue) (epoch p number left : ℕ) (ds : List LogDescriptor) (bytes : List ℕ)
    → IsChain g epoch p number left ds bytes → AreRead g epoch p number left ds bytes
read_of_chain g epoch p number left [] bytes is = tt
read_of_chain g epoch p number left (d ∷ ds) bytes is = (
  is.0,
  read_of_chain g epoch (position_after p d) (number + 1) (left - log_commit_blocks (length d.homes)) ds bytes
      is.1,
)

-- they are all, where the log ends behind them
pub chain_of_read : (g : LogValue) (epoch p number left : ℕ) (ds : List LogDescriptor) (bytes : List ℕ)
    → AreRead g epoch p number left ds bytes
    → LogEndsAt g.sealing g epoch (chain_end p ds) (number + length ds) (left - chain_blocks ds) bytes
    → IsChain g epoch p number left ds bytes
chain_of_read g epoch p number left [] bytes are ends =
    let P : ℕ → Type 0 = λ n. LogEndsAt g.sealing g epoch p n left bytes in
    let Q : ℕ → Type 0 = λ n. LogEndsAt g.sealing g epoch p (number + 0) n bytes in
    let none : left - 0 ≡ left = omega arith in
    let here : number + 0 ≡ number = omega arith in
    subst P here (subst Q none ends)
chain_of_read g epoch p number left (d ∷ ds) bytes are ends =
    let n : ℕ = log_commit_blocks (length d.homes) in
    let end : ℕ = chain_end (position_after p d) ds in
    let P : ℕ → Type 0 = λ x. LogEndsAt g.sealing g epoch end x (left - (n + chain_blocks ds)) bytes in
    let Q : ℕ → Type 0 = λ x. LogEndsAt g.sealing g epoch end (number + 1 + length ds) x bytes in
    let numbers : number + length (d ∷ ds) ≡ number + 1 + length ds = omega arith in
    let rest : left - (n + chain_blocks ds) ≡ left - n - chain_blocks ds = omega arith in (
      are.0,
      chain_of_read g epoch (position_after p d) (number + 1) (left - n) ds bytes are.1
          (subst Q rest (subst P numbers ends)),
    )

-- ---- the end of a chain

pub end_is : (p : ℕ) (ds : List LogDescriptor) → chain_end p ds ≡ p + chain_blocks ds
end_is p [] = omega arith
end_is p (d ∷ ds) = omega (arith, end_is (position_after p d) ds)

pub end_more : (p : ℕ) (ds : List LogDescriptor) (d : LogDescriptor)
    → chain_end p (ds ++ d ∷ []) ≡ position_after (chain_end p ds) d
end_more p [] d = refl
end_more p (e ∷ ds) d = end_more (position_after p e) ds d

pub blocks_more : (ds : List LogDescriptor) (d : LogDescriptor)
    → chain_blocks (ds ++ d ∷ []) ≡ chain_blocks ds + log_commit_blocks (length d.homes)
blocks_more [] d = omega arith
blocks_more (e ∷ ds) d = omega (arith, blocks_more ds d)

pub length_more : (ds : List LogDescriptor) (d : LogDescriptor) → length (ds ++ d ∷ []) ≡ length ds + 1
length_more [] d = omega arith
length_more (e ∷ ds) d = omega (arith, length_more ds d)

-- ---- recovered blocks

logged_same : (ring other p : ℕ) (homes : List ℕ) (b : ℕ) (old new : List ℕ)
    → block_at new other ≡ block_at old other → SameBlocks ring p p (length homes) old new
    → block_at new (logged_or ring other p homes b) ≡ block_at old (logged_or ring other p homes b)
logged_same ring other p [] b old new here same = here
logged_same ring other p (home ∷ homes) b old new here same =
    let first : block_at new (ring_block ring p) ≡ block_at old (ring_block ring p) =
    ap (λ x. block_at new (ring_block ring x)) (omega arith) ∙ same 0 (omega arith)
    ∙ ap (λ x. block_at old (ring_block ring x)) (omega arith) in
    let behind : SameBlocks ring (p + 1) (p + 1) (length homes) old new =
    λ k lt. same_behind ring p p 1 (length homes) old new (λ j le. same j (omega arith)) k lt in
    let rest = logged_same ring other (p + 1) homes b old new here behind in
    elim (b == home) as (λ t. block_at new (cond t (ring_block ring p) (logged_or ring other (p + 1) homes b))
    ≡ block_at old (cond t (ring_block ring p) (logged_or ring other (p + 1) homes b))) [
      | true ↦ first
      | false ↦ rest
    ]

pub newest_same : (ring other p : ℕ) (ds : List LogDescriptor) (b : ℕ) (old new : List ℕ)
    → block_at new other ≡ block_at old other → SameBlocks ring p p (chain_blocks ds) old new
    → block_at new (newest_or ring other p ds b) ≡ block_at old (newest_or ring other p ds b)
newest_same ring other p [] b old new here same = here
newest_same ring other p (d ∷ ds) b old new here same =
    let count : ℕ = length d.homes in
    let blocks : ℕ = log_descriptor_blocks count in
    newest_same ring (logged_or ring other (records_position p d) d.homes b) (position_after p d) ds b old new
    (logged_same ring other (records_position p d) d.homes b old new here
    (same_first ring (p + blocks) (p + blocks) count (count + chain_blocks ds) old new
    (same_behind ring p p blocks (count + chain_blocks ds) old new
    (λ k lt. same k (omega arith))) (omega arith)))
    (same_behind ring p p (log_commit_blocks count) (chain_blocks ds) old new same)

pub newest_with : (ring other p : ℕ) (ds : List LogDescriptor) (d : LogDescriptor) (b : ℕ)
    → newest_or ring other p (ds ++ d ∷ []) b
    ≡ logged_or ring (newest_or ring other p ds b) (records_position (chain_end p ds) d) d.homes b
newest_with ring other p [] d b = refl
newest_with ring other p (e ∷ ds) d b =
    newest_with ring (logged_or ring other (records_position p e) e.homes b) (position_after p e) ds d b

-- contents with records are these blocks
pub committed_as : (ring other p : ℕ) (homes records : List ℕ) (contents : ℕ → List ℕ) (b : ℕ) (bytes : List ℕ)
    → 0 < ring → 4096 * (4 + ring) ≤ length bytes → contents b ≡ block_at bytes other
    → ring_bytes ring bytes p (length homes) ≡ records
    → committed_to contents homes records b ≡ block_at bytes (logged_or ring other p homes b)
committed_as ring other p [] records contents b bytes some long here are = here
committed_as ring other p (home ∷ homes) records contents b bytes some long here are =
    let first : List ℕ = block_at bytes (ring_block ring p) in
    let rest : List ℕ = ring_bytes ring bytes (p + 1) (length homes) in
    let whole : length first ≡ 4096 =
    length-block bytes (ring_block ring p) (omega (arith, block_low ring p some)) in
    let one : take 4096 records ≡ first = ap (take 4096) (sym are) ∙ take_at first rest 4096 whole in
    let more : drop 4096 records ≡ rest = ap (drop 4096) (sym are) ∙ drop_at first rest 4096 whole in
    let others = committed_as ring other (p + 1) homes (drop 4096 records) contents b bytes some long here (sym more) in
    elim (b == home) as (λ t. cond t (take 4096 records) (committed_to contents homes (drop 4096 records) b)
    ≡ block_at bytes (cond t (ring_block ring p) (logged_or ring other (p + 1) homes b))) [
      | true ↦ one
      | false ↦ others
    ]
