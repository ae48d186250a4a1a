-- What bytes hold in which a commit is under way, or done.
use Rattle.std.proofs.Common.{◌≡◌, ◌≢◌, ℕ, ◌+◌, ◌-◌, ◌*◌, ◌/◌, ◌%◌, ◌<◌, ◌≤◌}
use Rattle.std.proofs.Common.{List, [], ◌∷◌, ◌++◌, length, get_or, sym, ap, subst, ◌∙◌, arith}
use Rattle.std.proofs.Common.{length-append}
use Rattle.std.proofs.lemmas.List.{get_or_append_left, get_or-append_right}
use Rattle.volume_codec.specs.Layout.{block_at}
use Rattle.log_codec.specs.declared.sealing.Sealing.{Sealing}
use Rattle.log_codec.specs.declared.sealing.Sealing.TheVariants.{ByByte, ByDigest}
use Rattle.log_codec.specs.declared.start.LogStart.{LogStart}
use Rattle.log_codec.specs.Log.{LogValue, IsLog, ring_block, ring_bytes, log_descriptor_blocks, log_commit_blocks}
use Rattle.log_codec.specs.Commit.{LogDescriptor, log_body, log_seal}
use Rattle.log_codec.specs.Chain.{IsNextCommit, records_position, chain_end, chain_blocks}
use Rattle.log_commits.specs.Tail.{TailValue, HoldsLog, MayGoOn}
use Rattle.log_commits.specs.Commit.{MayCommit, committed_to, next_logged, commit_bytes, tail_after}
use Rattle.log_commits.proofs.Places.{block_round, ring_place, place_behind, first-block, ring_spelled}
use Rattle.log_commits.proofs.Ranges.{RingHas, has_round}
use Rattle.log_commits.proofs.Held.{KeepsLog, held_still, held_more}

first_of_tail : (ring p : ℕ) (bytes : List ℕ) → get_or (block_at bytes (ring_block ring p)) 0 0
    ≡ get_or bytes (ring_place ring p 0) 0
first_of_tail ring p bytes =
    let block : p ≡ p + 0 / 4096 = omega arith in
    let place : 4096 * ring_block ring (p + 0 / 4096) ≡ ring_place ring p 0 = omega arith in
    first-block bytes (ring_block ring p) ∙ ap (λ x. get_or bytes (4096 * ring_block ring x) 0) block
    ∙ ap (λ x. get_or bytes x 0) place

-- where a byte seals, the seal at the end of a log is closed
pub closed_before : (t : TailValue) (contents : ℕ → List ℕ) (bytes : List ℕ) → HoldsLog t contents bytes
    → t.log.sealing ≡ ByByte → get_or bytes (ring_place t.log.ring t.position 0) 0 ≢ 0xA7
closed_before t contents bytes held byte opened =
    let P : Sealing → Type 0 = λ x. MayGoOn x t.log.ring t.position bytes in
    let closed = subst P byte held.next in
    closed (first_of_tail t.log.ring t.position bytes ∙ opened)

module _ (t : TailValue) (contents : ℕ → List ℕ) (old new : List ℕ) (homes records : List ℕ) (room : ℕ)
    (log : IsLog t.log) (held : HoldsLog t contents old) (may : MayCommit t homes room)
    (head_size : length (log_seal t.log.sealing t.start.epoch (next_logged t homes) records
    ++ log_body (next_logged t homes)) ≡ 4096 * log_descriptor_blocks (length homes))
    (records_size : length records ≡ 4096 * length homes) (keeps : KeepsLog t old new) where
  abbrev g : LogValue
  g = t.log

  abbrev s : LogStart
  s = t.start

  abbrev d : LogDescriptor
  d = next_logged t homes

  abbrev count : ℕ
  count = length homes

  abbrev blocks : ℕ
  blocks = log_descriptor_blocks count

  abbrev n : ℕ
  n = log_commit_blocks count

  abbrev head : List ℕ
  head = log_seal g.sealing s.epoch d records ++ log_body d

  abbrev end : ℕ
  end = chain_end s.position held.chain

  abbrev behind : ℕ
  behind = s.number + length held.chain

  abbrev left : ℕ
  left = g.ring - chain_blocks held.chain

  some : 0 < g.ring
  some = omega (arith, log.some_ring)

  long : 4096 * (4 + g.ring) ≤ length new
  long = omega (arith, held.log.long, keeps.same_length, log.some_homes)

  at_end : (from to : ℕ) (image : List ℕ) → RingHas g.ring t.position from to image new
      → RingHas g.ring end from to image new
  at_end from to image has =
      let P : ℕ → Type 0 = λ x. RingHas g.ring x from to image new in
      has_round g.ring end from to image new (subst P held.position_is has)

  -- the records and the commit are in their place
  are_records : RingHas g.ring end 0 (4096 * n) (commit_bytes t homes records) new
      → ring_bytes g.ring new (records_position end d) count ≡ records
  are_records has =
      ring_spelled g.ring new some long (end + blocks) count records records_size (λ k lt.
      ap (λ i. get_or new i 0) (place_behind g.ring end blocks k) ∙ has (4096 * blocks + k) (omega arith) (omega arith)
      ∙ get_or-append_right head records (4096 * blocks) (4096 * blocks + k) 0 head_size (omega arith)
      ∙ ap (λ i. get_or records i 0) (omega arith))

  is_next : ring_bytes g.ring new end blocks
      ≡ log_seal g.sealing s.epoch d (ring_bytes g.ring new (records_position end d) count) ++ log_body d
      → IsNextCommit g s.epoch end behind left d new
  is_next sealed =
      let some_number = held.log.start.start.some_number in
      record {
        sealed = record {
          logged = record {
            number = record { some = omega (arith, held.number_is); small = may.number };
            size = may.size;
            rising = may.rising;
          };
          sealed = sealed;
        };
        number_is = held.number_is;
        room = omega (arith, may.free, held.used_is);
      }

  next_of : RingHas g.ring end 0 (4096 * n) (commit_bytes t homes records) new
      → IsNextCommit g s.epoch end behind left d new
  next_of has =
      let spelled : ring_bytes g.ring new end blocks ≡ head =
      ring_spelled g.ring new some long end blocks head head_size (λ k lt.
      has k (omega arith) (omega arith) ∙ get_or_append_left head records 0 k (omega (arith, head_size))) in
      is_next (spelled ∙ ap (λ (l : List ℕ). log_seal g.sealing s.epoch d l ++ log_body d) (sym (are_records has)))

  -- the log with the commit
  abbrev HoldsMore : Type 0
  HoldsMore = (h : HoldsLog (tail_after t homes) (committed_to contents homes records) new)
      × (h.chain ≡ held.chain ++ d ∷ [])

  -- the log without it
  abbrev HoldsSame : Type 0
  HoldsSame = (h : HoldsLog t contents new) × (h.chain ≡ held.chain)

  -- ---- where a byte seals

  module _ (byte : g.sealing ≡ ByByte) where
    closed_at : (p : ℕ) → get_or new (ring_place g.ring p 0) 0 ≢ 0xA7 → MayGoOn g.sealing g.ring p new
    closed_at p other =
        let P : Sealing → Type 0 = λ x. MayGoOn x g.ring p new in
        subst P (sym byte) (λ is. other (sym (first_of_tail g.ring p new) ∙ is))

    pub closed_by_byte : get_or new (ring_place g.ring t.position 0) 0 ≢ 0xA7 → HoldsSame
    closed_by_byte other = held_still t contents old new held keeps (closed_at t.position other)

    pub open_by_byte : RingHas g.ring t.position 0 (4096 * n + 1) (commit_bytes t homes records ++ 0 ∷ []) new
        → HoldsMore
    open_by_byte all =
        let bytes : List ℕ = commit_bytes t homes records in
        let size : length bytes ≡ 4096 * n =
        omega (arith, length-append head records, head_size, records_size) in
        let there = at_end 0 (4096 * n + 1) (bytes ++ 0 ∷ []) all in
        let has : RingHas g.ring end 0 (4096 * n) bytes new = λ k least most.
        there k least (omega arith) ∙ get_or_append_left bytes (0 ∷ []) 0 k (omega arith) in
        let none : 4096 * n - 4096 * n ≡ 0 = omega arith in
        let last : get_or new (ring_place g.ring end (4096 * n)) 0 ≡ 0 =
        there (4096 * n) (omega arith) (omega arith)
        ∙ get_or-append_right bytes (0 ∷ []) (4096 * n) (4096 * n) 0 size (omega arith)
        ∙ ap (λ i. get_or (0 ∷ []) i 0) none in
        let last_block : 4096 * n / 4096 ≡ n = omega arith in
        let last_byte : 4096 * ring_block g.ring (end + n) + (4096 * n) % 4096 ≡ 4096 * ring_block g.ring (end + n) =
        omega arith in
        let place : ring_place g.ring end (4096 * n) ≡ 4096 * ring_block g.ring (end + n) =
        ap (λ x. 4096 * ring_block g.ring (end + x) + (4096 * n) % 4096) last_block ∙ last_byte in
        let next : ℕ = (t.position + n) % g.ring in
        let round : ring_block g.ring next ≡ ring_block g.ring (end + n) =
        let zero_next : next ≡ next + 0 = omega arith in
        let zero_there : t.position + n + 0 ≡ t.position + n = omega arith in
        ap (ring_block g.ring) zero_next ∙ block_round g.ring (t.position + n) 0 ∙ ap (ring_block g.ring) zero_there
        ∙ ap (λ x. ring_block g.ring (x + n)) held.position_is ∙ block_round g.ring end n in
        held_more t contents old new held keeps homes records some long (next_of has) (are_records has)
        (closed_at next (λ is. absurd (omega (
          arith,
          last,
          is,
          first_of_tail g.ring next new,
          first-block new (ring_block g.ring next),
          ap (λ x. get_or new x 0) place,
          ap (λ x. get_or new (4096 * x) 0) round,
        ))))

  -- ---- where a digest seals

  pub whole_by_digest : (key : ℕ) → g.sealing ≡ ByDigest key
      → RingHas g.ring t.position 0 (4096 * n) (commit_bytes t homes records) new → HoldsMore
  whole_by_digest key digest all =
      let has = at_end 0 (4096 * n) (commit_bytes t homes records) all in
      let P : Sealing → Type 0 = λ x. MayGoOn x g.ring ((t.position + n) % g.ring) new in
      held_more t contents old new held keeps homes records some long (next_of has) (are_records has)
      (subst P (sym digest) tt)
