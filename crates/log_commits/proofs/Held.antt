-- Logs that are kept, or that have one commit more.
use Rattle.std.proofs.Common.{◌≡◌, ℕ, ◌+◌, ◌-◌, ◌*◌, ◌/◌, ◌%◌, ◌<◌, ◌≤◌, List, [], ◌∷◌, ◌++◌}
use Rattle.std.proofs.Common.{Bool, true, false, length, get_or, refl, sym, ap, subst, ◌∙◌, arith}
use Rattle.std.proofs.Math.Nat.{mod-add-mod}
use Rattle.volume_codec.specs.Layout.{block_at}
use Rattle.log_codec.specs.declared.start.LogStart.{LogStart}
use Rattle.log_codec.specs.Log.{LogValue, IsLog, ring_block, ring_bytes, log_commit_blocks}
use Rattle.log_codec.specs.Start.{HasLogStart, IsStartBlock, start_block, counts_second}
use Rattle.log_codec.specs.Commit.{LogDescriptor}
use Rattle.log_codec.specs.Chain.{IsNextCommit, IsLogHome}
use Rattle.log_codec.specs.Chain.{records_position, chain_end, chain_blocks, newest_or}
use Rattle.log_commits.specs.Tail.{TailValue, BeginsLog, HoldsLog, HoldsUpTo, MayGoOn}
use Rattle.log_commits.specs.Commit.{committed_to, next_logged, tail_after}
use Rattle.log_commits.proofs.Places.{blocks_apart, block_low, same_block}
use Rattle.log_commits.proofs.Ranges.{RingTorn, torn_round, torn_low, torn_block}
use Rattle.log_commits.proofs.Moved.{SameBlocks, read_moved, read_more, end_is, end_more, blocks_more, length_more}
use Rattle.log_commits.proofs.Moved.{newest_same, newest_with, committed_as}

-- new has the starts of old, the first blocks of the log from the start on, as many as are in use, and the home blocks
pub record KeepsLog (t : TailValue) (old new : List ℕ) : Type 0 where
  pub same_length : length new ≡ length old
  pub low : (i : ℕ) → i < 16384 → get_or new i 0 ≡ get_or old i 0
  pub chain : SameBlocks t.log.ring t.start.position t.start.position t.used old new
  pub homes : (b : ℕ) → IsLogHome t.log b → block_at new b ≡ block_at old b

-- the start that counts
pub start_kept : (ring : ℕ) (s : LogStart) (old new : List ℕ) → length new ≡ length old
    → ((i : ℕ) → i < 16384 → get_or new i 0 ≡ get_or old i 0) → HasLogStart ring s old → HasLogStart ring s new
start_kept ring s old new same low is =
    let byte : get_or new 4096 0 ≡ get_or old 4096 0 = low 4096 (omega arith) in
    let block : (second : Bool) → block_at new (start_block second) ≡ block_at old (start_block second) = λ second.
    elim second as (λ v. block_at new (start_block v) ≡ block_at old (start_block v)) [
      | true ↦ same_block new old 3 same (λ j small. low (4096 * 3 + j) (omega arith))
      | false ↦ same_block new old 2 same (λ j small. low (4096 * 2 + j) (omega arith))
    ] in
    let P : List ℕ → Type 0 = λ l. IsStartBlock ring s l in
    let Q : ℕ → Type 0 = λ v. IsStartBlock ring s (block_at new (start_block (counts_second v))) in
    subst Q (sym byte) (subst P (sym (block (counts_second (get_or old 4096 0)))) is)

module _ (t : TailValue) (contents : ℕ → List ℕ) (old new : List ℕ) (held : HoldsLog t contents old)
    (keeps : KeepsLog t old new) where
  abbrev g : LogValue
  g = t.log

  abbrev s : LogStart
  s = t.start

  abbrev chain : List LogDescriptor
  chain = held.chain

  abbrev end : ℕ
  end = chain_end s.position chain

  kept_blocks : SameBlocks g.ring s.position s.position (chain_blocks chain) old new
  kept_blocks = λ k lt. keeps.chain k (omega (arith, held.used_is))

  -- its commits are there
  pub kept_log : BeginsLog g s chain new
  kept_log = record {
    long = omega (arith, held.log.long, keeps.same_length);
    start = start_kept g.ring s old new keeps.same_length keeps.low held.log.start;
    commits = read_moved g s.epoch s.position s.position s.number g.ring g.ring chain old new kept_blocks (omega arith)
        held.log.commits;
  }

  pub kept_contents : (b : ℕ) → IsLogHome g b → contents b ≡ block_at new (newest_or g.ring b s.position chain b)
  kept_contents b home =
      held.contents_are b home
      ∙ sym (newest_same g.ring b s.position chain b old new (keeps.homes b home) kept_blocks)

  -- whatever lies behind them
  pub kept_up_to : HoldsUpTo g t.number contents new
  kept_up_to = record {
    start = s;
    chain = chain;
    log = kept_log;
    number_is = held.number_is;
    contents_are = kept_contents;
  }

  -- the same log, where it may go on
  pub held_still : MayGoOn g.sealing g.ring t.position new → (h : HoldsLog t contents new) × (h.chain ≡ held.chain)
  held_still next = (
    record {
      chain = chain;
      log = kept_log;
      next = next;
      position_is = held.position_is;
      number_is = held.number_is;
      used_is = held.used_is;
      contents_are = kept_contents;
    },
    refl,
  )

  -- and with one commit more
  pub held_more : (homes records : List ℕ) → 0 < g.ring → 4096 * (4 + g.ring) ≤ length new
      → IsNextCommit g s.epoch end (s.number + length chain) (g.ring - chain_blocks chain) (next_logged t homes) new
      → ring_bytes g.ring new (records_position end (next_logged t homes)) (length homes) ≡ records
      → MayGoOn g.sealing g.ring ((t.position + log_commit_blocks (length homes)) % g.ring) new
      → (h : HoldsLog (tail_after t homes) (committed_to contents homes records) new)
      × (h.chain ≡ held.chain ++ next_logged t homes ∷ [])
  held_more homes records some long there are next =
      let d : LogDescriptor = next_logged t homes in
      let n : ℕ = log_commit_blocks (length homes) in (
        record {
          chain = chain ++ d ∷ [];
          log = record {
            long = kept_log.long;
            start = kept_log.start;
            commits = read_more g s.epoch s.position s.number g.ring chain d new kept_log.commits there;
          };
          next = next;
          position_is = ap (λ x. (x + n) % g.ring) held.position_is ∙ mod-add-mod end g.ring n
              ∙ ap (λ x. x % g.ring) (sym (end_more s.position chain d));
          number_is = omega (arith, held.number_is, length_more chain d);
          used_is = omega (arith, held.used_is, blocks_more chain d);
          contents_are = λ b home.
              let other : ℕ = newest_or g.ring b s.position chain b in
              committed_as g.ring other (records_position end d) homes records contents b new some long
              (kept_contents b home) are
              ∙ ap (block_at new) (sym (newest_with g.ring b s.position chain d b));
        },
        refl,
      )

-- what a range behind the end of the log leaves of it
pub keeps_of_torn : (t : TailValue) (contents : ℕ → List ℕ) (old new : List ℕ) (to blocks : ℕ) → IsLog t.log
    → HoldsLog t contents old → RingTorn t.log.ring t.position 0 to old new → to ≤ 4096 * blocks
    → t.used + blocks ≤ t.log.ring → KeepsLog t old new
keeps_of_torn t contents old new to blocks log held torn room fits =
    let ring : ℕ = t.log.ring in
    let some = log.some_ring in
    let p : ℕ = t.start.position in
    let end : ℕ = chain_end p held.chain in
    let ends : end ≡ p + t.used = omega (arith, end_is p held.chain, held.used_is) in
    let P : ℕ → Type 0 = λ x. RingTorn ring x 0 to old new in
    let there : RingTorn ring end 0 to old new = torn_round (subst P held.position_is torn) in
    record {
      same_length = torn.same_length;
      low = torn_low torn;
      chain = λ k lt. torn_block there (ring_block ring (p + k)) (λ j less.
          blocks_apart ring (p + k) (end + j / 4096) (omega arith) (omega arith) (omega arith));
      homes = λ b home. torn_block there b (λ j less is.
          omega (arith, home.low, block_low ring (end + j / 4096) (omega arith)));
    }
