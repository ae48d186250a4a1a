-- What both starts recover to.
use Rattle.std.proofs.Common.{◌≡◌, ◌≢◌, ◌⊎◌, ℕ, ◌*◌, ◌<◌, ◌≤◌, Bool, true, false, not, List, [], length}
use Rattle.std.proofs.Common.{get_or, inl, inr, refl, sym, ap, subst, ◌∙◌, arith}
use Rattle.volume_codec.specs.Layout.{block_at}
use Rattle.log_codec.specs.declared.start.LogStart.{LogStart}
use Rattle.log_codec.specs.Log.{LogValue, IsLog, ring_block}
use Rattle.log_codec.specs.Start.{IsLogStart, IsStartBlock, HasLogStart, start_block, counts_second}
use Rattle.log_codec.specs.Commit.{LogDescriptor}
use Rattle.log_codec.specs.Chain.{LogEndsAt, HasLog, LogRecovers, IsLogHome, contents_of_log}
use Rattle.log_opening.specs.Opening.{SameAround, RecoversAlike}
use Rattle.log_opening.specs.inside.Keeping.{KeepsLog, IsReady}
use Rattle.log_opening.proofs.Blocks.{AgreesOut, get_or-block, same_behind, other_block}
use Rattle.log_opening.proofs.Rings.{SameRing, ring_low, chain_same, ends_same}
use Rattle.log_opening.proofs.Newest.{newest_cases}
use Rattle.log_opening.proofs.Keeping.{start_low}

-- the two starts lie apart
starts_apart : (second : Bool) → start_block second ≢ start_block (not second)
starts_apart true same = omega (arith, same)
starts_apart false same = omega (arith, same)

-- the first byte of block 1
selecting : (bytes : List ℕ) → get_or (block_at bytes 1) 0 0 ≡ get_or bytes 4096 0
selecting bytes = get_or-block bytes 1 0 (omega arith)

-- bytes with the start that counts in a block
has_start : (ring : ℕ) (s : LogStart) (bytes : List ℕ) (second : Bool) → counts_second (get_or bytes 4096 0) ≡ second
    → IsStartBlock ring s (block_at bytes (start_block second)) → HasLogStart ring s bytes
has_start ring s bytes second counts is =
    let P : Bool → Type 0 = λ t. IsStartBlock ring s (block_at bytes (start_block t)) in subst P (sym counts) is

either : (a b : Bool) → (a ≡ b) ⊎ (a ≡ not b)
either true true = inl refl
either true false = inr refl
either false true = inr refl
either false false = inl refl

module _ (g : LogValue) (s : LogStart) (chain : List LogDescriptor) (second : Bool) (old : List ℕ) (log : IsLog g)
    (has : HasLog g s chain old) (counts : counts_second (get_or old 4096 0) ≡ second) where
  some : 0 < g.ring
  some = omega (arith, log.some_ring)

  start_there : IsStartBlock g.ring s (block_at old (start_block second))
  start_there =
      let P : Bool → Type 0 = λ t. IsStartBlock g.ring s (block_at old (start_block t)) in subst P counts has.start

  -- bytes whose blocks from 2 on are those of bytes that keep the log, and in which the same start counts
  module _ (kept new : List ℕ) (keeps : KeepsLog g s chain second old kept) (same_length : length new ≡ length kept)
      (same : (b : ℕ) → 2 ≤ b → block_at new b ≡ block_at kept b) where
    ring_kept : SameRing g.ring old new
    ring_kept p =
        let low = start_low (not second) in
        same (ring_block g.ring p) (omega arith)
        ∙ keeps.low (ring_block g.ring p) (ring_low g.ring p some) (omega (arith, low.1))

    long : 4096 * g.blocks ≤ length new
    long = omega (arith, has.long, same_length, keeps.same_length)

    pub log_kept : counts_second (get_or new 4096 0) ≡ second → HasLog g s chain new
    log_kept still = record {
      long = long;
      start = has_start g.ring s new second still
          (let low = start_low second in
          let here : block_at new (start_block second) ≡ block_at old (start_block second) =
          same (start_block second) low.0
          ∙ keeps.low (start_block second) (omega (arith, low.1)) (starts_apart second) in
          let P : List ℕ → Type 0 = λ l. IsStartBlock g.ring s l in subst P (sym here) start_there);
      commits = chain_same g s.epoch s.position s.number g.ring chain old new ring_kept has.commits;
    }

    pub contents_kept : (b : ℕ) → IsLogHome g b
        → contents_of_log g s.position chain new b ≡ contents_of_log g s.position chain old b
    contents_kept b home = elim (newest_cases g.ring b s.position chain b) [
      | inl there ↦
          ap (block_at new) there.1 ∙ ring_kept there.0 ∙ ap (block_at old) (sym there.1)
      | inr none ↦
          ap (block_at new) none ∙ same b (omega (arith, home.low)) ∙ keeps.homes b home none
          ∙ ap (block_at old) (sym none)
    ]

    pub recovers_kept : counts_second (get_or new 4096 0) ≡ second
        → LogRecovers g (contents_of_log g s.position chain old) new
    recovers_kept still = record {
      start = s;
      chain = chain;
      log = log_kept still;
      contents_are = λ b home. sym (contents_kept b home);
    }

    -- the other start counts
    module _ (next : LogStart) (ready : IsReady g s chain second next old kept) (is : IsLogStart g.ring next)
        (ends : LogEndsAt g.sealing g next.epoch next.position next.number g.ring old) where
      pub log_next : counts_second (get_or new 4096 0) ≡ not second → HasLog g next [] new
      log_next other = record {
        long = long;
        start = has_start g.ring next new (not second) other (record {
          start = is;
          spelled = same (start_block (not second)) ((start_low (not second)).0) ∙ ready.start;
        });
        commits = ends_same g next.epoch next.position next.number g.ring old new ring_kept ends;
      }

      pub homes_next : (b : ℕ) → IsLogHome g b → block_at new b ≡ contents_of_log g s.position chain old b
      homes_next b home = same b (omega (arith, home.low)) ∙ ready.homes b home

      pub recovers_next : counts_second (get_or new 4096 0) ≡ not second
          → LogRecovers g (contents_of_log g s.position chain old) new
      recovers_next other = record {
        start = next;
        chain = [];
        log = log_next other;
        contents_are = λ b home. sym (homes_next b home);
      }

      pub recovers_either : LogRecovers g (contents_of_log g s.position chain old) new
      recovers_either = elim (either (counts_second (get_or new 4096 0)) second) [
        | inl still ↦ recovers_kept still
        | inr other ↦ recovers_next other
      ]

-- ---- both recover alike

around_keeps : (g : LogValue) (s : LogStart) (chain : List LogDescriptor) (second : Bool) (old new : List ℕ)
    → KeepsLog g s chain second old new → SameAround g old new
around_keeps g s chain second old new keeps = record {
  same_length = keeps.same_length;
  super_block = keeps.low 0 (omega arith) (omega (arith, start_low (not second)));
  past = keeps.past;
}

around_byte : (g : LogValue) (old kept new : List ℕ) → IsLog g → SameAround g old kept → AgreesOut 4096 1 kept new
    → SameAround g old new
around_byte g old kept new log around agrees =
    record {
      same_length = agrees.same_length ∙ around.same_length;
      super_block = other_block 4096 1 1 0 kept new agrees (omega arith) (omega arith) (omega arith)
          ∙ around.super_block;
      past = same_behind (4096 * g.blocks) kept new agrees.same_length (λ i le.
          agrees.after i (omega (arith, log.some_homes))) ∙ around.past;
    }

module _ (g : LogValue) (s : LogStart) (chain : List LogDescriptor) (second : Bool) (old : List ℕ) (log : IsLog g)
    (has : HasLog g s chain old) (counts : counts_second (get_or old 4096 0) ≡ second) where
  was_there : LogRecovers g (contents_of_log g s.position chain old) old
  was_there = record { start = s; chain = chain; log = has; contents_are = λ b home. refl }

  -- before the byte of block 1 is written
  pub alike_before : (new : List ℕ) → KeepsLog g s chain second old new → RecoversAlike g old new
  alike_before new keeps =
      let block : block_at new 1 ≡ block_at old 1 =
      keeps.low 1 (omega arith) (omega (arith, start_low (not second))) in
      let byte : get_or new 4096 0 ≡ get_or old 4096 0 =
      sym (selecting new) ∙ ap (λ (l : List ℕ). get_or l 0 0) block ∙ selecting old in
      record {
        contents = contents_of_log g s.position chain old;
        was = was_there;
        is = recovers_kept g s chain second old log has counts new new keeps refl (λ b two. refl)
            (ap counts_second byte ∙ counts);
        around = around_keeps g s chain second old new keeps;
      }

  module _ (kept : List ℕ) (next : LogStart) (ready : IsReady g s chain second next old kept)
      (is : IsLogStart g.ring next)
      (ends : LogEndsAt g.sealing g next.epoch next.position next.number g.ring old) where
    others_kept : (new : List ℕ) → AgreesOut 4096 1 kept new → (b : ℕ) → 2 ≤ b → block_at new b ≡ block_at kept b
    others_kept new agrees b two =
        other_block 4096 1 1 b kept new agrees (omega arith) (omega arith) (omega arith)

    -- within its write
    pub alike_within : (new : List ℕ) → AgreesOut 4096 1 kept new → RecoversAlike g old new
    alike_within new agrees = record {
      contents = contents_of_log g s.position chain old;
      was = was_there;
      is = recovers_either g s chain second old log has counts kept new ready.keeps agrees.same_length
          (others_kept new agrees) next ready is ends;
      around = around_byte g old kept new log (around_keeps g s chain second old kept ready.keeps) agrees;
    }

    -- and behind it
    pub log_behind : (new : List ℕ) → AgreesOut 4096 1 kept new → counts_second (get_or new 4096 0) ≡ not second
        → HasLog g next [] new
    log_behind new agrees other = log_next g s chain second old log has counts kept new ready.keeps agrees.same_length
        (others_kept new agrees) next ready is ends other

    pub recovered_behind : (new : List ℕ) → AgreesOut 4096 1 kept new → LogRecovers g (block_at new) old
    recovered_behind new agrees = record {
      start = s;
      chain = chain;
      log = has;
      contents_are = λ b home. homes_next g s chain second old log has counts kept new ready.keeps agrees.same_length
          (others_kept new agrees) next ready is ends b home;
    }

    pub around_behind : (new : List ℕ) → AgreesOut 4096 1 kept new → SameAround g old new
    around_behind new agrees =
        around_byte g old kept new log (around_keeps g s chain second old kept ready.keeps) agrees
