-- Bytes in which a commit is under way, and a start is ready to be selected.
use Rattle.std.proofs.Common.{◌≡◌, ◌⊎◌, ℕ, ◌+◌, ◌-◌, ◌*◌, ◌/◌, ◌<◌, ◌≤◌, List, [], ◌∷◌, ◌++◌, Bool}
use Rattle.std.proofs.Common.{length, get_or, inl, inr, refl, sym, ap, subst, ◌∙◌, arith}
use Rattle.std.specs.Prelude.{⊤, not}
use Rattle.volume_codec.specs.Layout.{block_at}
use Rattle.device.specs.Device.{Torn}
use Rattle.device.proofs.Public.{torn_after, torn_none}
use Rattle.log_codec.specs.declared.sealing.Sealing.{Sealing}
use Rattle.log_codec.specs.declared.sealing.Sealing.TheVariants.{ByByte, ByDigest}
use Rattle.log_codec.specs.declared.start.LogStart.{LogStart}
use Rattle.log_codec.specs.Log.{LogValue, IsLog, log_commit_blocks}
use Rattle.log_codec.specs.Start.{HasLogStart, IsStartBlock, start_block, counts_second}
use Rattle.log_codec.specs.Commit.{LogDescriptor}
use Rattle.log_codec.specs.Chain.{LogRecovers}
use Rattle.log_commits.specs.declared.behind.OldCommits.{OldCommits}
use Rattle.log_commits.specs.Tail.{TailValue, HoldsLog, HoldsUpTo}
use Rattle.log_commits.specs.Told.{TellsTorn, IsNone, IsThis}
use Rattle.log_commits.specs.Commit.{LeftByCommit, MayCommit, committed_to, next_logged, tail_after}
use Rattle.log_commits.specs.Homes.{AreWrittenHome, start_behind_of}
use Rattle.log_commits.specs.Behind.{AreOldest, HoldsCommits, IsReadyToMove, IsSameOutside, MayMove}
use Rattle.log_commits.specs.Behind.{start_behind, tail_behind}
use Rattle.log_commits.proofs.Places.{block_low, same_block}
use Rattle.log_commits.proofs.Ranges.{RingTorn, torn_low}
use Rattle.log_commits.proofs.Held.{KeepsLog}
use Rattle.log_commits.proofs.Told.{tells_by_byte, told_commit}
use Rattle.log_commits.proofs.Written.{BeginsAt, begins_at, begins_kept, up_to_from, up_to_same}
use Rattle.log_commits.proofs.Kept.{either, moves, same_or_other, start_least, start_most, start_same}
use Rattle.log_commits.proofs.Committing.{high_kept, low_kept, ready_kept}

-- a range of the ring is in the log
pub torn_outside : (g : LogValue) (p from to : ℕ) (old new : List ℕ) → 0 < g.ring → RingTorn g.ring p from to old new
    → IsSameOutside g old new
torn_outside g p from to old new some torn = record {
  same_length = torn.same_length;
  places = λ i out. elim out [
    | inl less ↦ torn_low torn i less
    | inr more ↦ torn.elsewhere i (λ k least most is.
        absurd (omega (arith, is, more, block_low g.ring (p + k / 4096) some)))
  ];
}

-- a start is ready to be selected behind old commits; more may follow the commits so far
pub record IsNear (second : Bool) (t : TailValue) (oldest : OldCommits) (contents : ℕ → List ℕ)
    (ds younger : List LogDescriptor) (bytes : List ℕ) : Type 0 where
  pub begins : BeginsAt t contents (ds ++ younger) bytes
  pub start_is : IsStartBlock t.log.ring t.start (block_at bytes (start_block second))
  pub oldest_are : AreOldest t oldest ds
  pub start : IsStartBlock t.log.ring (start_behind t oldest) (block_at bytes (start_block (not second)))
  pub written : AreWrittenHome t.log contents ds younger bytes

start_by : (ring : ℕ) (s : LogStart) (second : Bool) (bytes : List ℕ) → second ≡ counts_second (get_or bytes 4096 0)
    → HasLogStart ring s bytes → IsStartBlock ring s (block_at bytes (start_block second))
start_by ring s second bytes selected is =
    let P : Bool → Type 0 = λ v. IsStartBlock ring s (block_at bytes (start_block v)) in
    subst P (sym selected) is

pub near : (second : Bool) (t : TailValue) (oldest : OldCommits) (contents : ℕ → List ℕ)
    (ds younger : List LogDescriptor) (bytes : List ℕ) → IsReadyToMove second t oldest contents ds younger bytes
    → IsNear second t oldest contents ds younger bytes
near second t oldest contents ds younger bytes ready = record {
  begins = begins_at t contents (ds ++ younger) bytes ready.holds.held ready.holds.chain_is;
  start_is = start_by t.log.ring t.start second bytes ready.holds.selected ready.holds.held.log.start;
  oldest_are = ready.oldest_are;
  start = ready.start;
  written = ready.written;
}

-- the byte that selects a start
pub up_to_selecting : (second : Bool) (t : TailValue) (oldest : OldCommits) (contents : ℕ → List ℕ)
    (ds younger : List LogDescriptor) (x c : List ℕ) → IsLog t.log → IsNear second t oldest contents ds younger x
    → Torn 4096 1 x c → HoldsUpTo t.log t.number contents c
up_to_selecting second t oldest contents ds younger x c log is torn =
    elim (same_or_other second (counts_second (get_or c 4096 0))) [
      | inl same ↦
          let P : Bool → Type 0 = λ v. IsStartBlock t.log.ring t.start (block_at c (start_block v)) in
          let Q : List ℕ → Type 0 = λ l. IsStartBlock t.log.ring t.start l in
          up_to_same t contents (ds ++ younger) x c is.begins torn.same_length (λ b le. block_same b (omega arith))
          (subst P same (subst Q (sym (block_same (start_block second) (start_least second))) is.start_is))
      | inr other ↦
          let P : Bool → Type 0 =
          λ v. IsStartBlock t.log.ring (start_behind_of t.log t.start ds) (block_at c (start_block v)) in
          let Q : List ℕ → Type 0 = λ l. IsStartBlock t.log.ring (start_behind t oldest) l in
          let R : LogStart → Type 0 = λ s. IsStartBlock t.log.ring s (block_at c (start_block (not second))) in
          up_to_from t contents x c log ds younger is.begins torn.same_length (λ b le. block_same b (omega arith))
          (subst P other (subst R (start_same t oldest ds is.oldest_are)
          (subst Q (sym (block_same (start_block (not second)) (start_least (not second)))) is.start))) is.written
    ]
  where
    block_same : (b : ℕ) → 2 ≤ b → block_at c b ≡ block_at x b
    block_same b le = same_block c x b torn.same_length (λ j small. torn_after torn (4096 * b + j) (omega arith))

module _ (t : TailValue) (contents : ℕ → List ℕ) (homes records : List ℕ) (room : ℕ) (oldest : OldCommits)
    (log : IsLog t.log) (may : MayCommit t homes room) (can : MayMove t oldest) (second : Bool)
    (ds younger : List LogDescriptor) where
  abbrev g : LogValue
  g = t.log

  abbrev n : ℕ
  n = log_commit_blocks (length homes)

  abbrev d : LogDescriptor
  d = next_logged t homes

  abbrev after : TailValue
  after = tail_after t homes

  abbrev behind : TailValue
  behind = tail_behind t oldest

  abbrev newer : ℕ → List ℕ
  newer = committed_to contents homes records

  -- ready without the commit, and with it
  abbrev pub Before : List ℕ → Type 0
  Before = IsReadyToMove second t oldest contents ds younger

  abbrev pub After : List ℕ → Type 0
  After = IsReadyToMove second after oldest newer ds (younger ++ d ∷ [])

  -- where a byte seals, which of both is known
  abbrev pub Known : Sealing → List ℕ → Type 0
  Known ByByte x = Before x ⊎ After x
  Known (ByDigest key) x = ⊤

  abbrev pub Either : List ℕ → Type 0
  Either x = IsNear second t oldest contents ds younger x × Known g.sealing x

  abbrev pub Left : List ℕ → Type 0
  Left = LeftByCommit behind contents homes records

  -- ---- it stays ready

  pub near_kept : (b x : List ℕ) → Before b → IsSameOutside g b x → KeepsLog t b x
      → IsNear second t oldest contents ds younger x
  near_kept b x ready same keeps =
      let is = near second t oldest contents ds younger b ready in
      let P : List ℕ → Type 0 = λ l. IsStartBlock g.ring t.start l in
      let Q : List ℕ → Type 0 = λ l. IsStartBlock g.ring (start_behind t oldest) l in
      record {
        begins = begins_kept t contents (ds ++ younger) b x ready.holds.held ready.holds.chain_is keeps;
        start_is = subst P (sym (low_kept g b x (start_block second) same (start_most second))) is.start_is;
        oldest_are = is.oldest_are;
        start = subst Q (sym (low_kept g b x (start_block (not second)) same (start_most (not second)))) is.start;
        written = λ i home logged. elim (is.written i home logged) [
          | inl later ↦ inl later
          | inr there ↦ inr (high_kept g b x i same (omega (arith, home.low)) ∙ there)
        ];
      }

  module _ (b x : List ℕ) (ready : Before b) (same : IsSameOutside g b x) where
    selected : second ≡ counts_second (get_or x 4096 0)
    selected = ready.holds.selected ∙ ap counts_second (sym (same.places 4096 (inl (omega arith))))

    pub ready_same : (h : HoldsLog t contents x) × (h.chain ≡ ready.holds.held.chain) → Before x
    ready_same is =
        let Q : List ℕ → Type 0 = λ l. IsStartBlock g.ring (start_behind t oldest) l in
        record {
          holds = record { held = is.0; chain_is = is.1 ∙ ready.holds.chain_is; selected = selected };
          oldest_are = ready.oldest_are;
          start = subst Q (sym (low_kept g b x (start_block (not second)) same (start_most (not second)))) ready.start;
          written = λ i home logged. elim (ready.written i home logged) [
            | inl later ↦ inl later
            | inr there ↦ inr (high_kept g b x i same (omega (arith, home.low)) ∙ there)
          ];
        }

    pub ready_more : (h : HoldsLog after newer x) × (h.chain ≡ ready.holds.held.chain ++ d ∷ []) → After x
    ready_more is =
        ready_kept second t oldest contents ds younger homes records b x same ready (record {
          held = is.0;
          chain_is = is.1 ∙ ap (λ (l : List LogDescriptor). l ++ d ∷ []) ready.holds.chain_is;
          selected = selected;
        })

  -- ---- the byte that selects a start

  module _ (x c : List ℕ) (torn : Torn 4096 1 x c) where
    pub left_selecting : Either x → Left c
    left_selecting may_be =
        let is = up_to_selecting second t oldest contents ds younger x c log may_be.0 torn in
        record { up_to = is; recovers = by g.sealing refl is may_be.1 }
      where
        by : (s : Sealing) → g.sealing ≡ s → HoldsUpTo g t.number contents c → Known s x
            → TellsTorn (IsThis d records) g t.number c → LogRecovers g contents c ⊎ LogRecovers g newer c
        by ByByte byte is (inl ready) tells =
            inl ((either t contents oldest log second ds younger x ready c torn).recovers
            (tells_by_byte IsNone g t.number c byte))
        by ByByte byte is (inr ready) tells =
            inr ((either after newer oldest log second ds (younger ++ d ∷ []) x ready c torn).recovers
            (tells_by_byte IsNone g (t.number + 1) c byte))
        by (ByDigest key) digest is known tells = told_commit behind contents homes records c key digest is tells

    pub selected_with : After x → not second ≡ counts_second (get_or c 4096 0)
        → HoldsCommits (not second) (tail_after behind homes) newer (younger ++ d ∷ []) c
    selected_with ready selected =
        let moved = moves after newer oldest log second ds (younger ++ d ∷ []) x ready c torn selected in
        let P : ℕ → Type 0 = λ u.
        let v : TailValue = record after { start = start_behind t oldest; used = u } in
        HoldsCommits (not second) v newer (younger ++ d ∷ []) c in
        let used : t.used + n - oldest.blocks ≡ t.used - oldest.blocks + n = omega (arith, can.blocks) in
        subst P used moved

  -- before the byte is written
  pub left_either : (c : List ℕ) → Either c → Left c
  left_either c may_be = left_selecting c c (torn_none 4096 1 c) may_be
