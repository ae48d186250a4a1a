-- Bytes that differ from a log in home blocks that its commits have, in the start that doesn't count, or in the byte
-- that selects one.
use Rattle.std.proofs.Common.{◌≡◌, ◌⊎◌, ℕ, ◌+◌, ◌-◌, ◌*◌, ◌%◌, ◌<◌, ◌≤◌, List, ◌++◌}
use Rattle.std.proofs.Common.{Bool, true, false, length, drop, get_or, inl, inr, refl, sym, ap, subst, ◌∙◌, arith}
use Rattle.std.proofs.Common.{length-append}
use Rattle.std.specs.Prelude.{not}
use Rattle.std.proofs.lemmas.Bool.{cases_lt}
use Rattle.std.proofs.lemmas.List.{drop-drop, ext_get_or}
use Rattle.volume_codec.specs.Layout.{block_at}
use Rattle.volume_codec.specs.Text.{number_text}
use Rattle.volume_codec.proofs.Public.{length-padded, length-number_text}
use Rattle.device.specs.Device.{written, Torn}
use Rattle.device.proofs.Public.{torn_before, torn_after, written_before, written_within, written_after, length-written}
use Rattle.log_codec.specs.declared.start.LogStart.{LogStart}
use Rattle.log_codec.specs.Log.{IsLog, first_log_home}
use Rattle.log_codec.specs.Start.{HasLogStart, IsStartBlock, start_block, start_text, counts_second}
use Rattle.log_codec.specs.Commit.{LogDescriptor}
use Rattle.log_codec.specs.Chain.{IsLogHome, chain_end, chain_blocks}
use Rattle.log_commits.specs.declared.behind.OldCommits.{OldCommits}
use Rattle.log_commits.specs.Tail.{TailValue}
use Rattle.log_commits.specs.Homes.{IsLoggedHome, start_behind_of, tail_from}
use Rattle.log_commits.specs.Behind.{HoldsCommits, AreOldest, IsReadyToMove, HasHomes, LeftUnchanged}
use Rattle.log_commits.specs.Behind.{start_behind, tail_behind, selecting}
use Rattle.log_commits.proofs.Places.{same_block, length-block, get_or-block}
use Rattle.log_commits.proofs.Moved.{end_is}
use Rattle.log_commits.proofs.Held.{start_kept}
use Rattle.log_commits.proofs.Written.{kept_with_homes, may_start}
use Rattle.log_commits.proofs.Told.{left_unchanged}

-- ---- the two starts

pub other_least : (second : Bool) → 2 ≤ start_block (not second)
other_least true = omega arith
other_least false = omega arith

pub start_least : (second : Bool) → 2 ≤ start_block second
start_least true = omega arith
start_least false = omega arith

pub start_most : (second : Bool) → start_block second ≤ 3
start_most true = omega arith
start_most false = omega arith

pub other_apart : (second : Bool)
    → (start_block second < start_block (not second)) ⊎ (start_block (not second) < start_block second)
other_apart true = inr (omega arith)
other_apart false = inl (omega arith)

pub selects : (second : Bool) → second ≡ counts_second (selecting second)
selects true = refl
selects false = refl

pub same_or_other : (second b : Bool) → (second ≡ b) ⊎ (not second ≡ b)
same_or_other true true = inl refl
same_or_other true false = inr refl
same_or_other false true = inr refl
same_or_other false false = inl refl

-- ---- bytes that differ

module _ (t : TailValue) (contents : ℕ → List ℕ) (old new : List ℕ) (log : IsLog t.log) (second : Bool)
    (chain : List LogDescriptor) (was : HoldsCommits second t contents chain old)
    (same_length : length new ≡ length old) where
  abbrev Starts : List ℕ → Type 0
  Starts block = IsStartBlock t.log.ring t.start block

  -- before the log, but for the start that counts
  pub starts_changed : ((i : ℕ) → 16384 ≤ i → get_or new i 0 ≡ get_or old i 0)
      → block_at new (start_block second) ≡ block_at old (start_block second)
      → second ≡ counts_second (get_or new 4096 0) → HoldsCommits second t contents chain new
  starts_changed high block selected =
      let P : Bool → Type 0 = λ v. Starts (block_at old (start_block v)) in
      let before : Starts (block_at old (start_block second)) = subst P (sym was.selected) was.held.log.start in
      let Q : Bool → Type 0 = λ v. Starts (block_at new (start_block v)) in
      let start : HasLogStart t.log.ring t.start new = subst Q selected (subst Starts (sym block) before) in
      let high_block : (b : ℕ) → 4 ≤ b → block_at new b ≡ block_at old b = λ b le.
      same_block new old b same_length (λ j small. high (4096 * b + j) (omega arith)) in
      let kept = kept_with_homes t contents old new log was.held same_length start
      (λ b least most. high_block b least) (λ b home. inl (high_block b (omega (arith, home.low)))) in
      record { held = kept.0; chain_is = kept.1 ∙ was.chain_is; selected = selected }

  -- in home blocks that commits have
  pub homes_changed : ((i : ℕ) → i < 4096 * (4 + t.log.ring) → get_or new i 0 ≡ get_or old i 0)
      → ((b : ℕ) → IsLogHome t.log b → (block_at new b ≡ block_at old b) ⊎ IsLoggedHome chain b)
      → HoldsCommits second t contents chain new
  homes_changed low homes =
      let P : List LogDescriptor → Type 0 =
      λ l. (b : ℕ) → IsLogHome t.log b → (block_at new b ≡ block_at old b) ⊎ IsLoggedHome l b in
      let kept = kept_with_homes t contents old new log was.held same_length
      (start_kept t.log.ring t.start old new same_length (λ i lt. low i (omega arith)) was.held.log.start)
      (λ b least most. same_block new old b same_length (λ j small. low (4096 * b + j) (omega arith)))
      (subst P (sym was.chain_is) homes) in
      record {
        held = kept.0;
        chain_is = kept.1 ∙ was.chain_is;
        selected = was.selected ∙ ap counts_second (sym (low 4096 (omega arith)));
      }

-- the home blocks of a write
pub homes_torn : (t : TailValue) (contents : ℕ → List ℕ) (old new : List ℕ) → IsLog t.log → (second : Bool)
    → (chain : List LogDescriptor) → HoldsCommits second t contents chain old → (home size : ℕ)
    → first_log_home t.log.ring ≤ home
    → ((b : ℕ) → home ≤ b → 4096 * b < 4096 * home + size → IsLoggedHome chain b) → Torn (4096 * home) size old new
    → HoldsCommits second t contents chain new
homes_torn t contents old new log second chain was home size first logged torn =
    homes_changed t contents old new log second chain was torn.same_length
    (λ i lt. torn_before torn i (omega arith)) (λ b is. elim (cases_lt b home) [
      | inl less ↦ inl (same_block new old b torn.same_length (λ j small.
          torn_before torn (4096 * b + j) (omega arith)))
      | inr past ↦ elim (cases_lt (4096 * b) (4096 * home + size)) [
        | inl within ↦ inr (logged b past within)
        | inr behind ↦ inl (same_block new old b torn.same_length (λ j small.
            torn_after torn (4096 * b + j) (omega arith)))
      ]
    ])

-- the start that doesn't count
pub other_torn : (t : TailValue) (contents : ℕ → List ℕ) (old new : List ℕ) → IsLog t.log → (second : Bool)
    → (chain : List LogDescriptor) → HoldsCommits second t contents chain old
    → Torn (4096 * start_block (not second)) 4096 old new → HoldsCommits second t contents chain new
other_torn t contents old new log second chain was torn =
    let at_least = other_least second in
    let at_most = start_most (not second) in
    let block : block_at new (start_block second) ≡ block_at old (start_block second) = elim (other_apart second) [
      | inl less ↦ same_block new old (start_block second) torn.same_length (λ j small.
          torn_before torn (4096 * start_block second + j) (omega (arith, less)))
      | inr more ↦ same_block new old (start_block second) torn.same_length (λ j small.
          torn_after torn (4096 * start_block second + j) (omega (arith, more)))
    ] in
    starts_changed t contents old new log second chain was torn.same_length
    (λ i le. torn_after torn i (omega (arith, at_most))) block
    (was.selected ∙ ap counts_second (sym (torn_before torn 4096 (omega (arith, at_least)))))

-- ---- what a write leaves

pub length-start_text : (s : LogStart) → length (start_text s) ≡ 4096
length-start_text s =
    length-padded 4096 (number_text 8 s.number ++ number_text 8 s.epoch ++ number_text 4 s.position)
    (omega (
      arith,
      length-append (number_text 8 s.number ++ number_text 8 s.epoch) (number_text 4 s.position),
      length-append (number_text 8 s.number) (number_text 8 s.epoch),
      length-number_text 8 s.number,
      length-number_text 8 s.epoch,
      length-number_text 4 s.position,
    ))

-- a block of a write
pub written_block : (old bytes : List ℕ) (home b : ℕ) → 4096 * home + length bytes ≤ length old
    → length bytes % 4096 ≡ 0 → home ≤ b → 4096 * b < 4096 * home + length bytes
    → block_at (written old (4096 * home) bytes) b ≡ block_at bytes (b - home)
written_block old bytes home b fits whole least most =
    let new : List ℕ = written old (4096 * home) bytes in
    let long = length-written old (4096 * home) bytes fits in
    let size : length (block_at new b) ≡ 4096 = length-block new b (omega (arith, long, whole)) in
    let part : length (block_at bytes (b - home)) ≡ 4096 =
    length-block bytes (b - home) (omega (arith, whole)) in
    ext_get_or 0 (block_at new b) (block_at bytes (b - home)) (omega (arith, size, part)) (λ k lt.
    let small : k < 4096 = omega (arith, size) in
    let place : 4096 * b + k - 4096 * home ≡ 4096 * (b - home) + k = omega arith in
    get_or-block new b k small
    ∙ written_within old (4096 * home) bytes (4096 * b + k) fits (omega arith) (omega (arith, whole))
    ∙ ap (λ i. get_or bytes i 0) place ∙ sym (get_or-block bytes (b - home) k small))

pub written_elsewhere : (old bytes : List ℕ) (home b : ℕ) → 4096 * home + length bytes ≤ length old
    → length bytes % 4096 ≡ 0 → (b < home) ⊎ (4096 * home + length bytes ≤ 4096 * b)
    → block_at (written old (4096 * home) bytes) b ≡ block_at old b
written_elsewhere old bytes home b fits whole (inl less) =
    same_block (written old (4096 * home) bytes) old b (length-written old (4096 * home) bytes fits) (λ j small.
    written_before old (4096 * home) bytes (4096 * b + j) fits (omega arith))
written_elsewhere old bytes home b fits whole (inr more) =
    same_block (written old (4096 * home) bytes) old b (length-written old (4096 * home) bytes fits) (λ j small.
    written_after old (4096 * home) bytes (4096 * b + j) fits (omega arith))

pub has_homes : (old bytes : List ℕ) (home : ℕ) → 4096 * home + length bytes ≤ length old → length bytes % 4096 ≡ 0
    → HasHomes home bytes old (written old (4096 * home) bytes)
has_homes old bytes home fits whole = record {
  there = λ b least most. written_block old bytes home b fits whole least most;
  elsewhere = λ b apart. written_elsewhere old bytes home b fits whole apart;
}

-- a block that is copied
pub copied_homes : (old : List ℕ) (block home : ℕ) → 4096 * block + 4096 ≤ length old → 4096 * home + 4096 ≤ length old
    → HasHomes home (block_at old block) old (written old (4096 * home) (block_at old block))
copied_homes old block home from to =
    let size : length (block_at old block) ≡ 4096 = length-block old block from in
    has_homes old (block_at old block) home (omega (arith, size)) (omega (arith, size))

-- ---- the start behind the oldest commits

pub start_same : (t : TailValue) (oldest : OldCommits) (ds : List LogDescriptor) → AreOldest t oldest ds
    → start_behind t oldest ≡ start_behind_of t.log t.start ds
start_same t oldest ds is =
    ap (λ (n : ℕ). let s : LogStart = record { position = n; number = oldest.below; epoch = t.start.epoch } in s)
    (ap (λ n. (t.start.position + n) % t.log.ring) is.blocks
    ∙ ap (λ n. n % t.log.ring) (sym (end_is t.start.position ds)))
    ∙ ap (λ (n : ℕ). let s : LogStart = record {
      position = chain_end t.start.position ds % t.log.ring;
      number = n;
      epoch = t.start.epoch;
    } in s) is.number

pub tail_same : (t : TailValue) (oldest : OldCommits) (ds : List LogDescriptor) → AreOldest t oldest ds
    → tail_from t ds ≡ tail_behind t oldest
tail_same t oldest ds is =
    ap (λ (s : LogStart). let v : TailValue = record t { start = s; used = t.used - chain_blocks ds } in v)
    (sym (start_same t oldest ds is))
    ∙ ap (λ (n : ℕ). let v : TailValue = record t { start = start_behind t oldest; used = t.used - n } in v)
    (sym is.blocks)

-- ---- the byte that selects a start

module _ (t : TailValue) (contents : ℕ → List ℕ) (oldest : OldCommits) (log : IsLog t.log) (second : Bool)
    (ds younger : List LogDescriptor) (m : List ℕ) (ready : IsReadyToMove second t oldest contents ds younger m)
    (c : List ℕ) (torn : Torn 4096 1 m c) where
  past : (i : ℕ) → 8192 ≤ i → get_or c i 0 ≡ get_or m i 0
  past i le = torn_after torn i (omega arith)

  start_there : (v : Bool) → block_at c (start_block v) ≡ block_at m (start_block v)
  start_there v = same_block c m (start_block v) torn.same_length (λ j small.
      past (4096 * start_block v + j) (omega (arith, start_least v)))

  pub stays : second ≡ counts_second (get_or c 4096 0) → HoldsCommits second t contents (ds ++ younger) c
  stays selected =
      starts_changed t contents m c log second (ds ++ younger) ready.holds torn.same_length
      (λ i le. past i (omega arith)) (start_there second) selected

  moved_start : not second ≡ counts_second (get_or c 4096 0)
      → HasLogStart t.log.ring (start_behind_of t.log t.start ds) c
  moved_start selected =
      let P : List ℕ → Type 0 = λ l. IsStartBlock t.log.ring (start_behind t oldest) l in
      let Q : LogStart → Type 0 = λ s. IsStartBlock t.log.ring s (block_at c (start_block (not second))) in
      let R : Bool → Type 0 =
      λ v. IsStartBlock t.log.ring (start_behind_of t.log t.start ds) (block_at c (start_block v)) in
      subst R selected (subst Q (start_same t oldest ds ready.oldest_are)
      (subst P (sym (start_there (not second))) ready.start))

  pub moves : not second ≡ counts_second (get_or c 4096 0)
      → HoldsCommits (not second) (tail_behind t oldest) contents younger c
  moves selected =
      let behind : drop 16384 c ≡ drop 16384 m =
      sym (drop-drop 12287 4097 c) ∙ ap (drop 12287) torn.after ∙ drop-drop 12287 4097 m in
      let moved = may_start t contents m c log ready.holds.held ds younger ready.holds.chain_is (record {
        same_length = torn.same_length;
        same_behind = behind;
        start = moved_start selected;
        written = ready.written;
      }) in
      let Q : TailValue → Type 0 = λ v. HoldsCommits (not second) v contents younger c in
      subst Q (tail_same t oldest ds ready.oldest_are)
      (record { held = moved.0; chain_is = moved.1; selected = selected })

  pub either : LeftUnchanged t contents c
  either = elim (same_or_other second (counts_second (get_or c 4096 0))) [
    | inl same ↦ left_unchanged t contents c (stays same).held
    | inr other ↦
        let is = left_unchanged (tail_behind t oldest) contents c (moves other).held in
        record { up_to = is.up_to; recovers = is.recovers }
  ]
