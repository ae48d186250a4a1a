-- What a volume with a log has once its start and its lengths are written on a device whose bytes are all 0.
use Rattle.std.proofs.Common.{◌≡◌, ◌≤◌, ◌<◌, ◌⊎◌, inl, inr, ℕ, ◌+◌, ◌-◌, ◌*◌, true}
use Rattle.std.proofs.Common.{List, [], ◌∷◌, length, drop, get_or, sym, ◌∙◌, ap, subst, arith}
use Rattle.std.specs.List.{AllByRecursion}
use Rattle.std.proofs.lemmas.Bool.{cases_lt}
use Rattle.std.proofs.lemmas.List.{get_or-take, get_or-drop}
use Rattle.device.specs.Device.{written}
use Rattle.device.specs.Work.{WriteAt}
use Rattle.device.specs.declared.device.Device.{Ghosts}
use Rattle.device.proofs.Public.{length-written, written_before, written_within, written_after}
use Rattle.volume_codec.specs.Layout.{block_at}
use Rattle.volume_codec.specs.Lengths.{lengths_text}
use Rattle.volume_codec.specs.Text.{zeros}
use Rattle.volume_codec.proofs.Public.{length-zeros, length-block_at}
use Rattle.new_volume.specs.Formatting.{IsZero, DidAll}
use Rattle.new_volume.proofs.Public.{IsInside, IsOutOf, done_first, block_is}
use Rattle.log_codec.specs.Log.{IsLog, first_log_home}
use Rattle.log_codec.specs.Start.{start_text}
use Rattle.log_volume.specs.Super.{LogSuperValue, log_of}
use Rattle.log_format.specs.Fresh.{IsFreshLog, IsFreshBehind, first_log_start}
use Rattle.log_format.specs.Formatting.{laying_works, IsWrittenInLog}
use Rattle.log_format.proofs.Fresh.{zero_at}

-- what is written behind block 0 has the length of a block, each
pub record AreLaidBlocks (lengths : List ℕ) : Type 0 where
  pub lengths_are : length (lengths_text lengths) ≡ 4096
  pub start_is : length (start_text first_log_start) ≡ 4096

-- the bytes after both writes
abbrev pub laid_on : LogSuperValue → List ℕ → List ℕ → List ℕ
laid_on table lengths old =
    written (written old 8192 (start_text first_log_start)) (4096 * first_log_home table.ring) (lengths_text lengths)

module _ (table : LogSuperValue) (lengths : List ℕ) (size : ℕ) (log : IsLog (log_of table))
    (long : 4096 * (log_of table).blocks ≤ size) (blocks : AreLaidBlocks lengths) where
  pub laying_inside : AllByRecursion (IsInside size) (laying_works table lengths)
  laying_inside = (
    omega (arith, long, log.some_ring, log.some_homes, blocks.start_is),
    (
      omega (arith, long, log.some_homes, blocks.lengths_are),
      tt,
    ),
  )

  pub laying_out : (i : ℕ) → ¬ IsWrittenInLog table i → AllByRecursion (IsOutOf i) (laying_works table lengths)
  laying_out i not =
      let home = 4096 * first_log_home table.ring in
      let apart : (i < 8192) ⊎ (12288 ≤ i) = elim (cases_lt i 8192) [
        | inl before ↦ inl before
        | inr from ↦ elim (cases_lt i 12288) [
          | inl within ↦ absurd (not (inr (inl (from, within))))
          | inr after ↦ inr after
        ]
      ] in
      let out : (i < home) ⊎ (home + 4096 ≤ i) = elim (cases_lt i home) [
        | inl before ↦ inl before
        | inr from ↦ elim (cases_lt i (home + 4096)) [
          | inl within ↦ absurd (not (inr (inr (from, within))))
          | inr after ↦ inr after
        ]
      ] in (
        elim apart [
          | inl before ↦ inl before
          | inr after ↦ inr (omega (arith, after, blocks.start_is))
        ],
        (
          elim out [
            | inl before ↦ inl before
            | inr after ↦ inr (omega (arith, after, blocks.lengths_are))
          ],
          tt,
        ),
      )

unwritten : (old : List ℕ) (at : ℕ) (bytes : List ℕ) (i : ℕ) → at + length bytes ≤ length old
    → (i < at) ⊎ (at + length bytes ≤ i) → get_or (written old at bytes) i 0 ≡ get_or old i 0
unwritten old at bytes i fits (inl before) = written_before old at bytes i fits before
unwritten old at bytes i fits (inr after) = written_after old at bytes i fits after

module _ (table : LogSuperValue) (lengths : List ℕ) (old : List ℕ) (log : IsLog (log_of table))
    (long : 4096 * (log_of table).blocks ≤ length old) (blocks : AreLaidBlocks lengths) where
  abbrev home : ℕ
  home = 4096 * first_log_home table.ring

  abbrev first : List ℕ
  first = written old 8192 (start_text first_log_start)

  fits_start : 8192 + length (start_text first_log_start) ≤ length old
  fits_start = omega (arith, blocks.start_is, long, log.some_homes, log.some_ring)

  size_first : length first ≡ length old
  size_first = length-written old 8192 (start_text first_log_start) fits_start

  fits_lengths : home + length (lengths_text lengths) ≤ length first
  fits_lengths = omega (arith, blocks.lengths_are, size_first, long, log.some_homes)

  pub size_laid : length (laid_on table lengths old) ≡ length old
  size_laid = length-written first home (lengths_text lengths) fits_lengths ∙ size_first

  lengths_laid : block_at (laid_on table lengths old) (first_log_home table.ring) ≡ lengths_text lengths
  lengths_laid = block_is (laid_on table lengths old) (lengths_text lengths) (first_log_home table.ring)
      blocks.lengths_are (omega (arith, size_laid, long, log.some_homes)) (λ k low.
      let place : home + k - home ≡ k = omega arith in
      written_within first home (lengths_text lengths) (home + k) fits_lengths (omega arith)
      (omega (arith, low, blocks.lengths_are))
      ∙ ap (λ p. get_or (lengths_text lengths) p 0) place)

  start_laid : block_at (laid_on table lengths old) 2 ≡ start_text first_log_start
  start_laid = block_is (laid_on table lengths old) (start_text first_log_start) 2 blocks.start_is
      (omega (arith, size_laid, long, log.some_homes)) (λ k low.
      let place : 4096 * 2 + k - 8192 ≡ k = omega arith in
      written_before first home (lengths_text lengths) (4096 * 2 + k) fits_lengths (omega (arith, low))
      ∙ written_within old 8192 (start_text first_log_start) (4096 * 2 + k) fits_start (omega arith)
      (omega (arith, low, blocks.start_is))
      ∙ ap (λ p. get_or (start_text first_log_start) p 0) place)

  -- a byte of no block that is written
  zero_laid : IsZero old → (i : ℕ) → ¬ IsWrittenInLog table i → get_or (laid_on table lengths old) i 0 ≡ 0
  zero_laid blank i not =
      let out = laying_out table lengths (length old) log long blocks i not in
      unwritten first home (lengths_text lengths) i fits_lengths out.1.0
      ∙ unwritten old 8192 (start_text first_log_start) i fits_start out.0 ∙ blank i

  -- a block of these
  blank_laid : IsZero old → (b : ℕ) → 0 < b → (b ≡ 2 → ⊥) → (b ≡ first_log_home table.ring → ⊥)
      → b < (log_of table).blocks → block_at (laid_on table lengths old) b ≡ zeros 4096
  blank_laid blank b some apart other high =
      block_is (laid_on table lengths old) (zeros 4096) b (length-zeros 4096) (omega (arith, high, size_laid, long))
      (λ k low. zero_laid blank (4096 * b + k) (λ is. elim is [
        | inl before ↦ omega (arith, some, before)
        | inr (inl within) ↦ apart (omega (arith, low, within.0, within.1))
        | inr (inr within) ↦ other (omega (arith, low, within.0, within.1))
      ]) ∙ sym (zero_at 4096 k low))

  pub laid_fresh : IsZero old → IsFreshBehind table lengths (laid_on table lengths old)
  laid_fresh blank = record {
    log = record {
      long = omega (arith, size_laid, long);
      start = start_laid;
      blank = λ b some apart high. blank_laid blank b some apart (λ is. omega (arith, is, high))
          (omega (arith, high, log.some_homes));
    };
    lengths_block = lengths_laid;
    homes = λ b low high. blank_laid blank b (omega (arith, low)) (λ is. omega (arith, is, low))
        (λ is. omega (arith, is, low)) high;
  }

-- the bytes of a device on which both were written
pub laid_is : {D : Type 0} (disk : Ghosts D) (old new : D) (table : LogSuperValue) (lengths : List ℕ)
    → DidAll disk old (laying_works table lengths) true new → disk.is_honest old
    → disk.is_honest new × (disk.seen new ≡ laid_on table lengths (disk.seen old))
laid_is {D} disk old new table lengths did honest =
    let start = WriteAt 8192 (start_text first_log_start) in
    let put = WriteAt (4096 * first_log_home table.ring) (lengths_text lengths) in
    let one = done_first disk old new start (put ∷ []) did in
    let two = done_first disk one.0 new put [] one.2 in
    let h_1 = one.1.honest.1 honest in
    let P : D → Type 0 = λ d. disk.is_honest d × (disk.seen d ≡ laid_on table lengths (disk.seen old)) in
    subst P (sym two.2.1) (
      two.1.honest.1 h_1,
      two.1.seen h_1
          ∙ ap (λ (l : List ℕ). written l (4096 * first_log_home table.ring) (lengths_text lengths)) (one.1.seen
          honest),
    )

-- blocks behind block 0 by their bytes
module _ (table : LogSuperValue) (log : IsLog (log_of table)) (x y : List ℕ) (size : length y ≡ length x)
    (same : (i : ℕ) → 4096 ≤ i → get_or y i 0 ≡ get_or x i 0) where
  same_block : 4096 * (log_of table).blocks ≤ length x → (b : ℕ) → 0 < b → b < (log_of table).blocks
      → block_at y b ≡ block_at x b
  same_block long b some high =
      let whole = length-block_at x b (omega (arith, long, high)) in
      block_is y (block_at x b) b whole (omega (arith, size, long, high)) (λ k low.
      same (4096 * b + k) (omega (arith, some))
      ∙ sym (get_or-take 4096 (drop (4096 * b) x) k 0 low ∙ get_or-drop (4096 * b) x k 0))

  pub same_log : IsFreshLog table x → IsFreshLog table y
  same_log fresh = record {
    long = omega (arith, size, fresh.long);
    start = same_block fresh.long 2 (omega arith) (omega (arith, log.some_homes)) ∙ fresh.start;
    blank = λ b some apart high. same_block fresh.long b some (omega (arith, high, log.some_homes))
        ∙ fresh.blank b some apart high;
  }

  pub same_behind : (lengths : List ℕ) → IsFreshBehind table lengths x → IsFreshBehind table lengths y
  same_behind lengths fresh = record {
    log = same_log fresh.log;
    lengths_block =
        same_block fresh.log.long (first_log_home table.ring) (omega arith) (omega (arith, log.some_homes))
        ∙ fresh.lengths_block;
    homes = λ b low high. same_block fresh.log.long b (omega (arith, low)) high ∙ fresh.homes b low high;
  }
