-- What the works of a new volume leave of a device whose bytes are all 0.
use Rattle.std.proofs.Common.{◌≡◌, ◌≤◌, ◌<◌, ◌⊎◌, inl, inr, ℕ, zero, suc, ◌+◌, ◌-◌, ◌*◌, Bool, true}
use Rattle.std.proofs.Common.{List, [], ◌∷◌, length, drop, get_or, refl, sym, ◌∙◌, ap, subst, arith}
use Rattle.std.specs.List.{AllByRecursion}
use Rattle.std.proofs.lemmas.Bool.{cases_lt}
use Rattle.std.proofs.lemmas.List.{ext_get_or, get_or-take, get_or-drop, get_or-replicate}
use Rattle.std.proofs.lemmas.Nat.{mul-le}
use Rattle.device.specs.Device.{written, Only}
use Rattle.device.specs.Work.{Work, WriteAt, Sync, worked}
use Rattle.device.specs.declared.device.Device.{Ghosts}
use Rattle.device.proofs.Public.{written_within, written_after}
use Rattle.volume_codec.specs.Files.{AskedFile, lengths_asked}
use Rattle.volume_codec.specs.Layout.{journals_of, journal_blocks, gate_block, lengths_blocks, first_home}
use Rattle.volume_codec.specs.Layout.{first_file_home, block_at}
use Rattle.volume_codec.specs.Lengths.{lengths_text}
use Rattle.volume_codec.specs.Super.{SuperValue, super_text, block_count}
use Rattle.volume_codec.specs.Text.{zeros}
use Rattle.volume_codec.specs.declared.layout.Layout.{Layout}
use Rattle.volume_codec.proofs.Public.{length-block_at, length-zeros}
use Rattle.recovery.specs.Format.{HasShape, HasFormatted}
use Rattle.new_volume.specs.Formatting.{IsZero, IsWritten, DidAll, write_if, new_works}
use Rattle.new_volume.proofs.Calls.{IsInside, IsOutOf, done_first, all_same, inside_if, out_of_if}

each_zero : (n k : ℕ) → k < n → get_or (zeros n) k 0 ≡ 0
unfolding zeros
each_zero n k low = get_or-replicate n k 0 0 low

-- a block by its bytes
pub block_is : (bytes block : List ℕ) (b : ℕ) → length block ≡ 4096 → 4096 * b + 4096 ≤ length bytes
    → ((k : ℕ) → k < 4096 → get_or bytes (4096 * b + k) 0 ≡ get_or block k 0) → block_at bytes b ≡ block
block_is bytes block b whole long each =
    let size = length-block_at bytes b long in
    ext_get_or 0 (block_at bytes b) block (size ∙ sym whole) (λ k low.
    let small : k < 4096 = omega (arith, low, size) in
    get_or-take 4096 (drop (4096 * b) bytes) k 0 small ∙ get_or-drop (4096 * b) bytes k 0 ∙ each k small)

-- the gates lie before every home block
gate_low : (layout : Layout) (slots j : ℕ) → j < journals_of layout → gate_block slots j < first_home layout slots
gate_low layout slots j low =
    let blocks = journal_blocks slots in
    let more = mul-le (j + 1) blocks (journals_of layout) blocks (omega (arith, low)) (omega arith) in
    omega (arith, more)

-- a block that was written where there are n blocks of it
written_if : (n at : ℕ) (block old : List ℕ) → 0 < n → length block ≡ 4096 → at + 4096 * n ≤ length old → (k : ℕ)
    → k < 4096 → get_or (worked old (write_if n at block)) (at + k) 0 ≡ get_or block k 0
written_if zero at block old some whole fits k low = absurd (omega (arith, some))
written_if (suc n) at block old some whole fits k low =
    let place : at + k - at ≡ k = omega arith in
    written_within old at block (at + k) (omega (arith, whole, fits)) (omega arith) (omega (arith, whole))
    ∙ ap (λ p. get_or block p 0) place

module _ (table : SuperValue) (lengths : List ℕ) (size : ℕ) (long : 4096 * block_count table ≤ size)
    (whole : length (super_text table) ≡ 4096) (full : length (lengths_text lengths) ≡ 4096) where
  pub all_inside : AllByRecursion (IsInside size) (new_works table lengths)
  all_inside = (
    inside_if (lengths_blocks table.layout) (4096 * first_home table.layout table.slots) size (lengths_text lengths)
        full (omega (arith, long)),
    (tt, (omega (arith, long, whole), (tt, tt))),
  )

  pub all_out : (i : ℕ) → ¬ IsWritten table i → AllByRecursion (IsOutOf i) (new_works table lengths)
  all_out i not =
      let past : 4096 ≤ i = elim (cases_lt i 4096) [
        | inl before ↦ absurd (not (inl before))
        | inr after ↦ after
      ] in
      let home = 4096 * first_home table.layout table.slots in
      let out : (i < home) ⊎ (home + 4096 * lengths_blocks table.layout ≤ i) = elim (cases_lt i home) [
        | inl before ↦ inl before
        | inr from ↦ elim (cases_lt i (4096 * first_file_home table.layout table.slots)) [
          | inl within ↦ absurd (not (inr (from, within)))
          | inr after ↦ inr (omega (arith, after))
        ]
      ] in (
        out_of_if (lengths_blocks table.layout) home i (lengths_text lengths) full out,
        (tt, (inr (omega (arith, past, whole)), (tt, tt))),
      )

-- nothing else changes
pub others_kept : {D : Type 0} (disk : Ghosts D) (old new : D) (table : SuperValue) (lengths : List ℕ) (done : Bool)
    → 4096 * block_count table ≤ length (disk.seen old) → length (super_text table) ≡ 4096
    → length (lengths_text lengths) ≡ 4096 → DidAll disk old (new_works table lengths) done new → disk.is_honest old
    → (i : ℕ) → ¬ IsWritten table i → get_or (disk.seen new) i 0 ≡ get_or (disk.seen old) i 0
others_kept disk old new table lengths done long whole full did honest i not =
    all_same disk old new (new_works table lengths) done did honest
    (all_inside table lengths (length (disk.seen old)) long whole full) i
    (all_out table lengths (length (disk.seen old)) long whole full i not)

module _ {D : Type 0} (disk : Ghosts D) (old new : D) (layout : ℕ) (files : List AskedFile) (slots : ℕ)
    (table : SuperValue) (shape : HasShape layout files slots (length (disk.seen old)) table)
    (whole : length (super_text table) ≡ 4096) (full : length (lengths_text (lengths_asked files)) ≡ 4096)
    (did : DidAll disk old (new_works table (lengths_asked files)) true new) (honest : disk.is_honest old)
    (blank : IsZero (disk.seen old)) where
  abbrev text : List ℕ
  text = lengths_text (lengths_asked files)

  abbrev home : ℕ
  home = first_home table.layout table.slots

  kept : (i : ℕ) → ¬ IsWritten table i → get_or (disk.seen new) i 0 ≡ get_or (disk.seen old) i 0
  kept i not = others_kept disk old new table (lengths_asked files) true shape.long whole full did honest i not

  still_zero : (i : ℕ) → ¬ IsWritten table i → get_or (disk.seen new) i 0 ≡ 0
  still_zero i not = kept i not ∙ blank i

  pub formatted : HasFormatted disk layout files slots old new
  formatted =
      let start = write_if (lengths_blocks table.layout) (4096 * home) text in
      let last_works : List Work = WriteAt 0 (super_text table) ∷ Sync ∷ [] in
      let first = done_first disk old new start (Sync ∷ last_works) did in
      let second = done_first disk first.0 new Sync last_works first.2 in
      let third = done_first disk second.0 new (WriteAt 0 (super_text table)) (Sync ∷ []) second.2 in
      let fourth = done_first disk third.0 new Sync [] third.2 in
      let h_1 = first.1.honest.1 honest in
      let h_2 = second.1.honest.1 h_1 in
      let h_3 = third.1.honest.1 h_2 in
      let last : new ≡ fourth.0 = fourth.2.1 in
      let mid = worked (disk.seen old) start in
      let before : disk.seen second.0 ≡ mid = second.1.seen h_1 ∙ first.1.seen honest in
      let bytes : disk.seen new ≡ written mid 0 (super_text table) = ap disk.seen last ∙ fourth.1.seen h_3
      ∙ third.1.seen h_2 ∙ ap (λ (l : List ℕ). written l 0 (super_text table)) before in
      let size : length (disk.seen new) ≡ length (disk.seen old) = ap (λ (d : D). length (disk.seen d)) last
      ∙ fourth.1.same_length ∙ third.1.same_length ∙ second.1.same_length ∙ first.1.same_length in
      let mid_size : length mid ≡ length (disk.seen old) = sym (ap length before) ∙ second.1.same_length
      ∙ first.1.same_length in
      let fits : 0 + length (super_text table) ≤ length mid = omega (arith, whole, mid_size, shape.long) in
      record {
        table = table;
        shape = shape;
        blank = record {
          super_block = record {
            fits = shape.asked.fits;
            spelled = block_is (disk.seen new) (super_text table) 0 whole (omega (arith, size, shape.long)) (λ k low.
                let place : 4096 * 0 + k - 0 ≡ k = omega arith in
                ap (λ (l : List ℕ). get_or l (4096 * 0 + k) 0) bytes
                ∙ written_within mid 0 (super_text table) (4096 * 0 + k) fits (omega arith) (omega (arith, low, whole))
                ∙ ap (λ p. get_or (super_text table) p 0) place);
          };
          rest = record {
            long = omega (arith, size, shape.long);
            gates = λ j there.
                let low = gate_low table.layout table.slots j there in
                still_zero (4096 * gate_block table.slots j) (λ is. elim is [
                  | inl before ↦ omega (arith, before)
                  | inr within ↦ omega (arith, low, within.0)
                ]);
            lengths_block = λ some. block_is (disk.seen new) text home full (omega (arith, some, size, shape.long))
                (λ k low. ap (λ (l : List ℕ). get_or l (4096 * home + k) 0) bytes
                ∙ written_after mid 0 (super_text table) (4096 * home + k) fits (omega (arith, whole))
                ∙ written_if (lengths_blocks table.layout) (4096 * home) text (disk.seen old) some full
                (omega (arith, shape.long)) k low);
            homes = λ b from high. block_is (disk.seen new) (zeros 4096) b (length-zeros 4096)
                (omega (arith, high, size, shape.long))
                (λ k low. still_zero (4096 * b + k) (λ is. elim is [
                  | inl before ↦ omega (arith, from, before)
                  | inr within ↦ omega (arith, from, within.1)
                ]) ∙ sym (each_zero 4096 k low));
          };
        };
        synced =
            let P : D → Type 0 = λ d. Only (disk.may_leave d) (disk.seen d) in
            let Q : List ℕ → Type 0 = Only (disk.may_leave fourth.0) in
            subst P (sym last) (subst Q (sym (fourth.1.seen h_3)) (fourth.1.durable h_3 refl refl));
        past = λ i low. kept i (λ is. elim is [
          | inl before ↦ omega (arith, low, before)
          | inr within ↦ omega (arith, low, within.1)
        ]);
      }
