-- A volume whose open batches were carried out is at rest.
use Rattle.std.proofs.Common.{◌≡◌, ◌<◌, ◌≤◌, inl, inr, ℕ, ◌+◌, ◌*◌, List, [], ◌∷◌}
use Rattle.std.proofs.Common.{length, get_or, refl, sym, ap, ◌∙◌, subst, arith}
use Rattle.std.specs.List.{sum_by}
use Rattle.std.proofs.lemmas.List.Sums.{sum_by-append}
use Rattle.device.specs.Device.{Only, LeavesOnly}
use Rattle.device.specs.declared.device.Device.{Ghosts}
use Rattle.device.proofs.Moments.{leaves_on, leaves_weaker}
use Rattle.page_entry.specs.declared.refusal.Refusal.{Refusal}
use Rattle.page_entry.specs.declared.refusal.Refusal.TheVariants.{Device}
use Rattle.volume_codec.specs.Layout.{journals_of, lengths_blocks, first_home, block_at}
use Rattle.volume_codec.specs.Super.{SuperValue, Fits, block_count, geometry_of, capacities_in}
use Rattle.volume_codec.specs.Recovery.{Batch, IsVolume, contents_in}
use Rattle.volume_codec.specs.Lengths.{AreLengths, HasLengths}
use Rattle.volume_codec.proofs.Lengths.{has_lengths-same, lengths_in-same, same_lengths_block}
use Rattle.recovery.specs.Counts.{Rises, RisesWithin}
use Rattle.recovery.specs.Volume.{IsWellFormed}
use Rattle.journal.specs.Recovered.{RecoversBy}
use Rattle.journal.specs.Finished.{HoldsVolume, RecoversSame}
use Rattle.recovery.specs.Opening.{IsUnwritten, LeftByOpening, opening_calls, HasOpened, HasRefused, RefusesOpening}
use Rattle.recovery.specs.inside.Carrying.{AreShut}
use Rattle.recovery.specs.inside.Reading.{AreFound, carry_calls}

-- each open batch takes one call to read its descriptor
abbrev pub count_batch : List Batch → ℕ
count_batch batches = sum_by (λ b. 2 * length b.homes + 4) batches

pub all_calls : (batches : List Batch) → count_batch batches ≡ length batches + carry_calls batches
all_calls [] = refl
all_calls (b ∷ bs) =
    let more : count_batch (b ∷ bs) ≡ 0 + (2 * length b.homes + 4) + count_batch bs =
    sum_by-append (λ (x : Batch). 2 * length x.homes + 4) (b ∷ []) bs in
    let less : carry_calls (b ∷ bs) ≡ 0 + (2 * length b.homes + 3) + carry_calls bs =
    sum_by-append (λ (x : Batch). 2 * length x.homes + 3) (b ∷ []) bs in
    omega (arith, more, less, all_calls bs)

pub calls_of : (table : SuperValue) (batches : List Batch) (a b c n : ℕ) → n ≡ length batches
    → Rises (2 + journals_of table.layout + lengths_blocks table.layout + n) a b → Rises (carry_calls batches) b c
    → Rises (opening_calls table batches) a c
calls_of table batches a b c n count first second small = let all = all_calls batches in
    omega (arith, small, count, first, second, all)

pub most_calls_of : (table : SuperValue) (batches : List Batch) (a b c n : ℕ) → n ≡ length batches
    → Rises (2 + journals_of table.layout + lengths_blocks table.layout + n) a b → RisesWithin (carry_calls batches) b c
    → RisesWithin (opening_calls table batches) a c
most_calls_of table batches a b c n count first second small = let all = all_calls batches in
    omega (arith, small, count, first, second, all)

module _ {D : Type 0} (disk : Ghosts D) (before mid : D) (table : SuperValue) (batches : List Batch)
    (volume : IsVolume table batches (disk.seen before)) (unwritten : IsUnwritten disk before mid) where
  -- what it recovers to, before and since
  abbrev contents : ℕ → List ℕ
  contents = contents_in table.slots batches (disk.seen before)

  pub holds : disk.is_honest mid → Only (disk.may_leave mid) (disk.seen mid)
      → HoldsVolume disk table batches contents mid
  holds honest synced = record {
    honest = honest;
    recovers = subst (λ (bytes : List ℕ). RecoversBy table batches contents bytes) (sym unwritten.same)
        (record { volume = volume; contents_are = λ b home. refl });
    synced = synced;
  }

  -- a crash while the batches are carried out
  pub left_within : (after : D)
      → LeavesOnly disk.moment disk.left_since mid after (RecoversSame table contents (disk.seen mid))
      → LeavesOnly disk.moment disk.left_since before after (LeftByOpening disk before)
  left_within after time = leaves_on (leaves_weaker unwritten.time (λ c may. inl may)) time
      (λ c same. inr (
        table,
        batches,
        volume,
        subst (λ (bytes : List ℕ). RecoversSame table contents bytes c) unwritten.same same,
      ))

  -- all of them carried out
  pub has_opened : (after : D) (n : ℕ) → HasLengths table contents → n ≡ length batches
      → length (disk.seen after) ≡ length (disk.seen before) → HoldsVolume disk table [] contents after
      → AreShut (geometry_of table) batches (disk.seen mid) (disk.seen after)
      → Rises (2 + journals_of table.layout + lengths_blocks table.layout + n) (disk.calls_made before)
      (disk.calls_made mid) → Rises (carry_calls batches) (disk.calls_made mid) (disk.calls_made after)
      → HasOpened disk before table after
  has_opened after n fit count len now shut first second = record {
    batches = batches;
    held = volume;
    lengths = fit;
    opened = record {
      same_length = len;
      homes = λ b home. sym (now.recovers.contents_are b home);
      gates = shut.gates;
      others = λ i out none. shut.others i out none ∙ ap (λ (l : List ℕ). get_or l i 0) unwritten.same;
    };
    synced = now.synced;
    calls = calls_of table batches (disk.calls_made before) (disk.calls_made mid)
        (disk.calls_made after) n count first second;
  }

  -- a device call failed on the way
  pub has_failed : (refusal : Refusal) (after : D) (n : ℕ) → HasLengths table contents → n ≡ length batches
      → refusal ≡ Device → Rises (2 + journals_of table.layout + lengths_blocks table.layout + n)
      (disk.calls_made before) (disk.calls_made mid)
      → RisesWithin (carry_calls batches) (disk.calls_made mid) (disk.calls_made after)
      → HasRefused disk before refusal after
  has_failed refusal after n fit count is first second =
      let P : Refusal → Type 0 = λ e. RefusesOpening (disk.seen before) e in
      record {
        reason = subst P (sym is) tt;
        done = inr (record {
          device = is;
          table = table;
          batches = batches;
          held = volume;
          lengths = fit;
          calls = most_calls_of table batches (disk.calls_made before) (disk.calls_made mid)
              (disk.calls_made after) n count first second;
        });
      }

-- an opened volume is settled
pub is_well_formed : {D : Type 0} (disk : Ghosts D) (before after : D) (table : SuperValue) (batches : List Batch)
    (lengths : List ℕ) → Fits table → 4096 * block_count table ≤ length (disk.seen after) → AreLengths table lengths
    → (lengths_blocks table.layout ≡ 0 → lengths ≡ capacities_in table)
    → (disk.is_honest after → HoldsVolume disk table [] (contents_in table.slots batches (disk.seen before)) after
    × AreFound table batches (disk.seen before) lengths)
    → IsWellFormed disk (record { table = table; lengths = lengths; device = after })
is_well_formed disk before after table batches lengths fits long are fixed rests = record {
  fits = fits;
  long = long;
  lengths = are;
  fixed = fixed;
  at_rest = λ honest.
      let is = rests honest in
      let was = contents_in table.slots batches (disk.seen before) in
      let same : 0 < lengths_blocks table.layout → was (first_home table.layout table.slots)
      ≡ block_at (disk.seen after) (first_home table.layout table.slots) =
      same_lengths_block table was (block_at (disk.seen after)) is.0.recovers.contents_are in
      record {
        holds = is.0.recovers.volume;
        lengths_fit = has_lengths-same table was (block_at (disk.seen after)) same is.1.fit;
        lengths_are = is.1.are ∙ lengths_in-same table was (block_at (disk.seen after)) same;
        synced = is.0.synced;
      };
}
