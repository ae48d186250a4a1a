-- A commit begins.
use Rattle.std.proofs.Common.{◌≡◌, ℕ, ◌+◌, ◌<◌, ◌≤◌, false, List, [], ◌∷◌, ◌++◌, length, map}
use Rattle.std.proofs.Common.{refl, ap, sym, ◌∙◌, subst, arith, ◌≢◌}
use Rattle.std.specs.Prelude.{◌==◌, ◌^◌, ◌-◌}
use Rattle.volume_codec.specs.Descriptor.{AreHomes}
use Rattle.journal.specs.LedTo.{MayBegin}
use Rattle.std.specs.List.{AllByRecursion}
use Rattle.std.proofs.lemmas.Bool.{or_parts, eqb-false}
use Rattle.std.proofs.lemmas.List.{length-append, length-map}
use Rattle.volume_codec.specs.Layout.{journals_of}
use Rattle.journal.specs.WriteOut.{WriteOut, begun_of}
use Rattle.journal.specs.WriteOuts.{begun, is_busy, has_uncommitted, next_batch}
use Rattle.kept_blocks.specs.Blocks.{Blocks, homes_in}
use Rattle.pager.specs.State.{PagerState}
use Rattle.pager.specs.Calls.{committed_with}
use Rattle.pager.specs.inside.Sound.{IsSound}

-- of some blocks a batch begins
abbrev pub with_batch : {D : Type 0} → PagerState D → Blocks → PagerState D
with_batch s blocks = record s {
  staged = [];
  write_outs = begun s.write_outs (s.marks + 1) (homes_in blocks);
  records = s.records ++ blocks ∷ [];
  marks = s.marks + 1;
}

pub committed_some : {D : Type 0} (s : PagerState D) (blocks : Blocks) → blocks ≢ []
    → committed_with s blocks ≡ with_batch s blocks
committed_some s [] some = absurd (some refl)
committed_some s (block ∷ blocks) some = refl

pub map_push : {X Y : Type 0} (f : X → Y) (xs : List X) (x : X) → map f (xs ++ x ∷ []) ≡ map f xs ++ f x ∷ []
map_push f [] x = refl
map_push f (y ∷ xs) x = ap (λ l. f y ∷ l) (map_push f xs x)

all_push : (n : ℕ) (batches : List WriteOut) (w : WriteOut) → AllByRecursion (λ (x :
    WriteOut). x.batch.mark ≤ n) batches
    → w.batch.mark ≤ n + 1 → AllByRecursion (λ (x : WriteOut). x.batch.mark ≤ n + 1) (batches ++ w ∷ [])
all_push n [] w all le = (le, tt)
all_push n (x ∷ batches) w all le = (omega (arith, all.0), all_push n batches w all.1 le)

-- there is a journal for it
pub room_for_batch : {D : Type 0} (seen : D → List ℕ) (s : PagerState D) → IsSound seen s
    → is_busy s.write_outs ≡ false → length s.write_outs.batches < journals_of s.table.layout
room_for_batch seen s sound free =
    let other = eqb-false (length s.write_outs.batches) (journals_of s.write_outs.geometry.layout)
    (or_parts (has_uncommitted s.write_outs.batches)
    (length s.write_outs.batches == journals_of s.write_outs.geometry.layout) free).1 in
    let same = ap (λ g. journals_of g.layout) sound.geometry in
    omega (arith, sound.few_batches, other, same)

pub as_many_records : {D : Type 0} (seen : D → List ℕ) (s : PagerState D) → IsSound seen s
    → length s.records ≡ length s.write_outs.batches
as_many_records seen s sound = omega (
  arith,
  ap length sound.tied,
  length-map s.records homes_in,
  length-map s.write_outs.batches (λ (w : WriteOut). w.batch.homes),
)

pub begun_sound : {D : Type 0} (seen : D → List ℕ) (s : PagerState D) → IsSound seen s
    → is_busy s.write_outs ≡ false → IsSound seen (with_batch s s.staged)
begun_sound seen s sound free =
    let w = begun_of s.write_outs.geometry.slots (next_batch s.write_outs (s.marks + 1) (homes_in s.staged)) in
    record {
      fits = sound.fits;
      long = sound.long;
      lengths = sound.lengths;
      geometry = sound.geometry;
      rising = tt;
      ends = λ file home past next. refl;
      few = omega arith;
      most = sound.most;
      tied = map_push (λ (x : WriteOut). x.batch.homes) s.write_outs.batches w
          ∙ ap (λ (l : List (List ℕ)). l ++ homes_in s.staged ∷ []) sound.tied
          ∙ sym (map_push homes_in s.records s.staged);
      few_batches = omega (
        arith,
        length-append s.write_outs.batches (w ∷ []),
        room_for_batch seen s sound free,
      );
      marked = all_push s.marks s.write_outs.batches w sound.marked (omega arith);
    }

-- ---- a batch may begin

some_homes : (blocks : Blocks) → blocks ≢ [] → 0 < length (homes_in blocks)
some_homes [] some = absurd (some refl)
some_homes (block ∷ blocks) some = omega arith

below_next : (n : ℕ) (batches : List WriteOut) → AllByRecursion (λ (x : WriteOut). x.batch.mark ≤ n) batches
    → AllByRecursion (λ (x : WriteOut). x.batch.mark < n + 1) batches
below_next n [] all = tt
below_next n (w ∷ batches) all = (omega (arith, all.0), below_next n batches all.1)

pub may_begin : {D : Type 0} (seen : D → List ℕ) (s : PagerState D) → IsSound seen s → s.write_outs.broken ≡ false
    → is_busy s.write_outs ≡ false → s.staged ≢ [] → s.marks < 2 ^ 32 - 1
    → MayBegin s.write_outs (s.marks + 1) (homes_in s.staged)
may_begin seen s sound whole free some marks = record {
  whole = whole;
  free = free;
  some_mark = omega arith;
  small_mark = omega arith;
  are_homes = subst (λ g. AreHomes g (homes_in s.staged)) (sym sound.geometry) (record {
    some = some_homes s.staged some;
    few = omega (
      arith,
      length-map s.staged (λ (block : ℕ × List ℕ). block.0),
      sound.few,
      sound.most,
      sound.fits.some_slots,
    );
    rising = sound.rising;
  });
  newest = below_next s.marks s.write_outs.batches sound.marked;
}
