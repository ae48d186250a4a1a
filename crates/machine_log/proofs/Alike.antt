-- Bytes of a device stand for bytes of the disk if both recover to the same contents. The files have the same order in
-- both, and all home blocks are moved by the same number of blocks.
use Rattle.std.proofs.Common.{◌≡◌, ℕ, zero, suc, ◌+◌, ◌-◌, ◌≤◌, List, [], ◌∷◌, ◌++◌, length, take, refl, ap}
use Rattle.std.proofs.Common.{sym, ◌∙◌, subst, arith}
use Rattle.volume_codec.specs.declared.layout.Layout.TheVariants.{Four}
use Rattle.volume_codec.specs.Files.{File, TableFile}
use Rattle.volume_codec.specs.Layout.{IsHome, first_home, first_file_home}
use Rattle.volume_codec.specs.Lengths.{AreLengths, IsLengths, HasLengths, lengths_in, lengths_text}
use Rattle.volume_codec.specs.Recovery.{blocks_from, files_from, files_in, Recovers, RecoversTo}
use Rattle.volume_codec.specs.Super.{SuperValue, geometry_of, pages_of}
use Rattle.volume_codec.specs.Text.{numbers_in}
use Rattle.volume_codec.proofs.Public.{has_lengths-same}
use Rattle.log_codec.specs.Log.{first_log_home, first_log_file_home}
use Rattle.log_volume.specs.Super.{LogSuperValue, FitsLog, table_of}
use Rattle.log_volume.specs.Files.{log_lengths_in, log_files_in}
use Rattle.machine_log.specs.Serving.{IsShownTable, StandsFor, volume_home}
use Rattle.machine_log.specs.inside.Keeping.{RecoverAlike, shown_contents}

-- ---- files in contents that are moved

-- contents that are moved, from a block on, each by the same number of blocks
module _ (contents : ℕ → List ℕ) (place : ℕ → ℕ) (low : ℕ)
    (even : (b n : ℕ) → low ≤ b → place (b + n) ≡ place b + n) where
  blocks_moved : (b n : ℕ) → low ≤ b → blocks_from (λ i. contents (place i)) b n ≡ blocks_from contents (place b) n
  blocks_moved b zero from = refl
  blocks_moved b (suc n) from =
      ap (λ (l : List ℕ). contents (place b) ++ l)
      (blocks_moved (b + 1) n (omega (arith, from)) ∙ ap (λ k. blocks_from contents k n) (even b 1 from))

  files_moved : (b : ℕ) (fs : List TableFile) (lengths : List ℕ) → low ≤ b
      → files_from (λ i. contents (place i)) b fs lengths ≡ files_from contents (place b) fs lengths
  files_moved b [] lengths from = refl
  files_moved b (f ∷ fs) [] from = refl
  files_moved b (f ∷ fs) (n ∷ lengths) from =
      let bytes = blocks_moved b (pages_of f.capacity) from in
      let rest = files_moved (b + pages_of f.capacity) fs lengths (omega (arith, from))
      ∙ ap (λ k. files_from contents k fs lengths) (even b (pages_of f.capacity) from) in
      λ i. record { name = f.name; bytes = take n (bytes i); capacity = f.capacity } ∷ rest i

-- ---- the table of the disk

abbrev pub four : LogSuperValue → ℕ → SuperValue
four v slots = record { layout = Four; files = v.files; slots = slots }

pub table_four : (v : LogSuperValue) (t : SuperValue) → IsShownTable v t → t ≡ four v t.slots
table_four v t is = λ i. record { layout = is.layout i; files = is.files i; slots = t.slots }

moved_even : (down up b n : ℕ) → down ≤ b → b + n + up - down ≡ b + up - down + n
moved_even down up b n low = omega (arith, low)

moved_back : (down up : ℕ) → down + up - down ≡ up
moved_back down up = omega arith

moved_past : (down ring : ℕ) → down + 1 + (4 + ring) - down ≡ 5 + ring
moved_past down ring = omega arith

module _ (v : LogSuperValue) (slots : ℕ) (contents : ℕ → List ℕ) where
  -- the contents of the disk
  abbrev pub shown : ℕ → List ℕ
  shown = shown_contents v (four v slots) contents

  pub first_shown : volume_home v (four v slots) (first_home Four slots) ≡ first_log_home v.ring
  first_shown = moved_back (first_home Four slots) (first_log_home v.ring)

  file_first_shown : volume_home v (four v slots) (first_file_home Four slots) ≡ first_log_file_home v.ring
  file_first_shown = moved_past (first_home Four slots) v.ring

  pub lengths_shown : lengths_in (four v slots) shown ≡ log_lengths_in v contents
  lengths_shown = ap (λ b. numbers_in 8 (length v.files) (contents b)) first_shown

  pub files_shown : files_in (four v slots) shown ≡ log_files_in v contents
  files_shown =
      files_moved contents (volume_home v (four v slots)) (first_home Four slots)
      (moved_even (first_home Four slots) (first_log_home v.ring)) (first_file_home Four slots) v.files
      (lengths_in (four v slots) shown) (omega arith)
      ∙ ap (λ b. files_from contents b v.files (lengths_in (four v slots) shown)) file_first_shown
      ∙ ap (files_from contents (first_log_file_home v.ring) v.files) lengths_shown

  is_lengths_shown : HasLengths (four v slots) shown
      → IsLengths (table_of v) (log_lengths_in v contents) (contents (first_log_home v.ring))
  is_lengths_shown has =
      let are : AreLengths (table_of v) (lengths_in (four v slots) shown) =
      record { count = has.are.count; within = has.are.within } in
      record {
        are = subst (AreLengths (table_of v)) lengths_shown are;
        spelled = sym (ap contents first_shown) ∙ has.spelled (omega arith) ∙ ap lengths_text lengths_shown;
      }

-- ---- bytes that recover to the same contents

module _ (one_contents : (v w : SuperValue) (contents others : ℕ → List ℕ) (bytes : List ℕ)
    → Recovers v contents bytes → Recovers w others bytes
    → (v ≡ w) × ((b : ℕ) → IsHome (geometry_of v) b → contents b ≡ others b))
    (one_recovery : (bytes : List ℕ) (files others : List File) → RecoversTo bytes files → RecoversTo bytes others
    → files ≡ others) where
  -- the lengths and the files of the disk, by its own table
  recovers_shown : (t : SuperValue) (shown : ℕ → List ℕ) (w : List ℕ) (files : List File) → Recovers t shown w
      → RecoversTo w files → HasLengths t shown × (files ≡ files_in t shown)
  recovers_shown t shown w files recovers to =
      let same = one_contents to.table t to.contents shown w to.recovers recovers in
      let has : HasLengths t shown = subst (λ (u : SuperValue). HasLengths u shown) same.0
      (has_lengths-same to.table to.contents shown
      (λ some. same.1 (first_home to.table.layout to.table.slots)
      (record { low = omega arith; high = omega (arith, some) })) to.lengths) in (
        has,
        one_recovery w files (files_in t shown) to
            (record { table = t; contents = shown; recovers = recovers; lengths = has; files_are = refl }),
      )

  pub stands : (v : LogSuperValue) (t : SuperValue) (c w : List ℕ) → IsShownTable v t → FitsLog v
      → RecoverAlike v t c w → StandsFor c w
  stands v t c w is fits alike files to =
      let shown = recovers_shown t (shown_contents v t alike.contents) w files alike.disk to in
      let four_is = table_four v t is in
      let P : SuperValue → Type 0 = λ u. HasLengths u (shown_contents v u alike.contents) in
      record {
        table = v;
        contents = alike.contents;
        super_block = record { fits = fits; spelled = alike.first };
        recovers = alike.volume;
        lengths = is_lengths_shown v t.slots alike.contents (subst P four_is shown.0);
        files_are = shown.1 ∙ ap (λ (u : SuperValue). files_in u (shown_contents v u alike.contents)) four_is
            ∙ files_shown v t.slots alike.contents;
      }
