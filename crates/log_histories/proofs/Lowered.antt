-- The files of a volume with a log lie as those of a volume in layout 3 do whose home blocks begin lower. So what holds
-- of contents of the one holds of the other, moved by as many blocks.
use Rattle.std.proofs.Common.{◌≡◌, ℕ, zero, suc, ◌+◌, ◌-◌, ◌≤◌, List, [], ◌∷◌, ◌++◌, length, take, refl, ap}
use Rattle.std.proofs.Common.{sym, ◌∙◌, subst, arith}
use Rattle.page_entry.specs.declared.numbers.FilePage.{FilePage}
use Rattle.volume_codec.specs.declared.layout.Layout.TheVariants.{Three}
use Rattle.volume_codec.specs.Files.{TableFile}
use Rattle.volume_codec.specs.Layout.{first_home, first_file_home}
use Rattle.volume_codec.specs.Lengths.{AreLengths, IsLengths, HasLengths, lengths_in, lengths_text}
use Rattle.volume_codec.specs.Recovery.{blocks_from, files_from, files_in}
use Rattle.volume_codec.specs.Super.{SuperValue, Fits, block_count, first_home_of, pages_of}
use Rattle.volume_codec.specs.Text.{numbers_in}
use Rattle.volume_codec.proofs.Public.{reads_lengths}
use Rattle.journal.specs.Pages.{home_of}
use Rattle.log_codec.specs.Log.{first_log_home, first_log_file_home}
use Rattle.log_volume.specs.Super.{LogSuperValue, table_of, log_of}
use Rattle.log_volume.specs.Files.{log_lengths_in, log_files_in}
use Rattle.log_files.specs.State.{log_first_home_of, log_home_of}

-- the table of these files in layout 3
abbrev pub lower : LogSuperValue → SuperValue
lower v = record { layout = Three; files = v.files; slots = 0 }

-- by how many blocks they lie lower
abbrev pub depth : LogSuperValue → ℕ
depth v = v.ring - 1

abbrev pub lowered : LogSuperValue → (ℕ → List ℕ) → ℕ → List ℕ
lowered v contents b = contents (b + depth v)

-- ---- files in contents that are moved

blocks_moved : (contents : ℕ → List ℕ) (d b n : ℕ)
    → blocks_from (λ i. contents (i + d)) b n ≡ blocks_from contents (b + d) n
blocks_moved contents d b zero = refl
blocks_moved contents d b (suc n) =
    let next : b + 1 + d ≡ b + d + 1 = omega arith in
    ap (λ (l : List ℕ). contents (b + d) ++ l)
    (blocks_moved contents d (b + 1) n ∙ ap (λ k. blocks_from contents k n) next)

files_moved : (contents : ℕ → List ℕ) (d b : ℕ) (fs : List TableFile) (lengths : List ℕ)
    → files_from (λ i. contents (i + d)) b fs lengths ≡ files_from contents (b + d) fs lengths
files_moved contents d b [] lengths = refl
files_moved contents d b (f ∷ fs) [] = refl
files_moved contents d b (f ∷ fs) (n ∷ lengths) =
    let next : b + pages_of f.capacity + d ≡ b + d + pages_of f.capacity = omega arith in
    let bytes = blocks_moved contents d b (pages_of f.capacity) in
    let rest = files_moved contents d (b + pages_of f.capacity) fs lengths
    ∙ ap (λ k. files_from contents k fs lengths) next in
    λ i. record { name = f.name; bytes = take n (bytes i); capacity = f.capacity } ∷ rest i

-- ---- where the parts lie

module _ (v : LogSuperValue) (ring : 4 ≤ v.ring) where
  pub first_lowered : first_home Three 0 + depth v ≡ first_log_home v.ring
  first_lowered = omega (arith, ring)

  pub file_first_lowered : first_file_home Three 0 + depth v ≡ first_log_file_home v.ring
  file_first_lowered = omega (arith, ring)

  pub home_lowered : (owner : FilePage) → home_of (lower v) owner + depth v ≡ log_home_of v owner
  home_lowered owner = omega (arith, ring)

  pub first_of_lowered : (file : ℕ) → first_home_of (lower v) file + depth v ≡ log_first_home_of v file
  first_of_lowered file = omega (arith, ring)

  pub blocks_lowered : block_count (lower v) + depth v ≡ (log_of v).blocks
  blocks_lowered = omega (arith, ring)

  -- ---- lengths

  pub lengths_lowered : (contents : ℕ → List ℕ) → lengths_in (lower v) (lowered v contents) ≡ log_lengths_in v contents
  lengths_lowered contents = ap (λ b. numbers_in 8 (length v.files) (contents b)) first_lowered

  pub files_lowered : (contents : ℕ → List ℕ) → files_in (lower v) (lowered v contents) ≡ log_files_in v contents
  files_lowered contents =
      files_moved contents (depth v) (first_file_home Three 0) v.files (lengths_in (lower v) (lowered v contents))
      ∙ ap (λ b. files_from contents b v.files (lengths_in (lower v) (lowered v contents))) file_first_lowered
      ∙ ap (files_from contents (first_log_file_home v.ring) v.files) (lengths_lowered contents)

  -- what the block of the lengths says
  pub lengths_say : (lengths : List ℕ) (contents : ℕ → List ℕ) → Fits (table_of v)
      → IsLengths (table_of v) lengths (contents (first_log_home v.ring)) → log_lengths_in v contents ≡ lengths
  lengths_say lengths contents fits is = reads_lengths (table_of v) lengths (contents (first_log_home v.ring)) fits is

  pub has_lengths_of : (lengths : List ℕ) (contents : ℕ → List ℕ) → Fits (table_of v)
      → IsLengths (table_of v) lengths (contents (first_log_home v.ring))
      → HasLengths (lower v) (lowered v contents)
  has_lengths_of lengths contents fits is =
      let says = lengths_lowered contents ∙ lengths_say lengths contents fits is in
      let are : AreLengths (lower v) lengths = record { count = is.are.count; within = is.are.within } in
      record {
        are = subst (AreLengths (lower v)) (sym says) are;
        spelled = λ some. ap contents first_lowered ∙ is.spelled ∙ ap lengths_text (sym says);
      }

  pub is_lengths_of : (contents : ℕ → List ℕ) → HasLengths (lower v) (lowered v contents)
      → IsLengths (table_of v) (log_lengths_in v contents) (contents (first_log_home v.ring))
  is_lengths_of contents has =
      let says = lengths_lowered contents in
      let are : AreLengths (table_of v) (lengths_in (lower v) (lowered v contents)) =
      record { count = has.are.count; within = has.are.within } in
      record {
        are = subst (AreLengths (table_of v)) says are;
        spelled = sym (ap contents first_lowered) ∙ has.spelled (omega arith) ∙ ap lengths_text says;
      }
