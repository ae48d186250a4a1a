-- What a commit leaves outside the log.
use Rattle.std.proofs.Common.{◌≡◌, ◌⊎◌, ℕ, ◌+◌, ◌-◌, ◌*◌, ◌%◌, ◌<◌, ◌≤◌, List, [], ◌∷◌, ◌++◌, Bool, true, false}
use Rattle.std.proofs.Common.{cond, length, drop, get_or, inl, inr, refl, ap, ◌∙◌, arith}
use Rattle.std.proofs.Common.{length-append, length-drop}
use Rattle.std.specs.Prelude.{⊤, slice_range, nat_le}
use Rattle.std.proofs.lemmas.Bool.{leb-true, leb-false}
use Rattle.std.proofs.lemmas.Nat.{mod_below}
use Rattle.device.specs.Work.{Work, WriteAt, CopyBlock, Sync, Nothing}
use Rattle.device.specs.Did.{Did}
use Rattle.device.specs.declared.device.Device.{Ghosts}
use Rattle.device.proofs.Public.{done_seen, failed_seen, torn_before, torn_after, written_before, written_after}
use Rattle.device.proofs.Public.{length-part}
use Rattle.log_codec.specs.declared.sealing.Sealing.{Sealing}
use Rattle.log_codec.specs.declared.sealing.Sealing.TheVariants.{ByByte, ByDigest}
use Rattle.log_codec.specs.Log.{ring_block}
use Rattle.log_commits.specs.Calls.{DidAll}
use Rattle.log_commits.specs.Ring.{ring_works}
use Rattle.log_commits.specs.Commit.{works_by}
use Rattle.log_commits.proofs.Places.{block_low}

-- the place isn't in the log
abbrev pub IsOutside : ℕ → ℕ → Type 0
IsOutside ring i = (i < 16384) ⊎ (4096 * (4 + ring) ≤ i)

-- the work writes in the log alone
abbrev pub WritesIn : ℕ → Work → Type 0
WritesIn ring (WriteAt at bytes) = (16384 ≤ at) × (at + length bytes ≤ 4096 * (4 + ring))
WritesIn ring (CopyBlock from to) = ⊥
WritesIn ring Sync = ⊤
WritesIn ring Nothing = ⊤

abbrev pub AllIn : ℕ → List Work → Type 0
AllIn ring [] = ⊤
AllIn ring (work ∷ more) = WritesIn ring work × AllIn ring more

pub all_append : (ring : ℕ) (first second : List Work) → AllIn ring first → AllIn ring second
    → AllIn ring (first ++ second)
all_append ring [] second is more = more
all_append ring (work ∷ first) second is more = (is.0, all_append ring first second is.1 more)

module _ {D : Type 0} (disk : Ghosts D) where
  pub did_length : (works : List Work) (old new : D) (done : Bool) → DidAll disk old works done new
      → length (disk.seen new) ≡ length (disk.seen old)
  did_length [] old new done is = ap (λ (x : D). length (disk.seen x)) is.0
  did_length (work ∷ more) old new done (inl failed) = failed.0.same_length
  did_length (work ∷ more) old new done (inr both) =
      did_length more both.0 new done both.2 ∙ both.1.same_length

  one_outside : (ring : ℕ) (work : Work) (old new : D) (done : Bool) → WritesIn ring work
      → 4096 * (4 + ring) ≤ length (disk.seen old) → disk.is_honest old → Did disk old work done new → (i : ℕ)
      → IsOutside ring i → get_or (disk.seen new) i 0 ≡ get_or (disk.seen old) i 0
  one_outside ring (WriteAt at bytes) old new true within long honest did i out =
      let least = within.0 in
      let most = within.1 in
      ap (λ (l : List ℕ). get_or l i 0) (done_seen did honest refl) ∙ elim out [
        | inl less ↦ written_before (disk.seen old) at bytes i (omega arith) (omega arith)
        | inr more ↦ written_after (disk.seen old) at bytes i (omega arith) (omega arith)
      ]
  one_outside ring (WriteAt at bytes) old new false within long honest did i out =
      let least = within.0 in
      let most = within.1 in
      let torn = failed_seen did honest refl in
      elim out [
        | inl less ↦ torn_before torn i (omega arith)
        | inr more ↦ torn_after torn i (omega arith)
      ]
  one_outside ring (CopyBlock from to) old new done within long honest did i out = absurd within
  one_outside ring Sync old new true within long honest did i out =
      ap (λ (l : List ℕ). get_or l i 0) (done_seen did honest refl)
  one_outside ring Sync old new false within long honest did i out =
      ap (λ (l : List ℕ). get_or l i 0) (failed_seen did honest refl)
  one_outside ring Nothing old new true within long honest did i out =
      ap (λ (l : List ℕ). get_or l i 0) (done_seen did honest refl)
  one_outside ring Nothing old new false within long honest did i out =
      ap (λ (l : List ℕ). get_or l i 0) (failed_seen did honest refl)

  pub all_outside : (ring : ℕ) (works : List Work) (old new : D) (done : Bool) → AllIn ring works
      → 4096 * (4 + ring) ≤ length (disk.seen old) → disk.is_honest old → DidAll disk old works done new → (i : ℕ)
      → IsOutside ring i → get_or (disk.seen new) i 0 ≡ get_or (disk.seen old) i 0
  all_outside ring [] old new done within long honest is i out =
      ap (λ (x : D). get_or (disk.seen x) i 0) is.0
  all_outside ring (work ∷ more) old new done within long honest (inl failed) i out =
      one_outside ring work old new false within.0 long honest failed.0 i out
  all_outside ring (work ∷ more) old new done within long honest (inr both) i out =
      all_outside ring more both.0 new done within.1 (omega (arith, both.1.same_length)) (both.1.honest.1 honest)
      both.2 i out
      ∙ one_outside ring work old both.0 true within.0 long honest both.1 i out

module _ (ring p from : ℕ) (image : List ℕ) (some : 0 < ring) (few : from < 4096) (low : from ≤ length image)
    (fits : length image ≤ 4096 * ring) where
  abbrev ahead : ℕ
  ahead = 4096 * (ring - p % ring)

  abbrev first : ℕ
  first = 4096 * ring_block ring p + from

  pub ring_in : AllIn ring (ring_works ring p from image)
  ring_in = by_test (nat_le (length image) ahead) refl
    where
      by_test : (b : Bool) → nat_le (length image) ahead ≡ b
          → AllIn ring (cond b (WriteAt first (drop from image) ∷ [])
          (WriteAt first (slice_range image from ahead) ∷ WriteAt 16384 (drop ahead image) ∷ []))
      by_test true test =
          let below = mod_below p ring some in
          let short = leb-true (length image) ahead test in
          ((omega arith, omega (arith, length-drop from image)), tt)
      by_test false test =
          let below = mod_below p ring some in
          let over = leb-false (length image) ahead test in
          let part = length-part image from ahead (omega arith) (omega arith) in (
            (omega arith, omega (arith, part)),
            ((omega arith, omega (arith, length-drop ahead image)), tt),
          )

-- the calls of a commit
pub commit_in : (sealing : Sealing) (ring p n : ℕ) (bytes : List ℕ) → 0 < ring → length bytes ≡ 4096 * n → n + 1 ≤ ring
    → AllIn ring (works_by sealing ring p bytes)
commit_in ByByte ring p n bytes some size room =
    let low = block_low ring p some in
    all_append ring (ring_works ring p 1 (bytes ++ 0 ∷ []))
    (Sync ∷ WriteAt (4096 * ring_block ring p) (0xA7 ∷ []) ∷ Sync ∷ [])
    (ring_in ring p 1 (bytes ++ 0 ∷ []) some (omega arith) (omega (arith, length-append bytes (0 ∷ [])))
    (omega (arith, length-append bytes (0 ∷ []), size)))
    (tt, ((omega arith, omega (arith, low)), (tt, tt)))
commit_in (ByDigest key) ring p n bytes some size room =
    all_append ring (ring_works ring p 0 bytes) (Sync ∷ [])
    (ring_in ring p 0 bytes some (omega arith) (omega arith) (omega (arith, size))) (tt, tt)
