-- What several works that were asked of a device did.
use Rattle.std.proofs.Common.{◌≡◌, ◌≤◌, ◌<◌, ◌⊎◌, inl, inr, ℕ, zero, suc, ◌+◌, ◌*◌, Bool, true, false}
use Rattle.std.proofs.Common.{List, [], ◌∷◌, length, get_or, refl, sym, ◌∙◌, ap, subst, arith}
use Rattle.std.specs.List.{AllByRecursion}
use Rattle.device.specs.Did.{Did}
use Rattle.device.specs.Work.{Work, WriteAt, CopyBlock, Sync, Nothing}
use Rattle.device.specs.declared.device.Device.{Ghosts}
use Rattle.device.proofs.Public.{written_before, written_after, torn_before, torn_after}
use Rattle.new_volume.specs.Formatting.{DidAll, write_if}

-- the work writes no more than a list of so many bytes has
abbrev pub IsInside : ℕ → Work → Type 0
IsInside size (WriteAt at bytes) = at + length bytes ≤ size
IsInside size (CopyBlock from to) = ⊥
IsInside size Sync = Unit {0}
IsInside size Nothing = Unit {0}

-- the work doesn't write this place
abbrev pub IsOutOf : ℕ → Work → Type 0
IsOutOf i (WriteAt at bytes) = (i < at) ⊎ (at + length bytes ≤ i)
IsOutOf i (CopyBlock from to) = ⊥
IsOutOf i Sync = Unit {0}
IsOutOf i Nothing = Unit {0}

module _ {D : Type 0} (disk : Ghosts D) where
  -- the last of several works
  pub did_last : {old new : D} {work : Work} (done : Bool) → Did disk old work done new
      → DidAll disk old (work ∷ []) done new
  did_last {old} {new} {work} true did = inr (new, did, (refl, refl))
  did_last {old} {new} {work} false did = inl (refl, did)

  -- where all were done
  pub done_first : (old new : D) (work : Work) (works : List Work) → DidAll disk old (work ∷ works) true new
      → (mid : D) × Did disk old work true mid × DidAll disk mid works true new
  done_first old new work works (inl failed) = absurd (cc)
  done_first old new work works (inr did) = did

  -- a place that a work doesn't write keeps its byte
  pub did_same : {old new : D} (work : Work) (done : Bool) → Did disk old work done new → disk.is_honest old
      → IsInside (length (disk.seen old)) work → (i : ℕ) → IsOutOf i work
      → get_or (disk.seen new) i 0 ≡ get_or (disk.seen old) i 0
  did_same {old} {new} (WriteAt at bytes) true did honest fits i (inl before) =
      ap (λ (l : List ℕ). get_or l i 0) (did.seen honest) ∙ written_before (disk.seen old) at bytes i fits before
  did_same {old} {new} (WriteAt at bytes) true did honest fits i (inr after) =
      ap (λ (l : List ℕ). get_or l i 0) (did.seen honest) ∙ written_after (disk.seen old) at bytes i fits after
  did_same (WriteAt at bytes) false did honest fits i (inl before) = torn_before (did.seen honest) i before
  did_same (WriteAt at bytes) false did honest fits i (inr after) = torn_after (did.seen honest) i after
  did_same (CopyBlock from to) done did honest fits i out = absurd out
  did_same Sync true did honest fits i out = ap (λ (l : List ℕ). get_or l i 0) (did.seen honest)
  did_same Sync false did honest fits i out = ap (λ (l : List ℕ). get_or l i 0) (did.seen honest)
  did_same Nothing true did honest fits i out = ap (λ (l : List ℕ). get_or l i 0) (did.seen honest)
  did_same Nothing false did honest fits i out = ap (λ (l : List ℕ). get_or l i 0) (did.seen honest)

  -- and so does one that none of several writes
  pub all_same : (old new : D) (works : List Work) (done : Bool) → DidAll disk old works done new → disk.is_honest old
      → AllByRecursion (IsInside (length (disk.seen old))) works → (i : ℕ) → AllByRecursion (IsOutOf i) works
      → get_or (disk.seen new) i 0 ≡ get_or (disk.seen old) i 0
  all_same old new [] done did honest fits i out = ap (λ (d : D). get_or (disk.seen d) i 0) did.1
  all_same old new (work ∷ works) done (inl failed) honest fits i out =
      did_same work false failed.1 honest fits.0 i out.0
  all_same old new (work ∷ works) done (inr did) honest fits i out =
      let P : ℕ → Type 0 = λ size. AllByRecursion (IsInside size) works in
      all_same did.0 new works done did.2 (did.1.honest.1 honest) (subst P (sym did.1.same_length) fits.1) i out.1
      ∙ did_same work true did.1 honest fits.0 i out.0

-- a block that is written where there are n blocks of it
pub inside_if : (n at size : ℕ) (block : List ℕ) → length block ≡ 4096 → at + 4096 * n ≤ size
    → IsInside size (write_if n at block)
inside_if zero at size block whole fits = tt
inside_if (suc n) at size block whole fits = omega (arith, whole, fits)

pub out_of_if : (n at i : ℕ) (block : List ℕ) → length block ≡ 4096 → (i < at) ⊎ (at + 4096 * n ≤ i)
    → IsOutOf i (write_if n at block)
out_of_if zero at i block whole out = tt
out_of_if (suc n) at i block whole (inl before) = inl before
out_of_if (suc n) at i block whole (inr after) = inr (omega (arith, whole, after))
