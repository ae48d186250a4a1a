-- The stages of a write-out and its steps.
use Rattle.std.proofs.Common.{◌≡◌, ◌≢◌, ℕ, zero, suc, ◌+◌, ◌-◌, ◌*◌, ◌<◌, ◌≤◌, inl, inr}
use Rattle.std.proofs.Common.{cond, ◌==◌, List, [], ◌∷◌, ◌++◌, length, map, get_or, Option}
use Rattle.std.proofs.Common.{Some, None, refl, sym, ap, ◌∙◌, subst, arith, length-append}
use Rattle.std.specs.Prelude.{if◌then◌else◌, nat_lt, nat_eq}
use Rattle.std.specs.List.{range_with_len}
use Rattle.std.proofs.lemmas.Bool.Decides.{nat_tests}
use Rattle.std.proofs.lemmas.Bool.{cases_order, cond_both, eqb-true, eqb-false}
use Rattle.std.proofs.lemmas.List.{get_or_append_left, get_or-append-add}
use Rattle.std.proofs.lemmas.List.FromFn.{length-map-range_with_len, get_or-map-range_with_len}
use Rattle.std.proofs.lemmas.Option.{slice_get-get_or, slice_get_past}
use Rattle.journal.specs.declared.stage.Stage.{Stage}
use Rattle.journal.specs.declared.stage.Stage.TheVariants.{Recording, Describing, SyncingRecords, Opening}
use Rattle.journal.specs.declared.stage.Stage.TheVariants.{Committing, Applying, SyncingHomes, Closing, Finishing}
use Rattle.volume_codec.specs.Layout.{GeometryValue, descriptor_blocks}
use Rattle.volume_codec.specs.Recovery.{Batch}
use Rattle.journal.specs.Stage.{stages, stage_at}
use Rattle.journal.specs.Work.{Nothing, work_at, calls_of}
use Rattle.journal.specs.WriteOut.{calls_in_steps}
use Rattle.std.specs.Option.{option_map_or}

-- how many of the steps of a write-out of k blocks, whose descriptor has d blocks, are made before this stage
abbrev pub IsAt : ℕ → ℕ → ℕ → Option Stage → Type 0
IsAt k d n (Some (Recording i)) = (n ≡ i) × (i < k)
IsAt k d n (Some (Describing i)) = (n ≡ k + i) × (i < d)
IsAt k d n (Some SyncingRecords) = n ≡ k + d
IsAt k d n (Some Opening) = n ≡ k + d + 1
IsAt k d n (Some Committing) = n ≡ k + d + 2
IsAt k d n (Some (Applying i)) = (n ≡ k + d + 3 + i) × (i < k)
IsAt k d n (Some SyncingHomes) = n ≡ 2 * k + d + 3
IsAt k d n (Some Closing) = n ≡ 2 * k + d + 4
IsAt k d n (Some Finishing) = n ≡ 2 * k + d + 5
IsAt k d n None = 2 * k + d + 6 ≤ n

-- ---- the list of stages

module _ (k d : ℕ) where
  abbrev records : List Stage
  records = map Recording (range_with_len 0 k)

  abbrev descriptors : List Stage
  descriptors = map Describing (range_with_len 0 d)

  abbrev front : List Stage
  front = records ++ descriptors

  abbrev homes : List Stage
  homes = map Applying (range_with_len 0 k)

  abbrev ends : List Stage
  ends = SyncingHomes ∷ Closing ∷ Finishing ∷ []

  abbrev middle : List Stage
  middle = SyncingRecords ∷ Opening ∷ Committing ∷ (homes ++ ends)

  length-records : length records ≡ k
  length-records = length-map-range_with_len Recording 0 k

  length-descriptors : length descriptors ≡ d
  length-descriptors = length-map-range_with_len Describing 0 d

  length-front : length front ≡ k + d
  length-front = omega (arith, length-append records descriptors, length-records, length-descriptors)

  length-homes : length homes ≡ k
  length-homes = length-map-range_with_len Applying 0 k

  pub length-stages : length (stages k d) ≡ 2 * k + d + 6
  length-stages =
      let sum : length (front ++ middle) ≡ 2 * k + d + 6 =
      omega (arith, length-append front middle, length-append homes ends, length-front, length-homes) in
      sum

  at_front : (n : ℕ) → n < k + d → stage_at k d n ≡ Some (get_or front n Finishing)
  unfolding stage_at
  at_front n lt =
      slice_get-get_or (stages k d) n Finishing (omega (arith, length-stages))
      ∙ ap Some (get_or_append_left front middle Finishing n (omega (arith, length-front)))

  at_record : (i : ℕ) → i < k → stage_at k d i ≡ Some (Recording i)
  at_record i lt =
      at_front i (omega arith)
      ∙ ap Some (get_or_append_left records descriptors Finishing i (omega (arith, length-records))
      ∙ get_or-map-range_with_len Recording 0 k i i Finishing lt (omega arith))

  at_descriptor : (n i : ℕ) → n ≡ k + i → i < d → stage_at k d n ≡ Some (Describing i)
  at_descriptor n i is lt =
      at_front n (omega arith)
      ∙ ap Some (ap (λ m. get_or front m Finishing) (omega (arith, length-records))
      ∙ get_or-append-add records descriptors i Finishing
      ∙ get_or-map-range_with_len Describing 0 d i i Finishing lt (omega arith))

  at_middle : (n j : ℕ) → n ≡ k + d + j → j < k + 6 → stage_at k d n ≡ Some (get_or middle j Finishing)
  unfolding stage_at
  at_middle n j is lt =
      slice_get-get_or (stages k d) n Finishing (omega (arith, length-stages))
      ∙ ap Some (ap (λ m. get_or (stages k d) m Finishing) (omega (arith, length-front))
      ∙ get_or-append-add front middle j Finishing)

  at_home : (n i : ℕ) → n ≡ k + d + 3 + i → i < k → stage_at k d n ≡ Some (Applying i)
  at_home n i is lt =
      at_middle n (suc (suc (suc i))) (omega arith) (omega arith)
      ∙ ap Some (get_or_append_left homes ends Finishing i (omega (arith, length-homes))
      ∙ get_or-map-range_with_len Applying 0 k i i Finishing lt (omega arith))

  at_end : (n j : ℕ) → n ≡ 2 * k + d + 3 + j → j < 3 → stage_at k d n ≡ Some (get_or ends j Finishing)
  at_end n j is lt =
      at_middle n (suc (suc (suc (k + j)))) (omega arith) (omega arith)
      ∙ ap Some (ap (λ m. get_or (homes ++ ends) m Finishing) (omega (arith, length-homes))
      ∙ get_or-append-add homes ends j Finishing)

  past_end : (n : ℕ) → 2 * k + d + 6 ≤ n → stage_at k d n ≡ None
  unfolding stage_at
  past_end n le = slice_get_past (stages k d) n (omega (arith, length-stages))

pub stage_from : (k d n : ℕ) (o : Option Stage) → IsAt k d n o → stage_at k d n ≡ o
stage_from k d n (Some (Recording i)) at = ap (stage_at k d) at.0 ∙ at_record k d i at.1
stage_from k d n (Some (Describing i)) at = at_descriptor k d n i at.0 at.1
stage_from k d n (Some SyncingRecords) at = at_middle k d n 0 (omega arith) (omega arith)
stage_from k d n (Some Opening) at = at_middle k d n 1 at (omega arith)
stage_from k d n (Some Committing) at = at_middle k d n 2 at (omega arith)
stage_from k d n (Some (Applying i)) at = at_home k d n i at.0 at.1
stage_from k d n (Some SyncingHomes) at = at_end k d n 0 (omega arith) (omega arith)
stage_from k d n (Some Closing) at = at_end k d n 1 (omega arith) (omega arith)
stage_from k d n (Some Finishing) at = at_end k d n 2 (omega arith) (omega arith)
stage_from k d n None at = past_end k d n at

-- each number of steps is that of one of them, or past the last
found : (k d n : ℕ) → (o : Option Stage) × IsAt k d n o
found k d n = elim (cases_order n k) [
  | inl same ↦ described 0 (omega arith)
  | inr (inl lt) ↦ (Some (Recording n), (refl, lt))
  | inr (inr gt) ↦ described (n - k) (omega arith)
]
  where
    applied : (i : ℕ) → n ≡ k + d + 3 + i → (o : Option Stage) × IsAt k d n o
    applied i is = elim (cases_order i k) [
      | inl same ↦ (Some SyncingHomes, omega arith)
      | inr (inl lt) ↦ (Some (Applying i), (is, lt))
      | inr (inr gt) ↦ ending (i - k) (omega arith)
    ]
      where
        ending : (j : ℕ) → n ≡ 2 * k + d + 3 + j → (o : Option Stage) × IsAt k d n o
        ending zero is = (Some SyncingHomes, omega arith)
        ending (suc zero) is = (Some Closing, omega arith)
        ending (suc (suc zero)) is = (Some Finishing, omega arith)
        ending (suc (suc (suc j))) is = (None, omega arith)

    later : (j : ℕ) → n ≡ k + d + j → (o : Option Stage) × IsAt k d n o
    later zero is = (Some SyncingRecords, omega arith)
    later (suc zero) is = (Some Opening, omega arith)
    later (suc (suc zero)) is = (Some Committing, omega arith)
    later (suc (suc (suc i))) is = applied i (omega arith)

    described : (i : ℕ) → n ≡ k + i → (o : Option Stage) × IsAt k d n o
    described i is = elim (cases_order i d) [
      | inl same ↦ later 0 (omega arith)
      | inr (inl lt) ↦ (Some (Describing i), (is, lt))
      | inr (inr gt) ↦ later (i - d) (omega arith)
    ]

pub stage_is : (k d n : ℕ) → IsAt k d n (stage_at k d n)
stage_is k d n = let is = found k d n in subst (IsAt k d n) (sym (stage_from k d n is.0 is.1)) is.1

-- what is at hand of a stage
pub stage_at-is : (k d n : ℕ) {o : Option Stage} → stage_at k d n ≡ o → IsAt k d n o
stage_at-is k d n e = subst (IsAt k d n) e (stage_is k d n)

-- by the number of steps
abbrev pub stage_by : ℕ → ℕ → ℕ → Option Stage
stage_by k d n =
    if nat_lt n k then Some (Recording n)
    else if nat_lt n (k + d) then Some (Describing (n - k))
    else if nat_eq n (k + d) then Some SyncingRecords
    else if nat_eq n (k + d + 1) then Some Opening
    else if nat_eq n (k + d + 2) then Some Committing
    else if nat_lt n (2 * k + d + 3) then Some (Applying (n - (k + d + 3)))
    else if nat_eq n (2 * k + d + 3) then Some SyncingHomes
    else if nat_eq n (2 * k + d + 4) then Some Closing
    else if nat_eq n (2 * k + d + 5) then Some Finishing
    else None

pub stage_at_is_by : (k d n : ℕ) → stage_at k d n ≡ stage_by k d n
stage_at_is_by k d n = by (stage_at k d n) (stage_is k d n)
  where
    by : (o : Option Stage) → IsAt k d n o → o ≡ stage_by k d n
    by (Some (Recording i)) at = grind (arith, nat_tests, at.0, at.1)
    by (Some (Describing i)) at = grind (arith, nat_tests, at.0, at.1)
    by (Some SyncingRecords) at = grind (arith, nat_tests, at)
    by (Some Opening) at = grind (arith, nat_tests, at)
    by (Some Committing) at = grind (arith, nat_tests, at)
    by (Some (Applying i)) at = grind (arith, nat_tests, at.0, at.1)
    by (Some SyncingHomes) at = grind (arith, nat_tests, at)
    by (Some Closing) at = grind (arith, nat_tests, at)
    by (Some Finishing) at = grind (arith, nat_tests, at)
    by None at = grind (arith, nat_tests, at)

-- ---- calls

module _ (g : GeometryValue) (batch : Batch) where
  abbrev k : ℕ
  k = length batch.homes

  abbrev d : ℕ
  d = descriptor_blocks g.slots

  -- the calls of the step after so many steps
  abbrev calls_after : ℕ → ℕ
  calls_after n =
      calls_of
      (option_map_or (work_at g batch []) (stage_at (length batch.homes) (descriptor_blocks g.slots) n) Nothing)

  pub early_calls : (n : ℕ) → n ≤ k + d + 3 → calls_in_steps g batch n ≡ n
  early_calls zero le = refl
  early_calls (suc n) le =
      let before = early_calls n (omega arith) in
      omega (arith, before, by (stage_at k d n) (stage_is k d n) (omega arith))
    where
      by : (o : Option Stage) → IsAt k d n o → n < k + d + 3
          → calls_of (option_map_or (work_at g batch []) o Nothing) ≡ 1
      by (Some (Recording i)) at lt = refl
      by (Some (Describing i)) at lt = refl
      by (Some SyncingRecords) at lt = refl
      by (Some Opening) at lt = refl
      by (Some Committing) at lt = refl
      by (Some (Applying i)) at lt = absurd (omega (arith, at.0))
      by (Some SyncingHomes) at lt = refl
      by (Some Closing) at lt = refl
      by (Some Finishing) at lt = refl
      by None at lt = absurd (omega arith)

  calls_at : (n : ℕ) (o : Option Stage) → IsAt k d n o
      → calls_after n ≡ calls_of (option_map_or (work_at g batch []) o Nothing)
  calls_at n o at =
      ap (λ (p : Option Stage). calls_of (option_map_or (work_at g batch []) p Nothing)) (stage_from k d n o at)

  applying_calls : (i : ℕ) → i ≤ k → calls_in_steps g batch (k + d + 3 + i) ≡ k + d + 3 + 2 * i
  applying_calls zero le =
      let first = early_calls (k + d + 3) (omega arith) in
      ap (calls_in_steps g batch) (omega arith) ∙ first ∙ omega arith
  applying_calls (suc i) le =
      let before = applying_calls i (omega arith) in
      let two : calls_after (k + d + 3 + i) ≡ 2 = calls_at (k + d + 3 + i) (Some (Applying i)) (refl, omega arith) in
      let next : k + d + 3 + suc i ≡ suc (k + d + 3 + i) = omega arith in
      ap (calls_in_steps g batch) next ∙ omega (arith, before, two)

  pub all_calls : calls_in_steps g batch (2 * k + d + 6) ≡ 3 * k + d + 6
  all_calls =
      let before = applying_calls k (omega arith) in
      let one : calls_after (k + d + 3 + k) ≡ 1 = calls_at (k + d + 3 + k) (Some SyncingHomes) (omega arith) in
      let two : calls_after (suc (k + d + 3 + k)) ≡ 1 =
      calls_at (suc (k + d + 3 + k)) (Some Closing) (omega arith) in
      let three : calls_after (suc (suc (k + d + 3 + k))) ≡ 1 =
      calls_at (suc (suc (k + d + 3 + k))) (Some Finishing) (omega arith) in
      let end : 2 * k + d + 6 ≡ suc (suc (suc (k + d + 3 + k))) = omega arith in
      ap (calls_in_steps g batch) end ∙ omega (arith, before, one, two, three)

pub done_at : (k d n : ℕ) → stage_at k d n ≡ None → 2 * k + d + 6 ≤ n
done_at k d n e = stage_at-is k d n e

-- ---- the next stage

-- of a batch of so many blocks, whose descriptor has so many
abbrev pub next_of : ℕ → ℕ → Stage → Stage
next_of k d (Recording i) = cond (i + 1 == k) (Describing 0) (Recording (i + 1))
next_of k d (Describing i) = cond (i + 1 == d) SyncingRecords (Describing (i + 1))
next_of k d SyncingRecords = Opening
next_of k d Opening = Committing
next_of k d Committing = Applying 0
next_of k d (Applying i) = cond (i + 1 == k) SyncingHomes (Applying (i + 1))
next_of k d SyncingHomes = Closing
next_of k d Closing = Finishing
next_of k d Finishing = Finishing

-- in a volume whose journals have so many slots
abbrev pub next_in : ℕ → Batch → Stage → Stage
next_in slots batch stage = next_of (length batch.homes) (descriptor_blocks slots) stage

-- after one block of k, which is the last one or isn't
among : (i k : ℕ) (last other : Stage) (P : Stage → Type 0) → i < k → (i + 1 ≡ k → P last) → (i + 1 < k → P other)
    → P (cond (i + 1 == k) last other)
among i k last other P lt at_end before = cond_both (i + 1 == k) last other P
    (λ e. at_end (eqb-true (i + 1) k e)) (λ e. before (omega (arith, lt, eqb-false (i + 1) k e)))

next_at : (k d n : ℕ) (stage : Stage) → 0 < k → 0 < d → stage ≢ Finishing → IsAt k d n (Some stage)
    → IsAt k d (n + 1) (Some (next_of k d stage))
next_at k d n (Recording i) some more not_last at =
    among i k (Describing 0) (Recording (i + 1)) (λ s. IsAt k d (n + 1) (Some s)) at.1
    (λ e. (omega (arith, at.0, e), more)) (λ lt. (omega (arith, at.0), lt))
next_at k d n (Describing i) some more not_last at =
    among i d SyncingRecords (Describing (i + 1)) (λ s. IsAt k d (n + 1) (Some s)) at.1
    (λ e. omega (arith, at.0, e)) (λ lt. (omega (arith, at.0), lt))
next_at k d n SyncingRecords some more not_last at = omega (arith, at)
next_at k d n Opening some more not_last at = omega (arith, at)
next_at k d n Committing some more not_last at = (omega (arith, at), some)
next_at k d n (Applying i) some more not_last at =
    among i k SyncingHomes (Applying (i + 1)) (λ s. IsAt k d (n + 1) (Some s)) at.1
    (λ e. omega (arith, at.0, e)) (λ lt. (omega (arith, at.0), lt))
next_at k d n SyncingHomes some more not_last at = omega (arith, at)
next_at k d n Closing some more not_last at = omega (arith, at)
next_at k d n Finishing some more not_last at = absurd (not_last refl)

module _ (k d n : ℕ) where
  pub next_is : (stage : Stage) → 0 < k → 0 < d → stage ≢ Finishing → stage_at k d n ≡ Some stage
      → stage_at k d (n + 1) ≡ Some (next_of k d stage)
  next_is stage some more not_last e =
      stage_from k d (n + 1) (Some (next_of k d stage))
      (next_at k d n stage some more not_last (stage_at-is k d n e))

  pub after_committing : stage_at k d n ≡ Some Committing → 0 < k → stage_at k d (n + 1) ≡ Some (Applying 0)
  after_committing e some =
      let at = stage_at-is k d n e in
      stage_from k d (n + 1) (Some (Applying 0)) (omega (arith, at), some)

  -- the place of a record, of a block of the descriptor or of a home block is one of the batch
  pub recording_within : (i : ℕ) → stage_at k d n ≡ Some (Recording i) → i < k
  recording_within i e = (stage_at-is k d n e).1

  pub describing_within : (i : ℕ) → stage_at k d n ≡ Some (Describing i) → i < d
  describing_within i e = (stage_at-is k d n e).1

  pub applying_within : (i : ℕ) → stage_at k d n ≡ Some (Applying i) → i < k
  applying_within i e = (stage_at-is k d n e).1

-- so many steps are few
few_at : (k d n : ℕ) (stage : Stage) → IsAt k d n (Some stage) → n < 2 * k + d + 6
few_at k d n (Recording i) at = omega (arith, at.0, at.1)
few_at k d n (Describing i) at = omega (arith, at.0, at.1)
few_at k d n SyncingRecords at = omega (arith, at)
few_at k d n Opening at = omega (arith, at)
few_at k d n Committing at = omega (arith, at)
few_at k d n (Applying i) at = omega (arith, at.0, at.1)
few_at k d n SyncingHomes at = omega (arith, at)
few_at k d n Closing at = omega (arith, at)
few_at k d n Finishing at = omega (arith, at)

pub steps_few : (k d n : ℕ) (stage : Stage) → stage_at k d n ≡ Some stage → n < 2 * k + d + 6
steps_few k d n stage e = few_at k d n stage (stage_at-is k d n e)
