-- Rounds of steps end.
use Rattle.std.proofs.Common.{◌≡◌, ◌≢◌, ◌<◌, ℕ, ◌+◌, ◌-◌, length, refl, sym, ap, subst, arith}
use Rattle.std.specs.Prelude.{min}
use Rattle.std.proofs.lemmas.List.{length-map}
use Rattle.log_commits.specs.declared.behind.OldCommits.{OldCommits}
use Rattle.log_commits.specs.Tail.{TailValue}
use Rattle.log_home.specs.Index.{indexed_homes}
use Rattle.log_store.specs.declared.stage.HomeStage.{HomeStage}
use Rattle.log_store.specs.declared.stage.HomeStage.TheVariants.{Resting, Copying, Written, Sure}
use Rattle.log_store.specs.declared.fault.Progress.{Progress}
use Rattle.log_store.specs.declared.fault.Progress.TheVariants.{Idle, Moved}
use Rattle.log_store.specs.Rounds.{IsOfAll, IsOfAllBy, IsResting, round_left, round_left_by}
use Rattle.log_store.specs.Store.{StepsBy, StoreValue, begun_work, working}
use Rattle.log_store.proofs.Cases.{step_cases}

-- one place more is done
nearer_by : (done all : ℕ) → done ≢ all
    → 3 + ((all - min (done + 1) all) + (min (done + 1) all - all)) < 3 + ((all - done) + (done - all))
nearer_by done all some = omega (arith, some)

begun_left : (s : StoreValue) → round_left (working s (begun_work s)) < length s.entries + 4
begun_left s =
    let same : length (indexed_homes s.entries) ≡ length s.entries = length-map s.entries (λ entry. entry.0) in
    omega (arith, same)

-- a step that neither is the last one nor finds an empty log is nearer to the last one
pub nearer : (stage : HomeStage) (old new : StoreValue) (progress : Progress) → StepsBy old stage new progress
    → progress ≢ Idle → progress ≢ Moved → round_left new < round_left_by (length old.entries) old.work stage
nearer stage old new progress step =
    let P : HomeStage → Progress → StoreValue → Type 0 = λ v made s.
    made ≢ Idle → made ≢ Moved → round_left s < round_left_by (length old.entries) old.work v in
    let done : ℕ = old.work.done in
    let wrote : 2 < 3 + ((length old.work.homes - done) + (done - length old.work.homes)) = omega arith in
    let synced : 1 < 2 = omega arith in
    step_cases old new P (λ none some stays. absurd (some refl)) (λ used some stays. begun_left old)
    (λ apart some stays. nearer_by done (length old.work.homes) apart) (λ all some stays. wrote)
    (λ some stays. synced) (λ has some stays. absurd (stays refl)) stage progress step

-- it stays a round of all commits
pub goes : (stage : HomeStage) (old new : StoreValue) (progress : Progress) → StepsBy old stage new progress
    → progress ≢ Idle → progress ≢ Moved → IsOfAllBy old.tail old.work.oldest stage → IsOfAll new
goes stage old new progress step =
    let P : HomeStage → Progress → StoreValue → Type 0 = λ v made s.
    made ≢ Idle → made ≢ Moved → IsOfAllBy old.tail old.work.oldest v → IsOfAll s in
    step_cases old new P (λ none some stays all. absurd (some refl)) (λ used some stays all. refl)
    (λ apart some stays all. all) (λ done some stays all. all) (λ some stays all. all)
    (λ has some stays all. absurd (stays refl)) stage progress step

pub begun : (t : TailValue) (oldest : OldCommits) (stage : HomeStage) → stage ≡ Resting → IsOfAllBy t oldest stage
begun t oldest stage rests = subst (λ (v : HomeStage). IsOfAllBy t oldest v) (sym rests) tt

emptied : (used blocks left : ℕ) → left ≡ used - blocks → blocks ≡ used → left ≡ 0
emptied used blocks left is all = omega (arith, is, all)

pub moved : (stage : HomeStage) (old new : StoreValue) → StepsBy old stage new Moved
    → IsResting new × (IsOfAllBy old.tail old.work.oldest stage → new.tail.used ≡ 0)
moved Resting old new step = absurd step
moved Copying old new step = absurd step
moved Written old new step = absurd step
moved Sure old new step = (
  step.stage,
  λ all. emptied old.tail.used old.work.oldest.blocks new.tail.used (ap (λ (t : TailValue). t.used) step.tail) all,
)

pub idle : (stage : HomeStage) (old new : StoreValue) → StepsBy old stage new Idle
    → (old.tail.used ≡ 0) × (stage ≡ Resting)
idle Resting old new step = (step.0, refl)
idle Copying old new step = absurd step
idle Written old new step = absurd step
idle Sure old new step = absurd step
