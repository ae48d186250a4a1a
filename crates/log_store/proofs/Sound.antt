-- What holds of every store.
use Rattle.std.proofs.Common.{◌≡◌, ℕ, ◌+◌, ◌%◌, ◌<◌, ◌≤◌, List, [], ◌∷◌, length, Option, Some, None, inl, inr, refl}
use Rattle.std.proofs.Common.{true, false, cond, sym, subst, ◌∙◌, arith}
use Rattle.std.specs.Prelude.{IfSome, nat_lt}
use Rattle.std.proofs.Math.Nat.{mod-lt}
use Rattle.std.proofs.lemmas.Bool.{cases_eq, eq-eqb, ne_eqb}
use Rattle.volume_codec.specs.Descriptor.{RiseWithin}
use Rattle.log_codec.specs.Log.{LogValue, IsLog, first_log_home, log_descriptor_blocks}
use Rattle.log_commits.specs.Tail.{TailValue}
use Rattle.log_commits.specs.Commit.{tail_after}
use Rattle.log_home.specs.declared.index.Newest.{Newest}
use Rattle.log_home.specs.Index.{Entries, find_in, recorded_or}
use Rattle.log_home.specs.Work.{HomeWorkValue}
use Rattle.log_codec.specs.declared.sealing.Sealing.{Sealing}
use Rattle.log_codec.specs.declared.sealing.Sealing.TheVariants.{ByByte, ByDigest}
use Rattle.log_commits.specs.declared.behind.OldCommits.{OldCommits}
use Rattle.log_store.specs.declared.stage.HomeStage.{HomeStage}
use Rattle.log_store.specs.declared.stage.HomeStage.TheVariants.{Resting, Copying, Written, Sure}
use Rattle.log_store.specs.Store.{StoreValue, HasNoted, committing_tail, selection, selection_by, stage_by, tail_by}
use Rattle.log_store.specs.Store.{unless_old}
use Rattle.log_store.specs.Sound.{IsNoted, AreOfLog, IsOfLog, IsStore}

-- ---- records

-- those of a commit lie in the log, and are of home blocks
recorded_noted : (g : LogValue) → 0 < g.ring → (low p number : ℕ) (homes : List ℕ) (b : ℕ) (other : Option Newest)
    → first_log_home g.ring ≤ low → RiseWithin low g.blocks homes → IsNoted g b other
    → IsNoted g b (recorded_or g.ring other p number homes b)
recorded_noted g some low p number [] b other from rise is = is
recorded_noted g some low p number (home ∷ homes) b other from rise is = elim (cases_eq b home) [
  | inl same ↦
      (let test = eq-eqb b home same in
      let within = mod-lt p some in
      rw test (
        omega arith,
        omega (arith, within),
        record {
          low = omega (arith, from, rise.0, same);
          high = omega (arith, rise.1, same);
        },
      ))
  | inr apart ↦
      (let test = ne_eqb b home apart in
      rw test (recorded_noted g some (home + 1) (p + 1) number homes b other (omega (arith, from, rise.0)) rise.2 is))
]

-- ---- a commit is noted

-- by what the parts of a store say
pub noted_as : (t : TailValue) (log : LogValue) (position head records number : ℕ) (homes : List ℕ)
    (old admitted new : Entries) → log ≡ t.log → position ≡ t.position → head ≡ log_descriptor_blocks (length homes)
    → records ≡ (position + head) % log.ring → number ≡ t.number
    → ((b : ℕ) → find_in admitted b ≡ find_in old b)
    → ((b : ℕ) → find_in new b ≡ recorded_or log.ring (find_in admitted b) records number homes b)
    → (b : ℕ) → find_in new b ≡ recorded_or t.log.ring (find_in old b)
    ((t.position + log_descriptor_blocks (length homes)) % t.log.ring) t.number homes b
noted_as t log position head records number homes old admitted new log_is position_is head_is records_is number_is same
    noted b =
    let place : records ≡ (t.position + log_descriptor_blocks (length homes)) % t.log.ring =
    records_is ∙ (λ i. (position_is i + head_is i) % (log_is i).ring) in
    noted b ∙ (λ i. recorded_or (log_is i).ring (same b i) (place i) (number_is i) homes b)

pub more_of_log : (t u : TailValue) (stage : HomeStage) (oldest : OldCommits) → t.start.number ≡ u.start.number
    → t.used ≤ u.used → t.number ≤ u.number → AreOfLog t stage oldest → AreOfLog u stage oldest
more_of_log t u Resting oldest start used number is = tt
more_of_log t u Copying oldest start used number is =
    (omega (arith, is.0, used), omega (arith, is.1, start), omega (arith, is.2, number))
more_of_log t u Written oldest start used number is =
    (omega (arith, is.0, used), omega (arith, is.1, start), omega (arith, is.2, number))
more_of_log t u Sure oldest start used number is =
    (omega (arith, is.0, used), omega (arith, is.1, start), omega (arith, is.2, number))

-- the old commits behind which a commit selects the start are of the log
pub selection_of_log : (s : StoreValue) → IsStore s → IfSome (selection s) (IsOfLog s.tail)
selection_of_log s is = by s.tail.log.sealing s.stage is.work
  where
    by : (sealing : Sealing) (stage : HomeStage) → AreOfLog s.tail stage s.work.oldest
        → IfSome (selection_by sealing stage s.work.oldest) (IsOfLog s.tail)
    by ByByte Resting are = tt
    by (ByDigest key) Resting are = tt
    by ByByte Copying are = tt
    by (ByDigest key) Copying are = tt
    by ByByte Written are = are
    by (ByDigest key) Written are = tt
    by ByByte Sure are = are
    by (ByDigest key) Sure are = are

-- a record that stays lies in the log
stays_noted : (g : LogValue) (b : ℕ) (o : Option OldCommits) (newest : Option Newest) → IsNoted g b newest
    → IsNoted g b (unless_old o newest)
stays_noted g b None newest is = is
stays_noted g b (Some oldest) None is = tt
stays_noted g b (Some oldest) (Some n) is =
    elim (nat_lt n.number oldest.below) as (λ t. IsNoted g b (cond t None (Some n))) [
      | true ↦ tt
      | false ↦ is
    ]

stage_of_log : (t : TailValue) (stage : HomeStage) (o : Option OldCommits) (oldest : OldCommits) (homes : List ℕ)
    → AreOfLog t stage oldest → AreOfLog (tail_after (tail_by t o) homes) (stage_by stage o) oldest
stage_of_log t stage (Some selected) oldest homes is = tt
stage_of_log t Resting None oldest homes is = tt
stage_of_log t Copying None oldest homes is =
    (omega (arith, is.0), omega (arith, is.1), omega (arith, is.2))
stage_of_log t Written None oldest homes is =
    (omega (arith, is.0), omega (arith, is.1), omega (arith, is.2))
stage_of_log t Sure None oldest homes is =
    (omega (arith, is.0), omega (arith, is.1), omega (arith, is.2))

started_by : (t : TailValue) (o : Option OldCommits) (homes : List ℕ) → t.start.number ≤ t.number
    → IfSome o (IsOfLog t) → (let u = tail_after (tail_by t o) homes in u.start.number ≤ u.number)
started_by t None homes is of_log = omega (arith, is)
started_by t (Some oldest) homes is of_log = omega (arith, of_log.2)

log_by : (t : TailValue) (o : Option OldCommits) (homes : List ℕ)
    → (let u = tail_after (tail_by t o) homes in u.log ≡ t.log)
log_by t None homes = refl
log_by t (Some oldest) homes = refl

-- a commit keeps the geometry
pub committing_log : (s : StoreValue) → (let t = committing_tail s in t.log ≡ s.tail.log)
committing_log s = by (selection s)
  where
    by : (o : Option OldCommits) → (let t = tail_by s.tail o in t.log ≡ s.tail.log)
    by None = refl
    by (Some oldest) = refl

pub sound_noted : (old new : StoreValue) (homes : List ℕ) → HasNoted old new homes → IsLog old.tail.log
    → RiseWithin (first_log_home old.tail.log.ring) old.tail.log.blocks homes → IsStore old → IsStore new
sound_noted old new homes has log rise is =
    let t : TailValue = old.tail in
    let o : Option OldCommits = selection old in
    let u : TailValue = tail_after (tail_by t o) homes in
    let N : TailValue → Type 0 = λ v. IsStore (record new { tail = v }) in
    let G : LogValue → Type 0 = λ g. (b : ℕ) → IsNoted g b (find_in new.entries b) in
    let noted : G t.log = λ b.
    subst (λ (n : Option Newest). IsNoted t.log b n) (sym (has.found b)) (stays_noted t.log b o
    (recorded_or t.log.ring (find_in old.entries b)
    ((t.position + log_descriptor_blocks (length homes)) % t.log.ring) t.number homes b)
    (recorded_noted t.log (omega (arith, log.some_ring)) (first_log_home t.log.ring)
    ((t.position + log_descriptor_blocks (length homes)) % t.log.ring) t.number homes b (find_in old.entries b)
    (omega arith) rise (is.noted b))) in
    let S : HomeStage → Type 0 = λ v. AreOfLog u v new.work.oldest in
    let W : HomeWorkValue → Type 0 = λ w. AreOfLog u (stage_by old.stage o) w.oldest in
    subst N (sym has.tail) (record {
      noted = subst G (sym (log_by t o homes)) noted;
      started = started_by t o homes is.started (selection_of_log old is);
      work = subst S (sym has.stage) (subst W (sym has.work)
          (stage_of_log t old.stage o old.work.oldest homes is.work));
    })
