-- Steps that a request made, and why it was refused.
use Rattle.std.proofs.Common.{◌≡◌, ◌≢◌, ℕ, ◌+◌, Bool, true, false, [], ◌∷◌, length, Some}
use Rattle.std.proofs.Common.{refl, sym, ◌∙◌, ap, subst, arith}
use Rattle.std.specs.Prelude.{nat_lt}
use Rattle.std.proofs.lemmas.Bool.{false≢true}
use Rattle.std.proofs.lemmas.Bool.Decides.{nat_tests}
use Rattle.deferred_disk.specs.Deferred.{Deferred}
use Rattle.page_entry.specs.declared.refusal.Refusal.TheVariants as refusals
use Rattle.journal.specs.declared.flushed.Flushed.TheVariants as flushed
use Rattle.kept_blocks.specs.Blocks.{Blocks}
use Rattle.pager.specs.State.{PagerState}
use Rattle.pager.specs.Calls.{after_commit, commit_refusal}
use Rattle.embedded.specs.Steps.{MakesSteps, NoStep, ThenStep, AnyStep, WhileBusy, IsWrittenOut}
use Rattle.embedded.specs.Steps.{Commits, RefusesCommit, NeverBegins, FailsWithin, RefusesSteps, IsBroken}
use Rattle.embedded.specs.inside.Awaiting.{EndsAwaiting, BeginsCommit, WritesUntil}
use Rattle.embedded.proofs.Awaiting.{begun_awaiting, begun_whole, step_whole}

-- a device call had failed before any step
pub broken_first : (most : ℕ) (old : PagerState Deferred) {n : ℕ} {last : PagerState Deferred}
    → MakesSteps AnyStep old n last → last.write_outs.broken ≡ true → RefusesSteps most old refusals.Broken last
broken_first most old NoStep broken = IsBroken broken
broken_first most old (ThenStep n last new answer succeeds is step steps) broken =
    absurd (false≢true (sym (step_whole last new answer succeeds step) ∙ broken))

pub never_begins : (old last : PagerState Deferred) (waits : ℕ) → MakesSteps WhileBusy old waits last
    → last.write_outs.broken ≡ true → RefusesCommit old refusals.Broken last
never_begins old last waits steps broken =
    NeverBegins waits refusals.Broken last steps (by last.write_outs.broken broken) (λ same. absurd (cc))
  where
    by : (b : Bool) → b ≡ true
        → commit_refusal (record last { write_outs = record last.write_outs { broken = b } }) ≡ Some refusals.Broken
    by true _ = refl
    by false unlike = absurd (false≢true unlike)

-- where there was something to commit
pub some_staged : (blocks : Blocks) (some : Bool) → some ≡ nat_lt 0 (length blocks) → some ≡ true → blocks ≢ []
some_staged [] some is is_true = absurd (false≢true (sym is ∙ is_true))
some_staged (block ∷ blocks) some is is_true = λ none. cc

pub none_staged : (blocks : Blocks) (some : Bool) → some ≡ nat_lt 0 (length blocks) → some ≡ false → blocks ≡ []
none_staged [] some is none = refl
none_staged (block ∷ blocks) some is none =
    let more : nat_lt 0 (length (block ∷ blocks)) ≡ true = grind (arith, nat_tests) in
    absurd (false≢true (sym none ∙ is ∙ more))

module _ (old begun : PagerState Deferred) (mark : ℕ) (some : Bool) (it : BeginsCommit old mark some begun) where
  pub awaits : some ≡ true → EndsAwaiting mark begun.write_outs.batches
  awaits is_true = subst (λ (m : ℕ). EndsAwaiting m begun.write_outs.batches) (sym it.mark_is)
      (subst (λ (s : PagerState Deferred). EndsAwaiting (it.begins.marks + 1) s.write_outs.batches) (sym it.value)
      (begun_awaiting it.begins (some_staged it.begins.staged some it.is_some is_true)))

  pub whole : begun.write_outs.broken ≡ false
  whole = ap (λ (s : PagerState Deferred). s.write_outs.broken) it.value ∙ begun_whole it.begins it.commit.admitted

  pub commits_some : (new : PagerState Deferred) → some ≡ true → WritesUntil mark begun (flushed.Committed mark) new
      → Commits old mark new
  commits_some new is_true written = record {
    waits = it.waits;
    begins = it.begins;
    earlier = it.earlier;
    commit = it.commit;
    mark_is = it.mark_is;
    written = by it.begins.staged (some_staged it.begins.staged some it.is_some is_true);
  }
    where
      by : (blocks : Blocks) → blocks ≢ [] → IsWrittenOut blocks mark (after_commit it.begins) new
      by [] none = absurd (none refl)
      by (block ∷ blocks) none = subst (λ (s : PagerState Deferred). WritesUntil mark s (flushed.Committed mark) new)
          it.value written

  pub commits_none : some ≡ false → Commits old mark begun
  commits_none none = record {
    waits = it.waits;
    begins = it.begins;
    earlier = it.earlier;
    commit = it.commit;
    mark_is = it.mark_is;
    written = subst (λ (b : Blocks). IsWrittenOut b mark (after_commit it.begins) begun)
        (sym (none_staged it.begins.staged some it.is_some none)) it.value;
  }

  pub fails_within : (new : PagerState Deferred) → some ≡ true → WritesUntil mark begun flushed.Device new
      → RefusesCommit old refusals.Device new
  fails_within new is_true failed =
      let it2 : WritesUntil (it.begins.marks + 1) (after_commit it.begins) flushed.Device new =
      subst (λ (s : PagerState Deferred). WritesUntil (it.begins.marks + 1) s flushed.Device new) it.value
      (subst (λ (m : ℕ). WritesUntil m begun flushed.Device new) it.mark_is failed) in
      FailsWithin it.waits it.begins it2.0 it2.1 new it.earlier it.commit
      (some_staged it.begins.staged some it.is_some is_true) it2.2 it2.3
