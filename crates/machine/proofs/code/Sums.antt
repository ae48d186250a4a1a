-- The device calls of steps add up.
use Rattle.machine.proofs.Names.{ℕ, ◌≡◌, ◌+◌, ◌-◌, ◌*◌, ◌^◌, ◌<◌, ◌≤◌, inl, inr, Bool, true, false, cond, List, [], ◌∷◌}
use Rattle.machine.proofs.Names.{length, refl, ap, ◌∙◌, arith, nat_lt, lt-ltb, cond-true, Ghosts, raised, Work, WriteAt}
use Rattle.machine.proofs.Names.{CopyBlock, Sync, Nothing, HasFailed, Act, Reply, Step, State, Whole}
use Rattle.machine.proofs.Names.{CallsOf, Counts, reads_page, has_failed, step_work, StepsTaken}
use Rattle.machine.proofs.Names.{CallsAddUp}
use Rattle.machine.specs.declared.act.Act.TheVariants as acts
use Rattle.machine.specs.inside.Acting.{FixCalls}

-- a count that isn't at its end rises by one
one_more : (n : ℕ) → n < 2 ^ 64 - 1 → raised n ≡ n + 1
one_more n below = cond-true (nat_lt n (2 ^ 64 - 1)) (n + 1) n (lt-ltb n (2 ^ 64 - 1) below)

-- counts rise by what they rise by from 0, which is little
record Rise (made : ℕ → ℕ → ℕ → ℕ → Type 0) (calls calls' faults faults' : ℕ) : Type 0 where
  first : ℕ
  its : ℕ
  from_0 : made 0 first 0 its
  risen : calls' ≡ calls + first
  failed : faults' ≡ faults + its
  few : first ≤ 2
  one : its ≤ 1

rises : {made : ℕ → ℕ → ℕ → ℕ → Type 0} {calls calls' faults faults' : ℕ} (first its : ℕ) → made 0 first 0 its
    → calls' ≡ calls + first → faults' ≡ faults + its → first ≤ 2 → its ≤ 1
    → Rise made calls calls' faults faults'
rises first its from_0 risen failed few one =
    record { first = first; its = its; from_0 = from_0; risen = risen; failed = failed; few = few; one = one }

-- a read, of which the reply says whether it failed
fix_rise : (reads : Bool) (reply : Reply) (calls calls' faults faults' : ℕ) → calls < 2 ^ 64 - 2 → faults < 2 ^ 64 - 1
    → FixCalls reads reply calls calls' faults faults' → Rise (FixCalls reads reply) calls calls' faults faults'
fix_rise true reply calls calls' faults faults' below under made =
    rises 1 (cond (has_failed reply) 1 0) (refl, refl) (made.0 ∙ one_more calls (omega (arith, below)))
    (by (has_failed reply) made.1).0 (omega arith) (by (has_failed reply) made.1).1
  where
    by : (b : Bool) → faults' ≡ cond b (raised faults) faults → (faults' ≡ faults + cond b 1 0) × (cond b 1 0 ≤ 1)
    by true is = (is ∙ one_more faults under, omega arith)
    by false is = (omega (arith, is), omega arith)
fix_rise false reply calls calls' faults faults' below under made =
    rises 0 0 (refl, refl) (omega (arith, made.0)) (omega (arith, made.1)) (omega arith) (omega arith)

none_rise : (calls calls' faults faults' : ℕ) → (calls' ≡ calls) × (faults' ≡ faults)
    → Rise (λ c c' f f'. (c' ≡ c) × (f' ≡ f)) calls calls' faults faults'
none_rise calls calls' faults faults' same =
    rises 0 0 (refl, refl) (omega (arith, same.0)) (omega (arith, same.1)) (omega arith) (omega arith)

-- the work of a step of a write-out, in as many calls
work_rise : (n : ℕ) (calls calls' faults faults' : ℕ) → n ≤ 2 → calls < 2 ^ 64 - 2
    → (calls < 2 ^ 64 - 2 → calls' ≡ calls + n) × (faults' ≡ faults)
    → Rise (λ c c' f f'. (c < 2 ^ 64 - 2 → c' ≡ c + n) × (f' ≡ f)) calls calls' faults faults'
work_rise n calls calls' faults faults' few below made =
    rises n 0 ((λ low. omega arith), refl) (made.0 below) (omega (arith, made.1)) few (omega arith)

-- or what was made of it
failed_first : (work : Work) (calls calls' : ℕ) → HasFailed work calls calls'
    → (first : ℕ) × HasFailed work 0 first × (calls' ≡ calls + first) × (first ≤ 2)
failed_first (WriteAt at bytes) calls calls' failed = (1, refl, failed, omega arith)
failed_first (CopyBlock from to) calls calls' (inl failed) = (1, inl refl, failed, omega arith)
failed_first (CopyBlock from to) calls calls' (inr failed) = (2, inr refl, failed, omega arith)
failed_first Sync calls calls' failed = (1, refl, failed, omega arith)
failed_first Nothing calls calls' failed = absurd failed

flush_rise : (work : Work) (failed : Bool) (calls calls' faults faults' : ℕ) → calls < 2 ^ 64 - 2 → faults < 2 ^ 64 - 1
    → Counts work failed calls calls' × (faults' ≡ cond failed (raised faults) faults)
    → Rise (λ c c' f f'. Counts work failed c c' × (f' ≡ cond failed (raised f) f)) calls calls' faults faults'
flush_rise work true calls calls' faults faults' below under made =
    let found = failed_first work calls calls' (made.0 below) in
    rises found.0 1 ((λ low. found.1), refl) found.2 (made.1 ∙ one_more faults under) found.3 (omega arith)
flush_rise Nothing false calls calls' faults faults' below under made = none_rise calls calls' faults faults' made
flush_rise (WriteAt at bytes) false calls calls' faults faults' below under made =
    work_rise 1 calls calls' faults faults' (omega arith) below made
flush_rise (CopyBlock from to) false calls calls' faults faults' below under made =
    work_rise 2 calls calls' faults faults' (omega arith) below made
flush_rise Sync false calls calls' faults faults' below under made =
    work_rise 1 calls calls' faults faults' (omega arith) below made

step_rise : (s : State) (p : ℕ) (act : Act) (reply : Reply) (calls calls' faults faults' : ℕ) → calls < 2 ^ 64 - 2
    → faults < 2 ^ 64 - 1
    → CallsOf s p act reply calls calls' faults faults' → Rise (CallsOf s p act reply) calls calls' faults faults'
step_rise s p (acts.Fix va write) reply calls calls' faults faults' below under made =
    fix_rise (reads_page s p va write) reply calls calls' faults faults' below under made
step_rise s p acts.Flush reply calls calls' faults faults' below under made =
    flush_rise (step_work s acts.Flush reply) (has_failed reply) calls calls' faults faults' below under made
step_rise s p act reply calls calls' faults faults' below under made = none_rise calls calls' faults faults' made

pub calls_add_up : {D : Type 0} (disk : Ghosts D) (old : Whole D) (steps : List Step)
    (replies : List Reply) (new : Whole D)
    → disk.calls_made old.device + 2 * length steps < 2 ^ 64 - 2
    → disk.faults_met old.device + length steps < 2 ^ 64 - 1
    → StepsTaken disk old steps replies new → CallsAddUp disk old steps replies new
calls_add_up {D} disk old [] [] new below under taken = record {
  calls = 0;
  faults = 0;
  sums = (taken, refl, refl);
  made = ap (λ (x : Whole D). disk.calls_made x.device) taken ∙ omega arith;
  failed = ap (λ (x : Whole D). disk.faults_met x.device) taken ∙ omega arith;
}
calls_add_up {D} disk old (step ∷ steps) (reply ∷ replies) new below under (mid, here, rest) =
    let rise = step_rise old.state step.p step.act reply (disk.calls_made old.device) (disk.calls_made mid.device)
    (disk.faults_met old.device) (disk.faults_met mid.device) (omega (arith, below))
    (omega (arith, under)) here.calls in
    let later = calls_add_up disk mid steps replies new (omega (arith, below, rise.risen, rise.few))
    (omega (arith, under, rise.failed, rise.one)) rest in
    record {
      calls = rise.first + later.calls;
      faults = rise.its + later.faults;
      sums = (
        mid,
        rise.first,
        later.calls,
        rise.its,
        later.faults,
        here,
        rise.from_0,
        later.sums,
        omega arith,
        omega arith,
      );
      made = omega (arith, later.made, rise.risen);
      failed = omega (arith, later.failed, rise.failed);
    }
calls_add_up disk old [] (reply ∷ replies) new below under taken = absurd taken
calls_add_up disk old (step ∷ steps) [] new below under taken = absurd taken
