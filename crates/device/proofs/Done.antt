-- What follows of what was done.
use Rattle.std.proofs.Common.{◌≡◌, ℕ, ◌+◌, ◌^◌, ◌<◌, Bool, true, false, List, refl, sym, subst}
use Rattle.std.specs.Prelude.{MatchBool}
use Rattle.device.specs.Work.{Work, Nothing, worked, TornByWork, calls_of, HasFailed}
use Rattle.device.specs.Did.{Did}
use Rattle.device.specs.declared.device.Device.{Ghosts}
use Rattle.device.proofs.Moments.{leaves_at_start}

-- no call was made
pub did_nothing : {D : Type 0} (disk : Ghosts D) (device : D)
    → ((c : List ℕ) → disk.left_since device (disk.moment device) c → disk.may_leave device c)
    → Did disk device Nothing true device
did_nothing disk device now = record {
  seen = λ honest. refl;
  unread = λ honest failed from to copy few calls. refl;
  still = λ nothing. refl;
  left = λ c left. left;
  keeps = λ honest other c left. left;
  durable = λ honest done sync. absurd (cc);
  time = leaves_at_start now;
  honest = (λ h. h, λ h. h);
  same_length = refl;
  carried = refl;
  calls = λ few. omega (Rattle.std.proofs.Common.arith);
  faults = refl;
}

-- the same work, which came out the same
pub did_as : {D : Type 0} (disk : Ghosts D) {old new : D} {work other : Work} {done came : Bool} → work ≡ other
    → done ≡ came → Did disk old work done new → Did disk old other came new
did_as disk {old} {new} {work} {other} {done} {came} works outcomes did =
    subst (λ (w : Work). Did disk old w came new) works (subst (λ b. Did disk old work b new) outcomes did)

module _ {D : Type 0} {disk : Ghosts D} {old new : D} {work : Work} {done : Bool}
    (did : Did disk old work done new) where
  -- where all calls succeeded
  pub done_seen : disk.is_honest old → done ≡ true → disk.seen new ≡ worked (disk.seen old) work
  done_seen honest is = subst (λ b. MatchBool b (disk.seen new ≡ worked (disk.seen old) work)
      (TornByWork work (disk.seen old) (disk.seen new))) is (did.seen honest)

  pub done_calls : disk.calls_made old + calls_of work < 2 ^ 64 → done ≡ true
      → disk.calls_made new ≡ disk.calls_made old + calls_of work
  done_calls few is = subst (λ b. MatchBool b (disk.calls_made new ≡ disk.calls_made old + calls_of work)
      (HasFailed work (disk.calls_made old) (disk.calls_made new))) is (did.calls few)

  -- where one failed
  pub failed_seen : disk.is_honest old → done ≡ false → TornByWork work (disk.seen old) (disk.seen new)
  failed_seen honest is = subst (λ b. MatchBool b (disk.seen new ≡ worked (disk.seen old) work)
      (TornByWork work (disk.seen old) (disk.seen new))) is (did.seen honest)

  pub failed_calls : disk.calls_made old + calls_of work < 2 ^ 64 → done ≡ false
      → HasFailed work (disk.calls_made old) (disk.calls_made new)
  failed_calls few is = subst (λ b. MatchBool b (disk.calls_made new ≡ disk.calls_made old + calls_of work)
      (HasFailed work (disk.calls_made old) (disk.calls_made new))) is (did.calls few)
