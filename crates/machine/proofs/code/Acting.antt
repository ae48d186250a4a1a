-- An act that leaves the device alone, as one act of the layers.
use Rattle.machine.proofs.Names.{ℕ, ◌≡◌, ◌≢◌, ◌+◌, ◌-◌, ◌^◌, ◌<◌, Bool, true, false, not, ◌&&◌, cond, List, [], length}
use Rattle.machine.proofs.Names.{Result, Ok, Err, is_err, is_none, refl, sym, ap, ◌∙◌, subst, arith, raised, LeavesOnly}
use Rattle.machine.proofs.Names.{Ghosts, Did, leaves_at_start, Refusal, Work, WriteAt, CopyBlock, Sync, Nothing}
use Rattle.machine.proofs.Names.{TornFromWork, calls_of, ReadsOnce, Act, Reply}
use Rattle.machine.proofs.Names.{Step, Layers, State, reason_against, Acts}
use Rattle.machine.proofs.Names.{Answers, CallsOf, Counts, DeviceAfterFix, DeviceAfter, reads_page, has_failed}
use Rattle.machine.proofs.Names.{step_work, state_in, AnswersBy, KeepsReserved, IsQuiet, ActDone, false≢true}
use Rattle.page_entry.specs.declared.refusal.Refusal.TheVariants as refusals
use Rattle.machine.specs.declared.act.Act.TheVariants as acts
use Rattle.machine.specs.declared.act.Reply.TheVariants as replies
use Rattle.machine.specs.inside.Layers.{reply_to}
use Rattle.machine.specs.Rules.{Reaches}
use Rattle.machine.specs.inside.Acting.{FixCalls}

-- the laws of a device that these lemmas rest on
abbrev pub SinceNow : {D : Type 0} → Ghosts D → Type 0
SinceNow {D} disk = (device : D) (c : List ℕ) → disk.left_since device (disk.moment device) c → disk.may_leave device c

-- the step's act may be written in another way
act_as : {D Z : Type 0} (disk : Ghosts D) (old new : Layers D Z) (step : Step) (act : Act) (reply : Reply)
    → step.act ≡ act
    → ActDone disk old (record { p = step.p; act = act }) reply new → ActDone disk old step reply new
act_as disk old new step act reply is done =
    subst (λ (a : Act). ActDone disk old (record { p = step.p; act = a }) reply new) (sym is) done

module _ {D Z : Type 0} (disk : Ghosts D) (since_now : SinceNow disk) (old new : Layers D Z) where
  -- the device is as it was
  still_done : (p : ℕ) (act : Act) (reply : Reply)
      → AnswersBy (disk.is_honest old.device) (λ d d'. Acts (state_in old) d p act reply (state_in new) d')
      (disk.seen old.device) (disk.seen new.device)
      → new.device ≡ old.device → step_work (state_in old) act reply ≡ Nothing
      → DeviceAfter disk (state_in old) p act reply old.device old.device
      → CallsOf (state_in old) p act reply (disk.calls_made old.device) (disk.calls_made old.device)
      (disk.faults_met old.device) (disk.faults_met old.device)
      → KeepsReserved old new → ActDone disk old (record { p = p; act = act }) reply new
  still_done p act reply rules same work after calls kept = record {
    rules = rules;
    left = λ c may. subst (λ (w : Work). TornFromWork w (disk.may_leave old.device) c) (sym work)
        (subst (λ (x : D). disk.may_leave x c) same may);
    durable = λ honest other sync. absurd (let both = sym work ∙ sync in cc);
    unread = λ honest from to refused copy few calls. absurd (let both = sym work ∙ copy in cc);
    time = subst (λ (x : D). LeavesOnly disk.moment disk.left_since old.device x
        (TornFromWork (step_work (state_in old) act reply) (disk.may_leave old.device))) (sym same)
        (subst (λ (w : Work). LeavesOnly disk.moment disk.left_since old.device old.device (TornFromWork w
        (disk.may_leave old.device))) (sym work) (leaves_at_start (λ c left. since_now old.device c left)));
    honest = (λ h. subst disk.is_honest same h, λ h. subst disk.is_honest (sym same) h);
    len = ap (λ (x : D). length (disk.seen x)) same;
    device = subst (λ (x : D). DeviceAfter disk (state_in old) p act reply old.device x) (sym same) after;
    calls = subst (λ (x : D). CallsOf (state_in old) p act reply (disk.calls_made old.device) (disk.calls_made x)
        (disk.faults_met old.device) (disk.faults_met x)) (sym same) calls;
    kept = kept;
  }

-- an act that makes no device call
abbrev pub MakesNoCall : Act → Type 0
MakesNoCall (acts.Fix va write) = ⊥
MakesNoCall acts.Flush = ⊥
MakesNoCall act = Unit {0}

pub no_work : (s : State) (act : Act) (reply : Reply) → MakesNoCall act → step_work s act reply ≡ Nothing
no_work s acts.Flush reply none = absurd none
no_work s act reply none = refl

pub device_stays : {D : Type 0} (disk : Ghosts D) (s : State) (p : ℕ) (act : Act) (reply : Reply) (device : D)
    → MakesNoCall act → DeviceAfter disk s p act reply device device
device_stays disk s p (acts.Fix va write) reply device none = absurd none
device_stays disk s p acts.Flush reply device none = absurd none
device_stays disk s p act reply device none = refl

pub calls_stay : (s : State) (p : ℕ) (act : Act) (reply : Reply) (calls faults : ℕ) → MakesNoCall act
    → CallsOf s p act reply calls calls faults faults
calls_stay s p (acts.Fix va write) reply calls faults none = absurd none
calls_stay s p acts.Flush reply calls faults none = absurd none
calls_stay s p act reply calls faults none = (refl, refl)

-- the rule of an act that makes no device call: a load, a store, a fill or an eviction reaches the hardware alone
abbrev pub QuietRule : State → ℕ → Act → Reply → State → Type 0
QuietRule s p (acts.Load va count) reply new = Reaches s p (acts.Load va count) reply new
QuietRule s p (acts.Store va bytes) reply new = Reaches s p (acts.Store va bytes) reply new
QuietRule s p (acts.Fill page) reply new = Reaches s p (acts.Fill page) reply new
QuietRule s p (acts.Evict slot) reply new = Reaches s p (acts.Evict slot) reply new
QuietRule s p (acts.Fix va write) reply new = ⊥
QuietRule s p acts.Flush reply new = ⊥
QuietRule s p act reply new = (d : List ℕ) → Answers s d p act reply new

no_call : (s : State) (p : ℕ) (act : Act) (reply : Reply) (new : State) → QuietRule s p act reply new → MakesNoCall act
no_call s p (acts.Fix va write) reply new rule = rule
no_call s p acts.Flush reply new rule = rule
no_call s p act reply new rule = tt

acts_by : (s : State) (p : ℕ) (act : Act) (reply : Reply) (new : State) → QuietRule s p act reply new → (d : List ℕ)
    → Acts s d p act reply new d
acts_by s p (acts.Load va count) reply new rule d = (rule, refl)
acts_by s p (acts.Store va bytes) reply new rule d = (rule, refl)
acts_by s p (acts.Fill page) reply new rule d = (rule, refl)
acts_by s p (acts.Evict slot) reply new rule d = (rule, refl)
acts_by s p (acts.Fix va write) reply new rule d = absurd rule
acts_by s p acts.Flush reply new rule d = absurd rule
acts_by s p act reply new rule d = (rule d, refl)

pub quiet_done : {D Z : Type 0} (disk : Ghosts D) (since_now : SinceNow disk) {old new : Layers D Z} {step : Step}
    {act : Act} {reply : Reply} → step.act ≡ act → IsQuiet old new
    → QuietRule (state_in old) step.p act reply (state_in new) → ActDone disk old step reply new
quiet_done {D} disk since_now {old} {new} {step} {act} {reply} is quiet rule =
    let s = state_in old in
    let none = no_call s step.p act reply (state_in new) rule in
    let by = acts_by s step.p act reply (state_in new) rule in
    act_as disk old new step act reply is (still_done disk since_now old new step.p act reply (record {
      some_disk = ([], [], by []);
      own_disk = λ h. subst (λ (x : D). Acts s (disk.seen old.device) step.p act reply (state_in new) (disk.seen x))
          (sym quiet.same_device) (by (disk.seen old.device));
    }) quiet.same_device (no_work s act reply none) (device_stays disk s step.p act reply old.device none)
    (calls_stay s step.p act reply _ _ none)
    (record { same_table = quiet.same_table; still_reserved = quiet.still_reserved }))

-- ---- a step of the write-outs

-- a reply that isn't that a device call failed, and the counts of calls, by its work
unfailed : (reply : Reply) → reply ≢ replies.Refused refusals.Device → not (has_failed reply) ≡ true
unfailed (replies.Refused refusals.Device) other = absurd (other refl)
unfailed reply other = refl

few_calls : (work : Work) (calls : ℕ) → calls < 2 ^ 64 - 2 → calls + calls_of work < 2 ^ 64
few_calls (WriteAt at bytes) calls few = omega (arith, few)
few_calls (CopyBlock from to) calls few = omega (arith, few)
few_calls Sync calls few = omega (arith, few)
few_calls Nothing calls few = omega (arith, few)

module _ {D : Type 0} (disk : Ghosts D) (old new : D) where
  counts_by : (work : Work) (failed : Bool) → Did disk old work (not failed) new
      → Counts work failed (disk.calls_made old) (disk.calls_made new)
  counts_by work true did = λ few. did.calls (few_calls work _ few)
  counts_by Nothing false did = ap disk.calls_made (did.still refl)
  counts_by (WriteAt at bytes) false did = λ few. did.calls (few_calls (WriteAt at bytes) _ few)
  counts_by (CopyBlock from to) false did = λ few. did.calls (few_calls (CopyBlock from to) _ few)
  counts_by Sync false did = λ few. did.calls (few_calls Sync _ few)

  faults_by : (work : Work) (failed : Bool) → Did disk old work (not failed) new
      → disk.faults_met new ≡ cond failed (raised (disk.faults_met old)) (disk.faults_met old)
  faults_by work true did = did.faults
  faults_by work false did = did.faults

pub flush_done : {D Z : Type 0} (disk : Ghosts D) {old new : Layers D Z} {step : Step} {reply : Reply}
    → step.act ≡ acts.Flush
    → AnswersBy (disk.is_honest old.device) (λ d d'. Acts (state_in old) d step.p acts.Flush reply (state_in new) d')
    (disk.seen old.device) (disk.seen new.device)
    → Did disk old.device (step_work (state_in old) acts.Flush reply) (not (has_failed reply)) new.device
    → KeepsReserved old new → ActDone disk old step reply new
flush_done {D} disk {old} {new} {step} {reply} is rules did kept =
    act_as disk old new step acts.Flush reply is (record {
      rules = rules;
      left = did.left;
      durable = λ honest other sync. did.durable honest (unfailed reply other) sync;
      unread = λ honest from to refused copy few calls.
          did.unread honest (ap (λ r. not (has_failed r)) refused) from to copy (omega (arith, few)) calls;
      time = did.time;
      honest = did.honest;
      len = did.same_length;
      device = λ none. did.still none;
      calls = (
        counts_by disk old.device new.device (step_work (state_in old) acts.Flush reply) (has_failed reply) did,
        faults_by disk old.device new.device (step_work (state_in old) acts.Flush reply) (has_failed reply) did,
      );
      kept = kept;
    })

-- ---- a fault that is served

-- a read that was made failed exactly where the reply says so
failed_if : (s : State) (d : List ℕ) (p va : ℕ) (write : Bool) (result : Result Reply Refusal) (new : State)
    → Rattle.std.specs.Result.IfOk result (λ reply. reply ≡ replies.Fixed)
    → reads_page s p va write ≡ true → Answers s d p (acts.Fix va write) (reply_to result) new
    → is_err result ≡ has_failed (reply_to result)
failed_if s d p va write (Ok reply) new fixed reads rule = ap has_failed (sym fixed)
failed_if s d p va write (Err refusals.Device) new fixed reads rule = refl
failed_if s d p va write (Err why) new fixed reads rule =
    absurd (unread (is_none (reason_against s p (acts.Fix va write))) reads (ap is_none rule.0))
  where
    unread : (b : Bool)
        → (b && Rattle.machine.specs.Refusals.is_absent s (Rattle.fault.specs.Fault.place_of_fault s.hardware.spaces
        (Rattle.shootdown.specs.Shootdown.current s.hardware.shootdown p) va write)) ≡ true
        → b ≡ false → ⊥
    unread true e f = absurd (cc)
    unread false e f = absurd (cc)

pub fix_done : {D Z : Type 0} (disk : Ghosts D) (since_now : SinceNow disk) {old new : Layers D Z} {step : Step}
    {va : ℕ} {write : Bool} (result : Result Reply Refusal)
    → step.act ≡ acts.Fix va write
    → AnswersBy (disk.is_honest old.device) (λ d d'. Answers (state_in old) d step.p (acts.Fix va write)
    (reply_to result) (state_in new) × (d' ≡ d)) (disk.seen old.device) (disk.seen new.device)
    → Rattle.std.specs.Result.IfOk result (λ reply. reply ≡ replies.Fixed)
    → (reads_page (state_in old) step.p va write ≡ false → new.device ≡ old.device)
    → (reads_page (state_in old) step.p va write ≡ true
    → ReadsOnce disk.seen disk.may_leave disk.is_honest disk.moment disk.left_since disk.calls_made disk.faults_met
    (is_err result) old.device new.device)
    → KeepsReserved old new → ActDone disk old step (reply_to result) new
fix_done {D} disk since_now {old} {new} {step} {va} {write} result is rules fixed untouched read kept =
    act_as disk old new step (acts.Fix va write) (reply_to result) is
    (by (reads_page (state_in old) step.p va write) refl)
  where
    by : (b : Bool) → reads_page (state_in old) step.p va write ≡ b
        → ActDone disk old (record { p = step.p; act = acts.Fix va write }) (reply_to result) new
    by false e =
        still_done disk since_now old new step.p (acts.Fix va write) (reply_to result) rules (untouched e) refl
        (subst (λ b. DeviceAfterFix disk b (reply_to result) old.device old.device) (sym e)
        (record { untouched = λ _. refl; read = λ reads. absurd (false≢true reads) }))
        (subst (λ b. FixCalls b (reply_to result) (disk.calls_made old.device) (disk.calls_made old.device)
        (disk.faults_met old.device) (disk.faults_met old.device)) (sym e)
        (refl, refl)) kept
    by true e =
        let made = read e in
        let failed = failed_if (state_in old) rules.some_disk.0 step.p va write result
        (state_in new) fixed e rules.some_disk.2.0 in
        record {
          rules = rules;
          left = made.left;
          durable = λ honest other sync. absurd (cc);
          unread = λ honest from to refused copy few calls. absurd (cc);
          time = made.time;
          honest = made.honest;
          len = made.len;
          device = subst (λ b. DeviceAfterFix disk b (reply_to result) old.device new.device) (sym e) (record {
            untouched = λ other. absurd (false≢true (sym other));
            read = λ _. subst (λ b. ReadsOnce disk.seen disk.may_leave disk.is_honest disk.moment disk.left_since
                disk.calls_made disk.faults_met b old.device new.device) failed made;
          });
          calls = subst (λ b. FixCalls b (reply_to result) (disk.calls_made old.device) (disk.calls_made new.device)
              (disk.faults_met old.device) (disk.faults_met new.device)) (sym e) (
                made.one_call,
                made.one_fault
                    ∙ ap (λ b. cond b (raised (disk.faults_met old.device)) (disk.faults_met old.device)) failed,
              );
          kept = kept;
        }
