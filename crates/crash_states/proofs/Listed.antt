-- A disk that lists its calls: one call more.
use Rattle.std.proofs.Common.{◌≡◌, ℕ, ◌+◌, ◌-◌, ◌^◌, ◌<◌, ◌≤◌, List, [], ◌∷◌, ◌++◌, length, Bool, true, false}
use Rattle.std.proofs.Common.{cond, take, drop, append_assoc, length-take}
use Rattle.std.proofs.Common.{refl, sym, ap, subst, ◌∙◌, arith}
use Rattle.std.specs.Prelude.{Vec, not, ◌||◌, if◌then◌else◌, Result, Ok, Err, is_ok, is_err, OnOk, OnErr, IfOk, IfErr}
use Rattle.std.specs.List.{count_by, AllByRecursion}
use Rattle.std.proofs.lemmas.List.{length-append, length-map, take_at, drop_at}
use Rattle.std.proofs.lemmas.Bool.{false≢true}
use Rattle.std.proofs.lemmas.List.Sums.{count_by-le-length, sum_by-append}
use Rattle.device.specs.Count.{raised}
use Rattle.device.specs.Device.{written, Torn}
use Rattle.device.specs.Memory.{Recorded, DiskChange, seen_of, after_change, after_refusal}
use Rattle.device.specs.Memory.DiskChange.{sync}
use Rattle.device.proofs.Public.{length-written, torn_none}
use Rattle.crash_states.specs.declared.call.Call.{Call}
use Rattle.crash_states.specs.declared.call.CallKind.{CallKind}
use Rattle.crash_states.specs.declared.call.CallKind.TheVariants.{Read, Write, Sync}
use Rattle.crash_states.specs.Calls.{DeviceCall, ListedDisk, ListsCall, ListsItsCalls, HasItsLength, is_due, changed_as}
use Rattle.crash_states.specs.Calls.{call_of, device_calls_of, change_by, changes_by, is_passed_on}

-- ---- one call at the end of a list

changes_more : (calls : List DeviceCall) (call : DeviceCall) (older : List DiskChange)
    → changes_by (calls ++ call ∷ []) older ≡ change_by call.kind call (changes_by calls older)
changes_more [] call older = refl
changes_more (first ∷ calls) call older = changes_more calls call (change_by first.kind first older)

all_more : {X : Type 0} (P : X → Type 0) (xs : List X) (x : X) → AllByRecursion P xs → P x
    → AllByRecursion P (xs ++ x ∷ [])
all_more P [] x all p = (p, tt)
all_more P (y ∷ ys) x all p = (all.0, all_more P ys x all.1 p)

count_more : {X : Type 0} (p : X → Bool) (xs : List X) (x : X)
    → count_by p (xs ++ x ∷ []) ≡ count_by p xs + (if p x then 1 else 0)
count_more {X} p xs x =
    let e : count_by p (xs ++ x ∷ []) ≡ count_by p xs + (0 + cond (p x) 1 0) =
    sum_by-append (λ (y : X). cond (p y) 1 0) xs (x ∷ []) in
    omega (arith, e)

-- ---- counts that have room

raised_if : (yes : Bool) (n : ℕ) → n < 2 ^ 64 - 1 → (if yes then raised n else n) ≡ n + (if yes then 1 else 0)
raised_if true n small = grind (arith, small)
raised_if false n small = omega arith

changed_count : (kind : CallKind) (disk : Recorded) (call : DeviceCall) → disk.calls < 2 ^ 64 - 1
    → (changed_as kind disk call).calls ≡ disk.calls + (if is_passed_on kind call.failed then 1 else 0)
changed_count Read disk call small = raised_if true disk.calls small
changed_count Write disk call small = raised_if true disk.calls small
changed_count Sync disk call small = by call.failed
  where
    by : (failed : Bool) → (if failed then disk else after_change disk sync).calls
        ≡ disk.calls + (if not failed then 1 else 0)
    by true = omega arith
    by false = raised_if true disk.calls small

changed_record : (kind : CallKind) (disk : Recorded) (call : DeviceCall)
    → (changed_as kind disk call).changes ≡ change_by kind call disk.changes
changed_record Read disk call = refl
changed_record Write disk call = refl
changed_record Sync disk call = by call.failed
  where
    by : (failed : Bool) → (if failed then disk else after_change disk sync).changes
        ≡ (if failed then disk.changes else sync ∷ disk.changes)
    by true = refl
    by false = refl

changed_faults : (kind : CallKind) (disk : Recorded) (call : DeviceCall)
    → (changed_as kind disk call).faults ≡ disk.faults
changed_faults Read disk call = refl
changed_faults Write disk call = refl
changed_faults Sync disk call = by call.failed
  where
    by : (failed : Bool) → (if failed then disk else after_change disk sync).faults ≡ disk.faults
    by true = refl
    by false = refl

-- ---- the list is that of the calls, also with one more

lists_more : (old new : ListedDisk) (call : DeviceCall) → ListsCall call old new → new.refused ≡ false
    → ListsItsCalls old → HasItsLength call.kind call → length new.calls < 2 ^ 64 → ListsItsCalls new
lists_more old new call made complete lists formed small =
    let more : new.calls ≡ old.calls ++ call ∷ [] = made.more complete in
    let inner : new.inner ≡ changed_as call.kind old.inner call = made.inner complete in
    let longer : length new.calls ≡ length old.calls + 1 = ap length more ∙ length-append old.calls (call ∷ []) in
    let few : length old.calls < 2 ^ 64 - 1 = omega (arith, longer, small) in
    let failed = λ (c : DeviceCall). c.failed in
    let passed = λ (c : DeviceCall). is_passed_on c.kind c.failed in
    let faults_few : old.faults < 2 ^ 64 - 1 =
    omega (arith, lists.faults, count_by-le-length failed old.calls, few) in
    let passed_few : old.inner.calls < 2 ^ 64 - 1 =
    omega (arith, lists.passed, count_by-le-length passed old.calls, few) in
    record {
      count = made.made ∙ raised_if true old.made (omega (arith, lists.count, few))
          ∙ omega (arith, lists.count, longer);
      faults = made.faults ∙ raised_if call.failed old.faults faults_few
          ∙ ap (λ (n : ℕ). n + (if call.failed then 1 else 0)) lists.faults
          ∙ sym (count_more failed old.calls call) ∙ sym (ap (count_by failed) more);
      recorded = ap (λ (d : Recorded). d.changes) inner ∙ changed_record call.kind old.inner call
          ∙ ap (change_by call.kind call) lists.recorded ∙ sym (changes_more old.calls call [])
          ∙ sym (ap (λ (l : List DeviceCall). changes_by l []) more);
      passed = ap (λ (d : Recorded). d.calls) inner ∙ changed_count call.kind old.inner call passed_few
          ∙ ap (λ (n : ℕ). n + (if is_passed_on call.kind call.failed then 1 else 0)) lists.passed
          ∙ sym (count_more passed old.calls call) ∙ sym (ap (count_by passed) more);
      sound = ap (λ (d : Recorded). d.faults) inner ∙ changed_faults call.kind old.inner call ∙ lists.sound;
      lengths = subst (AllByRecursion (λ c. HasItsLength c.kind c)) (sym more)
          (all_more (λ c. HasItsLength c.kind c) old.calls call lists.lengths formed);
    }

-- ---- what was passed on

-- a call of the disk under it that wasn't refused memory did its work
pub done_unless : {T E P : Type 0} (result : Result T E) → OnOk result P → is_err result ≡ false → P
done_unless (Ok x) done accepted = done
done_unless (Err e) done refused = absurd (false≢true (sym refused))

-- a call that succeeded was neither due to fail nor refused memory
pub if_done : {T E P : Type 0} (result : Result T E) (due is_refused : Bool) → is_ok result ≡ not (due || is_refused)
    → (due ≡ false → is_refused ≡ false → P) → OnOk result P
if_done (Err e) due is_refused outcome done = tt
if_done (Ok x) false false outcome done = done refl refl
if_done (Ok x) true is_refused outcome done = absurd (false≢true (sym outcome))
if_done (Ok x) false true outcome done = absurd (false≢true (sym outcome))

-- a write changes no more than its range, whether it succeeds or is refused memory
pub torn_by : {T E : Type 0} (result : Result T E) (old new : Recorded) (at : ℕ) (bytes : List ℕ)
    → at + length bytes ≤ length (seen_of old) → OnOk result (seen_of new ≡ written (seen_of old) at bytes)
    → OnErr result (new ≡ after_refusal old) → Torn at (length bytes) (seen_of old) (seen_of new)
torn_by (Err e) old new at bytes fits done refused =
    subst (λ (d : Recorded). Torn at (length bytes) (seen_of old) (seen_of d)) (sym refused)
    (torn_none at (length bytes) (seen_of old))
torn_by (Ok x) old new at bytes fits done refused =
    let seen = seen_of old in
    subst (Torn at (length bytes) seen) (sym done) record {
      before = ap (take at) (append_assoc (take at seen) bytes (drop (at + length bytes) seen))
          ∙ take_at (take at seen) (bytes ++ drop (at + length bytes) seen) at
          (omega (arith, fits, length-take at seen));
      after = drop_at (take at seen ++ bytes) (drop (at + length bytes) seen) (at + length bytes)
          (omega (arith, fits, length-append (take at seen) bytes, length-take at seen));
      same_length = length-written seen at bytes fits;
    }

-- ---- a call that was listed and counted

-- A call was entered, and counted: it failed exactly if it was due to, or memory was refused.
lists_call : {A T E F : Type 0} (call : Bool → DeviceCall) (entered : Result (Call A) F) (old new : ListedDisk)
    (due is_refused : Bool) (result : Result T E) → ((failed : Bool) → (call failed).failed ≡ failed)
    → due ≡ is_due old → is_ok result ≡ not (due || is_refused) → new.fails_at ≡ old.fails_at
    → new.made ≡ raised old.made → new.faults ≡ (if due || is_refused then raised old.faults else old.faults)
    → (new.refused ≡ false → (old.refused ≡ false) × (is_refused ≡ false)) → IfOk entered (λ c. call_of c ≡ call due)
    → IfOk entered (λ c. new.refused ≡ false → new.calls ≡ old.calls ++ call_of c ∷ [])
    → IfErr entered (λ e. new.refused ≡ true)
    → (is_refused ≡ false → new.inner ≡ changed_as (call due).kind old.inner (call due))
    → ListsCall (call (not (is_ok result))) old new
lists_call {A} {T} {E} {F} call entered old new due is_refused result named due_now outcome at made faults
    before is listed lost inner =
    let failed : not (is_ok result) ≡ (due || is_refused) = ap not outcome ∙ twice (due || is_refused) in
    let same = λ (complete : new.refused ≡ false).
    failed ∙ ap (λ (b : Bool). due || b) (before complete).1 ∙ nothing_more due in
    record {
      fails_at = at;
      made = made;
      faults = faults ∙ sym (ap (λ (b : Bool). if b then raised old.faults else old.faults)
          (named (not (is_ok result)) ∙ failed));
      before = λ complete. (before complete).0;
      more = λ complete. entry entered is listed lost complete
          ∙ sym (ap (λ (b : Bool). old.calls ++ call b ∷ []) (same complete));
      due = λ complete. named (not (is_ok result)) ∙ same complete ∙ due_now;
      inner = λ complete. inner (before complete).1
          ∙ sym (ap (λ (b : Bool). changed_as (call b).kind old.inner (call b)) (same complete));
    }
  where
    twice : (b : Bool) → not (not b) ≡ b
    twice true = refl
    twice false = refl

    nothing_more : (b : Bool) → (b || false) ≡ b
    nothing_more true = refl
    nothing_more false = refl

    entry : (entered : Result (Call A) F) → IfOk entered (λ c. call_of c ≡ call due)
        → IfOk entered (λ c. new.refused ≡ false → new.calls ≡ old.calls ++ call_of c ∷ [])
        → IfErr entered (λ e. new.refused ≡ true) → new.refused ≡ false → new.calls ≡ old.calls ++ call due ∷ []
    entry (Ok c) is listed lost complete = listed complete ∙ ap (λ (k : DeviceCall). old.calls ++ k ∷ []) is
    entry (Err e) is listed lost complete = absurd (false≢true (sym complete ∙ lost))

-- the list is that of the calls afterwards
still_lists : {A Z : Type 0} (calls : Vec (Call A) Z) (old new : ListedDisk) (call : DeviceCall)
    → new.calls ≡ device_calls_of calls.items → HasItsLength call.kind call → ListsCall call old new
    → (old.refused ≡ false → ListsItsCalls old) → new.refused ≡ false → ListsItsCalls new
still_lists {A} {Z} calls old new call are formed made lists complete =
    let few : length new.calls < 2 ^ 64 = omega (
      arith,
      ap length are,
      length-map calls.items (λ (c : Call A). call_of c),
      calls.ok.0,
      calls.ok.1,
      calls.small,
    ) in
    lists_more old new call made complete (lists (made.before complete)) formed few

-- The call is listed of the disk as contracts see it, and the list is still that of its calls.
pub lists_next : {A Z T E F : Type 0} {old seen : ListedDisk} (calls : Vec (Call A) Z) (call : Bool → DeviceCall)
    (entered : Result (Call A) F) (new : ListedDisk) (due is_refused : Bool) (result : Result T E)
    → ((failed : Bool) → ((call failed).failed ≡ failed) × HasItsLength (call failed).kind (call failed))
    → new.calls ≡ device_calls_of calls.items → old ≡ seen → (old.refused ≡ false → ListsItsCalls old)
    → new.fails_at ≡ old.fails_at → due ≡ is_due seen → is_ok result ≡ not (due || is_refused)
    → new.made ≡ raised old.made → new.faults ≡ (if due || is_refused then raised old.faults else old.faults)
    → (new.refused ≡ false → (old.refused ≡ false) × (is_refused ≡ false)) → IfOk entered (λ c. call_of c ≡ call due)
    → IfOk entered (λ c. new.refused ≡ false → new.calls ≡ old.calls ++ call_of c ∷ [])
    → IfErr entered (λ e. new.refused ≡ true)
    → (is_refused ≡ false → new.inner ≡ changed_as (call due).kind old.inner (call due))
    → ListsCall (call (not (is_ok result))) seen new × (new.refused ≡ false → ListsItsCalls new)
lists_next {A} {Z} {T} {E} {F} {old} {seen} calls call entered new due is_refused result formed are is lists at due_now
    outcome made faults before named listed lost inner =
    let it = lists_call call entered old new due is_refused result (λ failed. (formed failed).0)
    (due_now ∙ ap is_due (sym is)) outcome at made faults before named listed lost inner in (
      subst (λ (d : ListedDisk). ListsCall (call (not (is_ok result))) d new) is it,
      still_lists calls old new (call (not (is_ok result))) are (formed (not (is_ok result))).1 it lists,
    )
