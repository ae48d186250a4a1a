-- One more entry of a trace.
use Rattle.std.proofs.Common.{◌≡◌, ℕ, ◌+◌, ◌==◌, ◌<◌, ◌≤◌, Bool, false, List, [], ◌∷◌, ◌++◌}
use Rattle.std.proofs.Common.{length, length-append, refl, sym, ap, ◌∙◌, subst, arith}
use Rattle.std.proofs.lemmas.Bool.Decides.{nat_tests}
use Rattle.std.proofs.lemmas.List.{map-append}
use Rattle.std.proofs.lemmas.List.Sums.{count_by-le-length, sum_by-append}
use Rattle.std.specs.Prelude.{count_by, if◌then◌else◌}
use Rattle.device.specs.declared.device.Device.{Ghosts}
use Rattle.volume_codec.specs.Files.{File}
use Rattle.machine.specs.declared.act.Reply.{Reply}
use Rattle.machine.specs.declared.act.Step.{Step}
use Rattle.machine.specs.Crashes.{StepIsSafe}
use Rattle.machine.specs.Reached.{IsReached}
use Rattle.machine.specs.Runs.{StepTaken, StepsTaken}
use Rattle.machine.specs.State.{Whole}
use Rattle.service.specs.declared.entry.Entry.{Entry}
use Rattle.service.specs.Trace.{is_progress, steps_of, replies_of}
use Rattle.service.specs.Serving.{SharedState, IsServing, HasEntered, observed_by, max_entries}

count_one_more : {X : Type 0} (p : X → Bool) (xs : List X) (x : X)
    → count_by p (xs ++ x ∷ []) ≡ count_by p xs + (if p x then 1 else 0)
count_one_more {X} p xs x = omega (arith, sum_by-append (λ (y : X). if p y then 1 else 0) xs (x ∷ []))

pub not_full : (entries capacity : ℕ) → entries ≤ capacity → (entries == capacity) ≡ false → entries < capacity
not_full entries capacity few other = grind (arith, nat_tests)

-- the entries that are progress are fewer than a trace may have that isn't full
pub few_progress : {D : Type 0} (disk : Ghosts D) (start : Whole D) (s : SharedState D) → IsServing disk start s
    → s.capacity ≤ max_entries → length s.trace < s.capacity → s.progress < 1000000
few_progress disk start s is most room =
    omega (arith, is.counted, count_by-le-length (λ (e : Entry). is_progress e.step.act e.reply) s.trace, most, room)

-- with one more entry the trace is a legal run to the machine after its step
pub one_more : {D : Type 0} (disk : Ghosts D) (start : Whole D) (old : SharedState D) (entry : Entry)
    (machine : Whole D) (progress : ℕ) → length old.trace < old.capacity
    → progress ≡ old.progress + (if is_progress entry.step.act entry.reply then 1 else 0)
    → (StepsTaken disk start (steps_of old.trace) (replies_of old.trace) old.machine → StepsTaken disk start
    (steps_of old.trace ++ entry.step ∷ []) (replies_of old.trace ++ entry.reply ∷ []) machine)
    → IsServing disk start old → IsServing disk start
    (record { machine = machine; trace = old.trace ++ entry ∷ []; capacity = old.capacity; progress = progress })
one_more {D} disk start old entry machine progress room counted longer is =
    let P : List Step → Type 0 =
    λ steps. StepsTaken disk start steps (replies_of old.trace ++ entry.reply ∷ []) machine in
    let Q : List Reply → Type 0 =
    λ replies. StepsTaken disk start (steps_of (old.trace ++ entry ∷ [])) replies machine in
    let steps : steps_of old.trace ++ entry.step ∷ [] ≡ steps_of (old.trace ++ entry ∷ []) =
    sym (map-append (λ (e : Entry). e.step) old.trace (entry ∷ [])) in
    let replies : replies_of old.trace ++ entry.reply ∷ [] ≡ replies_of (old.trace ++ entry ∷ []) =
    sym (map-append (λ (e : Entry). e.reply) old.trace (entry ∷ [])) in record {
      fresh = is.fresh;
      legal = subst Q replies (subst P steps (longer is.legal));
      few = omega (arith, length-append old.trace (entry ∷ []), room);
      counted = counted ∙ ap (λ n. n + (if is_progress entry.step.act entry.reply then 1 else 0)) is.counted
          ∙ sym (count_one_more (λ (e : Entry). is_progress e.step.act e.reply) old.trace entry);
    }

-- So one step of the machine and its entry are entered by what `enter` leaves of a machine with its trace, where that
-- isn't full, however the entry and the longer trace are written.
pub enters : {D : Type 0} (disk : Ghosts D) (old seen : SharedState D) (full : Bool) → old ≡ seen
    → full ≡ (length seen.trace == seen.capacity) → full ≡ false → length old.trace ≤ old.capacity
    → (entry put : Entry) → put ≡ entry → (trace : List Entry) → trace ≡ old.trace ++ put ∷ []
    → (machine : Whole D) (progress : ℕ)
    → progress ≡ old.progress + (if is_progress entry.step.act entry.reply then 1 else 0)
    → StepTaken disk old.machine entry.step entry.reply machine
    → ((start : Whole D) (steps : List Step) (replies : List Reply) → StepsTaken disk start steps replies old.machine
    → StepsTaken disk start (steps ++ entry.step ∷ []) (replies ++ entry.reply ∷ []) machine)
    → ((files : List File) (start : Whole D) → IsReached disk files start (steps_of old.trace) (replies_of old.trace)
    old.machine → StepIsSafe disk files (observed_by files start old.trace) old.machine entry.step entry.reply machine)
    → HasEntered disk old entry.step entry.reply
    (record { machine = machine; trace = trace; capacity = old.capacity; progress = progress })
enters {D} disk old seen full is asked answer few entry put same trace longer machine progress counted taken on safe =
    let other : (length old.trace == old.capacity) ≡ false =
    ap (λ (s : SharedState D). length s.trace == s.capacity) is ∙ sym asked ∙ answer in
    let room : length old.trace < old.capacity = not_full (length old.trace) old.capacity few other in
    let items : trace ≡ old.trace ++ entry ∷ [] = longer ∙ ap (λ (e : Entry). old.trace ++ e ∷ []) same in
    let P : List Entry → Type 0 = λ l. HasEntered disk old entry.step entry.reply
    (record { machine = machine; trace = l; capacity = old.capacity; progress = progress }) in
    subst P (sym items) (record {
      room = room;
      capacity = refl;
      entry = refl;
      taken = taken;
      kept = λ start is. one_more disk start old entry machine progress room counted
          (on start (steps_of old.trace) (replies_of old.trace)) is;
      safe = λ files start is begins. safe files start (record { begins = begins; taken = is.legal });
    })

-- the same of what the machine with its trace is seen as, and of an equal step
pub seen_entered : {D : Type 0} (disk : Ghosts D) (old seen : SharedState D) (step same : Step) (reply : Reply)
    (new : SharedState D) → old ≡ seen → step ≡ same → HasEntered disk old step reply new
    → HasEntered disk seen same reply new
seen_entered {D} disk old seen step same reply new is step_is entered =
    let P : SharedState D → Type 0 = λ s. HasEntered disk s same reply new in
    let Q : Step → Type 0 = λ s. HasEntered disk old s reply new in
    subst P is (subst Q step_is entered)

pub one_longer : {D : Type 0} (disk : Ghosts D) (old : SharedState D) (step : Step) (reply : Reply)
    (new : SharedState D) → HasEntered disk old step reply new → length new.trace ≡ length old.trace + 1
one_longer disk old step reply new entered =
    ap (λ (t : List Entry). length t) entered.entry
    ∙ length-append old.trace (record { step = step; reply = reply } ∷ [])
