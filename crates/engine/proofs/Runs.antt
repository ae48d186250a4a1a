-- One step more of a run, and of what a listener was told.
use Rattle.std.proofs.Common.{◌≡◌, ◌↔◌, ℕ, ◌+◌, ◌-◌, suc, Bool, true, List, [], ◌∷◌, ◌++◌, length, length-append}
use Rattle.std.proofs.Common.{length-take, refl, sym, ◌∙◌, ap, subst, ◌<◌, ◌≤◌, take, drop, get_or, arith}
use Rattle.std.proofs.lemmas.List.{take_more, take-take, append_assoc, length-drop}
use Rattle.std.proofs.Math.Seq.{take-add, take-append_seam}
use Rattle.device.specs.declared.device.Device.{Ghosts}
use Rattle.machine.specs.declared.act.Reply.{Reply}
use Rattle.machine.specs.declared.act.Step.{Step}
use Rattle.machine.specs.State.{Whole}
use Rattle.machine.specs.Runs.{StepTaken, StepsTaken}
use Rattle.engine.specs.Listening.{HasHeard, HasStopped}

pub heard_more : {L : Type 0} (hears : L → Reply → Bool → L → Type 0)
    (old mid new : L) (replies : List Reply) (reply : Reply)
    → HasHeard hears old replies mid → hears mid reply true new
    → HasHeard hears old (replies ++ reply ∷ []) new
heard_more {L} hears old mid new [] reply heard this =
    let P : L → Type 0 = λ l. hears l reply true new in
    (new, subst P heard this, refl)
heard_more hears old mid new (r ∷ replies) reply (next, first, heard) this =
    (next, first, heard_more hears next mid new replies reply heard this)

-- what was told later follows what was told first
pub heard_then : {L : Type 0} (hears : L → Reply → Bool → L → Type 0) (old mid new : L) (replies more : List Reply)
    → HasHeard hears old replies mid → HasHeard hears mid more new
    → HasHeard hears old (replies ++ more) new
heard_then {L} hears old mid new [] more heard later =
    let P : L → Type 0 = λ l. HasHeard hears l more new in
    subst P heard later
heard_then hears old mid new (r ∷ replies) more (next, first, heard) later =
    (next, first, heard_then hears next mid new replies more heard later)

pub stopped_then : {L : Type 0} (hears : L → Reply → Bool → L → Type 0) (old mid new : L) (replies more : List Reply)
    → HasHeard hears old replies mid → HasStopped hears mid more new
    → HasStopped hears old (replies ++ more) new
stopped_then hears old mid new replies more heard later = record {
  earlier = replies ++ later.earlier;
  last = later.last;
  split = ap (λ l. replies ++ l) later.split ∙ sym (append_assoc replies later.earlier (later.last ∷ []));
  before = later.before;
  heard = heard_then hears old mid later.before replies later.earlier heard later.heard;
  stopped = later.stopped;
}

taken_more : {D : Type 0} (disk : Ghosts D) (old mid new : Whole D)
    (steps : List Step) (replies : List Reply) (step : Step) (reply : Reply)
    → StepsTaken disk old steps replies mid → StepTaken disk mid step reply new
    → StepsTaken disk old (steps ++ step ∷ []) (replies ++ reply ∷ []) new
taken_more {D} disk old mid new [] [] step reply taken this =
    let P : Whole D → Type 0 = λ m. StepTaken disk m step reply new in
    (new, subst P taken this, refl)
taken_more disk old mid new (x ∷ steps) (r ∷ replies) step reply (next, first, taken) this =
    (next, first, taken_more disk next mid new steps replies step reply taken this)
taken_more disk old mid new [] (r ∷ replies) step reply taken this = absurd taken
taken_more disk old mid new (x ∷ steps) [] step reply taken this = absurd taken

-- the step at index i was made after those before it
pub taken_next : {D : Type 0} (disk : Ghosts D) (old mid new : Whole D)
    (steps : List Step) (i : ℕ) (step : Step) (replies : List Reply) (reply : Reply)
    → i < length steps → step ≡ get_or steps i step
    → StepsTaken disk old (take i steps) replies mid → StepTaken disk mid step reply new
    → StepsTaken disk old (take (i + 1) steps) (replies ++ reply ∷ []) new
taken_next disk old mid new steps i step replies reply below at taken this =
    let P : List Step → Type 0 = λ s. StepsTaken disk old s (replies ++ reply ∷ []) new in
    let first : take (i + 1) steps ≡ take i steps ++ step ∷ [] =
    take_more steps i step below
    ∙ ap (λ s. take i steps ++ s ∷ []) (sym at) in
    subst P (sym first) (taken_more disk old mid new (take i steps) replies step reply taken this)

-- one reply more
pub length_more : (replies : List Reply) (reply : Reply) (i : ℕ) → length replies ≡ i
    → length (replies ++ reply ∷ []) ≡ i + 1
length_more replies reply i same = length-append replies (reply ∷ []) ∙ ap (λ n. n + 1) same

-- as many replies as steps
pub taken_length : {D : Type 0} (disk : Ghosts D) (old : Whole D) (steps : List Step) (replies : List Reply)
    (new : Whole D) → StepsTaken disk old steps replies new → length replies ≡ length steps
taken_length disk old [] [] new taken = refl
taken_length disk old (step ∷ steps) (reply ∷ replies) new (mid, first, taken) =
    ap suc (taken_length disk mid steps replies new taken)
taken_length disk old [] (r ∷ replies) new taken = absurd taken
taken_length disk old (x ∷ steps) [] new taken = absurd taken

-- not more replies than steps
pub taken_few : {D : Type 0} (disk : Ghosts D) (old : Whole D)
    (steps : List Step) (replies : List Reply) (new : Whole D)
    → StepsTaken disk old (take (length replies) steps) replies new
    → length replies ≤ length steps
taken_few disk old steps replies new taken = omega (
  arith,
  taken_length disk old (take (length replies) steps) replies new taken,
  length-take (length replies) steps,
)

-- the n steps from index i on are those that were fetched
pub fetched : (steps room part : List Step) (i n : ℕ) → i + n ≤ length steps → part ≡ take (i + n - i) (drop i steps)
    → take n (part ++ drop n room) ≡ take n (drop i steps)
fetched steps room part i n within same =
    let span : i + n - i ≡ n = omega arith in
    let whole : part ≡ take n (drop i steps) = same ∙ ap (λ m. take m (drop i steps)) span in
    let count : length part ≡ n =
    omega (arith, ap (λ (l : List Step). length l) whole, length-take n (drop i steps), length-drop i steps, within) in
    let P : ℕ → Type 0 = λ m. take m (part ++ drop n room) ≡ part in
    subst P count (take-append_seam part (drop n room)) ∙ whole

-- steps after steps are steps
abbrev pub GoesOn : {D : Type 0} → Ghosts D → Type 0
GoesOn {D} disk =
    (old mid new : Whole D) (steps later : List Step) (replies replied : List Reply)
    → StepsTaken disk old steps replies mid → StepsTaken disk mid later replied new
    → StepsTaken disk old (steps ++ later) (replies ++ replied) new

-- as many steps as there are replies were made of a portion, after those before it
pub taken_portion : {D : Type 0} (disk : Ghosts D) → GoesOn disk
    → (old mid new : Whole D) (steps portion : List Step) (i n : ℕ) (replies more : List Reply)
    → i + n ≤ length steps → portion ≡ take n (drop i steps) → length replies ≡ i
    → StepsTaken disk old (take i steps) replies mid → StepsTaken disk mid (take (length more) portion) more new
    → StepsTaken disk old (take (length (replies ++ more)) steps) (replies ++ more) new
taken_portion disk goes_on old mid new steps portion i n replies more within same count taken later =
    let few : length more ≤ n = omega (
      arith,
      taken_few disk mid portion more new later,
      ap (λ (l : List Step). length l) same,
      length-take n (drop i steps),
    ) in
    let made : take (length more) portion ≡ take (length more) (drop i steps) =
    ap (λ l. take (length more) l) same
    ∙ take-take (length more) n (drop i steps) few in
    let P : List Step → Type 0 = λ l. StepsTaken disk mid l more new in
    let Q : List Step → Type 0 = λ l. StepsTaken disk old l (replies ++ more) new in
    let all : take i steps ++ take (length more) (drop i steps) ≡ take (length (replies ++ more)) steps =
    sym (take-add i (length more) steps)
    ∙ ap (λ k. take k steps) (sym (length-append replies more ∙ ap (λ k. k + length more) count)) in
    subst Q all
    (goes_on old mid new (take i steps) (take (length more) (drop i steps)) replies more taken (subst P made later))

-- the device stays as long and as honest as it was
pub taken_kept : {D : Type 0} (disk : Ghosts D) (old : Whole D)
    (steps : List Step) (replies : List Reply) (new : Whole D)
    → StepsTaken disk old steps replies new
    → (disk.is_honest new.device ↔ disk.is_honest old.device)
    × (length (disk.seen new.device) ≡ length (disk.seen old.device))
taken_kept {D} disk old [] [] new taken =
    let P : Whole D → Type 0 =
    λ w. (disk.is_honest w.device ↔ disk.is_honest old.device)
    × (length (disk.seen w.device) ≡ length (disk.seen old.device)) in
    subst P (sym taken) ((λ h. h, λ h. h), refl)
taken_kept disk old (step ∷ steps) (reply ∷ replies) new (mid, first, taken) =
    let later = taken_kept disk mid steps replies new taken in
    ((λ h. first.honest.0 (later.0.0 h), λ h. later.0.1 (first.honest.1 h)), later.1 ∙ first.len)
taken_kept disk old [] (r ∷ replies) new taken = absurd taken
taken_kept disk old (x ∷ steps) [] new taken = absurd taken
