-- Steps that may make a frame free, and how faults are served and ranges end.
use Rattle.std.proofs.Common.{◌≡◌, ◌≢◌, inl, inr, ℕ, ◌/◌, append_assoc, Bool, true, false}
use Rattle.std.proofs.Common.{List, [], ◌∷◌, ◌++◌, refl, sym, ◌∙◌, ap, subst, Contains}
use Rattle.std.proofs.lemmas.Bool.{false≢true}
use Rattle.std.proofs.lemmas.List.Elements.{Contains-append_left, Contains-append_right, Contains-push}
use Rattle.device.specs.declared.device.Device.{Ghosts}
use Rattle.page_entry.specs.declared.refusal.Refusal.TheVariants as refusals
use Rattle.machine.specs.declared.act.Act.{Act}
use Rattle.machine.specs.declared.act.Act.TheVariants as acts
use Rattle.machine.specs.declared.act.Reply.{Reply}
use Rattle.machine.specs.declared.act.Reply.TheVariants as replies
use Rattle.machine.specs.declared.act.Step.{Step}
use Rattle.machine.specs.Laws.{FaultsAreServed, IsAccessOf, IsAnswered}
use Rattle.machine.specs.Rules.{Acts}
use Rattle.machine.specs.Runs.{StepsTaken}
use Rattle.machine.specs.State.{State, Whole}
use Rattle.session.specs.declared.notes.Notes.{Notes}
use Rattle.session.specs.Ends.{reports_fault, reports_reclaimed, fix_by, IsAccessFor}
use Rattle.session.specs.Ends.{AreForRoom, is_fruitless, AreFruitless, MakesRoom, TriesAgain, EndsRange}
use Rattle.session.specs.Lengths.{AnswersChange, AreOthers, change_steps, change_replies, flush_by}
use Rattle.session.specs.Ranges.{MakesStepsThat}
use Rattle.session.specs.Steps.{Makes, is_for_room, is_paging, Passes, IsPaging, IsMadeFor, ArePaging}
use Rattle.session.specs.Steps.{reports_fixed, reports_reclaim}
use Rattle.session.specs.inside.Paging.{EndsBy, Serves, IsUnservedPaging, StopsAt}
use Rattle.session.proofs.Each.{each_of_change, each_so, each_then, ended_by, ends_one}
use Rattle.session.proofs.Phases.{IsQuiet}
use Rattle.session.proofs.Stretches.{makes_then}

-- ---- single steps

kept_reclaim : (reply : Reply) → is_fruitless acts.Change reply ≡ true → reports_reclaim reply ≡ true
kept_reclaim replies.Kept is = refl
kept_reclaim reply is = absurd (false≢true is)

pub reclaim_kept : (reply : Reply) → reports_reclaim reply ≡ true → reports_reclaimed reply ≡ false
    → is_fruitless acts.Change reply ≡ true
reclaim_kept replies.Reclaimed is other = absurd (false≢true (sym other))
reclaim_kept replies.Kept is other = refl
reclaim_kept reply is other = absurd (false≢true is)

pub reclaimed_is : (reply : Reply) → reports_reclaimed reply ≡ true → reply ≡ replies.Reclaimed
reclaimed_is replies.Reclaimed is = refl
reclaimed_is reply is = absurd (false≢true is)

fixed_is : (reply : Reply) → reports_fixed reply ≡ true → reply ≡ replies.Fixed
fixed_is replies.Fixed is = refl
fixed_is reply is = absurd (false≢true is)

fruitless_room : (act : Act) (reply : Reply) → is_fruitless act reply ≡ true → is_for_room act reply ≡ true
fruitless_room acts.Change reply is = kept_reclaim reply is
fruitless_room act reply is = is

room_paging : (act : Act) (reply : Reply) → is_for_room act reply ≡ true → is_paging act reply ≡ true
room_paging (acts.Load va count) reply is = absurd (false≢true is)
room_paging (acts.Store va bytes) reply is = absurd (false≢true is)
room_paging (acts.Fix va write) reply is = refl
room_paging act reply is = is

-- a load or a store that isn't made
pub load_unmade : (va count : ℕ) (reply : Reply) → ((bytes : List ℕ) → reply ≢ replies.Bytes bytes)
    → is_paging (acts.Load va count) reply ≡ true
load_unmade va count (replies.Bytes bytes) other = absurd (other bytes refl)
load_unmade va count reply other = refl

pub store_unmade : (va : ℕ) (bytes : List ℕ) (reply : Reply) → reply ≢ replies.Stored
    → is_paging (acts.Store va bytes) reply ≡ true
store_unmade va bytes replies.Stored other = absurd (other refl)
store_unmade va bytes reply other = refl

-- ---- one after the other

pub vain_room : (p : ℕ) (steps : List Step) (replied : List Reply) → AreFruitless p steps replied
    → AreForRoom p steps replied
vain_room p = each_so (Passes is_fruitless p) (Passes is_for_room p)
    (λ step reply is. (fruitless_room step.act reply is.0, is.1))

pub are_paging : (p : ℕ) (steps : List Step) (replied : List Reply) → AreForRoom p steps replied
    → ArePaging p steps replied
are_paging p = each_so (Passes is_for_room p) (IsPaging p) (λ step reply is. (room_paging step.act reply is.0, is.1))

pub vain_paging : (p : ℕ) (steps : List Step) (replied : List Reply) → AreFruitless p steps replied
    → ArePaging p steps replied
vain_paging p steps replied vain = are_paging p steps replied (vain_room p steps replied vain)

pub flush_vain : (p : ℕ) (reply : Reply) → AreFruitless p (flush_by p ∷ []) (reply ∷ [])
flush_vain p reply = ((refl, refl), tt)

-- ---- a page is taken out

-- what holds of the steps and replies of a change
pub change_has : (P : List Step → List Reply → Type 0) (p : ℕ) (answer : Reply) (steps : List Step)
    (replies : List Reply) → (it : AnswersChange p answer steps replies)
    → P (change_steps p it.others) (change_replies answer it.others) → P steps replies
change_has P p answer steps replies it holds = subst (P steps) (sym it.replies_are)
    (subst (λ (l : List Step). P l (change_replies answer it.others)) (sym it.steps_are) holds)

-- the change of a reclaim, which is answered so
pub change_vain : (p : ℕ) (answer : Reply) (others : List ℕ) → AreOthers p others
    → is_fruitless acts.Change answer ≡ true
    → AreFruitless p (change_steps p others) (change_replies answer others)
change_vain p answer others differ is = each_of_change (Passes is_fruitless p) p answer others differ (is, refl)
    (λ other not. (refl, not)) (λ other not. (refl, not))

pub change_room : (p : ℕ) (answer : Reply) (others : List ℕ) → AreOthers p others → reports_reclaim answer ≡ true
    → AreForRoom p (change_steps p others) (change_replies answer others)
change_room p answer others differ is = each_of_change (Passes is_for_room p) p answer others differ (is, refl)
    (λ other not. (refl, not)) (λ other not. (refl, not))

-- the answer is one of the replies
change_replied : (answer : Reply) (others : List ℕ) → Contains (change_replies answer others) answer
change_replied answer [] = Contains-push [] answer
change_replied answer (other ∷ others) =
    Contains-append_right (replies.Acked ∷ []) (change_replies answer others ++ replies.Resumed ∷ []) answer
    (Contains-append_left (change_replies answer others) (replies.Resumed ∷ []) answer (change_replied answer others))

pub change_replied_in : (p : ℕ) (answer : Reply) (steps : List Step) (replied : List Reply)
    → AnswersChange p answer steps replied → Contains replied answer
change_replied_in p answer steps replied change =
    change_has (λ steps replied. Contains replied answer) p answer steps replied change
    (change_replied answer change.others)

-- ---- a fault is served, or isn't

pub ends_later : (step : Step) (reply : Reply) (steps : List Step) (replied : List Reply) (steps' : List Step)
    (replied' : List Reply) → ArePaging step.p steps replied → EndsBy step reply steps' replied'
    → EndsBy step reply (steps ++ steps') (replied ++ replied')
ends_later step reply steps replied steps' replied' first it = record {
  front = steps ++ it.front;
  replied = replied ++ it.replied;
  paging = each_then (IsPaging step.p) steps replied it.front it.replied first it.paging;
  steps_are = ap (λ l. steps ++ l) it.steps_are ∙ sym (append_assoc steps it.front (step ∷ []));
  replies_are = ap (λ l. replied ++ l) it.replies_are ∙ sym (append_assoc replied it.replied (reply ∷ []));
}

module _ (p at : ℕ) (write : Bool) where
  pub serves_one : (reply : Reply) → reports_fixed reply ≡ true
      → Serves p at write (fix_by p at write ∷ []) (reply ∷ [])
  serves_one reply is = subst (λ (r : Reply). Serves p at write (fix_by p at write ∷ []) (r ∷ []))
      (sym (fixed_is reply is)) (ends_one (fix_by p at write) replies.Fixed)

  -- its steps read and store nothing
  pub serves_paging : (steps : List Step) (replied : List Reply) → Serves p at write steps replied
      → ArePaging p steps replied
  serves_paging steps replied it =
      ended_by (ArePaging p) (fix_by p at write) replies.Fixed steps replied it (each_then (IsPaging p) it.front
      it.replied (fix_by p at write ∷ []) (replies.Fixed ∷ []) it.paging ((refl, refl), tt))

  -- not for want of frames
  pub unserved_one : (answer : Reply) → reports_fixed answer ≡ false → answer ≢ replies.Refused refusals.NoFrame
      → (all : ℕ) → IsUnservedPaging p at write answer all (fix_by p at write ∷ []) (answer ∷ [])
  unserved_one answer not other all = (((refl, refl), tt), (refl, not, inl (refl, other, refl, refl)))

  -- no frame is free, and none becomes free
  pub unserved_vain : (answer : Reply) → reports_fixed answer ≡ false → answer ≡ replies.Refused refusals.NoFrame
      → (all : ℕ) (steps : List Step) (replied : List Reply) → MakesRoom p false all steps replied
      → IsUnservedPaging p at write answer all (fix_by p at write ∷ steps) (answer ∷ replied)
  unserved_vain answer not is all steps replied vain =
      (((refl, refl), vain_paging p steps replied vain.0), (refl, not, inr (inl (is, is, vain))))

  -- a second attempt, after a frame was made free
  abbrev pub IsOnlyFix : Reply → List Step → List Reply → Type 0
  IsOnlyFix answer steps replied = (steps ≡ fix_by p at write ∷ []) × (replied ≡ answer ∷ [])

  pub tries_again : (answer : Reply) (all : ℕ) (steps : List Step) (replied : List Reply) (steps' : List Step)
      (replied' : List Reply) → MakesRoom p true all steps replied → IsOnlyFix answer steps' replied'
      → TriesAgain p at write answer (steps ++ steps') (replied ++ replied')
  tries_again answer all steps replied steps' replied' room only = record {
    room = steps;
    made = replied;
    makes = room;
    steps_are = ap (λ l. steps ++ l) only.0;
    replies_are = ap (λ l. replied ++ l) only.1;
  }

  again_paging : (answer : Reply) (steps : List Step) (replied : List Reply)
      → TriesAgain p at write answer steps replied → ArePaging p steps replied
  again_paging answer steps replied it = subst (ArePaging p steps) (sym it.replies_are)
      (subst (λ (l : List Step). ArePaging p l (it.made ++ answer ∷ [])) (sym it.steps_are)
      (each_then (IsPaging p) it.room it.made (fix_by p at write ∷ []) (answer ∷ [])
      (are_paging p it.room it.made it.makes.0) ((refl, refl), tt)))

  pub unserved_again : (first answer : Reply) → reports_fixed answer ≡ false
      → first ≡ replies.Refused refusals.NoFrame → (all : ℕ) (steps : List Step) (replied : List Reply)
      → TriesAgain p at write answer steps replied
      → IsUnservedPaging p at write answer all (fix_by p at write ∷ steps) (first ∷ replied)
  unserved_again first answer not is all steps replied it =
      (((refl, refl), again_paging answer steps replied it), (refl, not, inr (inr (is, it))))

-- ---- accesses

pub access_paging : (at : ℕ) (write : Bool) (act : Act) (reply : Reply) → IsAccessFor at write act
    → reports_fault reply ≡ true → is_paging act reply ≡ true
access_paging at write (acts.Load va count) (replies.Refused why) is fault = refl
access_paging at write (acts.Load va count) reply is fault = absurd (false≢true fault)
access_paging at write (acts.Store va bytes) (replies.Refused why) is fault = refl
access_paging at write (acts.Store va bytes) reply is fault = absurd (false≢true fault)
access_paging at write act reply is fault = absurd is

-- whose it is
pub access_own : (at : ℕ) (write : Bool) (p : ℕ) (act : Act) → IsAccessFor at write act → IsMadeFor p p act
access_own at write p (acts.Load va count) is = refl
access_own at write p (acts.Store va bytes) is = refl
access_own at write p act is = absurd is

pub access_quiet : (at : ℕ) (write : Bool) (act : Act) (reply : Reply) → IsAccessFor at write act → IsQuiet act reply
access_quiet at write (acts.Load va count) reply is = tt
access_quiet at write (acts.Store va bytes) reply is = tt
access_quiet at write act reply is = absurd is

-- what ends a range comes after other steps
pub ends_after : (p at : ℕ) (write : Bool) (answer : Reply) (all : ℕ) (steps : List Step) (replied : List Reply)
    (steps' : List Step)
    (replied' : List Reply) → ArePaging p steps replied → EndsRange p at write answer all steps' replied'
    → EndsRange p at write answer all (steps ++ steps') (replied ++ replied')
ends_after p at write answer all [] [] steps' replied' paging ended = ended
ends_after p at write answer all (step ∷ steps) (reply ∷ replied) steps' replied' paging ended =
    inl (ends_after p at write answer all steps replied steps' replied' paging.1 ended)
ends_after p at write answer all [] (reply ∷ replied) steps' replied' paging ended = absurd paging
ends_after p at write answer all (step ∷ steps) [] steps' replied' paging ended = absurd paging

-- an access that met a fault, which isn't served
pub stops_unserved : (step : Step) (at : ℕ) (write : Bool) (fault answer : Reply) → IsPaging step.p step fault
    → IsAccessFor at write step.act → reports_fault fault ≡ true → (all : ℕ) (steps : List Step) (replied : List Reply)
    → IsUnservedPaging step.p at write answer all steps replied → StopsAt step.p at write answer all (step ∷ steps)
    (fault ∷ replied)
stops_unserved step at write fault answer paging here met all steps replied later =
    ((paging, later.0), inr (inr (refl, here, met, later.1)))

-- an access that isn't made, and meets no fault
pub stops_answered : (step : Step) (at : ℕ) (write : Bool) (answer : Reply) → IsPaging step.p step answer
    → IsAccessFor at write step.act → reports_fault answer ≡ false → (all : ℕ) (steps : List Step)
    (replied : List Reply)
    → EndsBy step answer steps replied → StopsAt step.p at write answer all steps replied
stops_answered step at write answer paging here no-fault all steps replied it =
    ended_by (StopsAt step.p at write answer all) step answer steps replied it (
      each_then (IsPaging step.p) it.front it.replied (step ∷ []) (answer ∷ []) it.paging (paging, tt),
      ends_after step.p at write answer all it.front it.replied (step ∷ []) (answer ∷ []) it.paging
          (inr (inl (refl, here, paging.0, refl, no-fault, refl, refl))),
    )

-- ---- a fault that was served doesn't come again

-- a fault is met only by an access inside a page
no_fault : (s : State) (d : List ℕ) (p at : ℕ) (write : Bool) (act : Act) (reply : Reply) (new : State) (d' : List ℕ)
    → IsAccessFor at write act → Acts s d p act reply new d'
    → (IsAccessOf at write act → IsAnswered act reply) → reports_fault reply ≡ false
no_fault s d p at write (acts.Load va count) (replies.Refused (refusals.Fault code)) new d' is rule answered =
    absurd (answered (rule.0.1.access, ap (λ n. n / 4096) is.0))
no_fault s d p at write (acts.Store va bytes) (replies.Refused (refusals.Fault code)) new d' is rule answered =
    absurd (answered (rule.0.1.access, ap (λ n. n / 4096) is.0, is.1))
no_fault s d p at write (acts.Load va count) (replies.Refused why) new d' is rule answered = refl
no_fault s d p at write (acts.Store va bytes) (replies.Refused why) new d' is rule answered = refl
no_fault s d p at write (acts.Load va count) reply new d' is rule answered = refl
no_fault s d p at write (acts.Store va bytes) reply new d' is rule answered = refl
no_fault s d p at write act reply new d' is rule answered = absurd is

module _ {D : Type 0} (disk : Ghosts D) where
  -- the last of the steps
  served_last : (p at : ℕ) (write : Bool) (step : Step) (reply : Reply) → step.p ≡ p → IsAccessFor at write step.act
      → (old new : Whole D) (front : List Step) (replied : List Reply) → ArePaging p front replied
      → StepsTaken disk old ((front ++ record { p = p; act = acts.Fix at write } ∷ []) ++ step ∷ [])
      ((replied ++ replies.Fixed ∷ []) ++ reply ∷ []) new
      → FaultsAreServed ((front ++ record { p = p; act = acts.Fix at write } ∷ []) ++ step ∷ [])
      ((replied ++ replies.Fixed ∷ []) ++ reply ∷ []) → reports_fault reply ≡ false
  served_last p at write step reply mine is old new [] [] paging (mid, fixed, (last, here, ends)) served =
      no_fault mid.state here.answered.0 step.p at write step.act reply last.state here.answered.1 is
      here.answered.2 (served.0 mine)
  served_last p at write step reply mine is old new (first ∷ front) (other ∷ replied) paging (mid, here, rest) served =
      served_last p at write step reply mine is mid new front replied paging.1 rest served.1
  served_last p at write step reply mine is old new [] (other ∷ replied) paging taken served = absurd paging
  served_last p at write step reply mine is old new (first ∷ front) [] paging taken served = absurd paging

  pub answered_no_fault : (old mid new : Whole D) (before between after : Notes) (at : ℕ) (write : Bool) (step : Step)
      (reply : Reply) → IsAccessFor at write step.act
      → ((from to : Whole D) (steps : List Step) (replied : List Reply) → StepsTaken disk from steps replied to
      → FaultsAreServed steps replied)
      → MakesStepsThat disk old before (Serves step.p at write) mid between
      → Makes disk mid between (step ∷ []) (reply ∷ []) new after → reports_fault reply ≡ false
  answered_no_fault old mid new before between after at write step reply is law it made =
      let S : List Step → Type 0 = λ l. StepsTaken disk old (l ++ step ∷ []) (it.replies ++ reply ∷ []) new in
      let T : List Reply → Type 0 = λ l. StepsTaken disk old ((it.holds.front
      ++ record { p = step.p; act = acts.Fix at write } ∷ []) ++ step ∷ []) (l ++ reply ∷ []) new in
      let all = makes_then disk old mid new before between after it.steps it.replies (step ∷ [])
      (reply ∷ []) it.makes made in
      let taken = subst T it.holds.replies_are (subst S it.holds.steps_are all.taken) in
      served_last step.p at write step reply refl is old new it.holds.front it.holds.replied it.holds.paging
      taken (law old new _ _ taken)
