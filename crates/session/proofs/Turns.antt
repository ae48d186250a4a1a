-- Pages that are taken out in turn.
use Rattle.std.proofs.Common.{◌≡◌, ℕ, ◌+◌, Bool, List, [], ◌∷◌, ◌++◌, append_assoc, refl, sym, ◌∙◌, ap, subst}
use Rattle.device.specs.declared.device.Device.{Ghosts}
use Rattle.page_entry.specs.declared.numbers.FilePage.{FilePage}
use Rattle.machine.specs.AtOnce.{load_steps, load_replies, store_steps, store_replies}
use Rattle.machine.specs.declared.act.Act.{Act}
use Rattle.machine.specs.declared.act.Act.TheVariants as acts
use Rattle.machine.specs.declared.act.Reply.{Reply}
use Rattle.machine.specs.declared.act.Step.{Step}
use Rattle.machine.specs.State.{Whole}
use Rattle.session.specs.declared.files.FileLine.{FileLine}
use Rattle.session.specs.declared.files.Files.{Files}
use Rattle.session.specs.declared.notes.Notes.{Notes}
use Rattle.session.specs.CarriedOut.{CarriesOut}
use Rattle.session.specs.Ends.{IsAccessFor}
use Rattle.session.specs.Files.{round_of}
use Rattle.session.specs.Lengths.{AnswersChange, EndsWaiting}
use Rattle.session.specs.Steps.{AreEach}
use Rattle.session.specs.Turns.{BeginsByReclaim, IsInTurn, turn_after, TakesTurns, InTurn}
use Rattle.session.specs.inside.Made.{Waits}
use Rattle.session.proofs.Each.{each_of_change}
use Rattle.session.proofs.Rooms.{change_has}
use Rattle.session.proofs.Stretches.{does_more}

-- ---- steps that take no page out

abbrev pub IsAside : Act → Type 0
IsAside (acts.Reclaim file page) = ⊥
IsAside act = Unit {0}

abbrev pub AreAside : List Step → List Reply → Type 0
AreAside = AreEach (λ step reply. IsAside step.act)

pub access_aside : (at : ℕ) (write : Bool) (act : Act) → IsAccessFor at write act → IsAside act
access_aside at write (acts.Reclaim file page) is = absurd is
access_aside at write act is = tt

aside_in_turn : (turn : FilePage) (p : ℕ) (act : Act) (reply : Reply) (steps : List Step) (replies : List Reply)
    → IsAside act → IsInTurn turn p act reply steps replies
aside_in_turn turn p (acts.Reclaim file page) reply steps replies is = absurd is
aside_in_turn turn p act reply steps replies is = tt

pub loads_aside : (p at : ℕ) (bytes : List ℕ) → AreAside (load_steps p at bytes) (load_replies bytes)
loads_aside p at [] = tt
loads_aside p at (byte ∷ bytes) = (tt, loads_aside p (at + 1) bytes)

pub stores_aside : (p at : ℕ) (bytes : List ℕ) → AreAside (store_steps p at bytes) (store_replies bytes)
stores_aside p at [] = tt
stores_aside p at (byte ∷ bytes) = (tt, stores_aside p (at + 1) bytes)

change_aside : (p : ℕ) (answer : Reply) (steps : List Step) (replies : List Reply)
    → AnswersChange p answer steps replies → AreAside steps replies
change_aside p answer steps replies it = change_has AreAside p answer steps replies it
    (each_of_change (λ step reply. IsAside step.act) p answer it.others it.differ tt (λ other not. tt)
    (λ other not. tt))

pub waits_aside : (p : ℕ) (steps : List Step) (replies : List Reply) → Waits p steps replies → AreAside steps replies
waits_aside p steps replies it = subst (λ l. AreAside l replies) (sym it.steps_are)
    (subst (λ l. AreAside (record { p = p; act = acts.Flush } ∷ []) l) (sym it.replies_are) (tt, tt))

pub ends_aside : (p : ℕ) (answer : Reply) (steps : List Step) (replies : List Reply)
    → EndsWaiting p answer steps replies → AreAside steps replies
ends_aside p answer steps replies it = subst (λ l. AreAside l replies) (sym it.steps_are)
    (subst (λ l. AreAside (record { p = p; act = acts.Flush } ∷ []) l) (sym it.replies_are) (tt, tt))

-- ---- turns

begins_longer : (p : ℕ) (steps : List Step) (replies : List Reply) (steps' : List Step) (replies' : List Reply)
    → BeginsByReclaim p steps replies → BeginsByReclaim p (steps ++ steps') (replies ++ replies')
begins_longer p steps replies steps' replies' it = record {
  answer = it.answer;
  reclaims = it.reclaims;
  changing = it.changing;
  changed = it.changed;
  change = it.change;
  later = it.later ++ steps';
  more = it.more ++ replies';
  steps_are = ap (λ l. l ++ steps') it.steps_are ∙ append_assoc it.changing it.later steps';
  replies_are = ap (λ l. l ++ replies') it.replies_are ∙ append_assoc it.changed it.more replies';
}

in_turn_longer : (turn : FilePage) (p : ℕ) (act : Act) (reply : Reply) (steps : List Step) (replies : List Reply)
    (steps' : List Step) (replies' : List Reply) → IsInTurn turn p act reply steps replies
    → IsInTurn turn p act reply (steps ++ steps') (replies ++ replies')
in_turn_longer turn p (acts.Reclaim file page) reply steps replies steps' replies' is =
    (is.0, λ begun. begins_longer p steps replies steps' replies' (is.1 begun))
in_turn_longer turn p act reply steps replies steps' replies' is =
    aside_in_turn turn p act reply (steps ++ steps') (replies ++ replies') tt

module _ {A : Type 0} where
  aside_after : (lines : List (FileLine A)) (turn : FilePage) (act : Act) → IsAside act
      → turn_after lines turn act ≡ turn
  aside_after lines turn (acts.Reclaim file page) is = absurd is
  aside_after lines turn act is = refl

  pub turns_aside : (lines : List (FileLine A)) (turn : FilePage) (steps : List Step) (replies : List Reply)
      → AreAside steps replies → TakesTurns lines turn steps replies turn
  turns_aside lines turn [] [] are = refl
  turns_aside lines turn (step ∷ steps) (reply ∷ replies) are = (
    aside_in_turn turn step.p step.act reply steps replies are.0,
    subst (λ t. TakesTurns lines t steps replies turn) (sym (aside_after lines turn step.act are.0))
        (turns_aside lines turn steps replies are.1),
  )
  turns_aside lines turn [] (reply ∷ replies) are = absurd are
  turns_aside lines turn (step ∷ steps) [] are = absurd are

  pub turns_changed : (lines : List (FileLine A)) (turn : FilePage) (p : ℕ) (answer : Reply) (steps : List Step)
      (replies : List Reply) → AnswersChange p answer steps replies → TakesTurns lines turn steps replies turn
  turns_changed lines turn p answer steps replies it =
      turns_aside lines turn steps replies (change_aside p answer steps replies it)

  turns_then : (lines : List (FileLine A)) (turn mid last : FilePage) (steps : List Step) (replies : List Reply)
      (steps' : List Step) (replies' : List Reply) → TakesTurns lines turn steps replies mid
      → TakesTurns lines mid steps' replies' last → TakesTurns lines turn (steps ++ steps') (replies ++ replies') last
  turns_then lines turn mid last [] [] steps' replies' first later =
      subst (λ t. TakesTurns lines t steps' replies' last) first later
  turns_then lines turn mid last (step ∷ steps) (reply ∷ replies) steps' replies' first later = (
    in_turn_longer turn step.p step.act reply steps replies steps' replies' first.0,
    turns_then lines (turn_after lines turn step.act) mid last steps replies steps' replies' first.1 later,
  )
  turns_then lines turn mid last [] (reply ∷ replies) steps' replies' first later = absurd first
  turns_then lines turn mid last (step ∷ steps) [] steps' replies' first later = absurd first

  -- ---- what holds of steps that take pages out in turn

  module _ (old new : Files A) where
    -- steps that take no page out
    pub in_turn_aside : (what : ℕ → List Step → List Reply → Type 0) (steps : List Step) (replies : List Reply)
        → new ≡ old → AreAside steps replies → what (round_of old.lines.items) steps replies
        → InTurn old what new steps replies
    in_turn_aside what steps replies same are holds = record {
      does = holds;
      lines = ap (λ (f : Files A). f.lines.items) same;
      turns = subst (λ (f : Files A). TakesTurns old.lines.items old.next steps replies f.next) (sym same)
          (turns_aside old.lines.items old.next steps replies are);
    }

    pub in_turn_one : (what : ℕ → List Step → List Reply → Type 0) (step : Step) (reply : Reply) → new ≡ old
        → IsAside step.act → what (round_of old.lines.items) (step ∷ []) (reply ∷ [])
        → InTurn old what new (step ∷ []) (reply ∷ [])
    in_turn_one what step reply same aside holds =
        in_turn_aside what (step ∷ []) (reply ∷ []) same (aside, tt) holds

    pub in_turn_kept : (what : List Step → List Reply → Type 0) → new ≡ old
        → ((steps : List Step) (replies : List Reply) → what steps replies → AreAside steps replies)
        → (steps : List Step) (replies : List Reply) → what steps replies → InTurn old (λ _. what) new steps replies
    in_turn_kept what same aside steps replies holds =
        in_turn_aside (λ _. what) steps replies same (aside steps replies holds) holds

    -- for as many pages as there are
    pub in_turn_round : (what more : ℕ → List Step → List Reply → Type 0)
        → ((steps : List Step) (replies : List Reply) → what (round_of old.lines.items) steps replies
        → more (round_of old.lines.items) steps replies)
        → (steps : List Step) (replies : List Reply) → InTurn old what new steps replies
        → InTurn old more new steps replies
    in_turn_round what more all steps replies it =
        record { does = all steps replies it.does; lines = it.lines; turns = it.turns }

    pub in_turn_more : (what more : ℕ → List Step → List Reply → Type 0)
        → ((all : ℕ) (steps : List Step) (replies : List Reply) → what all steps replies → more all steps replies)
        → (steps : List Step) (replies : List Reply) → InTurn old what new steps replies
        → InTurn old more new steps replies
    in_turn_more what more holds = in_turn_round what more (holds (round_of old.lines.items))

  pub in_turn_none : (old : Files A) (what : ℕ → List Step → List Reply → Type 0)
      → what (round_of old.lines.items) [] [] → InTurn old what old [] []
  in_turn_none old what holds = in_turn_aside old old what [] [] refl tt holds

  module _ (old mid new : Files A) where
    pub in_turn_then : (what then both : ℕ → List Step → List Reply → Type 0)
        → ((all : ℕ) (steps : List Step) (replies : List Reply) (steps' : List Step) (replies' : List Reply)
        → what all steps replies → then all steps' replies' → both all (steps ++ steps') (replies ++ replies'))
        → (steps : List Step) (replies : List Reply) (steps' : List Step) (replies' : List Reply)
        → InTurn old what mid steps replies → InTurn mid then new steps' replies'
        → InTurn old both new (steps ++ steps') (replies ++ replies')
    in_turn_then what then both holds steps replies steps' replies' first later = record {
      does = holds (round_of old.lines.items) steps replies steps' replies' first.does
          (subst (λ (l : List (FileLine A)). then (round_of l) steps' replies') first.lines later.does);
      lines = later.lines ∙ first.lines;
      turns = turns_then old.lines.items old.next mid.next new.next steps replies steps' replies' first.turns
          (subst (λ (l : List (FileLine A)). TakesTurns l mid.next steps' replies' new.next) first.lines later.turns);
    }

    -- a step first, which takes no page out
    pub in_turn_first : (what both : ℕ → List Step → List Reply → Type 0) (step : Step) (reply : Reply) → mid ≡ old
        → IsAside step.act
        → ((all : ℕ) (steps : List Step) (replies : List Reply) → what all steps replies
        → both all (step ∷ steps) (reply ∷ replies))
        → (steps : List Step) (replies : List Reply) → InTurn mid what new steps replies
        → InTurn old both new (step ∷ steps) (reply ∷ replies)
    in_turn_first what both step reply same aside holds steps replies later =
        let it : InTurn old what new steps replies =
        subst (λ (f : Files A). InTurn f what new steps replies) same later in
        record {
          does = holds (round_of old.lines.items) steps replies it.does;
          lines = it.lines;
          turns = (
            aside_in_turn old.next step.p step.act reply steps replies aside,
            subst (λ t. TakesTurns old.lines.items t steps replies new.next)
                (sym (aside_after old.lines.items old.next step.act aside)) it.turns,
          );
        }

  -- what holds of the steps of a request
  pub carries_does : {D : Type 0} (disk : Ghosts D) (old new : Whole D) (before after : Notes) (files left : Files A)
      (what : ℕ → List Step → List Reply → Type 0) → CarriesOut disk old before (InTurn files what left) new after
      → CarriesOut disk old before (what (round_of files.lines.items)) new after
  carries_does disk old new before after files left what it = record {
    makes = does_more disk old new before after (InTurn files what left) (what (round_of files.lines.items))
        (λ steps replies turn. turn.does) it.makes;
    phases = it.phases;
  }

  -- then a change
  pub in_turn_changed : (old mid new : Files A) (what both : ℕ → List Step → List Reply → Type 0) (p : ℕ)
      (answer : Reply) → new ≡ mid
      → ((all : ℕ) (steps : List Step) (replies : List Reply) (steps' : List Step) (replies' : List Reply)
      → what all steps replies → AnswersChange p answer steps' replies'
      → both all (steps ++ steps') (replies ++ replies'))
      → (steps : List Step) (replies : List Reply) (steps' : List Step) (replies' : List Reply)
      → InTurn old what mid steps replies → AnswersChange p answer steps' replies'
      → InTurn old both new (steps ++ steps') (replies ++ replies')
  in_turn_changed old mid new what both p answer same holds steps replies steps' replies' first change =
      in_turn_then old mid new what (λ _. AnswersChange p answer) both holds steps replies steps' replies' first
      (in_turn_kept mid new (AnswersChange p answer) same (change_aside p answer) steps' replies' change)
