-- Steps by which the length of a file is set.
use Rattle.std.proofs.Common.{◌≡◌, ◌≢◌, inl, inr, ℕ, true, false, List, [], ◌∷◌, ◌++◌, refl, sym, ◌∙◌, ap, subst}
use Rattle.std.proofs.lemmas.Bool.{false≢true}
use Rattle.page_entry.specs.declared.refusal.Refusal.TheVariants.{Busy, NoFrame}
use Rattle.machine.specs.declared.act.Reply.{Reply}
use Rattle.machine.specs.declared.act.Reply.TheVariants.{Begun, Refused}
use Rattle.machine.specs.declared.act.Step.{Step}
use Rattle.session.specs.Ends.{MakesRoom}
use Rattle.session.specs.Lengths.{reports_begun, reports_later, flush_by, set_length_by}
use Rattle.session.specs.Lengths.{AnswersChange, EndsWaiting, IsTry, IsLeft, ChangesLength, RefusesLength}
use Rattle.session.specs.Steps.{IsPaging, ArePaging}
use Rattle.session.specs.inside.Made.{AreTries, Waits, BeginsLength, AttemptsLength}
use Rattle.session.proofs.Phases.{begun_is}
use Rattle.session.proofs.Each.{each_so}
use Rattle.session.proofs.Rooms.{vain_paging}

module _ (p file to : ℕ) where
  -- ---- tries

  pub tries_paging : (steps : List Step) (replies : List Reply) → ArePaging p steps replies
      → AreTries p file to steps replies
  tries_paging = each_so (IsPaging p) (IsTry p file to) (λ step reply paging. inr paging)

  -- such steps come before those of which something holds
  tries_then : (P : List Step → List Reply → Type 0)
      → ((step : Step) (reply : Reply) (steps : List Step) (replies : List Reply) → IsTry p file to step reply
      → P steps replies → P (step ∷ steps) (reply ∷ replies))
      → (steps : List Step) (replies : List Reply) (steps' : List Step) (replies' : List Reply)
      → AreTries p file to steps replies → P steps' replies' → P (steps ++ steps') (replies ++ replies')
  tries_then P one [] [] steps' replies' first later = later
  tries_then P one (step ∷ steps) (reply ∷ replies) steps' replies' first later =
      one step reply (steps ++ steps') (replies ++ replies') first.0
      (tries_then P one steps replies steps' replies' first.1 later)
  tries_then P one [] (reply ∷ replies) steps' replies' first later = absurd first
  tries_then P one (step ∷ steps) [] steps' replies' first later = absurd first

  -- ---- it is begun

  pub begins_later : (steps : List Step) (replies : List Reply) (steps' : List Step) (replies' : List Reply)
      → AreTries p file to steps replies → BeginsLength p file to steps' replies'
      → BeginsLength p file to (steps ++ steps') (replies ++ replies')
  begins_later = tries_then (BeginsLength p file to) (λ step reply steps replies try more. inl (try, more))

  -- and changed
  pub begins_then : (answer : Reply) (steps : List Step) (replies : List Reply) (steps' : List Step)
      (replies' : List Reply) → BeginsLength p file to steps replies → AnswersChange p answer steps' replies'
      → ChangesLength p file to answer (steps ++ steps') (replies ++ replies')
  begins_then answer (step ∷ steps) (reply ∷ replies) steps' replies' (inl (try, more)) later =
      inl (try, begins_then answer steps replies steps' replies' more later)
  begins_then answer (step ∷ steps) (reply ∷ replies) steps' replies' (inr (is, replied, none, silent)) later =
      let P : List Step → Type 0 = λ l. AnswersChange p answer (l ++ steps') (replies ++ replies') in
      let Q : List Reply → Type 0 = λ l. AnswersChange p answer steps' (l ++ replies') in
      inr (is, replied, subst P (sym none) (subst Q (sym silent) later))
  begins_then answer [] [] steps' replies' it later = absurd it
  begins_then answer [] (reply ∷ replies) steps' replies' it later = absurd it
  begins_then answer (step ∷ steps) [] steps' replies' it later = absurd it

  -- ---- attempts

  pub attempts_later : (answer : Reply) (all : ℕ) (steps : List Step) (replies : List Reply) (steps' : List Step)
      (replies' : List Reply) → AreTries p file to steps replies → AttemptsLength p file to answer all steps' replies'
      → AttemptsLength p file to answer all (steps ++ steps') (replies ++ replies')
  attempts_later answer all =
      tries_then (AttemptsLength p file to answer all) (λ step reply steps replies try more. inl (try, more))

  pub attempts_one : (answer : Reply) → answer ≢ Refused NoFrame → (all : ℕ)
      → AttemptsLength p file to answer all (set_length_by p file to ∷ []) (answer ∷ [])
  attempts_one answer enough all = inr (refl, refl, inl (enough, refl, refl))

  pub attempts_first : (answer : Reply) → answer ≡ Refused NoFrame → (all : ℕ) (steps : List Step)
      (replies : List Reply) → MakesRoom p false all steps replies
      → AttemptsLength p file to answer all (set_length_by p file to ∷ steps) (answer ∷ replies)
  attempts_first answer is all steps replies vain = inr (refl, refl, inr (is, vain))

  -- an attempt that is refused for a while is made again
  pub tries_one : (reply : Reply) → reports_later reply ≡ true
      → AreTries p file to (set_length_by p file to ∷ []) (reply ∷ [])
  tries_one reply later = (inl (refl, later), tt)

  -- a step of the write-outs
  pub tries_waited : (steps : List Step) (replies : List Reply) → Waits p steps replies
      → AreTries p file to steps replies
  tries_waited steps replies it = subst (λ l. AreTries p file to l replies) (sym it.steps_are)
      (subst (λ l. AreTries p file to (flush_by p ∷ []) l) (sym it.replies_are) (inr (refl, refl), tt))

  tries_step : (step : Step) (reply : Reply) → step ≡ set_length_by p file to → reports_later reply ≡ true
      → IsTry p file to step reply
  tries_step step reply is later = inl (is, later)

  pub tries_attempted : (answer : Reply) → reports_later answer ≡ true → (all : ℕ) (steps : List Step)
      (replies : List Reply) → AttemptsLength p file to answer all steps replies → AreTries p file to steps replies
  tries_attempted answer later all (step ∷ steps) (reply ∷ replies) (inl (try, more)) =
      (try, tries_attempted answer later all steps replies more)
  tries_attempted answer later all (step ∷ steps) (reply ∷ replies) (inr (is, replied, inl (enough, none, silent))) =
      let S : List Step → Type 0 = λ l. AreTries p file to l replies in
      let T : List Reply → Type 0 = λ l. AreTries p file to [] l in
      (tries_step step reply is (ap reports_later replied ∙ later), subst S (sym none) (subst T (sym silent) tt))
  tries_attempted answer later all (step ∷ steps) (reply ∷ replies) (inr (is, replied, inr (no-frame, vain))) = (
    tries_step step reply is (ap reports_later replied ∙ later),
    tries_paging steps replies (vain_paging p steps replies vain.0),
  )
  tries_attempted answer later all [] [] it = absurd it
  tries_attempted answer later all [] (reply ∷ replies) it = absurd it
  tries_attempted answer later all (step ∷ steps) [] it = absurd it

  -- ---- the last one begins it

  pub begins_attempted : (answer : Reply) → reports_begun answer ≡ true → (all : ℕ) (steps : List Step)
      (replies : List Reply) → AttemptsLength p file to answer all steps replies → BeginsLength p file to steps replies
  begins_attempted answer is all (step ∷ steps) (reply ∷ replies) (inl (try, more)) =
      inl (try, begins_attempted answer is all steps replies more)
  begins_attempted answer is all (step ∷ steps) (reply ∷ replies) (inr (attempt, replied, inl (enough, none, silent))) =
      inr (attempt, replied ∙ begun_is answer is, none, silent)
  begins_attempted answer is all (step ∷ steps) (reply ∷ replies) (inr (attempt, replied, inr (no-frame, vain))) =
      absurd (false≢true (ap reports_begun (sym no-frame) ∙ is))
  begins_attempted answer is all [] [] it = absurd it
  begins_attempted answer is all [] (reply ∷ replies) it = absurd it
  begins_attempted answer is all (step ∷ steps) [] it = absurd it

  -- ---- or it isn't begun

  -- for good, or for want of frames
  left_unbusy : (answer reply : Reply) → reply ≡ answer → reports_begun answer ≡ false → answer ≢ Refused Busy
      → answer ≢ Refused NoFrame → (all : ℕ) (steps : List Step) (replies : List Reply) → steps ≡ [] → replies ≡ []
      → IsLeft p answer reply all steps replies
  left_unbusy (Refused Busy) reply replied vain other enough all steps replies none silent = absurd (other refl)
  left_unbusy (Refused NoFrame) reply replied vain other enough all steps replies none silent = absurd (enough refl)
  left_unbusy (Refused why) reply replied vain other enough all steps replies none silent = inl
      (replied, refl, refl, none, silent)
  left_unbusy Begun reply replied vain other enough all steps replies none silent = absurd (false≢true (sym vain))
  left_unbusy answer reply replied vain other enough all steps replies none silent = inl
      (replied, refl, refl, none, silent)

  pub refuses_attempted : (answer : Reply) → reports_begun answer ≡ false → answer ≢ Refused Busy
      → (all : ℕ) (steps : List Step) (replies : List Reply) → AttemptsLength p file to answer all steps replies
      → RefusesLength p file to answer all steps replies
  refuses_attempted answer vain other all (step ∷ steps) (reply ∷ replies) (inl (try, more)) =
      inl (try, refuses_attempted answer vain other all steps replies more)
  refuses_attempted answer vain other all (step ∷ steps) (reply ∷ replies) (inr (
    is,
    replied,
    inl
        (enough, none, silent),
  )) =
      inr (is, left_unbusy answer reply replied vain other enough all steps replies none silent)
  refuses_attempted answer vain other all (step ∷ steps) (reply ∷ replies) (inr (
    is,
    replied,
    inr
        (no-frame, fruitless),
  )) =
      inr (is, inr (inl (replied ∙ no-frame, no-frame, fruitless)))
  refuses_attempted answer vain other all [] [] it = absurd it
  refuses_attempted answer vain other all [] (reply ∷ replies) it = absurd it
  refuses_attempted answer vain other all (step ∷ steps) [] it = absurd it

  -- it is busy, and no other attempt is made
  pub refuses_waiting : (answer tried : Reply) → tried ≡ Refused Busy
      → (all : ℕ) (steps : List Step) (replies : List Reply) (steps' : List Step) (replies' : List Reply)
      → AttemptsLength p file to tried all steps replies → EndsWaiting p answer steps' replies'
      → RefusesLength p file to answer all (steps ++ steps') (replies ++ replies')
  refuses_waiting answer tried busy all (step ∷ steps) (reply ∷ replies) steps' replies' (inl (try, more)) ends =
      inl (try, refuses_waiting answer tried busy all steps replies steps' replies' more ends)
  refuses_waiting answer tried busy all (step ∷ steps) (reply ∷ replies) steps' replies'
      (inr (is, replied, inl (enough, none, silent))) ends =
      let S : List Step → Type 0 = λ l. EndsWaiting p answer (l ++ steps') (replies ++ replies') in
      let T : List Reply → Type 0 = λ l. EndsWaiting p answer steps' (l ++ replies') in
      inr (is, inr (inr (replied ∙ busy, subst S (sym none) (subst T (sym silent) ends))))
  refuses_waiting answer tried busy all (step ∷ steps) (reply ∷ replies) steps' replies'
      (inr (is, replied, inr (no-frame, vain))) ends = absurd (cc)
  refuses_waiting answer tried busy all [] [] steps' replies' it ends = absurd it
  refuses_waiting answer tried busy all [] (reply ∷ replies) steps' replies' it ends = absurd it
  refuses_waiting answer tried busy all (step ∷ steps) [] steps' replies' it ends = absurd it

  pub refuses_later : (answer : Reply) (all : ℕ) (steps : List Step) (replies : List Reply) (steps' : List Step)
      (replies' : List Reply) → AreTries p file to steps replies → RefusesLength p file to answer all steps' replies'
      → RefusesLength p file to answer all (steps ++ steps') (replies ++ replies')
  refuses_later answer all =
      tries_then (RefusesLength p file to answer all) (λ step reply steps replies try more. inl (try, more))
