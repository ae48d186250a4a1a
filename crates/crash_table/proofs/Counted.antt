-- Steps that are made one by one, with the number of device calls after each.
use Rattle.std.proofs.Common.{◌≡◌, ℕ, zero, suc, ◌+◌, ◌<◌, ◌≤◌, List, [], ◌∷◌, ◌++◌, length, take, drop}
use Rattle.std.proofs.Common.{add-one, get_or, refl, sym, ap, subst, ◌∙◌, arith}
use Rattle.std.specs.Prelude.{Result, Ok, Err, IfOk}
use Rattle.std.proofs.lemmas.Bool.Decides.{nat_tests}
use Rattle.std.proofs.lemmas.List.{take_all, take_more}
use Rattle.device.specs.declared.device.Device.{Ghosts}
use Rattle.machine.specs.declared.act.Reply.{Reply}
use Rattle.machine.specs.declared.act.Step.{Step}
use Rattle.machine.specs.Runs.{StepTaken, StepsTaken}
use Rattle.machine.specs.State.{Whole}
use Rattle.crash_table.specs.Calls.{StepsCountedBy, steps_before}

module _ {D : Type 0} (disk : Ghosts D) (calls : D → ℕ) where
  counted_more : (old mid new : Whole D) (steps : List Step) (replies : List Reply) (counts : List ℕ) (step : Step)
      (reply : Reply) (count : ℕ) → StepsCountedBy disk calls old steps replies counts mid
      → StepTaken disk mid step reply new
      → calls new.device ≡ count
      → StepsCountedBy disk calls old (steps ++ step ∷ []) (replies ++ reply ∷ []) (counts ++ count ∷ []) new
  counted_more old mid new [] [] [] step reply count made this is =
      let P : Whole D → Type 0 = λ m. StepTaken disk m step reply new in
      (new, subst P made this, is, refl)
  counted_more old mid new (x ∷ steps) (r ∷ replies) (n ∷ counts) step reply count (next, first, at, made) this is =
      (next, first, at, counted_more next mid new steps replies counts step reply count made this is)
  counted_more old mid new [] [] (n ∷ counts) step reply count made this is = absurd made
  counted_more old mid new [] (r ∷ replies) [] step reply count made this is = absurd made
  counted_more old mid new [] (r ∷ replies) (n ∷ counts) step reply count made this is = absurd made
  counted_more old mid new (x ∷ steps) [] [] step reply count made this is = absurd made
  counted_more old mid new (x ∷ steps) [] (n ∷ counts) step reply count made this is = absurd made
  counted_more old mid new (x ∷ steps) (r ∷ replies) [] step reply count made this is = absurd made

  -- the step at index i was made after those before it, and its reply and the number of calls were added to the lists
  pub counted_next : (old mid new : Whole D) (steps : List Step) (i : ℕ) (step : Step) (replies : List Reply)
      (counts : List ℕ) (reply : Reply) (count : ℕ) (more : List Reply) (higher : List ℕ) → i < length steps
      → step ≡ get_or steps i step
      → StepsCountedBy disk calls old (take i steps) replies counts mid → StepTaken disk mid step reply new
      → calls new.device ≡ count → more ≡ replies ++ reply ∷ [] → higher ≡ counts ++ count ∷ []
      → StepsCountedBy disk calls old (take (i + 1) steps) more higher new
  counted_next old mid new steps i step replies counts reply count more higher below at made this is more_is higher_is =
      let P : List Step → Type 0 =
      λ s. StepsCountedBy disk calls old s (replies ++ reply ∷ []) (counts ++ count ∷ []) new in
      let Q : List Reply → Type 0 = λ l.
      StepsCountedBy disk calls old (take (i + 1) steps) l (counts ++ count ∷ []) new in
      let R : List ℕ → Type 0 = λ l. StepsCountedBy disk calls old (take (i + 1) steps) more l new in
      let first : take (i + 1) steps ≡ take i steps ++ step ∷ [] =
      take_more steps i step below ∙ ap (λ s. take i steps ++ s ∷ []) (sym at) in
      subst R (sym higher_is) (subst Q (sym more_is) (subst P (sym first)
      (counted_more old mid new (take i steps) replies counts step reply count made this is)))

  -- the steps before an index past the last one are all of them
  pub counted_all : (old new : Whole D) (steps : List Step) (i : ℕ) (replies : List Reply) (counts : List ℕ)
      → length steps ≤ i → StepsCountedBy disk calls old (take i steps) replies counts new
      → StepsCountedBy disk calls old steps replies counts new
  counted_all old new steps i replies counts past made =
      let P : List Step → Type 0 = λ l. StepsCountedBy disk calls old l replies counts new in
      subst P (take_all i steps past) made

  -- they are steps that were made
  pub counted_taken : (old new : Whole D) (steps : List Step) (replies : List Reply) (counts : List ℕ)
      → StepsCountedBy disk calls old steps replies counts new → StepsTaken disk old steps replies new
  counted_taken old new [] [] [] made = made
  counted_taken old new (x ∷ steps) (r ∷ replies) (n ∷ counts) (next, first, at, made) =
      (next, first, counted_taken next new steps replies counts made)
  counted_taken old new [] [] (n ∷ counts) made = absurd made
  counted_taken old new [] (r ∷ replies) [] made = absurd made
  counted_taken old new [] (r ∷ replies) (n ∷ counts) made = absurd made
  counted_taken old new (x ∷ steps) [] [] made = absurd made
  counted_taken old new (x ∷ steps) [] (n ∷ counts) made = absurd made
  counted_taken old new (x ∷ steps) (r ∷ replies) [] made = absurd made

-- ---- how many steps came before a call

one_more_before : (counts : List ℕ) (i call : ℕ) → i < length counts → get_or counts i 0 < call
    → steps_before (drop i counts) call ≡ steps_before (drop (suc i) counts) call + 1
one_more_before [] i call below less = absurd (omega (arith, below))
one_more_before (n ∷ counts) zero call below less = grind (arith, nat_tests)
one_more_before (n ∷ counts) (suc i) call below less = one_more_before counts i call (omega (arith, below)) less

pub one_before : (counts : List ℕ) (i call : ℕ) → i < length counts → get_or counts i 0 < call
    → steps_before (drop i counts) call ≡ steps_before (drop (i + 1) counts) call + 1
one_before counts i call below less =
    one_more_before counts i call below less
    ∙ ap (λ (k : ℕ). steps_before (drop k counts) call + 1) (sym (add-one i))

pub none_past : (counts : List ℕ) (i call : ℕ) → length counts ≤ i → steps_before (drop i counts) call ≡ 0
none_past [] zero call past = refl
none_past [] (suc i) call past = refl
none_past (n ∷ counts) zero call past = absurd (omega (arith, past))
none_past (n ∷ counts) (suc i) call past = none_past counts i call (omega (arith, past))

-- ---- results

pub if_same : {X E : Type 0} (made result : Result X E) (P : X → Type 0) → IfOk made P
    → IfOk result (λ x. made ≡ Ok x) → IfOk result P
if_same {X} {E} made (Ok x) P has same = let Q : Result X E → Type 0 = λ r. IfOk r P in subst Q same has
if_same made (Err e) P has same = tt
