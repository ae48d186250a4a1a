-- Whole runs, by their steps.
use Rattle.machine.proofs.Names.{◌≡◌, ◌↔◌, List, [], ◌∷◌, ◌++◌, length, refl, sym, ap, ◌∙◌, subst, Ghosts, Reply, Step}
use Rattle.machine.proofs.Names.{Whole, StepTaken, StepsTaken}

-- one run after another
pub taken_then : {D : Type 0} (disk : Ghosts D) (old mid new : Whole D) (steps : List Step) (replies : List Reply)
    (later : List Step) (observed : List Reply) → StepsTaken disk old steps replies mid
    → StepsTaken disk mid later observed new
    → StepsTaken disk old (steps ++ later) (replies ++ observed) new
taken_then {D} disk old mid new [] [] later observed first rest =
    let P : Whole D → Type 0 = λ m. StepsTaken disk m later observed new in subst P first rest
taken_then disk old mid new (step ∷ steps) (reply ∷ replies) later observed (next, here, first) rest =
    (next, here, taken_then disk next mid new steps replies later observed first rest)
taken_then disk old mid new steps replies later observed first rest = absurd first

-- one step more
pub steps_more : {D : Type 0} (disk : Ghosts D) (old : Whole D) (steps : List Step) (replies : List Reply)
    (mid : Whole D) (step : Step) (reply : Reply) (new : Whole D)
    → StepsTaken disk old steps replies mid → StepTaken disk mid step reply new
    → StepsTaken disk old (steps ++ step ∷ []) (replies ++ reply ∷ []) new
steps_more disk old steps replies mid step reply new taken next =
    taken_then disk old mid new steps replies (step ∷ []) (reply ∷ []) taken (new, next, refl)

pub honest_taken : {D : Type 0} (disk : Ghosts D) (old : Whole D) (steps : List Step) (replies : List Reply)
    (new : Whole D) → StepsTaken disk old steps replies new
    → disk.is_honest new.device ↔ disk.is_honest old.device
honest_taken {D} disk old [] [] new taken = (
  (λ h. subst (λ (x : Whole D). disk.is_honest x.device) taken h),
  (λ h. subst (λ (x : Whole D). disk.is_honest x.device) (sym taken) h),
)
honest_taken {D} disk old (step ∷ steps) (reply ∷ replies) new taken =
    let later = honest_taken disk taken.0 steps replies new taken.2 in
    ((λ h. taken.1.honest.0 (later.0 h)), (λ h. later.1 (taken.1.honest.1 h)))
honest_taken {D} disk old [] (reply ∷ replies) new taken = absurd taken
honest_taken {D} disk old (step ∷ steps) [] new taken = absurd taken

pub len_taken : {D : Type 0} (disk : Ghosts D) (old : Whole D) (steps : List Step) (replies : List Reply)
    (new : Whole D) → StepsTaken disk old steps replies new
    → length (disk.seen new.device) ≡ length (disk.seen old.device)
len_taken {D} disk old [] [] new taken = ap (λ (x : Whole D). length (disk.seen x.device)) taken
len_taken {D} disk old (step ∷ steps) (reply ∷ replies) new taken =
    len_taken disk taken.0 steps replies new taken.2 ∙ taken.1.len
len_taken {D} disk old [] (reply ∷ replies) new taken = absurd taken
len_taken {D} disk old (step ∷ steps) [] new taken = absurd taken
