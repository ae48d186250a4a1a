-- Steps on a disk of which a crash leaves what stands for bytes of the disk.
use Rattle.std.proofs.Common.{◌≡◌, ℕ, ◌+◌, ◌<◌, List, [], ◌∷◌, ◌++◌, length, take, get_or, refl, sym, ap, subst}
use Rattle.std.proofs.Common.{◌∙◌}
use Rattle.std.proofs.lemmas.List.{take_more}
use Rattle.device.specs.declared.device.Device.{Ghosts}
use Rattle.machine.specs.declared.act.Reply.{Reply}
use Rattle.machine.specs.declared.act.Step.{Step}
use Rattle.machine.specs.Runs.{StepsTaken}
use Rattle.machine.specs.State.{Whole}
use Rattle.machine_log.specs.Disk.{LogDiskValue, shown_by}
use Rattle.machine_log.specs.inside.Standing.{Stands, StepsStand, StepStands}

module _ {D : Type 0} (disk : Ghosts D) where
  pub taken_of : (old : Whole (LogDiskValue D)) (steps : List Step) (replies : List Reply)
      (new : Whole (LogDiskValue D)) → StepsStand disk old steps replies new
      → StepsTaken (shown_by disk) old steps replies new
  taken_of old [] [] new stand = stand
  taken_of old (step ∷ steps) (reply ∷ replies) new (mid, first, stand) =
      (mid, first.taken, taken_of mid steps replies new stand)
  taken_of old [] (reply ∷ replies) new stand = absurd stand
  taken_of old (step ∷ steps) [] new stand = absurd stand

  -- one step more
  pub stand_more : (old mid new : Whole (LogDiskValue D)) (steps : List Step) (replies : List Reply) (step : Step)
      (reply : Reply) → StepsStand disk old steps replies mid → StepStands disk mid step reply new
      → StepsStand disk old (steps ++ step ∷ []) (replies ++ reply ∷ []) new
  stand_more old mid new [] [] step reply stand this =
      let P : Whole (LogDiskValue D) → Type 0 = λ m. StepStands disk m step reply new in
      (new, subst P stand this, refl)
  stand_more old mid new (x ∷ steps) (r ∷ replies) step reply (next, first, stand) this =
      (next, first, stand_more next mid new steps replies step reply stand this)
  stand_more old mid new [] (r ∷ replies) step reply stand this = absurd stand
  stand_more old mid new (x ∷ steps) [] step reply stand this = absurd stand

  -- the step at index i was made after those before it
  pub stand_next : (old mid new : Whole (LogDiskValue D)) (steps : List Step) (i : ℕ) (step : Step)
      (replies : List Reply) (reply : Reply) → i < length steps → step ≡ get_or steps i step
      → StepsStand disk old (take i steps) replies mid → StepStands disk mid step reply new
      → StepsStand disk old (take (i + 1) steps) (replies ++ reply ∷ []) new
  stand_next old mid new steps i step replies reply below at stand this =
      let P : List Step → Type 0 = λ s. StepsStand disk old s (replies ++ reply ∷ []) new in
      let first : take (i + 1) steps ≡ take i steps ++ step ∷ [] =
      take_more steps i step below ∙ ap (λ s. take i steps ++ s ∷ []) (sym at) in
      subst P (sym first) (stand_more old mid new (take i steps) replies step reply stand this)

  -- the disk after the last step is one of these, where that before the first one is
  pub last_stands : (old : Whole (LogDiskValue D)) (steps : List Step) (replies : List Reply)
      (new : Whole (LogDiskValue D)) → Stands disk old.device → StepsStand disk old steps replies new
      → Stands disk new.device
  last_stands old [] [] new first stand =
      subst (λ (w : Whole (LogDiskValue D)). Stands disk w.device) (sym stand) first
  last_stands old (step ∷ steps) (reply ∷ replies) new first (mid, this, stand) =
      last_stands mid steps replies new this.stands stand
  last_stands old [] (reply ∷ replies) new first stand = absurd stand
  last_stands old (step ∷ steps) [] new first stand = absurd stand
