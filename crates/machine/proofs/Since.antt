-- What a crash leaves since some machine of a run.
use Rattle.machine.proofs.Names.{ℕ, zero, suc, ◌≤◌, ◌⊎◌, List, [], ◌∷◌, subst, arith}
use Rattle.machine.proofs.Names.{Ghosts, File, Reply, Step, Whole, Observed, observe}
use Rattle.machine.proofs.Names.{StepsTaken, StepIsSafe, Refines, ReadsBack}
use Rattle.std.proofs.Common.{inl, inr}
use Rattle.machine.specs.Laws.{ReadsBackSince}
use Rattle.machine.proofs.durable.ReadsBack.{reads_now}
use Rattle.machine.proofs.durable.Steps.{refines_kept, step_safe}

module _ {D : Type 0} (disk : Ghosts D) (files : List File) where
  abbrev RefinesAt : Observed → Whole D → Type 0
  RefinesAt observed w = Refines files observed w.state (disk.seen w.device) (disk.may_leave w.device)

  -- now
  pub reads_then : (observed : Observed) (now : Whole D) → RefinesAt observed now → (c : List ℕ)
      → disk.may_leave now.device c
      → ReadsBack files observed.history c
  reads_then observed now t c left =
      reads_now files observed now.state (disk.seen now.device) (disk.may_leave now.device)
      t.sound t.files_are t.durable c left

  -- since a moment no later than that of the first machine: before it, or by what is observed by then
  since : (observed : Observed) (old : Whole D) (steps : List Step) (replies : List Reply)
      (last : Whole D) (t : ℕ) (c : List ℕ)
      → RefinesAt observed old → disk.is_honest old.device → StepsTaken disk old steps replies last
      → t ≤ disk.moment old.device → disk.left_since last.device t c
      → disk.left_since old.device t c ⊎ ReadsBackSince files observed steps replies c
  since observed old [] [] last t c refines honest taken le left =
      inl (subst (λ (w : Whole D). disk.left_since w.device t c) taken left)
  since observed old (step ∷ steps) (reply ∷ replies) last t c refines honest (mid, here, rest) le left =
      from_mid (since (observe observed step reply) mid steps replies last t c
      (refines_kept disk files observed old step reply mid
      refines here honest) (here.honest.1 honest) rest (omega (arith, le, safe.within.later)) left)
    where
      safe : StepIsSafe disk files observed old step reply mid
      safe = step_safe disk files observed old step reply mid refines here honest

      from_old : disk.left_since old.device t c ⊎ ReadsBack files observed.history c
          → disk.left_since old.device t c ⊎ ReadsBackSince files observed (step ∷ steps) (reply ∷ replies) c
      from_old (inl earlier) = inl earlier
      from_old (inr back) = inr (zero, back)

      from_mid : disk.left_since mid.device t c ⊎ ReadsBackSince files (observe observed step reply) steps replies c
          → disk.left_since old.device t c ⊎ ReadsBackSince files observed (step ∷ steps) (reply ∷ replies) c
      from_mid (inl earlier) = from_old (safe.within.before t c le earlier)
      from_mid (inr (n, back)) = inr (suc n, back)
  since observed old [] (reply ∷ replies) last t c refines honest taken le left = absurd taken
  since observed old (step ∷ steps) [] last t c refines honest taken le left = absurd taken

  pub since_then : ((d : D) (c : List ℕ) → disk.left_since d (disk.moment d) c → disk.may_leave d c)
      → (observed : Observed) (old : Whole D) (steps : List Step) (replies : List Reply) (last : Whole D) (c : List ℕ)
      → RefinesAt observed old → disk.is_honest old.device
      → StepsTaken disk old steps replies last → disk.left_since last.device (disk.moment old.device) c
      → ReadsBackSince files observed steps replies c
  since_then now observed old steps replies last c refines honest taken left =
      from_old
      (since observed old steps replies last (disk.moment old.device) c refines honest taken (omega (arith)) left)
    where
      from_old : disk.left_since old.device (disk.moment old.device) c ⊎ ReadsBackSince files observed steps replies c
          → ReadsBackSince files observed steps replies c
      from_old (inl left) = (zero, reads_then observed old refines c (now old.device c left))
      from_old (inr back) = back
