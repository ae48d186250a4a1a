-- The laws hold that a run reached: each step of a tracked machine keeps it tracked.
use Rattle.machine.proofs.Names.{ℕ, ◌≡◌, List, [], ◌∷◌, ◌++◌, refl, sym, ap, subst}
use Rattle.machine.proofs.Names.{State, AreLengths, Ghosts, File, Act, Reply, Step, Whole}
use Rattle.machine.proofs.Names.{Observed, observe, observe_all, EachStep}
use Rattle.machine.proofs.Names.{IsLawful, observed_first, StepTaken, StepsTaken}
use Rattle.machine.proofs.Names.{Follows, Begins, StepIsSafe, Throughout, Refines, append-nil}
use Rattle.machine.proofs.Names.{append_assoc, IsReached}
use Rattle.machine.proofs.sound.AtBoot.{fresh_sound, lengths_within}
use Rattle.machine.proofs.durable.Steps.{refines_kept, step_safe}
use Rattle.machine.proofs.durable.AtStart.{durable_at_start, arranged_at_start, pages_at_start, files_at_start}
use Rattle.machine.proofs.refining.Lawful.{lawful}

-- ---- lists of steps and replies, one longer

module _ {D : Type 0} (Safe : Observed → Whole D → Step → Reply → Whole D → Type 0) where
  abbrev Through : Observed → Whole D → List Step → List Reply → Whole D → Type 0
  Through = Throughout Safe

  -- one step more is observed last
  pub observe_more : (observed : Observed) (old : Whole D) (steps : List Step) (replies : List Reply)
      (now : Whole D) (step : Step)
      (reply : Reply) → Through observed old steps replies now
      → observe_all observed (steps ++ step ∷ []) (replies ++ reply ∷ [])
      ≡ observe (observe_all observed steps replies) step reply
  observe_more observed old [] [] now step reply run = refl
  observe_more observed old (first ∷ steps) (answer ∷ replies) now step reply run =
      observe_more (observe observed first answer) run.0 steps replies now step reply run.2
  observe_more observed old steps replies now step reply run = absurd run

  pub through_more : (observed : Observed) (old : Whole D) (steps : List Step) (replies : List Reply) (now : Whole D)
      (step : Step) (reply : Reply) (new : Whole D) → Through observed old steps replies now
      → Safe (observe_all observed steps replies) now step reply new
      → Through observed old (steps ++ step ∷ []) (replies ++ reply ∷ []) new
  through_more observed old [] [] now step reply new run safe =
      (new, subst (λ (x : Whole D). Safe observed x step reply new) run safe, refl)
  through_more observed old (first ∷ steps) (answer ∷ replies) now step reply new run safe =
      (run.0, run.1, through_more (observe observed first answer) run.0 steps replies now step reply new run.2 safe)
  through_more observed old steps replies now step reply new run safe = absurd run

  pub each_more : (P : Observed → ℕ → Act → Reply → Type 0) (observed : Observed) (old : Whole D) (steps : List Step)
      (replies : List Reply) (now : Whole D) (step : Step) (reply : Reply) → Through observed old steps replies now
      → EachStep P observed steps replies
      → P (observe_all observed steps replies) step.p step.act reply
      → EachStep P observed (steps ++ step ∷ []) (replies ++ reply ∷ [])
  each_more P observed old [] [] now step reply run each here = (here, tt)
  each_more P observed old (first ∷ steps) (answer ∷ replies) now step reply run each here =
      (each.0, each_more P (observe observed first answer) run.0 steps replies now step reply run.2 each.1 here)
  each_more P observed old steps replies now step reply run each here = absurd run

-- ---- runs

module _ {D : Type 0} (disk : Ghosts D) (files : List File) (start : Whole D) where
  -- they hold of no steps
  pub follows_first : Begins disk files start → Follows disk files start [] [] start
  follows_first begins =
      let s = start.state in
      let are : AreLengths s.table s.lengths = subst (AreLengths s.table) (sym begins.lengths_are) begins.fit.are in
      let sound = fresh_sound s begins.fresh begins.volume.super_block.fits are.count
      (lengths_within s.table.files s.lengths are.count are.within) in
      let has = files_at_start files s (disk.seen start.device) sound
      (ap (λ (x : State). x.resized) begins.fresh.as_booted) begins.volume begins.files_are begins.lengths_are in
      record {
        begins = begins;
        honest = begins.honest;
        through = refl;
        lawful = tt;
        refines = record {
          sound = sound;
          arranged = arranged_at_start files s begins.fresh has;
          pages = pages_at_start files s begins.fresh has;
          durable = durable_at_start disk files start sound begins;
        };
      }

  -- and a step leads on
  pub follows_more : (steps : List Step) (replies : List Reply) (now : Whole D) (step : Step) (reply : Reply)
      (new : Whole D) → Follows disk files start steps replies now
      → StepTaken disk now step reply new → Follows disk files start (steps ++ step ∷ []) (replies ++ reply ∷ []) new
  follows_more steps replies now step reply new on taken =
      let first = observed_first files start.state in
      let observed = observe_all first steps replies in
      let t = refines_kept disk files observed now step reply new on.refines taken on.honest in
      record {
        begins = on.begins;
        honest = taken.honest.1 on.honest;
        through = through_more (StepIsSafe disk files) first start steps replies now step reply new on.through
            (step_safe disk files observed now step reply new on.refines taken on.honest);
        lawful = each_more (StepIsSafe disk files) (IsLawful files) first start steps replies now step reply on.through
            on.lawful (lawful files observed now.state (disk.seen now.device) step.p step.act reply new.state (disk.seen
            new.device) on.refines.sound on.refines.arranged on.refines.latest (taken.made on.honest).answered);
        refines = subst (λ (x : Observed). Refines files x new.state (disk.seen new.device) (disk.may_leave new.device))
            (sym (observe_more (StepIsSafe disk files) first start steps replies now step reply on.through)) t;
      }

-- ---- the laws hold that a run reached

abbrev On : {D : Type 0} → Ghosts D → List File → Whole D → List Step → List Reply → Whole D → Type 0
On disk = Follows disk

pub follows_all : {D : Type 0} → (disk : Ghosts D) (files : List File) (start : Whole D) (earlier : List Step)
    (observed : List Reply) (old : Whole D) (steps : List Step) (replies : List Reply) (new : Whole D)
    → On disk files start earlier observed old
    → StepsTaken disk old steps replies new → On disk files start (earlier ++ steps) (observed ++ replies) new
follows_all {D} disk files start earlier observed old [] [] new on taken = rw (append-nil earlier, append-nil observed)
    (subst (λ (x : Whole D). On disk files start earlier observed x) (sym taken) on)
follows_all disk files start earlier observed old (step ∷ steps) (reply ∷ replies) new on (mid, here, rest) =
    let next = follows_more disk files start earlier observed old step reply mid on here in
    rw (sym (append_assoc earlier (step ∷ []) steps), sym (append_assoc observed (reply ∷ []) replies))
    (follows_all disk files start (earlier ++ step ∷ []) (observed ++ reply ∷ []) mid steps replies new next rest)
follows_all disk files start earlier observed old steps replies new on taken = absurd taken

-- what is that a run reached follows from its start
pub follows : {D : Type 0} (disk : Ghosts D) (files : List File) (start : Whole D) (steps : List Step)
    (replies : List Reply) (now : Whole D) → IsReached disk files start steps replies now
    → On disk files start steps replies now
follows disk files start steps replies now on =
    follows_all disk files start [] [] start steps replies now (follows_first disk files start on.begins) on.taken
