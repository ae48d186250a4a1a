use Rattle.machine.proofs.Names.{ℕ, List, [], ◌∷◌, subst, Ghosts, Step, Act, Reply}
use Rattle.machine.proofs.Names.{State, Whole, Acts, ServesNext, FaultsAreServed}
use Rattle.machine.specs.declared.act.Act.TheVariants as acts
use Rattle.machine.specs.declared.act.Reply.TheVariants as replies
use Rattle.machine.specs.Runs.{StepsTaken}
use Rattle.machine.proofs.refining.Lawful.{access_answers}
use Rattle.machine.proofs.laws.faults_are_served.Goals as goal

module _ {D : Type 0} (disk : Ghosts D) where
  serves_next : (s : State) (d d' : List ℕ) (p : ℕ) (act : Act) (reply : Reply) (mid new : Whole D)
      (steps : List Step) (rest : List Reply)
      → Acts s d p act reply mid.state d' → StepsTaken disk mid steps rest new → ServesNext p act reply steps rest
  serves_next s d d' p (acts.Fix va write) replies.Fixed mid new (next ∷ steps) (reply ∷ rest) rule run =
      λ same access.
      let here = run.1.answered in
      access_answers s d p va write mid.state here.0 next.act reply run.0.state here.1 rule.0 access
      (subst (λ q. Acts mid.state here.0 q next.act reply run.0.state here.1) same here.2)
  serves_next s d d' p act reply mid new steps rest rule run = tt

  each_served : (old new : Whole D) (steps : List Step) (rest : List Reply) → StepsTaken disk old steps rest new
      → FaultsAreServed steps rest
  each_served old new [] rest run = tt
  each_served old new (step ∷ steps) [] run = tt
  each_served old new (step ∷ steps) (reply ∷ rest) run =
      let here = run.1.answered in (
        serves_next old.state here.0 here.1 step.p step.act reply run.0 new steps rest here.2 run.2,
        each_served run.0 new steps rest run.2,
      )

pub returns : goal.returns
returns g c = λ old new steps replies run. each_served g.D.Device old new steps replies run
