-- Steps of each of which something holds.
use Rattle.std.proofs.Common.{◌≢◌, ℕ, List, [], ◌∷◌, ◌++◌, refl, sym, subst}
use Rattle.machine.specs.declared.act.Act.TheVariants as acts
use Rattle.machine.specs.declared.act.Reply.{Reply}
use Rattle.machine.specs.declared.act.Reply.TheVariants as replies
use Rattle.machine.specs.declared.act.Step.{Step}
use Rattle.session.specs.Lengths.{AreOthers, change_steps, change_replies}
use Rattle.session.specs.Steps.{AreEach}
use Rattle.session.specs.inside.Paging.{EndsBy}

-- one after the other
pub each_then : (Is : Step → Reply → Type 0) (steps : List Step) (replied : List Reply) (later : List Step)
    (more : List Reply) → AreEach Is steps replied → AreEach Is later more
    → AreEach Is (steps ++ later) (replied ++ more)
each_then Is [] [] later more first rest = rest
each_then Is (step ∷ steps) (reply ∷ replied) later more (is, first) rest =
    (is, each_then Is steps replied later more first rest)
each_then Is [] (reply ∷ replied) later more first rest = absurd first
each_then Is (step ∷ steps) [] later more first rest = absurd first

-- what holds of each by what does already
pub each_so : (Is So : Step → Reply → Type 0) → ((step : Step) (reply : Reply) → Is step reply → So step reply)
    → (steps : List Step) (replied : List Reply) → AreEach Is steps replied → AreEach So steps replied
each_so Is So so [] [] are = tt
each_so Is So so (step ∷ steps) (reply ∷ replied) (is, more) = (so step reply is, each_so Is So so steps replied more)
each_so Is So so [] (reply ∷ replied) are = absurd are
each_so Is So so (step ∷ steps) [] are = absurd are

-- the steps of a change by processor p
pub each_of_change : (Is : Step → Reply → Type 0) (p : ℕ) (answer : Reply) (others : List ℕ) → AreOthers p others
    → Is (record { p = p; act = acts.Change }) answer
    → ((other : ℕ) → other ≢ p → Is (record { p = other; act = acts.Ack }) replies.Acked)
    → ((other : ℕ) → other ≢ p → Is (record { p = other; act = acts.Resume }) replies.Resumed)
    → AreEach Is (change_steps p others) (change_replies answer others)
each_of_change Is p answer [] differ made stall resume = (made, tt)
each_of_change Is p answer (other ∷ others) differ made stall resume = (
  stall other differ.0,
  each_then Is (change_steps p others) (change_replies answer others) (record { p = other; act = acts.Resume } ∷ [])
      (replies.Resumed ∷ []) (each_of_change Is p answer others differ.1 made stall resume) (resume other differ.0, tt),
)

-- ---- the last of the steps

pub ends_one : (step : Step) (reply : Reply) → EndsBy step reply (step ∷ []) (reply ∷ [])
ends_one step reply = record { front = []; replied = []; paging = tt; steps_are = refl; replies_are = refl }

-- what holds of steps that end by one
pub ended_by : (P : List Step → List Reply → Type 0) (step : Step) (reply : Reply) (steps : List Step)
    (replies : List Reply) → (it : EndsBy step reply steps replies)
    → P (it.front ++ step ∷ []) (it.replied ++ reply ∷ []) → P steps replies
ended_by P step reply steps replies it holds = subst (P steps) (sym it.replies_are)
    (subst (λ (l : List Step). P l (it.replied ++ reply ∷ [])) (sym it.steps_are) holds)
