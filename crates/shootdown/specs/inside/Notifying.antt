-- How the code begins a change. It sets the states first. Then it notifies the processors of one invalidation after the
-- other.
use Rattle.std.specs.Prelude.{ℕ, ◌+◌, ◌==◌, List, [], ◌∷◌, if◌then◌else◌}
use Rattle.spaces.specs.declared.change.Change.{Change}
use Rattle.spaces.specs.Spaces.{Spaces}
use Rattle.spaces.specs.Changes.{touches}
use Rattle.shootdown.specs.declared.proc_state.ProcState.{ProcState}
use Rattle.shootdown.specs.declared.proc_state.ProcState.TheVariants.{Initiating}
use Rattle.shootdown.specs.Processors.{Processor}
use Rattle.shootdown.specs.Shootdown.{state_when_begun}

-- `f` is applied to each processor and its number, counted from i on.
abbrev pub each_from : (ℕ → Processor → Processor) → ℕ → List Processor → List Processor
each_from f i [] = []
each_from f i (x ∷ xs) = f i x ∷ each_from f (i + 1) xs

-- the state of the processor with number i, when processor p begins a change
abbrev pub state_begun : ℕ → Spaces → Change → ℕ → Processor → ProcState
state_begun p spaces change i x =
    if i == p then Initiating else state_when_begun (touches spaces change x.space) x.state

-- the processors after their states are set
abbrev pub interrupted_by : ℕ → Spaces → Change → List Processor → List Processor
interrupted_by p spaces change xs = each_from (λ i x. record x { state = state_begun p spaces change i x }) 0 xs
