-- Loads and stores of many bytes at once, as sequences of equivalent steps.
use Rattle.std.specs.Prelude.{ℕ, ◌+◌, List, [], ◌∷◌, map}
use Rattle.machine.specs.declared.act.Act.TheVariants.{Load, Store}
use Rattle.machine.specs.declared.act.Reply.{Reply}
use Rattle.machine.specs.declared.act.Reply.TheVariants.{Bytes, Stored}
use Rattle.machine.specs.declared.act.Step.{Step}

-- Processor `p` stores these bytes from an address on, in order, with one step for each byte.
abbrev pub store_steps : ℕ → ℕ → List ℕ → List Step
store_steps p va [] = []
store_steps p va (byte ∷ bytes) = record { p = p; act = Store va (byte ∷ []) } ∷ store_steps p (va + 1) bytes

-- The replies if each byte was stored.
abbrev pub store_replies : List ℕ → List Reply
store_replies bytes = map (λ byte. Stored) bytes

-- Processor `p` loads these bytes from an address on, in order, with one step for each byte.
abbrev pub load_steps : ℕ → ℕ → List ℕ → List Step
load_steps p va [] = []
load_steps p va (byte ∷ bytes) = record { p = p; act = Load va 1 } ∷ load_steps p (va + 1) bytes

-- The replies if each byte was loaded.
abbrev pub load_replies : List ℕ → List Reply
load_replies bytes = map (λ byte. Bytes (byte ∷ [])) bytes
