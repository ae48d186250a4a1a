-- Loads and stores of ranges of bytes.
use Rattle.std.specs.Prelude.{ℕ, ◌<◌, ◌≤◌, true, false, List, take, length}
use Rattle.device.specs.declared.device.Device.{Ghosts}
use Rattle.machine.specs.declared.act.Reply.{Reply}
use Rattle.machine.specs.declared.act.Step.{Step}
use Rattle.machine.specs.State.{Whole}
use Rattle.session.specs.declared.notes.Notes.{Notes}
use Rattle.session.specs.declared.ranges.Reached.{Reached}
use Rattle.session.specs.declared.ranges.Reached.TheVariants.{All, Refused, NoMemory}
use Rattle.session.specs.Ends.{EndsRange}
use Rattle.session.specs.Steps.{Makes, behind, AreLoads, AreStores}

-- The `count` bytes from the address `va` on are loaded, and these are the bytes.
abbrev pub LoadsRange : ℕ → ℕ → ℕ → List ℕ → List Step → List Reply → Type 0
LoadsRange p va count bytes steps replies = AreLoads p va 0 count steps replies bytes

-- How far the load of a range reached. `All`: all `count` bytes are loaded. `Refused`: fewer bytes are loaded, and
-- `reply` ends the range at the next byte (`EndsRange`). `NoMemory`: memory is refused after at most `count` bytes.
-- There are `all` pages.
abbrev pub LoadsReached : ℕ → ℕ → ℕ → List ℕ → Reached → ℕ → List Step → List Reply → Type 0
LoadsReached p va count bytes All all steps replies = LoadsRange p va count bytes steps replies
LoadsReached p va count bytes (Refused reached reply) all steps replies =
    (reached < count) × LoadsRange p va reached bytes steps replies
    × EndsRange p (behind va reached) false reply all steps replies
LoadsReached p va count bytes NoMemory all steps replies =
    (reached : ℕ) × (some : List ℕ) × (reached ≤ count) × LoadsRange p va reached some steps replies

-- These bytes are stored from the address `va` on.
abbrev pub StoresRange : ℕ → ℕ → List ℕ → List Step → List Reply → Type 0
StoresRange p va bytes steps replies = AreStores p va 0 steps replies bytes

-- How far the store of a range reached. `All`: all bytes are stored. `Refused`: fewer bytes are stored, and `reply`
-- ends the range at the next byte (`EndsRange`). `NoMemory` is impossible, because a store needs no memory.
abbrev pub StoresReached : ℕ → ℕ → List ℕ → Reached → ℕ → List Step → List Reply → Type 0
StoresReached p va bytes All all steps replies = StoresRange p va bytes steps replies
StoresReached p va bytes (Refused reached reply) all steps replies =
    (reached < length bytes) × StoresRange p va (take reached bytes) steps replies
    × EndsRange p (behind va reached) true reply all steps replies
StoresReached p va bytes NoMemory all steps replies = ⊥

-- Steps that satisfy `what` are made.
pub record MakesStepsThat {D : Type 0} (disk : Ghosts D) (old : Whole D) (before : Notes)
    (what : List Step → List Reply → Type 0) (new : Whole D) (after : Notes) : Type 0 where
  pub steps : List Step
  pub replies : List Reply
  pub makes : Makes disk old before steps replies new after
  pub holds : what steps replies
