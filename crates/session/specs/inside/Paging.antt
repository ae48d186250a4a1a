-- Steps that load and store nothing.
use Rattle.std.specs.Prelude.{ℕ, ◌≡◌, ◌+◌, Bool, List, [], ◌∷◌, ◌++◌}
use Rattle.machine.specs.declared.act.Reply.{Reply}
use Rattle.machine.specs.declared.act.Reply.TheVariants.{Fixed}
use Rattle.machine.specs.declared.act.Step.{Step}
use Rattle.session.specs.Ends.{fix_by, IsUnserved, EndsRange}
use Rattle.session.specs.Steps.{ArePaging, AreLoads}

-- The last of these steps is `step`, with this reply. The others load and store nothing.
pub record EndsBy (step : Step) (reply : Reply) (steps : List Step) (replies : List Reply) : Type 0 where
  pub front : List Step
  pub replied : List Reply
  pub paging : ArePaging step.p front replied
  pub steps_are : steps ≡ front ++ step ∷ []
  pub replies_are : replies ≡ replied ++ reply ∷ []

-- The last of these steps serves a fault of processor p at the address `va`. The others load and store nothing.
abbrev pub Serves : ℕ → ℕ → Bool → List Step → List Reply → Type 0
Serves p va write steps replies = EndsBy (fix_by p va write) Fixed steps replies

-- The fault isn't served, and the steps load and store nothing.
abbrev pub IsUnservedPaging : ℕ → ℕ → Bool → Reply → ℕ → List Step → List Reply → Type 0
IsUnservedPaging p at write answer all steps replies =
    ArePaging p steps replies × IsUnserved p at write answer all steps replies

-- The steps load and store nothing. They end a range at the address `at`, with this reply.
abbrev pub StopsAt : ℕ → ℕ → Bool → Reply → ℕ → List Step → List Reply → Type 0
StopsAt p at write reply all steps replies = ArePaging p steps replies × EndsRange p at write reply all steps replies

-- `more` bytes of a range are loaded from the offset `done` on. They are appended to the bytes `old`.
abbrev pub LoadsOn : ℕ → ℕ → ℕ → ℕ → List ℕ → List ℕ → List Step → List Reply → Type 0
LoadsOn p va done more old new steps replies =
    (bytes : List ℕ) × AreLoads p va done (done + more) steps replies bytes × (new ≡ old ++ bytes)
