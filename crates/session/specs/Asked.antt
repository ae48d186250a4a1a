-- The request that was read from a line, and the steps that may be made for it.
use Rattle.std.specs.Prelude.{ℕ, ◌≡◌, ◌⊎◌, List, [], take, Some}
use Rattle.machine.specs.declared.act.Reply.{Reply}
use Rattle.machine.specs.declared.act.Step.{Step}
use Rattle.session.specs.declared.ranges.Reached.{Reached}
use Rattle.session.specs.declared.request.Request.{Request}
use Rattle.session.specs.declared.request.Request.TheVariants.{Steps, Load, Store, Commit, SetLength}
use Rattle.session.specs.declared.request_fault.RequestFault.{RequestFault}
use Rattle.session.specs.declared.request_fault.RequestFault.TheVariants as fault
use Rattle.session.specs.Ranges.{LoadsReached, StoresReached}
use Rattle.session.specs.Requests.{Asked, asks_steps, asks_load, asks_store, asks_commit, asks_length, request_in}
use Rattle.session.specs.Lengths.{AnswersLength}
use Rattle.session.specs.Steps.{AreOfCommit}

abbrev pub asked : {A : Type 0} → Request A → Asked
asked (Steps steps) = asks_steps steps.items
asked (Load p va count) = asks_load p va count
asked (Store p va bytes) = asks_store p va bytes.items
asked (Commit p) = asks_commit p
asked (SetLength p file length) = asks_length p file length

-- The fault is a lack of memory.
abbrev pub IsMemory : RequestFault → Type 0
IsMemory (fault.Memory cause) = Unit {0}
IsMemory (fault.Long most) = ⊥
IsMemory fault.NotUtf8 = ⊥
IsMemory (fault.NotJson cause) = ⊥
IsMemory fault.NotAList = ⊥
IsMemory fault.Empty = ⊥
IsMemory (fault.Step cause) = ⊥
IsMemory (fault.Steps number found cause) = ⊥
IsMemory (fault.Bytes most) = ⊥

-- The steps are the first of the requested steps.
abbrev pub AreFirst : List Step → List Step → List Reply → Type 0
AreFirst wanted steps replies = (count : ℕ) × (steps ≡ take count wanted)

-- All these steps are made for the request. They are the first of the requested steps, or the steps of a range as far
-- as it reached. Or they are the steps of a commit or of a new length.
abbrev pub IsDoneFor : Asked → List Step → List Reply → Type 0
IsDoneFor (asks_steps wanted) steps replies = AreFirst wanted steps replies
IsDoneFor (asks_load p va count) steps replies =
    (all : ℕ) × (bytes : List ℕ) × (reached : Reached) × LoadsReached p va count bytes reached all steps replies
IsDoneFor (asks_store p va bytes) steps replies =
    (all : ℕ) × (reached : Reached) × StoresReached p va bytes reached all steps replies
IsDoneFor (asks_commit p) steps replies = AreOfCommit p steps replies
IsDoneFor (asks_length p file length) steps replies =
    (all : ℕ) × (reply : Reply) × AnswersLength p file length reply all steps replies

-- No step is made for the line, or all these steps are made for the request in it.
abbrev pub IsServedFor : List ℕ → List Step → List Reply → Type 0
IsServedFor line steps replies = ((steps ≡ []) × (replies ≡ []))
    ⊎ ((what : Asked) × (request_in line ≡ Some what) × IsDoneFor what steps replies)
