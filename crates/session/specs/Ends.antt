-- Why a load or a store of a range ends early.
use Rattle.std.specs.Prelude.{ℕ, suc, ◌≡◌, ◌≢◌, ◌⊎◌, ◌+◌, ◌%◌, ◌<◌, ◌≤◌, Bool, true, false, not, if◌then◌else◌}
use Rattle.std.specs.Prelude.{List, [], ◌∷◌, ◌++◌, length, Contains}
use Rattle.page_entry.specs.declared.refusal.Refusal.TheVariants.{Fault, NoFrame}
use Rattle.machine.specs.declared.act.Act.{Act}
use Rattle.machine.specs.declared.act.Act.TheVariants.{Load, Store, Fix, Reclaim, Change, Flush}
use Rattle.machine.specs.declared.act.Reply.{Reply}
use Rattle.machine.specs.declared.act.Reply.TheVariants.{Reclaimed, Kept, Refused}
use Rattle.machine.specs.declared.act.Step.{Step}
use Rattle.session.specs.Steps.{is_for_room, is_paging, Passes, AreEach, reports_fixed, reports_flushed}

-- whether an access met a page fault
abbrev pub reports_fault : Reply → Bool
reports_fault (Refused (Fault code)) = true
reports_fault _ = false

-- whether a page left memory, so that a frame is free
abbrev pub reports_reclaimed : Reply → Bool
reports_reclaimed Reclaimed = true
reports_reclaimed _ = false

-- The `count` bytes from the address `va` on are 1 to 8 bytes of one page.
abbrev pub IsPiece : ℕ → ℕ → Type 0
IsPiece va count = (0 < count) × (count ≤ 8) × (va % 4096 + count ≤ 4096)

-- The act is an access at the address `at`, within one page. It is a store if `write` is true, and a load otherwise.
abbrev pub IsAccessFor : ℕ → Bool → Act → Type 0
IsAccessFor at write (Load va count) = (va ≡ at) × (write ≡ false) × IsPiece va count
IsAccessFor at write (Store va bytes) = (va ≡ at) × (write ≡ true) × IsPiece va (length bytes)
IsAccessFor at write _ = ⊥

-- the step with which processor p requests service of its fault at an address, with or without the right to write
abbrev pub fix_by : ℕ → ℕ → Bool → Step
fix_by p at write = record { p = p; act = Fix at write }

-- Each of these steps may free a frame.
abbrev pub AreForRoom : ℕ → List Step → List Reply → Type 0
AreForRoom p = AreEach (Passes is_for_room p)

-- whether a step is one that may free a frame, but no page left memory by it
abbrev pub is_fruitless : Act → Reply → Bool
is_fruitless Change Kept = true
is_fruitless Change reply = false
is_fruitless act reply = is_for_room act reply

abbrev pub AreFruitless : ℕ → List Step → List Reply → Type 0
AreFruitless p = AreEach (Passes is_fruitless p)

-- the number of pages that were tried since the last write-out step was made, after one more step
abbrev pub tried_after : ℕ → Act → Reply → ℕ
tried_after tried (Reclaim file page) reply = suc tried
tried_after tried Flush reply = if reports_flushed reply then 0 else tried
tried_after tried act reply = tried

abbrev pub tried_in : ℕ → List Step → List Reply → ℕ
tried_in tried (step ∷ steps) (reply ∷ replies) = tried_in (tried_after tried step.act reply) steps replies
tried_in tried steps replies = tried

-- whether the last write-out step that was requested wasn't made, after one more step
abbrev pub is_written_after : Bool → Act → Reply → Bool
is_written_after before Flush reply = not (reports_flushed reply)
is_written_after before act reply = before

abbrev pub is_written_in : Bool → List Step → List Reply → Bool
is_written_in before (step ∷ steps) (reply ∷ replies) =
    is_written_in (is_written_after before step.act reply) steps replies
is_written_in before steps replies = before

-- The steps free a frame (`true`), or free none (`false`). If they free none, the last write-out step that was
-- requested wasn't made. At least `all` pages were then tried since the last write-out step that was made. Pages are
-- tried in turn, so these are all pages.
abbrev pub MakesRoom : ℕ → Bool → ℕ → List Step → List Reply → Type 0
MakesRoom p true all steps replies = AreForRoom p steps replies × Contains replies Reclaimed
MakesRoom p false all steps replies = AreFruitless p steps replies
    × (all ≤ tried_in 0 steps replies) × (is_written_in false steps replies ≡ true)

-- After a frame was freed, the fault is tried once more, and this is the reply.
pub record TriesAgain (p at : ℕ) (write : Bool) (answer : Reply) (steps : List Step) (replies : List Reply)
    : Type 0 where
  pub room : List Step
  pub made : List Reply
  pub makes : MakesRoom p true 0 room made
  pub steps_are : steps ≡ room ++ fix_by p at write ∷ []
  pub replies_are : replies ≡ made ++ answer ∷ []

-- A fault isn't served, and `answer` is the reply to the last attempt. There is a second attempt only if the first one
-- found no free frame, and then a frame became free. There are `all` pages.
abbrev pub IsUnserved : ℕ → ℕ → Bool → Reply → ℕ → List Step → List Reply → Type 0
IsUnserved p at write answer all (step ∷ steps) (reply ∷ replies) =
    (step ≡ fix_by p at write) × (reports_fixed answer ≡ false)
    × (((reply ≡ answer) × (answer ≢ Refused NoFrame) × (steps ≡ []) × (replies ≡ []))
    ⊎ ((reply ≡ Refused NoFrame) × (answer ≡ Refused NoFrame) × MakesRoom p false all steps replies)
    ⊎ ((reply ≡ Refused NoFrame) × TriesAgain p at write answer steps replies))
IsUnserved p at write answer all steps replies = ⊥

-- The last access of these steps is by processor p at the address `at`, and isn't made. If it met no fault, its reply
-- is the answer. If it met a fault that isn't served, the answer is the reply to the last attempt to serve the fault.
abbrev pub EndsRange : ℕ → ℕ → Bool → Reply → ℕ → List Step → List Reply → Type 0
EndsRange p at write answer all (step ∷ steps) (reply ∷ replies) =
    EndsRange p at write answer all steps replies
    ⊎ ((step.p ≡ p) × IsAccessFor at write step.act × (is_paging step.act reply ≡ true) × (reply ≡ answer)
    × (reports_fault answer ≡ false) × (steps ≡ []) × (replies ≡ []))
    ⊎ ((step.p ≡ p) × IsAccessFor at write step.act × (reports_fault reply ≡ true)
    × IsUnserved p at write answer all steps replies)
EndsRange p at write answer all steps replies = ⊥
