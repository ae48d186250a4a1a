-- The steps that a request makes, and their replies.
use Rattle.std.specs.Prelude.{ℕ, ◌≡◌, ◌≢◌, ◌⊎◌, ◌+◌, ◌-◌, ◌^◌, min, Bool, true}
use Rattle.std.specs.Prelude.{false, ⊤, List, [], ◌∷◌, ◌++◌, length}
use Rattle.device.specs.declared.device.Device.{Ghosts}
use Rattle.machine.specs.declared.act.Act.{Act}
use Rattle.machine.specs.declared.act.Act.TheVariants.{Load, Store, Fix, Reclaim, Msync, Ack, Change, Resume, Flush}
use Rattle.machine.specs.declared.act.Reply.{Reply}
use Rattle.machine.specs.declared.act.Reply.TheVariants.{Bytes, Stored, Fixed, Reclaimed, Kept, Marked, Acked, Resumed}
use Rattle.machine.specs.declared.act.Reply.TheVariants.{Going, Committed, Done}
use Rattle.machine.specs.declared.act.Step.{Step}
use Rattle.machine.specs.State.{Whole}
use Rattle.machine.specs.Runs.{StepsTaken}
use Rattle.session.specs.declared.notes.Notes.{Notes}
use Rattle.session.specs.Notes.{noted_all}

-- These steps lead from the machine `old` to the machine `new`, with these replies. The notes after them are `after`.
pub record Makes {D : Type 0} (disk : Ghosts D) (old : Whole D) (before : Notes) (steps : List Step)
    (replies : List Reply) (new : Whole D) (after : Notes) : Type 0 where
  pub taken : StepsTaken disk old steps replies new
  pub notes : after ≡ noted_all before replies

-- whether a write-out step was made
abbrev pub reports_flushed : Reply → Bool
reports_flushed Going = true
reports_flushed (Committed number) = true
reports_flushed (Done number) = true
reports_flushed _ = false

-- whether a page left memory, or was kept there
abbrev pub reports_reclaim : Reply → Bool
reports_reclaim Reclaimed = true
reports_reclaim Kept = true
reports_reclaim _ = false

-- Processor `maker` makes this act for an operation of processor p. The processors that a change of p interrupts stall
-- before it and resume after it, and they differ from p. Every other act is p's own.
abbrev pub IsMadeFor : ℕ → ℕ → Act → Type 0
IsMadeFor p maker Ack = maker ≢ p
IsMadeFor p maker Resume = maker ≢ p
IsMadeFor p maker act = maker ≡ p

-- Whether the step may free a frame: it is part of an attempt to take a page out of memory, or a write-out step. Other
-- processors stall before the change of the page, and resume after it. If such a change is begun, it is made among the
-- same steps. The reason: it holds the lock until it is made, and a request leaves the lock unchanged (`KeepsPhases`).
abbrev pub is_for_room : Act → Reply → Bool
is_for_room (Reclaim file page) reply = true
is_for_room Ack Acked = true
is_for_room Change reply = reports_reclaim reply
is_for_room Resume Resumed = true
is_for_room Flush reply = true
is_for_room act reply = false

-- Whether the step loads and stores nothing: a load or a store that isn't made, or a step that makes one possible. It
-- changes no mapping and no length, and makes no mark.
abbrev pub is_paging : Act → Reply → Bool
is_paging (Load va count) (Bytes bytes) = false
is_paging (Load va count) reply = true
is_paging (Store va bytes) Stored = false
is_paging (Store va bytes) reply = true
is_paging (Fix va write) reply = true
is_paging act reply = is_for_room act reply

-- whether a mark was made
abbrev pub reports_mark : Reply → Bool
reports_mark (Marked number) = true
reports_mark _ = false

-- Whether the step is part of a commit: it begins a mark, makes it, or is needed for both. It loads and stores nothing.
abbrev pub is_of_commit : Act → Reply → Bool
is_of_commit (Msync va len flags) reply = true
is_of_commit Change reply = reports_mark reply
is_of_commit act reply = is_paging act reply

-- The step passes the test of its act and reply, and is part of an operation of processor p.
abbrev pub Passes : (Act → Reply → Bool) → ℕ → Step → Reply → Type 0
Passes test p step reply = (test step.act reply ≡ true) × IsMadeFor p step.p step.act

-- `Is` holds of each of these steps and its reply.
abbrev pub AreEach : (Step → Reply → Type 0) → List Step → List Reply → Type 0
AreEach Is [] [] = ⊤
AreEach Is (step ∷ steps) (reply ∷ replies) = Is step reply × AreEach Is steps replies
AreEach Is steps replies = ⊥

-- The step is part of an operation of processor p, and loads and stores nothing.
abbrev pub IsPaging : ℕ → Step → Reply → Type 0
IsPaging = Passes is_paging

abbrev pub ArePaging : ℕ → List Step → List Reply → Type 0
ArePaging p = AreEach (IsPaging p)

-- Each of these steps is part of a commit by processor p.
abbrev pub AreOfCommit : ℕ → List Step → List Reply → Type 0
AreOfCommit p = AreEach (Passes is_of_commit p)

-- the address `count` bytes after another one, but at most 2 ^ 64 - 1
abbrev pub behind : ℕ → ℕ → ℕ
behind va count = min (va + count) (2 ^ 64 - 1)

-- whether a fault was served
abbrev pub reports_fixed : Reply → Bool
reports_fixed Fixed = true
reports_fixed _ = false

-- Processor p loads the bytes between the offsets `from` and `to` of a range, piece by piece and in order. The range
-- begins at the address `va`. `bytes` are the bytes in the replies to these loads. The other steps load and store
-- nothing.
abbrev pub AreLoads : ℕ → ℕ → ℕ → ℕ → List Step → List Reply → List ℕ → Type 0
AreLoads p va from to [] [] bytes = (from ≡ to) × (bytes ≡ [])
AreLoads p va from to (step ∷ steps) (reply ∷ replies) bytes =
    (IsPaging p step reply × AreLoads p va from to steps replies bytes)
    ⊎ ((count : ℕ) × (few rest : List ℕ) × (step ≡ record { p = p; act = Load (behind va from) count })
    × (reply ≡ Bytes few) × (bytes ≡ few ++ rest) × AreLoads p va (from + count) to steps replies rest)
AreLoads p va from to steps replies bytes = ⊥

-- Processor p stores these bytes into a range, from the offset `from` on, piece by piece and in order. The range begins
-- at the address `va`. The other steps load and store nothing.
abbrev pub AreStores : ℕ → ℕ → ℕ → List Step → List Reply → List ℕ → Type 0
AreStores p va from [] [] bytes = bytes ≡ []
AreStores p va from (step ∷ steps) (reply ∷ replies) bytes =
    (IsPaging p step reply × AreStores p va from steps replies bytes)
    ⊎ ((few rest : List ℕ) × (step ≡ record { p = p; act = Store (behind va from) few })
    × (reply ≡ Stored) × (bytes ≡ few ++ rest) × AreStores p va (from + length few) steps replies rest)
AreStores p va from steps replies bytes = ⊥
