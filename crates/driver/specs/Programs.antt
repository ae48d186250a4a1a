-- How a processor executes the program of its thread. Each statement is about what that thread sees: its calls with
-- their replies, and the last mark that it sees committed.
use Rattle.std.specs.Prelude.{ℕ, ⊤, ◌≡◌, ◌≢◌, ◌≤◌, ◌==◌, ◌||◌, ◌⊎◌, Bool, true, false, if◌then◌else◌, bit_and}
use Rattle.std.specs.Prelude.{◌<◌, List, [], ◌∷◌, ◌++◌, All, length, map, slice_get, Option, Some, None}
use Rattle.page_entry.specs.declared.refusal.Refusal.{Refusal}
use Rattle.page_entry.specs.declared.refusal.Refusal.TheVariants as refusals
use Rattle.machine.specs.declared.act.Access.{Access}
use Rattle.machine.specs.declared.act.Access.TheVariants as accesses
use Rattle.machine.specs.declared.act.Act.{Act}
use Rattle.machine.specs.declared.act.Act.TheVariants as acts
use Rattle.machine.specs.declared.act.Reply.{Reply}
use Rattle.machine.specs.declared.act.Reply.TheVariants as replies
use Rattle.machine.specs.declared.act.Step.{Step}
use Rattle.machine.specs.Accesses.{access_of}
use Rattle.scripts.specs.declared.command.Command.{Command}
use Rattle.scripts.specs.declared.command.Command.TheVariants.{Do, Await}
use Rattle.service.specs.Gathering.{CpuState}
use Rattle.service.specs.Trace.{of_processor}
use Rattle.service.specs.declared.entry.Entry.{Entry}
use Rattle.driver.specs.Driver.{acts_of, BeginsWith}

-- an act of a processor, and its reply
abbrev pub CpuCall : Type 0
CpuCall = Act × Reply

-- whether the act has to be repeated after other processors make progress
abbrev pub asks_to_wait : Reply → Bool
asks_to_wait (replies.Refused refusals.Stalled) = true
asks_to_wait (replies.Refused refusals.Locked) = true
asks_to_wait (replies.Refused (refusals.NotYet count)) = true
asks_to_wait reply = false

-- whether the act has to be repeated after a step of the write-outs
abbrev pub asks_to_flush : Reply → Bool
asks_to_flush (replies.Refused refusals.Held) = true
asks_to_flush (replies.Refused refusals.Busy) = true
asks_to_flush reply = false

abbrev pub is_put_off : Reply → Bool
is_put_off reply = asks_to_wait reply || asks_to_flush reply

abbrev pub is_refusal : Reply → Bool
is_refusal (replies.Refused why) = true
is_refusal reply = false

-- whether the reply is a page fault
abbrev pub is_fault : Reply → Bool
is_fault (replies.Refused (refusals.Fault code)) = true
is_fault reply = false

abbrev pub is_begun : Reply → Bool
is_begun replies.Begun = true
is_begun reply = false

abbrev pub is_fixed : Reply → Bool
is_fixed replies.Fixed = true
is_fixed reply = false

-- the act that serves the page fault of an access, if there is one
abbrev pub fix_at : Access → Option Act
fix_at (accesses.Load va) = Some (acts.Fix va false)
fix_at (accesses.Store va) = Some (acts.Fix va true)
fix_at access = None

abbrev pub fix_of : Act → Option Act
fix_of act = fix_at (access_of act)

-- The call is no item of a program: it acknowledges an interrupt, ends a stall, or makes a step of the write-outs.
abbrev pub IsUpkeep : CpuCall → Type 0
IsUpkeep call = (call.0 ≡ acts.Ack) ⊎ ((call.0 ≡ acts.Resume) ⊎ (call.0 ≡ acts.Flush))

-- A call before an act is made: upkeep, or the act itself, if it is put off.
abbrev pub IsAttempt : Act → CpuCall → Type 0
IsAttempt act call = IsUpkeep call ⊎ ((call.0 ≡ act) × (is_put_off call.1 ≡ true))

-- A call before an access has its answer: an attempt, a fault of the access, or the act that serves the fault.
abbrev pub IsAccessAttempt : Act → CpuCall → Type 0
IsAccessAttempt act call =
    IsAttempt act call ⊎ (((call.0 ≡ act) × (is_fault call.1 ≡ true)) ⊎ (fix_of act ≡ Some call.0))

-- The last call of an access isn't put off. It is the access, or an act that should have served its fault but didn't.
abbrev pub IsAccessReply : Act → CpuCall → Type 0
IsAccessReply act call =
    (is_put_off call.1 ≡ false)
    × ((call.0 ≡ act) ⊎ ((fix_of act ≡ Some call.0) × (is_fixed call.1 ≡ false)))

-- The same, and if the reply is a fault, no act can serve it.
abbrev pub IsAccessAnswer : Act → CpuCall → Type 0
IsAccessAnswer act call = IsAccessReply act call × (is_fault call.1 ≡ true → fix_of act ≡ None)

-- The load read something other than this byte.
abbrev pub IsOtherByte : ℕ → Reply → Type 0
IsOtherByte byte (replies.Bytes bytes) = bytes ≢ byte ∷ []
IsOtherByte byte reply = ⊥

-- A call before the awaited byte is read.
abbrev pub IsAwaitAttempt : ℕ → ℕ → CpuCall → Type 0
IsAwaitAttempt va byte call =
    IsAccessAttempt (acts.Load va 1) call ⊎ (IsAccessAnswer (acts.Load va 1) call × IsOtherByte byte call.1)

-- A processor made calls, all of this kind.
pub record MakesCalls (kind : CpuCall → Type 0) (old new : CpuState) : Type 0 where
  pub calls : List CpuCall
  pub each : All kind calls
  pub number : new.number ≡ old.number
  pub answered : new.answered ≡ old.answered ++ calls

-- A processor made this one call.
pub record MakesCall (call : CpuCall) (old new : CpuState) : Type 0 where
  pub number : new.number ≡ old.number
  pub answered : new.answered ≡ old.answered ++ call ∷ []

-- A processor made calls of this kind, and then this last call.
abbrev pub EndsCalls : (CpuCall → Type 0) → CpuCall → CpuState → CpuState → Type 0
EndsCalls kind last old new = (between : CpuState) × MakesCalls kind old between × MakesCall last between new

-- An act is made: the calls end with it, and it isn't put off.
abbrev pub MakesAct : Act → Reply → CpuState → CpuState → Type 0
MakesAct act reply old new = EndsCalls (IsAttempt act) (act, reply) old new × (is_put_off reply ≡ false)

-- Steps of the write-outs are made until the processor sees this mark committed, or a step is refused.
abbrev pub WaitsForMark : ℕ → CpuState → CpuState → Type 0
WaitsForMark mark old new =
    (MakesCalls IsUpkeep old new × (mark ≤ new.committed))
    ⊎ ((why : Refusal) × EndsCalls IsUpkeep (acts.Flush, replies.Refused why) old new
    × (is_put_off (replies.Refused why) ≡ false))

-- whether the act is an msync that returns once its mark is durable (POSIX.1-2024, MS_SYNC)
abbrev pub is_sync : Act → Bool
is_sync (acts.Msync va len flags) = bit_and flags.0 4 == 4
is_sync act = false

abbrev pub mark_to_sync : Act → Reply → Option ℕ
mark_to_sync act (replies.Marked mark) = if is_sync act then Some mark else None
mark_to_sync act changed = None

abbrev pub WaitsForMarkOf : Option ℕ → CpuState → CpuState → Type 0
WaitsForMarkOf None old new = new ≡ old
WaitsForMarkOf (Some mark) old new = WaitsForMark mark old new

-- If an act began a change, the change is made, and a synchronous msync waits for its mark.
abbrev pub MakesChange : Bool → Act → CpuState → CpuState → Type 0
MakesChange false act old new = new ≡ old
MakesChange true act old new =
    (between : CpuState) × (changed : Reply) × MakesAct acts.Change changed old between
    × WaitsForMarkOf (mark_to_sync act changed) between new

-- One item of a program is executed.
abbrev pub Obeys : Command → CpuState → CpuState → Type 0
Obeys (Do act) old new =
    (between : CpuState) × (last : CpuCall) × EndsCalls (IsAccessAttempt act) last old between
    × IsAccessAnswer act last × MakesChange (is_begun last.1) act between new
Obeys (Await va byte) old new =
    (last : CpuCall) × EndsCalls (IsAwaitAttempt va byte) last old new × IsAccessAnswer (acts.Load va 1) last
    × (IsOtherByte byte last.1 → ⊥)

-- All items are executed, in order.
abbrev pub ObeysAll : List Command → CpuState → CpuState → Type 0
ObeysAll [] old new = new ≡ old
ObeysAll (command ∷ commands) old new =
    (between : CpuState) × Obeys command old between × ObeysAll commands between new

-- Nothing was left to write, or the step was refused.
abbrev pub IsLastFlush : Reply → Type 0
IsLastFlush replies.Nothing = ⊤
IsLastFlush (replies.Refused why) = ⊤
IsLastFlush reply = ⊥

-- Steps of the write-outs are made until none is left.
abbrev pub Flushes : CpuState → CpuState → Type 0
Flushes old new = (flushed : Reply) × EndsCalls IsUpkeep (acts.Flush, flushed) old new × IsLastFlush flushed

-- The write-outs are finished, and then the processor becomes idle.
abbrev pub GoesToSleep : CpuState → CpuState → Type 0
GoesToSleep old new =
    (between : CpuState) × (idled : Reply) × Flushes old between × MakesAct acts.Idle idled between new

-- A whole program is executed.
abbrev pub FollowsProgram : List Command → CpuState → CpuState → Type 0
FollowsProgram program old new = (between : CpuState) × ObeysAll program old between × GoesToSleep between new

-- The same processor, with all its earlier calls, and possibly more.
abbrev pub HasGoneOn : CpuState → CpuState → Type 0
HasGoneOn old new = (new.number ≡ old.number) × BeginsWith old.answered new.answered

-- A processor did the first part of `all`, or all of it.
abbrev pub BeginsTo : (CpuState → CpuState → Type 0) → CpuState → CpuState → Type 0
BeginsTo all old new = (whole : CpuState) × all old whole × HasGoneOn old new × HasGoneOn new whole

-- A processor executed the first part of its program, or all of it. Without a program it did nothing.
abbrev pub RunsProgram : Option (List Command) → CpuState → CpuState → Type 0
RunsProgram None old new = new ≡ old
RunsProgram (Some program) old new = BeginsTo (FollowsProgram program) old new

-- the acts of a processor's entries in a trace
abbrev pub acts_in : ℕ → List Entry → List Act
acts_in p trace = map (λ a. a.0) (of_processor p trace)

-- The entries of each processor are its acts among the steps, in order, and then those of its program. Or the trace is
-- full, and no program was begun: each processor made its acts among the steps, or a beginning of them.
abbrev pub HaveRunPrograms : ℕ → List Step → List (List Command) → ℕ → List Entry → Type 0
HaveRunPrograms processors steps programs capacity trace =
    ((length trace ≡ capacity) × ((p : ℕ) → p < processors → BeginsWith (acts_in p trace) (acts_of p steps)))
    ⊎ ((p : ℕ) → p < processors → (first last : CpuState) × (last.number ≡ p)
    × (last.answered ≡ of_processor p trace) × (map (λ a. a.0) first.answered ≡ acts_of p steps)
    × RunsProgram (slice_get programs p) first last)
