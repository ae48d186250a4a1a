-- What each function of a thread does, whether it returns or the thread stops.
use Rattle.std.specs.Prelude.{ℕ, ◌≡◌, true, false, Bool, Option, Some, None, Result, Ok, Err}
use Rattle.machine.specs.declared.act.Act.{Act}
use Rattle.machine.specs.declared.act.Reply.{Reply}
use Rattle.service.specs.Gathering.{CpuState}
use Rattle.driver.specs.declared.acts.Answer.{Answer}
use Rattle.driver.specs.declared.acts.Stop.{Stop}
use Rattle.driver.specs.Programs.{CpuCall, MakesCalls, MakesCall, EndsCalls, MakesAct, IsUpkeep, IsAttempt}
use Rattle.driver.specs.Programs.{IsAccessAttempt, BeginsTo}
use Rattle.driver.specs.Programs.{WaitsForMark}

-- One call was made, or none because the thread stops.
abbrev pub IsCalled : Act → Result Reply Stop → CpuState → CpuState → Type 0
IsCalled act (Ok reply) old new = MakesCall (act, reply) old new
IsCalled act (Err why) old new = new ≡ old

-- An act was made, or was put off.
abbrev pub IsAttempted : Act → Result (Option Answer) Stop → CpuState → CpuState → Type 0
IsAttempted act (Ok (Some answer)) old new = MakesAct act answer.reply old new
IsAttempted act (Ok None) old new = MakesCalls (IsAttempt act) old new
IsAttempted act (Err why) old new = MakesCalls (IsAttempt act) old new

-- An act was made and not put off, unless the thread stops.
abbrev pub HasMadeAct : Act → Result Answer Stop → CpuState → CpuState → Type 0
HasMadeAct act (Ok answer) old new = MakesAct act answer.reply old new
HasMadeAct act (Err why) old new = MakesCalls (IsAttempt act) old new

-- An access was made, and its last call is of this kind, unless the thread stops.
abbrev pub ComesTo : (Act → CpuCall → Type 0) → Act → Result Answer Stop → CpuState → CpuState → Type 0
ComesTo kind act (Ok answer) old new =
    (last : CpuCall) × EndsCalls (IsAccessAttempt act) last old new × kind act last × (last.1 ≡ answer.reply)
ComesTo kind act (Err why) old new = MakesCalls (IsAccessAttempt act) old new

-- All of this was done, or the first part of it if the thread stops.
abbrev pub IsDone : (CpuState → CpuState → Type 0) → Result (Unit {0}) Stop → CpuState → CpuState → Type 0
IsDone all (Ok done) old new = all old new
IsDone all (Err why) old new = BeginsTo all old new

-- All of this was done, or only calls of this kind if the thread stops.
abbrev pub IsDoneBy : (CpuCall → Type 0) → (CpuState → CpuState → Type 0) → Result (Unit {0}) Stop → CpuState
    → CpuState → Type 0
IsDoneBy kind all (Ok done) old new = all old new
IsDoneBy kind all (Err why) old new = MakesCalls kind old new

-- The answer is true if the wait for the mark has ended: it is committed, or a step of the write-outs was refused.
abbrev pub IsWritten : ℕ → Result Bool Stop → CpuState → CpuState → Type 0
IsWritten mark (Ok true) old new = WaitsForMark mark old new
IsWritten mark (Ok false) old new = MakesCalls IsUpkeep old new
IsWritten mark (Err why) old new = MakesCalls IsUpkeep old new
