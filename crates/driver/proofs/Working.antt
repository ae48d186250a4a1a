-- What each call adds to what a thread did before.
use Rattle.std.proofs.Common.{ℕ, ◌≡◌, ◌∙◌, ◌⊎◌, ◌||◌, inl, inr, Bool, true, false, Option, Some, None}
use Rattle.std.proofs.Common.{if◌then◌else◌, arith, Result, Ok, Err, refl, sym, ap, subst}
use Rattle.std.proofs.lemmas.Bool.{false≢true}
use Rattle.page_entry.specs.declared.refusal.Refusal.{Refusal}
use Rattle.machine.specs.declared.act.Act.{Act}
use Rattle.machine.specs.declared.act.Act.TheVariants as acts
use Rattle.machine.specs.declared.act.Reply.{Reply}
use Rattle.machine.specs.declared.act.Reply.TheVariants as replies
use Rattle.service.specs.Gathering.{CpuState}
use Rattle.driver.specs.Programs.{CpuCall, MakesCalls, MakesCall, EndsCalls, MakesAct, IsUpkeep, IsAttempt}
use Rattle.driver.specs.Programs.{IsAccessAttempt, IsAccessReply, IsAccessAnswer, IsAwaitAttempt, IsOtherByte}
use Rattle.driver.specs.Programs.{WaitsForMark, asks_to_wait, asks_to_flush, is_put_off, is_refusal, is_fault, is_fixed}
use Rattle.driver.specs.Programs.{fix_of}
use Rattle.driver.specs.declared.acts.Answer.{Answer}
use Rattle.driver.specs.declared.acts.Stop.{Stop}
use Rattle.driver.specs.inside.Working.{ComesTo, HasMadeAct, IsWritten}
use Rattle.driver.proofs.Calls.{more_calls, one_call, wider, ended, attempts, no_calls}

-- a reply that asks for either puts the act off
off_to_wait : (reply : Reply) → asks_to_wait reply ≡ true → is_put_off reply ≡ true
off_to_wait reply waits = ap (λ (b : Bool). b || asks_to_flush reply) waits

pub off_to_flush : (reply : Reply) (b : Bool) → asks_to_wait reply ≡ false → asks_to_flush reply ≡ b
    → is_put_off reply ≡ b
off_to_flush reply b waits flushes = ap (λ (b : Bool). b || asks_to_flush reply) waits ∙ flushes

-- one attempt

pub none_more : (P : CpuCall → Type 0) (old between new : CpuState) → MakesCalls P old between → new ≡ between
    → MakesCalls P old new
none_more P old between new made same = subst (λ (c : CpuState). MakesCalls P old c) (sym same) made

put_off_once : (act : Act) (reply : Reply) (old between new : CpuState) → MakesCalls IsUpkeep old between
    → MakesCall (act, reply) between new → is_put_off reply ≡ true → MakesCalls (IsAttempt act) old new
put_off_once act reply old between new ready made off =
    more_calls (IsAttempt act) old between new (attempts act old between ready)
    (one_call (IsAttempt act) (act, reply) between new (inr (refl, off)) made)

pub put_off_to_wait : (act : Act) (reply : Reply) (old between new : CpuState) → MakesCalls IsUpkeep old between
    → MakesCall (act, reply) between new → asks_to_wait reply ≡ true → MakesCalls (IsAttempt act) old new
put_off_to_wait act reply old between new ready made waits =
    put_off_once act reply old between new ready made (off_to_wait reply waits)

pub put_off_to_flush : (act : Act) (reply : Reply) (old between new : CpuState) → MakesCalls IsUpkeep old between
    → MakesCall (act, reply) between new → asks_to_wait reply ≡ false → asks_to_flush reply ≡ true
    → MakesCalls (IsAttempt act) old new
put_off_to_flush act reply old between new ready made waits flushes =
    put_off_once act reply old between new ready made (off_to_flush reply true waits flushes)

pub flushed_after : (act : Act) (reply : Reply) (old between new : CpuState) → MakesCalls (IsAttempt act) old between
    → MakesCall (acts.Flush, reply) between new → MakesCalls (IsAttempt act) old new
flushed_after act reply old between new before made =
    more_calls (IsAttempt act) old between new before
    (one_call (IsAttempt act) (acts.Flush, reply) between new (inl (inr (inr refl))) made)

pub made_once : (act : Act) (reply : Reply) (old between new : CpuState) → MakesCalls IsUpkeep old between
    → MakesCall (act, reply) between new → is_put_off reply ≡ false → MakesAct act reply old new
made_once act reply old between new ready made off = ((between, attempts act old between ready, made), off)

-- calls of a kind come before

pub ends_later : (P : CpuCall → Type 0) (last : CpuCall) (old between new : CpuState) → MakesCalls P old between
    → EndsCalls P last between new → EndsCalls P last old new
ends_later P last old between new before (mid, made, call) = (mid, more_calls P old between mid before made, call)

pub made_later : (act : Act) (reply : Reply) (old between new : CpuState) → MakesCalls (IsAttempt act) old between
    → MakesAct act reply between new → MakesAct act reply old new
made_later act reply old between new before made =
    (ends_later (IsAttempt act) (act, reply) old between new before made.0, made.1)

-- steps of the write-outs are upkeep

upkeep_of : (call : CpuCall) → IsAttempt acts.Flush call → IsUpkeep call
upkeep_of call (inl is) = is
upkeep_of call (inr off) = inr (inr off.0)

pub flushing : (old new : CpuState) → MakesCalls (IsAttempt acts.Flush) old new → MakesCalls IsUpkeep old new
flushing old new made = wider (IsAttempt acts.Flush) IsUpkeep old new upkeep_of made

pub flush_ends : (reply : Reply) (old new : CpuState) → MakesAct acts.Flush reply old new
    → EndsCalls IsUpkeep (acts.Flush, reply) old new
flush_ends reply old new ((mid, made, call), off) = (mid, flushing old mid made, call)

pub flush_made : (reply : Reply) (old new : CpuState) → MakesAct acts.Flush reply old new → MakesCalls IsUpkeep old new
flush_made reply old new made =
    ended IsUpkeep (acts.Flush, reply) old new (inr (inr refl)) (flush_ends reply old new made)

-- a reply that is a refusal has a cause
why_refused : (reply : Reply) → is_refusal reply ≡ true → (why : Refusal) × (reply ≡ replies.Refused why)
why_refused (replies.Refused why) is = (why, refl)
why_refused reply is = absurd (false≢true is)

-- a step of the write-outs was refused
seen_refused : (mark : ℕ) (reply : Reply) (old new : CpuState) → MakesAct acts.Flush reply old new
    → is_refusal reply ≡ true → WaitsForMark mark old new
seen_refused mark reply old new made is =
    let why = why_refused reply is in
    let Ends : Reply → Type 0 = λ r. EndsCalls IsUpkeep (acts.Flush, r) old new in
    let Off : Reply → Type 0 = λ r. is_put_off r ≡ false in
    inr (why.0, subst Ends why.1 (flush_ends reply old new made), subst Off why.1 made.1)

pub waits_later : (mark : ℕ) (old between new : CpuState) → MakesCalls IsUpkeep old between
    → WaitsForMark mark between new → WaitsForMark mark old new
waits_later mark old between new before (inl (made, seen)) =
    inl (more_calls IsUpkeep old between new before made, seen)
waits_later mark old between new before (inr (why, ends, off)) =
    inr (why, ends_later IsUpkeep (acts.Flush, replies.Refused why) old between new before ends, off)

-- an access, and what serves its faults

own_attempt : (act : Act) (call : CpuCall) → IsAttempt act call → IsAccessAttempt act call
own_attempt act call is = inl is

fix_attempt : (act fix : Act) → fix_of act ≡ Some fix → (call : CpuCall) → IsAttempt fix call → IsAccessAttempt act call
fix_attempt act fix is call (inl upkeep) = inl (inl upkeep)
fix_attempt act fix is call (inr off) = inr (inr (is ∙ ap (λ (a : Act). Some a) (sym off.0)))

own_attempts : (act : Act) (old new : CpuState) → MakesCalls (IsAttempt act) old new
    → MakesCalls (IsAccessAttempt act) old new
own_attempts act old new made = wider (IsAttempt act) (IsAccessAttempt act) old new (own_attempt act) made

pub fix_attempts : (act fix : Act) (old new : CpuState) → fix_of act ≡ Some fix → MakesCalls (IsAttempt fix) old new
    → MakesCalls (IsAccessAttempt act) old new
fix_attempts act fix old new is made =
    wider (IsAttempt fix) (IsAccessAttempt act) old new (fix_attempt act fix is) made

-- the act has its own reply
own_reply : (act : Act) (reply : Reply) (old new : CpuState) → MakesAct act reply old new
    → (last : CpuCall) × EndsCalls (IsAccessAttempt act) last old new × IsAccessReply act last × (last.1 ≡ reply)
own_reply act reply old new ((mid, made, call), off) =
    ((act, reply), (mid, own_attempts act old mid made, call), (off, inl refl), refl)

-- its fault wasn't served
pub fix_reply : (act fix : Act) (reply : Reply) (old new : CpuState) → fix_of act ≡ Some fix
    → MakesAct fix reply old new → is_fixed reply ≡ false
    → (last : CpuCall) × EndsCalls (IsAccessAttempt act) last old new × IsAccessReply act last × (last.1 ≡ reply)
fix_reply act fix reply old new is ((mid, made, call), off) unfixed =
    ((fix, reply), (mid, fix_attempts act fix old mid is made, call), (off, inr (is, unfixed)), refl)

-- its fault was served
pub fix_made : (act fix : Act) (reply : Reply) (old new : CpuState) → fix_of act ≡ Some fix
    → MakesAct fix reply old new → MakesCalls (IsAccessAttempt act) old new
fix_made act fix reply old new is ((mid, made, call), off) =
    ended (IsAccessAttempt act) (fix, reply) old new (inr (inr is)) (mid, fix_attempts act fix old mid is made, call)

pub reply_later : (act : Act) (reply : Reply) (old between new : CpuState)
    → MakesCalls (IsAccessAttempt act) old between
    → ((last : CpuCall) × EndsCalls (IsAccessAttempt act) last between new × IsAccessReply act last × (last.1 ≡ reply))
    → (last : CpuCall) × EndsCalls (IsAccessAttempt act) last old new × IsAccessReply act last × (last.1 ≡ reply)
reply_later act reply old between new before (last, ends, is, same) =
    (last, ends_later (IsAccessAttempt act) last old between new before ends, is, same)

fault_attempt : (act : Act) (call : CpuCall) → is_fault call.1 ≡ true
    → (call.0 ≡ act) ⊎ ((fix_of act ≡ Some call.0) × (is_fixed call.1 ≡ false)) → IsAccessAttempt act call
fault_attempt act call fault (inl own) = inr (inl (own, fault))
fault_attempt act call fault (inr fix) = inr (inr fix.0)

-- a fault is to be served
pub fault_made : (act : Act) (reply : Reply) (old new : CpuState) → is_fault reply ≡ true
    → ((last : CpuCall) × EndsCalls (IsAccessAttempt act) last old new × IsAccessReply act last × (last.1 ≡ reply))
    → MakesCalls (IsAccessAttempt act) old new
fault_made act reply old new fault (last, ends, is, same) =
    let so : is_fault last.1 ≡ true = subst (λ (r : Reply). is_fault r ≡ true) (sym same) fault in
    ended (IsAccessAttempt act) last old new (fault_attempt act last so is.1) ends

-- a byte that is awaited

pub await_access : (va byte : ℕ) (old new : CpuState) → MakesCalls (IsAccessAttempt (acts.Load va 1)) old new
    → MakesCalls (IsAwaitAttempt va byte) old new
await_access va byte old new made =
    wider (IsAccessAttempt (acts.Load va 1)) (IsAwaitAttempt va byte) old new (λ call is. inl is) made

pub await_ends : (va byte : ℕ) (last : CpuCall) (old new : CpuState)
    → EndsCalls (IsAccessAttempt (acts.Load va 1)) last old new → EndsCalls (IsAwaitAttempt va byte) last old new
await_ends va byte last old new (mid, made, call) = (mid, await_access va byte old mid made, call)

pub await_other : (va byte : ℕ) (reply : Reply) (old new : CpuState) → IsOtherByte byte reply
    → ((last : CpuCall) × EndsCalls (IsAccessAttempt (acts.Load va 1)) last old new
    × IsAccessAnswer (acts.Load va 1) last × (last.1 ≡ reply))
    → MakesCalls (IsAwaitAttempt va byte) old new
await_other va byte reply old new other (last, ends, is, same) =
    let so : IsOtherByte byte last.1 = subst (IsOtherByte byte) (sym same) other in
    ended (IsAwaitAttempt va byte) last old new (inr (is, so)) (await_ends va byte last old new ends)

-- a fault was served, and then the act made again
pub made_again : (act : Act) (result : Result Answer Stop) (old between new : CpuState)
    → MakesCalls (IsAccessAttempt act) old between → HasMadeAct act result between new
    → ComesTo IsAccessReply act result old new
made_again act (Ok answer) old between new before made =
    reply_later act answer.reply old between new before (own_reply act answer.reply between new made)
made_again act (Err why) old between new before made =
    more_calls (IsAccessAttempt act) old between new before (own_attempts act between new made)

-- a step of the write-outs was made where a mark isn't seen as committed yet
pub written_so : (mark : ℕ) (reply : Reply) (refused : Bool) (old between new : CpuState)
    → between.number ≡ old.number → between.answered ≡ old.answered → MakesAct acts.Flush reply between new
    → refused ≡ is_refusal reply → IsWritten mark (Ok refused) old new
written_so mark reply true old between new number answered made is =
    waits_later mark old between new (no_calls IsUpkeep old between number answered)
    (seen_refused mark reply between new made (sym is))
written_so mark reply false old between new number answered made is =
    more_calls IsUpkeep old between new (no_calls IsUpkeep old between number answered)
    (flush_made reply between new made)

some-none : (found : Act) → Some found ≡ None → ⊥
some-none found is = grind arith

-- the fix of a fault
pub fix_found : (fault : Bool) (fix : Option Act) (found : Act)
    → Some found ≡ (if fault then fix else None) → (fault ≡ true) × (fix ≡ Some found)
fix_found true fix found is = (refl, sym is)
fix_found false fix found is = absurd (some-none found is)

-- the byte that a load read is no other one
pub not_other : (byte : ℕ) (reply last : Reply) → (IsOtherByte byte reply → false ≡ true) → last ≡ reply
    → IsOtherByte byte last → ⊥
not_other byte reply last other same is = false≢true (other (subst (IsOtherByte byte) same is))
