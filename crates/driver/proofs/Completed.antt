-- What could follow calls that were cut off: each act that is left is answered Nothing.
use Rattle.std.proofs.Common.{ℕ, ◌≡◌, ◌∙◌, inl, inr, Bool, true, false, List, [], ◌∷◌, ◌++◌, Option, Some, None}
use Rattle.std.proofs.Common.{◌+◌, ◌<◌, Result, Ok, Err, length, take, drop, get_or}
use Rattle.std.proofs.Common.{refl, sym, ap, subst}
use Rattle.std.proofs.lemmas.Bool.{false≢true}
use Rattle.std.proofs.lemmas.List.{append-nil, append_assoc, take_more, take-append-drop}
use Rattle.page_entry.specs.declared.refusal.Refusal.TheVariants as refusals
use Rattle.machine.specs.declared.act.Act.{Act}
use Rattle.machine.specs.declared.act.Act.TheVariants as acts
use Rattle.machine.specs.declared.act.Reply.{Reply}
use Rattle.machine.specs.declared.act.Reply.TheVariants as replies
use Rattle.scripts.specs.declared.command.Command.{Command}
use Rattle.scripts.specs.declared.command.Command.TheVariants.{Do, Await}
use Rattle.service.specs.Gathering.{CpuState}
use Rattle.driver.specs.Programs.{CpuCall, MakesCalls, MakesCall, EndsCalls, MakesAct, MakesChange, IsUpkeep, IsAttempt}
use Rattle.driver.specs.Programs.{IsAccessAttempt, IsAccessAnswer, IsAwaitAttempt, WaitsForMark, WaitsForMarkOf}
use Rattle.driver.specs.Programs.{Obeys, ObeysAll, Flushes, GoesToSleep, FollowsProgram, HasGoneOn, BeginsTo}
use Rattle.driver.specs.Programs.{mark_to_sync, is_begun}
use Rattle.driver.specs.declared.acts.Stop.{Stop}
use Rattle.driver.specs.inside.Working.{IsDone, IsDoneBy}
use Rattle.driver.proofs.Calls.{stays}

-- a processor went on by what it did

pub on_still : (old new : CpuState) → new ≡ old → HasGoneOn old new
on_still old new same =
    subst (λ (c : CpuState). HasGoneOn old c) (sym same) (refl, ([], sym (append-nil old.answered)))

on_further : (old between new : CpuState) → HasGoneOn old between → HasGoneOn between new → HasGoneOn old new
on_further old between new first then_ = (
  then_.0 ∙ first.0,
  (
    first.1.0 ++ then_.1.0,
    then_.1.1 ∙ ap (λ (l : List CpuCall). l ++ then_.1.0) first.1.1
        ∙ append_assoc old.answered first.1.0 then_.1.0,
  ),
)

on_calls : (P : CpuCall → Type 0) (old new : CpuState) → MakesCalls P old new → HasGoneOn old new
on_calls P old new made = (made.number, (made.calls, made.answered))

on_call : (call : CpuCall) (old new : CpuState) → MakesCall call old new → HasGoneOn old new
on_call call old new made = (made.number, (call ∷ [], made.answered))

on_ends : (P : CpuCall → Type 0) (last : CpuCall) (old new : CpuState) → EndsCalls P last old new
    → HasGoneOn old new
on_ends P last old new made =
    on_further old made.0 new (on_calls P old made.0 made.1) (on_call last made.0 new made.2)

on_wait : (mark : ℕ) (old new : CpuState) → WaitsForMark mark old new → HasGoneOn old new
on_wait mark old new (inl waited) = on_calls IsUpkeep old new waited.0
on_wait mark old new (inr refused) =
    on_ends IsUpkeep (acts.Flush, replies.Refused refused.0) old new refused.1

on_wait_of : (mark : Option ℕ) (old new : CpuState) → WaitsForMarkOf mark old new → HasGoneOn old new
on_wait_of None old new same = on_still old new same
on_wait_of (Some mark) old new waited = on_wait mark old new waited

on_change : (begun : Bool) (act : Act) (old new : CpuState) → MakesChange begun act old new → HasGoneOn old new
on_change false act old new same = on_still old new same
on_change true act old new (between, changed, made, waited) =
    on_further old between new (on_ends (IsAttempt acts.Change) (acts.Change, changed) old between made.0)
    (on_wait_of (mark_to_sync act changed) between new waited)

on_command : (command : Command) (old new : CpuState) → Obeys command old new → HasGoneOn old new
on_command (Do act) old new (between, last, made, answered, changed) =
    on_further old between new (on_ends (IsAccessAttempt act) last old between made)
    (on_change (is_begun last.1) act between new changed)
on_command (Await va byte) old new (last, made, answered, other) =
    on_ends (IsAwaitAttempt va byte) last old new made

on_commands : (commands : List Command) (old new : CpuState) → ObeysAll commands old new → HasGoneOn old new
on_commands [] old new same = on_still old new same
on_commands (command ∷ commands) old new (between, first, rest) =
    on_further old between new (on_command command old between first) (on_commands commands between new rest)

on_sleep : (old new : CpuState) → GoesToSleep old new → HasGoneOn old new
on_sleep old new (between, idled, flushed, made) =
    on_further old between new (on_ends IsUpkeep (acts.Flush, flushed.0) old between flushed.1)
    (on_ends (IsAttempt acts.Idle) (acts.Idle, idled) between new made.0)

pub on_program : (program : List Command) (old new : CpuState) → FollowsProgram program old new → HasGoneOn old new
on_program program old new (between, obeyed, slept) =
    on_further old between new (on_commands program old between obeyed) (on_sleep between new slept)

-- all of it is a beginning of it
begins_whole : (all : CpuState → CpuState → Type 0) (old new : CpuState) → all old new → HasGoneOn old new
    → BeginsTo all old new
begins_whole all old new made went = (new, made, went, on_still new new refl)

-- a state after one more call
abbrev called_for : CpuCall → CpuState → CpuState
called_for call cpu = record cpu { answered = cpu.answered ++ call ∷ [] }

calling : (call : CpuCall) (cpu : CpuState) → MakesCall call cpu (called_for call cpu)
calling call cpu = record { number = refl; answered = refl }

on_calling : (call : CpuCall) (cpu : CpuState) → HasGoneOn cpu (called_for call cpu)
on_calling call cpu = on_call call cpu (called_for call cpu) (calling call cpu)

-- calls of a kind, and then any call
ends_calling : (P : CpuCall → Type 0) (call : CpuCall) (old new : CpuState) → MakesCalls P old new
    → EndsCalls P call old (called_for call new)
ends_calling P call old new made = (new, made, calling call new)

-- an access that is answered Nothing has its answer
answers_nothing : (act : Act) → IsAccessAnswer act (act, replies.Nothing)
answers_nothing act = ((refl, inl refl), λ fault. absurd (false≢true fault))

-- what was cut off in its calls

-- an act that was tried, as if it were answered Nothing then
answered_nothing : (act : Act) (old new : CpuState) → MakesCalls (IsAttempt act) old new
    → MakesAct act replies.Nothing old (called_for (act, replies.Nothing) new)
answered_nothing act old new made = (ends_calling (IsAttempt act) (act, replies.Nothing) old new made, refl)

pub cut_in_sleep_flush : (old new : CpuState) → MakesCalls IsUpkeep old new → BeginsTo GoesToSleep old new
cut_in_sleep_flush old new made =
    let flush : CpuCall = (acts.Flush, replies.Nothing) in
    let idle : CpuCall = (acts.Idle, replies.Nothing) in
    let flushed : CpuState = called_for flush new in
    let flushes : Flushes old flushed = (replies.Nothing, ends_calling IsUpkeep flush old new made, tt) in
    let idles = answered_nothing acts.Idle flushed flushed (stays (IsAttempt acts.Idle) flushed) in (
      called_for idle flushed,
      (flushed, replies.Nothing, flushes, idles),
      on_calls IsUpkeep old new made,
      on_further new flushed (called_for idle flushed) (on_calling flush new) (on_calling idle flushed),
    )

pub cut_in_sleep_idle : (old between new : CpuState) → Flushes old between
    → MakesCalls (IsAttempt acts.Idle) between new → BeginsTo GoesToSleep old new
cut_in_sleep_idle old between new flushed made = (
  called_for (acts.Idle, replies.Nothing) new,
  (between, replies.Nothing, flushed, answered_nothing acts.Idle between new made),
  on_further old between new (on_ends IsUpkeep (acts.Flush, flushed.0) old between flushed.1)
      (on_calls (IsAttempt acts.Idle) between new made),
  on_calling (acts.Idle, replies.Nothing) new,
)

pub cut_in_change : (act : Act) (old new : CpuState) → MakesCalls (IsAttempt acts.Change) old new
    → BeginsTo (MakesChange true act) old new
cut_in_change act old new made =
    let changed : CpuState = called_for (acts.Change, replies.Nothing) new in (
      changed,
      (changed, replies.Nothing, answered_nothing acts.Change old new made, refl),
      on_calls (IsAttempt acts.Change) old new made,
      on_calling (acts.Change, replies.Nothing) new,
    )

cut_in_wait : (act : Act) (mark : ℕ) (changed : Reply) (old between new : CpuState)
    → MakesAct acts.Change changed old between → Some mark ≡ mark_to_sync act changed → MakesCalls IsUpkeep between new
    → BeginsTo (MakesChange true act) old new
cut_in_wait act mark changed old between new made is waited =
    let refused : Reply = replies.Refused refusals.Device in
    let flush : CpuCall = (acts.Flush, refused) in
    let whole : CpuState = called_for flush new in
    let waits : WaitsForMark mark between whole =
    inr (refusals.Device, ends_calling IsUpkeep flush between new waited, refl) in
    let waits_of : WaitsForMarkOf (mark_to_sync act changed) between whole =
    subst (λ (m : Option ℕ). WaitsForMarkOf m between whole) is waits in (
      whole,
      (between, changed, made, waits_of),
      on_further old between new (on_ends (IsAttempt acts.Change) (acts.Change, changed) old between made.0)
          (on_calls IsUpkeep between new waited),
      on_calling flush new,
    )

pub cut_in_access : (act : Act) (old new : CpuState) → MakesCalls (IsAccessAttempt act) old new
    → BeginsTo (Obeys (Do act)) old new
cut_in_access act old new made =
    let call : CpuCall = (act, replies.Nothing) in
    let whole : CpuState = called_for call new in (
      whole,
      (whole, call, ends_calling (IsAccessAttempt act) call old new made, answers_nothing act, refl),
      on_calls (IsAccessAttempt act) old new made,
      on_calling call new,
    )

cut_after_access : (act : Act) (last : CpuCall) (old between new : CpuState)
    → EndsCalls (IsAccessAttempt act) last old between → IsAccessAnswer act last → is_begun last.1 ≡ true
    → BeginsTo (MakesChange true act) between new → BeginsTo (Obeys (Do act)) old new
cut_after_access act last old between new made answered begun (whole, changes, went, more) =
    let changes_if : MakesChange (is_begun last.1) act between whole =
    subst (λ (b : Bool). MakesChange b act between whole) (sym begun) changes in (
      whole,
      (between, last, made, answered, changes_if),
      on_further old between new (on_ends (IsAccessAttempt act) last old between made) went,
      more,
    )

pub cut_in_await : (va byte : ℕ) (old new : CpuState) → MakesCalls (IsAwaitAttempt va byte) old new
    → BeginsTo (Obeys (Await va byte)) old new
cut_in_await va byte old new made =
    let load : Act = acts.Load va 1 in
    let call : CpuCall = (load, replies.Nothing) in
    let whole : CpuState = called_for call new in (
      whole,
      (call, ends_calling (IsAwaitAttempt va byte) call old new made, answers_nothing load, λ other. other),
      on_calls (IsAwaitAttempt va byte) old new made,
      on_calling call new,
    )

-- any items could be obeyed from any state on

one_to_come : (command : Command) (cpu : CpuState)
    → (whole : CpuState) × Obeys command cpu whole × HasGoneOn cpu whole
one_to_come (Do act) cpu =
    let cut = cut_in_access act cpu cpu (stays (IsAccessAttempt act) cpu) in
    (cut.0, cut.1, cut.3)
one_to_come (Await va byte) cpu =
    let cut = cut_in_await va byte cpu cpu (stays (IsAwaitAttempt va byte) cpu) in
    (cut.0, cut.1, cut.3)

all_to_come : (commands : List Command) (cpu : CpuState)
    → (whole : CpuState) × ObeysAll commands cpu whole × HasGoneOn cpu whole
all_to_come [] cpu = (cpu, refl, on_still cpu cpu refl)
all_to_come (command ∷ commands) cpu =
    let first = one_to_come command cpu in
    let rest = all_to_come commands first.0 in
    (rest.0, (first.0, first.1, rest.1), on_further cpu first.0 rest.0 first.2 rest.2)

sleep_to_come : (cpu : CpuState) → (whole : CpuState) × GoesToSleep cpu whole × HasGoneOn cpu whole
sleep_to_come cpu =
    let cut = cut_in_sleep_flush cpu cpu (stays IsUpkeep cpu) in
    (cut.0, cut.1, cut.3)

-- items in a row

obeyed_further : (first rest : List Command) (old between new : CpuState) → ObeysAll first old between
    → ObeysAll rest between new → ObeysAll (first ++ rest) old new
obeyed_further [] rest old between new same obeyed =
    subst (λ (c : CpuState). ObeysAll rest c new) same obeyed
obeyed_further (command ∷ commands) rest old between new (next, obeyed, more) last =
    (next, obeyed, obeyed_further commands rest next between new more last)

one_more : (commands : List Command) (command : Command) (old between new : CpuState)
    → ObeysAll commands old between → Obeys command between new → ObeysAll (commands ++ command ∷ []) old new
one_more commands command old between new obeyed more =
    obeyed_further commands (command ∷ []) old between new obeyed (new, more, refl)

-- an item was cut off, and others were to follow
cut_in_commands : (commands rest : List Command) (command : Command) (old between new : CpuState)
    → ObeysAll commands old between → BeginsTo (Obeys command) between new
    → BeginsTo (ObeysAll ((commands ++ command ∷ []) ++ rest)) old new
cut_in_commands commands rest command old between new obeyed (item, made, went, more) =
    let others = all_to_come rest item in
    let so_far = one_more commands command old between item obeyed made in (
      others.0,
      obeyed_further (commands ++ command ∷ []) rest old item others.0 so_far others.1,
      on_further old between new (on_commands commands old between obeyed) went,
      on_further new item others.0 more others.2,
    )

-- an item was cut off, before the processor was to sleep
pub cut_in_program : (program : List Command) (old new : CpuState) → BeginsTo (ObeysAll program) old new
    → BeginsTo (FollowsProgram program) old new
cut_in_program program old new (obeyed, made, went, more) =
    let sleep = sleep_to_come obeyed in
    (sleep.0, (obeyed, made, sleep.1), went, on_further new obeyed sleep.0 more sleep.2)

-- all items were obeyed, and going to sleep was cut off
cut_in_sleep : (program : List Command) (old between new : CpuState) → ObeysAll program old between
    → BeginsTo GoesToSleep between new → BeginsTo (FollowsProgram program) old new
cut_in_sleep program old between new obeyed (whole, slept, went, more) =
    (whole, (between, obeyed, slept), on_further old between new (on_commands program old between obeyed) went, more)

-- what was done, or begun, is begun
pub done_or_begun : (all : CpuState → CpuState → Type 0) (result : Result (Unit {0}) Stop) (old new : CpuState)
    → (all old new → HasGoneOn old new) → IsDone all result old new → BeginsTo all old new
done_or_begun all (Ok done) old new on made = begins_whole all old new made (on made)
done_or_begun all (Err why) old new on begun = begun

-- all items were obeyed, and then the processor went to sleep, or began to
pub worked_so : (program : List Command) (result : Result (Unit {0}) Stop) (old between new : CpuState)
    → ObeysAll program old between → IsDone GoesToSleep result between new
    → IsDone (FollowsProgram program) result old new
worked_so program (Ok done) old between new obeyed slept = (between, obeyed, slept)
worked_so program (Err why) old between new obeyed begun = cut_in_sleep program old between new obeyed begun

-- an access was answered, and then its change was made, or begun
pub done_so : (act : Act) (last : CpuCall) (result : Result (Unit {0}) Stop) (old between new : CpuState)
    → EndsCalls (IsAccessAttempt act) last old between → IsAccessAnswer act last → is_begun last.1 ≡ true
    → IsDone (MakesChange true act) result between new → IsDone (Obeys (Do act)) result old new
done_so act last (Ok done) old between new made answered begun changed =
    (between, last, made, answered, subst (λ (b : Bool). MakesChange b act between new) (sym begun) changed)
done_so act last (Err why) old between new made answered begun changed =
    cut_after_access act last old between new made answered begun changed

-- an access was answered, and began no change
pub done_at_once : (act : Act) (last : CpuCall) (old new : CpuState) → EndsCalls (IsAccessAttempt act) last old new
    → IsAccessAnswer act last → is_begun last.1 ≡ false → Obeys (Do act) old new
done_at_once act last old new made answered begun =
    (new, last, made, answered, subst (λ (b : Bool). MakesChange b act new new) (sym begun) refl)

-- a change was made, and then its mark waited for, or not all the while
pub changed_so : (act : Act) (mark : ℕ) (changed : Reply) (result : Result (Unit {0}) Stop)
    (old between new : CpuState)
    → MakesAct acts.Change changed old between → Some mark ≡ mark_to_sync act changed
    → IsDoneBy IsUpkeep (WaitsForMark mark) result between new → IsDone (MakesChange true act) result old new
changed_so act mark changed (Ok done) old between new made is waited =
    (between, changed, made, subst (λ (m : Option ℕ). WaitsForMarkOf m between new) is waited)
changed_so act mark changed (Err why) old between new made is waited =
    cut_in_wait act mark changed old between new made is waited

pub changed_at_once : (act : Act) (changed : Reply) (old new : CpuState) → MakesAct acts.Change changed old new
    → None ≡ mark_to_sync act changed → MakesChange true act old new
changed_at_once act changed old new made is =
    (new, changed, made, subst (λ (m : Option ℕ). WaitsForMarkOf m new new) is refl)

-- some items, and the next one

taken_more : (program : List Command) (i : ℕ) (command : Command) → i < length program
    → command ≡ get_or program i command → take i program ++ command ∷ [] ≡ take (i + 1) program
taken_more program i command within is =
    ap (λ (k : Command). take i program ++ k ∷ []) is ∙ sym (take_more program i command within)

whole_of : (program : List Command) (i : ℕ) (command : Command) → i < length program
    → command ≡ get_or program i command → (take i program ++ command ∷ []) ++ drop (i + 1) program ≡ program
whole_of program i command within is =
    ap (λ (l : List Command). l ++ drop (i + 1) program) (taken_more program i command within is)
    ∙ take-append-drop (i + 1) program

pub cut_at : (program : List Command) (i : ℕ) (command : Command) (old between new : CpuState) → i < length program
    → command ≡ get_or program i command → ObeysAll (take i program) old between
    → BeginsTo (Obeys command) between new → BeginsTo (ObeysAll program) old new
cut_at program i command old between new within is obeyed begun =
    subst (λ (l : List Command). BeginsTo (ObeysAll l) old new) (whole_of program i command within is)
    (cut_in_commands (take i program) (drop (i + 1) program) command old between new obeyed begun)

pub obeyed_to : (program : List Command) (i : ℕ) (command : Command) (old between new : CpuState)
    → i < length program → command ≡ get_or program i command → ObeysAll (take i program) old between
    → Obeys command between new → ObeysAll (take (i + 1) program) old new
obeyed_to program i command old between new within is obeyed more =
    subst (λ (l : List Command). ObeysAll l old new) (taken_more program i command within is)
    (one_more (take i program) command old between new obeyed more)
