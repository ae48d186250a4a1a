-- What single steps do to the lock and to the processors' phases, and what a change leaves of them.
use Rattle.std.proofs.Common.{◌≡◌, ◌≢◌, ◌⊎◌, inl, inr, ⊎_elim, ◌↔◌, ℕ, suc, ◌+◌, ◌/◌, ◌<◌, ◌≤◌, arith, Bool, true}
use Rattle.std.proofs.Common.{false, cond, if◌then◌else◌, not, is_some, ◌&&◌, ◌==◌, eqb, List, [], ◌∷◌, length, get_or}
use Rattle.std.proofs.Common.{Option, Some, None, Result, Ok, Err, refl, sym, ◌∙◌, ap, subst, eq-eqb, eqb-true, lt-ltb}
use Rattle.std.specs.Option.{option_or}
use Rattle.std.specs.List.{count_by}
use Rattle.std.proofs.lemmas.Bool.{true≢false, false≢true, cases_eq, cases_lt}
use Rattle.std.proofs.lemmas.List.{get_or_past}
use Rattle.std.proofs.lemmas.List.Sums.{sum_by-cons}
use Rattle.device.specs.declared.device.Device.{Ghosts}
use Rattle.page_entry.specs.Entry.{Mapped}
use Rattle.page_entry.specs.declared.refusal.Refusal.{Refusal}
use Rattle.page_entry.specs.declared.refusal.Refusal.TheVariants as refusals
use Rattle.pcid_tlb.specs.Tlb.{TlbState, cached, without_page}
use Rattle.pcid_tlb.specs.declared.CachedEntry.{CachedEntry}
use Rattle.spaces.specs.declared.change.Change.{Change}
use Rattle.spaces.specs.declared.change.Change.TheVariants as changes
use Rattle.spaces.specs.Spaces.{entry_at}
use Rattle.spaces.specs.Changes.{touches}
use Rattle.shootdown.specs.declared.lock.Lock.{Lock}
use Rattle.shootdown.specs.declared.proc_state.ProcState.{ProcState}
use Rattle.shootdown.specs.declared.proc_state.ProcState.TheVariants.{Active, Interrupted, Stalled, Initiating, Idle}
use Rattle.shootdown.specs.Processors.{Processor, fresh_processor, is_running, woken}
use Rattle.shootdown.specs.Shootdown.{ShootdownState, IsShootdown, processor_at, state_of, current, tlb_of}
use Rattle.shootdown.specs.Shootdown.{with_processor, with_tlb, not_running, not_free, is_interrupted}
use Rattle.shootdown.specs.Shootdown.{interrupted, state_when_begun, begun, stalled, finished, resumed}
use Rattle.shootdown.specs.Calls.{not_there, lock_refusal, change_refusal, is_stalled, wait_refusal}
use Rattle.shootdown.proofs.Public.{processor_at-with_same, processor_at-with_other, length-with_processor}
use Rattle.shootdown.proofs.Public.{processor_at-begun, state-begun_one, length-begun, admitted, running}
use Rattle.cpu.specs.Access.{Hardware, serves, walk, walked_to, translated_by, translated, faulted}
use Rattle.machine.specs.declared.act.Act.{Act}
use Rattle.machine.specs.declared.act.Act.TheVariants as acts
use Rattle.machine.specs.declared.act.Reply.{Reply}
use Rattle.machine.specs.declared.act.Reply.TheVariants as replies
use Rattle.machine.specs.declared.act.Step.{Step}
use Rattle.machine.specs.Rules.{Accesses, Acts, Reaches, begin_change, after_record, is_page_next}
use Rattle.machine.specs.State.{State, Whole}
use Rattle.session.specs.declared.notes.Notes.{Notes}
use Rattle.session.specs.Lengths.{reports_begun, reports_changed}
use Rattle.session.specs.Locks.{KeepsPhases}
use Rattle.session.specs.Steps.{Makes}
use Rattle.session.specs.inside.Changing.{phase_after, HoldsLock, HasBegun, AreCalm, IsOver, reports_made}

-- ---- what was begun

pub begun_is : (reply : Reply) → reports_begun reply ≡ true → reply ≡ replies.Begun
begun_is replies.Begun is = refl
begun_is reply is = absurd (false≢true is)

-- ---- the same lock and the same phases

abbrev Same : ShootdownState → ShootdownState → Type 0
Same old new = (new.lock ≡ old.lock) × ((q : ℕ) → state_of new q ≡ state_of old q)

same_is : (old new : ShootdownState) → new ≡ old → Same old new
same_is old new is = (ap (λ (s : ShootdownState). s.lock) is, λ q. ap (λ (s : ShootdownState). state_of s q) is)

same_then : (old mid new : ShootdownState) → Same old mid → Same mid new → Same old new
same_then old mid new first later = (later.0 ∙ first.0, λ q. later.1 q ∙ first.1 q)

keeps_same : (old new : State) → Same old.hardware.shootdown new.hardware.shootdown → KeepsPhases old new
keeps_same old new same = record { lock = same.0; phases = same.1 }

keeps_is : (old new : State) → new.hardware.shootdown ≡ old.hardware.shootdown → KeepsPhases old new
keeps_is old new is = keeps_same old new (same_is old.hardware.shootdown new.hardware.shootdown is)

shootdown_is : {old new : State} → new ≡ old → new.hardware.shootdown ≡ old.hardware.shootdown
shootdown_is done = ap (λ (t : State). t.hardware.shootdown) done

-- nothing is done
pub keeps_none : (s : State) → KeepsPhases s s
keeps_none s = record { lock = refl; phases = λ q. refl }

pub keeps_from : {D : Type 0} (old mid : Whole D) (new : State) → mid ≡ old → KeepsPhases mid.state new
    → KeepsPhases old.state new
keeps_from {D} old mid new is kept = subst (λ (m : Whole D). KeepsPhases m.state new) is kept

pub keeps_then : (old mid new : State) → KeepsPhases old mid → KeepsPhases mid new → KeepsPhases old new
keeps_then old mid new first later =
    record { lock = later.lock ∙ first.lock; phases = λ q. later.phases q ∙ first.phases q }

-- ---- one processor is another

-- past the last one each is as at first
state_past : (s : ShootdownState) (q : ℕ) → length s.processors ≤ q → state_of s q ≡ Active
state_past s q past = ap (λ (x : Processor). x.state) (get_or_past s.processors q (fresh_processor 1) past)

state_there : (s : ShootdownState) (p : ℕ) (x : Processor) → p < length s.processors
    → state_of (with_processor s p x) p ≡ x.state
state_there s p x within = ap (λ (y : Processor). y.state) (processor_at-with_same s p x within)

state_elsewhere : (s : ShootdownState) (p : ℕ) (x : Processor) (q : ℕ) → q ≢ p
    → state_of (with_processor s p x) q ≡ state_of s q
state_elsewhere s p x q other = ap (λ (y : Processor). y.state) (processor_at-with_other s p x q other)

state_with_same : (s : ShootdownState) (p : ℕ) (x : Processor) → x.state ≡ state_of s p → (q : ℕ)
    → state_of (with_processor s p x) q ≡ state_of s q
state_with_same s p x same q = go (cases_eq q p) (cases_lt p (length s.processors))
  where
    go : (q ≡ p) ⊎ (q ≡ p → ⊥) → (p < length s.processors) ⊎ (length s.processors ≤ p)
        → state_of (with_processor s p x) q ≡ state_of s q
    go (inr other) where_is = state_elsewhere s p x q other
    go (inl here) (inl within) =
        ap (state_of (with_processor s p x)) here ∙ state_there s p x within ∙ same ∙ ap (state_of s) (sym here)
    go (inl here) (inr past) =
        let long : length (with_processor s p x).processors ≤ q =
        omega (arith, past, here, length-with_processor s p x) in
        state_past (with_processor s p x) q long ∙ sym (state_past s q (omega (arith, past, here)))

with_tlb_same : (s : ShootdownState) (p : ℕ) (tlb : TlbState) → Same s (with_tlb s p tlb)
with_tlb_same s p tlb = (refl, state_with_same s p (record (processor_at s p) { tlb = tlb }) refl)

-- ---- translations

-- the hardware that a translation leaves, if it reaches a frame
abbrev left_by : Hardware → Result (ℕ × Hardware) ℕ → Hardware
left_by h (Ok reached) = reached.1
left_by h (Err code) = h

walk_same : (h : Hardware) (p page : ℕ) (r : Result Mapped ℕ)
    → Same h.shootdown (left_by h (walked_to h p page r)).shootdown
walk_same h p page (Ok entry) = with_tlb_same h.shootdown p _
walk_same h p page (Err code) = same_is h.shootdown h.shootdown refl

by_same : (h : Hardware) (p page : ℕ) (write : Bool) (o : Option CachedEntry)
    → Same h.shootdown (left_by h (translated_by h p page write o)).shootdown
by_same h p page write None = walk_same h p page (walk (entry_at h.spaces (current h.shootdown p) page) write)
by_same h p page write (Some e) = go (serves write e)
  where
    go : (b : Bool) → Same h.shootdown (left_by h (cond b (Ok (e.frame, h))
        (walked_to h p page (walk (entry_at h.spaces (current h.shootdown p) page) write)))).shootdown
    go true = same_is h.shootdown h.shootdown refl
    go false = walk_same h p page (walk (entry_at h.spaces (current h.shootdown p) page) write)

translated_same : (h : Hardware) (p page : ℕ) (write : Bool) (frame : ℕ) (new : Hardware)
    → translated h p page write ≡ Ok (frame, new) → Same h.shootdown new.shootdown
translated_same h p page write frame new to =
    subst (λ (r : Result (ℕ × Hardware) ℕ). Same h.shootdown (left_by h r).shootdown) to
    (by_same h p page write (cached (tlb_of h.shootdown p) (current h.shootdown p) page))

faulted_same : (h : Hardware) (p page : ℕ) (new : Hardware) → new ≡ faulted h p page → Same h.shootdown new.shootdown
faulted_same h p page new is =
    same_then h.shootdown (faulted h p page).shootdown new.shootdown
    (with_tlb_same h.shootdown p (without_page (tlb_of h.shootdown p) (current h.shootdown p) page))
    (same_is (faulted h p page).shootdown new.shootdown (ap (λ (x : Hardware). x.shootdown) is))

-- a record that was written leaves the processors alone
record_same : (s : State) → (if is_page_next s then after_record s else s).hardware.shootdown ≡ s.hardware.shootdown
record_same s = go (is_page_next s)
  where
    go : (b : Bool) → (cond b (after_record s) s).hardware.shootdown ≡ s.hardware.shootdown
    go true = refl
    go false = refl

-- ---- single acts

-- an act that leaves the lock and the phases as they are, unless it begins a change
abbrev pub IsQuiet : Act → Reply → Type 0
IsQuiet (acts.Load va count) reply = Unit {0}
IsQuiet (acts.Store va bytes) reply = Unit {0}
IsQuiet (acts.Fix va write) reply = Unit {0}
IsQuiet acts.Flush reply = Unit {0}
IsQuiet (acts.Reclaim file page) reply = reports_begun reply ≡ false
IsQuiet (acts.SetLength file to) reply = reports_begun reply ≡ false
IsQuiet (acts.Msync va len flags) reply = reports_begun reply ≡ false
IsQuiet act reply = ⊥

-- a load or a store of the hardware
accesses_same : (h : Hardware) (p : ℕ) (act : Act) (reply : Reply) (new : Hardware) → IsQuiet act reply
    → Accesses h p act reply new → Same h.shootdown new.shootdown
accesses_same h p (acts.Load va count) (replies.Bytes few) new is made =
    translated_same h p (va / 4096) false made.frame new made.translation
accesses_same h p (acts.Load va count) (replies.Refused (refusals.Fault code)) new is made =
    faulted_same h p (va / 4096) new made.dropped
accesses_same h p (acts.Load va count) (replies.Refused why) new is made =
    same_is h.shootdown new.shootdown (ap (λ (x : Hardware). x.shootdown) made.1)
accesses_same h p (acts.Store va bytes) replies.Stored new is made =
    same_then h.shootdown made.mid.shootdown new.shootdown
    (translated_same h p (va / 4096) true made.frame made.mid made.translation)
    (same_is made.mid.shootdown new.shootdown (ap (λ (x : Hardware). x.shootdown) made.written))
accesses_same h p (acts.Store va bytes) (replies.Refused (refusals.Fault code)) new is made =
    faulted_same h p (va / 4096) new made.dropped
accesses_same h p (acts.Store va bytes) (replies.Refused why) new is made =
    same_is h.shootdown new.shootdown (ap (λ (x : Hardware). x.shootdown) made.1)
accesses_same h p (acts.Fill page) reply new is made = absurd is
accesses_same h p (acts.Evict slot) reply new is made = absurd is
accesses_same h p act reply new is made = absurd made

reaches_keep : (s : State) (p : ℕ) (act : Act) (reply : Reply) (new : State) → IsQuiet act reply
    → Reaches s p act reply new → KeepsPhases s new
reaches_keep s p act reply new is (hw, did, done) =
    keeps_same s new (same_then s.hardware.shootdown hw.shootdown new.hardware.shootdown
    (accesses_same s.hardware p act reply hw is did)
    (same_is hw.shootdown new.hardware.shootdown (ap (λ (t : State). t.hardware.shootdown) done)))

pub act_keeps : (s : State) (d : List ℕ) (p : ℕ) (act : Act) (reply : Reply) (new : State) (d' : List ℕ)
    → IsQuiet act reply → Acts s d p act reply new d' → KeepsPhases s new
act_keeps s d p (acts.Load va count) reply new d' is rule = reaches_keep s p (acts.Load va count) reply new is rule.0
act_keeps s d p (acts.Store va bytes) reply new d' is rule = reaches_keep s p (acts.Store va bytes) reply new is rule.0
act_keeps s d p (acts.Fix va write) replies.Fixed new d' is rule = keeps_is s new (shootdown_is rule.0.1.done)
act_keeps s d p acts.Flush replies.Going new d' is made = keeps_is s new (shootdown_is made.done ∙ record_same s)
act_keeps s d p acts.Flush (replies.Committed mark) new d' is made =
    keeps_is s new (shootdown_is made.done ∙ record_same s)
act_keeps s d p acts.Flush (replies.Done mark) new d' is made = keeps_is s new (shootdown_is made.done ∙ record_same s)
act_keeps s d p acts.Flush replies.Nothing new d' is rule = keeps_is s new (shootdown_is rule.0.1.1)
act_keeps s d p acts.Flush (replies.Refused refusals.Device) new d' is made = keeps_is s new (shootdown_is made.done)
act_keeps s d p (acts.Reclaim file page) replies.Begun new d' is rule = absurd (true≢false is)
act_keeps s d p (acts.Reclaim file page) replies.Nothing new d' is rule = keeps_is s new (shootdown_is rule.0.1.1)
act_keeps s d p (acts.SetLength file to) replies.Begun new d' is rule = absurd (true≢false is)
act_keeps s d p (acts.SetLength file to) replies.Fine new d' is rule = keeps_is s new (shootdown_is rule.0.1.1)
act_keeps s d p (acts.Msync va len flags) replies.Begun new d' is rule = absurd (true≢false is)
act_keeps s d p (acts.Fill page) reply new d' is rule = absurd is
act_keeps s d p (acts.Evict slot) reply new d' is rule = absurd is
act_keeps s d p act (replies.Refused why) new d' is rule = keeps_is s new (shootdown_is rule.0.1)
act_keeps s d p (acts.Fix va write) reply new d' is rule = absurd rule.0.1
act_keeps s d p acts.Flush reply new d' is rule = absurd rule.0.1
act_keeps s d p (acts.Reclaim file page) reply new d' is rule = absurd rule.0.1
act_keeps s d p (acts.SetLength file to) reply new d' is rule = absurd rule.0.1
act_keeps s d p (acts.Msync va len flags) reply new d' is rule = absurd rule.0.1
act_keeps s d p act reply new d' is rule = absurd is

-- ---- why nothing is refused

none≢some : {A : Type 0} (x : A) → None ≡ Some x → ⊥
none≢some x is = true≢false (sym (ap is_some is))

interrupted_not_active : (state : ProcState) → state ≡ Interrupted → state ≢ Active
interrupted_not_active state is now = true≢false (sym (ap is_interrupted is) ∙ ap is_interrupted now)

stalled_not_active : (state : ProcState) → state ≡ Stalled → state ≢ Active
stalled_not_active state is now = true≢false (sym (ap is_stalled is) ∙ ap is_stalled now)

there_unless_active : (s : ShootdownState) (p : ℕ) → state_of s p ≢ Active → p < length s.processors
there_unless_active s p not =
    ⊎_elim (λ within. within) (λ past. absurd (not (state_past s p past))) (cases_lt p (length s.processors))

not_there_none : (s : ShootdownState) (p : ℕ) → p < length s.processors → not_there s p ≡ None
not_there_none s p within =
    ap (λ (b : Bool). if b then None else Some refusals.Einval) (lt-ltb p (length s.processors) within)

wait_none : (s : ShootdownState) (p : ℕ) → p < length s.processors → s.lock ≡ None → wait_refusal is_stalled s p ≡ None
wait_none s p within free =
    ap (λ (o : Option Refusal). option_or o (if is_stalled (state_of s p) && is_some s.lock then Some refusals.Locked
    else None)) (not_there_none s p within) ∙ go (is_stalled (state_of s p)) s.lock free
  where
    go : (b : Bool) (lock : Option Lock) → lock ≡ None
        → (if b && is_some lock then Some refusals.Locked else None) ≡ None
    go true lock is = ap (λ (l : Option Lock). if is_some l then Some refusals.Locked else None) is
    go false lock is = refl

change_none : (s : ShootdownState) (p : ℕ) → IsShootdown s → (change : Change)
    → s.lock ≡ Some (record { holder = p; change = change }) → interrupted s ≡ 0 → change_refusal s p ≡ None
change_none s p is change held calm =
    let within : p < length s.processors = (is.held (record { holder = p; change = change }) held).0 in
    let holder : eqb p p ≡ true = eq-eqb p p refl in
    ap (λ (o : Option Refusal). option_or o (lock_refusal p (interrupted s) s.lock)) (not_there_none s p within)
    ∙ ap (lock_refusal p (interrupted s)) held
    ∙ ap (λ (b : Bool). if b then (if interrupted s == 0 then None else Some (refusals.NotYet (interrupted s)))
    else Some refusals.Locked) holder
    ∙ ap (λ (n : ℕ). if n == 0 then None else Some (refusals.NotYet n)) calm

-- nobody is interrupted
uninterrupted : (state : ProcState) → state ≢ Interrupted → is_interrupted state ≡ false
uninterrupted Active not = refl
uninterrupted Interrupted not = absurd (not refl)
uninterrupted Stalled not = refl
uninterrupted Initiating not = refl
uninterrupted Idle not = refl

none_interrupted : (xs : List Processor) (d : Processor)
    → ((k : ℕ) → k < length xs → (get_or xs k d).state ≢ Interrupted) → count_by (λ x. is_interrupted x.state) xs ≡ 0
none_interrupted [] d each = refl
none_interrupted (x ∷ xs) d each =
    let first : is_interrupted x.state ≡ false = uninterrupted x.state (each 0 (omega arith)) in
    let rest : count_by (λ x. is_interrupted x.state) xs ≡ 0 =
    none_interrupted xs d (λ k within. each (suc k) (omega (arith, within))) in
    sum_by-cons (λ (y : Processor). cond (is_interrupted y.state) 1 0) x xs ∙ ap (λ (b : Bool).
    cond b 1 0 + count_by (λ (y : Processor). is_interrupted y.state) xs) first ∙ ap (λ (n : ℕ). 0 + n) rest

-- the lock is held for one change
abbrev change_in : Option Lock → Change → Change
change_in None other = other
change_in (Some lock) other = lock.change

same_change : (lock : Option Lock) (p q : ℕ) (first second : Change)
    → lock ≡ Some (record { holder = p; change = first }) → lock ≡ Some (record { holder = q; change = second })
    → first ≡ second
same_change lock p q first second is also = ap (λ (l : Option Lock). change_in l first) (sym is ∙ also)

-- so the answer says that it was made
made_for : (s : State) (p : ℕ) (first second : Change) (reply : Reply) → HoldsLock p first s → HoldsLock p second s
    → reports_made first reply ≡ true → reports_made second reply ≡ true
made_for s p first second reply is also reports = subst (λ (c : Change). reports_made c reply ≡ true)
    (same_change s.hardware.shootdown.lock p p first second is also) reports

-- an interrupted processor stalls
ack_made : (s : State) (d : List ℕ) (p : ℕ) (reply : Reply) (new : State) (d' : List ℕ)
    → state_of s.hardware.shootdown p ≡ Interrupted → Acts s d p acts.Ack reply new d'
    → (reply ≡ replies.Acked) × (new.hardware.shootdown ≡ stalled s.hardware.shootdown p)
ack_made s d p replies.Acked new d' is rule = (refl, shootdown_is rule.0.1.1)
ack_made s d p replies.Nothing new d' is rule = absurd (rule.0.1.0 is)
ack_made s d p (replies.Refused why) new d' is rule = absurd (none≢some why (sym (not_there_none
    s.hardware.shootdown p (there_unless_active s.hardware.shootdown p (interrupted_not_active _ is))) ∙ rule.0.0))
ack_made s d p reply new d' is rule = absurd rule.0.1

-- a stalled one goes on while the lock is free
resume_made : (s : State) (d : List ℕ) (p : ℕ) (reply : Reply) (new : State) (d' : List ℕ)
    → s.hardware.shootdown.lock ≡ None → state_of s.hardware.shootdown p ≡ Stalled → Acts s d p acts.Resume reply new d'
    → (reply ≡ replies.Resumed) × (new.hardware.shootdown ≡ resumed s.hardware.shootdown p)
resume_made s d p replies.Resumed new d' free is rule = (refl, shootdown_is rule.0.1.1)
resume_made s d p replies.Nothing new d' free is rule = absurd (rule.0.1.0 is)
resume_made s d p (replies.Refused why) new d' free is rule = absurd (none≢some why (sym (wait_none
    s.hardware.shootdown p (there_unless_active s.hardware.shootdown p (stalled_not_active _ is)) free) ∙ rule.0.0))
resume_made s d p reply new d' free is rule = absurd rule.0.1

-- the change for which the lock is held was made, and answered so
as_made : (s new : State) (p : ℕ) (made change : Change) (reply : Reply) → HoldsLock p made s → HoldsLock p change s
    → reports_changed reply ≡ true → reports_made made reply ≡ true
    → new.hardware.shootdown ≡ finished s.hardware.shootdown p
    → (reports_changed reply ≡ true) × (reports_made change reply ≡ true)
    × (new.hardware.shootdown ≡ finished s.hardware.shootdown p)
as_made s new p made change reply is held changed reports done =
    (changed, made_for s p made change reply is held reports, done)

-- the change is made once nobody is interrupted
change_made : (s : State) (d : List ℕ) (p : ℕ) (reply : Reply) (new : State) (d' : List ℕ) (change : Change)
    → IsShootdown s.hardware.shootdown → HoldsLock p change s → interrupted s.hardware.shootdown ≡ 0
    → Acts s d p acts.Change reply new d'
    → (reports_changed reply ≡ true) × (reports_made change reply ≡ true)
    × (new.hardware.shootdown ≡ finished s.hardware.shootdown p)
change_made s d p replies.Unmapped new d' change is held calm rule = let made = rule.0.1 in
    as_made s new p (changes.Unmap made.pcid made.range) change replies.Unmapped made.may.lock held refl refl
    (shootdown_is made.done)
change_made s d p replies.Protected new d' change is held calm rule = let made = rule.0.1 in
    as_made s new p (changes.Protect made.pcid made.range made.rights) change replies.Protected made.may.lock held
    refl refl (shootdown_is made.done)
change_made s d p replies.Resized new d' change is held calm rule = let made = rule.0.1 in
    as_made s new p (changes.SetLength made.file made.to) change replies.Resized made.may.lock held refl refl
    (shootdown_is made.done)
change_made s d p replies.Reclaimed new d' change is held calm rule = let made = rule.0.1 in
    as_made s new p (changes.Reclaim made.owner) change replies.Reclaimed made.may.lock held refl refl
    (shootdown_is made.done)
change_made s d p replies.Kept new d' change is held calm rule = let made = rule.0.1 in
    as_made s new p (changes.Reclaim made.owner) change replies.Kept made.may.lock held refl refl
    (shootdown_is made.done)
change_made s d p (replies.Marked mark) new d' change is held calm rule = let made = rule.0.1 in
    as_made s new p changes.Checkpoint change (replies.Marked mark) made.may.lock held refl refl
    (shootdown_is made.done)
change_made s d p replies.Nothing new d' change is held calm rule = absurd (none≢some _ (sym rule.0.1.0 ∙ held))
change_made s d p (replies.Refused why) new d' change is held calm rule =
    absurd (none≢some why (sym (change_none s.hardware.shootdown p is change held calm) ∙ rule.0.0))
change_made s d p reply new d' change is held calm rule = absurd rule.0.1

-- ---- a change is begun

-- the first reason, and then the others
first_none : (first : Option Refusal) (others : Option Refusal) → option_or first others ≡ None → first ≡ None
first_none None others is = refl
first_none (Some why) others is = absurd (none≢some why (sym is))

begun_phase : (touched : Bool) (state : ProcState) → state ≢ Initiating → state ≢ Interrupted
    → phase_after (state_when_begun touched state) ≡ state
begun_phase true Active initiates interrupts = refl
begun_phase true Interrupted initiates interrupts = absurd (interrupts refl)
begun_phase true Stalled initiates interrupts = refl
begun_phase true Initiating initiates interrupts = absurd (initiates refl)
begun_phase true Idle initiates interrupts = refl
begun_phase false Active initiates interrupts = refl
begun_phase false Interrupted initiates interrupts = absurd (interrupts refl)
begun_phase false Stalled initiates interrupts = refl
begun_phase false Initiating initiates interrupts = absurd (initiates refl)
begun_phase false Idle initiates interrupts = refl

runs_active : (state : ProcState) → is_running state ≡ true → state ≢ Interrupted → state ≡ Active
runs_active Active runs not = refl
runs_active Interrupted runs not = absurd (not refl)
runs_active Stalled runs not = absurd (true≢false (sym runs))
runs_active Initiating runs not = absurd (true≢false (sym runs))
runs_active Idle runs not = absurd (true≢false (sym runs))

change_begun : (s : State) (p : ℕ) (change : Change) (new : State) → IsShootdown s.hardware.shootdown
    → not_free s.hardware.shootdown p ≡ None → new ≡ begin_change s p change → HasBegun p change s new
change_begun s p change new is free done = record {
  free = unlocked;
  held = ap (λ (t : State). t.hardware.shootdown.lock) done;
  phases = λ q. ap (λ (t : State). phase_after (state_of t.hardware.shootdown q)) done
      ∙ at q (cases_lt q (length sd.processors));
}
  where
    sd : ShootdownState
    sd = s.hardware.shootdown

    unlocked : sd.lock ≡ None
    unlocked = (admitted sd p free).1

    runs : is_running (state_of sd p) ≡ true
    runs =
        (running sd p (first_none (not_running sd p) (if is_some sd.lock then Some refusals.Locked else None) free)).1

    one : (q : ℕ) → q < length sd.processors → (b : Bool) → eqb q p ≡ b → phase_after (cond b Initiating
        (state_when_begun (touches s.hardware.spaces change (current sd q)) (state_of sd q))) ≡ state_of sd q
    one q within true here =
        let same : q ≡ p = eqb-true q p here in
        sym (ap (state_of sd) same
        ∙ runs_active (state_of sd p) runs (λ now. (is.free unlocked q within).1 (ap (state_of sd) same ∙ now)))
    one q within false other = begun_phase (touches s.hardware.spaces change (current sd q)) (state_of sd q)
        (is.free unlocked q within).0 (is.free unlocked q within).1

    at : (q : ℕ) → (q < length sd.processors) ⊎ (length sd.processors ≤ q)
        → phase_after (state_of (begun sd p s.hardware.spaces change) q) ≡ state_of sd q
    at q (inl within) =
        ap (λ (x : Processor). phase_after x.state) (processor_at-begun sd p s.hardware.spaces change q within)
        ∙ ap phase_after (state-begun_one p s.hardware.spaces change q (processor_at sd q))
        ∙ one q within (eqb q p) refl
    at q (inr past) =
        ap phase_after (state_past (begun sd p s.hardware.spaces change) q
        (omega (arith, past, length-begun sd p s.hardware.spaces change)))
        ∙ sym (state_past sd q past)

-- the change that an act begins
abbrev pub Begins : Act → Change → Type 0
Begins (acts.Reclaim file page) change = change ≡ changes.Reclaim (record { file = file; page = page })
Begins (acts.SetLength file to) change = change ≡ changes.SetLength file to
Begins (acts.Msync va len flags) change = change ≡ changes.Checkpoint
Begins act change = ⊥

act_begins : (s : State) (d : List ℕ) (p : ℕ) (act : Act) (change : Change) (new : State) (d' : List ℕ)
    → IsShootdown s.hardware.shootdown → Begins act change → Acts s d p act replies.Begun new d'
    → HasBegun p change s new
act_begins s d p (acts.Reclaim file page) change new d' is begins rule = change_begun s p change new is
    (first_none (not_free s.hardware.shootdown p) _ rule.0.0) (rule.0.1.1 ∙ ap (begin_change s p) (sym begins))
act_begins s d p (acts.SetLength file to) change new d' is begins rule = change_begun s p change new is
    (first_none (not_free s.hardware.shootdown p) _ rule.0.0) (rule.0.1.1 ∙ ap (begin_change s p) (sym begins))
act_begins s d p (acts.Msync va len flags) change new d' is begins rule = change_begun s p change new is
    (first_none (not_free s.hardware.shootdown p) _ rule.0.0) (rule.0.1 ∙ ap (begin_change s p) (sym begins))
act_begins s d p act change new d' is begins rule = absurd begins

-- ---- a change goes on

-- who doesn't initiate and isn't interrupted is after it as before
phase_stays : (state : ProcState) → state ≢ Initiating → state ≢ Interrupted → state ≡ phase_after state
phase_stays Active initiates interrupts = refl
phase_stays Interrupted initiates interrupts = absurd (interrupts refl)
phase_stays Stalled initiates interrupts = refl
phase_stays Initiating initiates interrupts = absurd (initiates refl)
phase_stays Idle initiates interrupts = refl

initiating_not_active : (state : ProcState) → state ≡ Initiating → state ≢ Active
initiating_not_active state was is_active = true≢false (sym (ap is_running is_active) ∙ ap is_running was)

-- the initiator makes it
over_made : (s : State) (p : ℕ) (change : Change) (new : State) → IsShootdown s.hardware.shootdown
    → HoldsLock p change s → ((q : ℕ) → state_of s.hardware.shootdown q ≢ Interrupted)
    → new.hardware.shootdown ≡ finished s.hardware.shootdown p → IsOver s new
over_made s p change new is held calm done = record {
  lock = ap (λ (t : ShootdownState). t.lock) done;
  phases = λ q. ap (λ (t : ShootdownState). state_of t q) done ∙ at q (cases_eq q p);
}
  where
    sd : ShootdownState
    sd = s.hardware.shootdown

    holds : (p < length sd.processors) × ((q : ℕ) → q < length sd.processors → (state_of sd q ≡ Initiating) ↔ (q ≡ p))
    holds = is.held (record { holder = p; change = change }) held

    initiates : (q : ℕ) → q ≢ p → state_of sd q ≢ Initiating
    initiates q other now = other
        ((holds.1 q (there_unless_active sd q (initiating_not_active (state_of sd q) now))).0 now)

    at : (q : ℕ) → (q ≡ p) ⊎ (q ≡ p → ⊥) → state_of (finished sd p) q ≡ phase_after (state_of sd q)
    at q (inl here) =
        ap (state_of (finished sd p)) here ∙ state_there sd p (woken (processor_at sd p)) holds.0
        ∙ sym (ap (λ (r : ℕ). phase_after (state_of sd r)) here ∙ ap phase_after ((holds.1 p holds.0).1 refl))
    at q (inr other) = state_elsewhere sd p (woken (processor_at sd p)) q other
        ∙ phase_stays (state_of sd q) (initiates q other) (calm q)

-- one that stalled waits until it goes on
stalled_now : (s mid : State) (p : ℕ) → state_of s.hardware.shootdown p ≡ Interrupted
    → mid.hardware.shootdown ≡ stalled s.hardware.shootdown p → state_of mid.hardware.shootdown p ≡ Stalled
stalled_now s mid p was acked =
    ap (λ (t : ShootdownState). state_of t p) acked
    ∙ state_there s.hardware.shootdown p (record (processor_at s.hardware.shootdown p) { state = Stalled })
    (there_unless_active s.hardware.shootdown p (interrupted_not_active _ was))

waits_then : (s mid last : State) (p : ℕ) → state_of s.hardware.shootdown p ≡ Interrupted
    → mid.hardware.shootdown ≡ stalled s.hardware.shootdown p → IsOver mid last
    → state_of last.hardware.shootdown p ≡ Stalled
waits_then s mid last p was acked over = over.phases p ∙ ap phase_after (stalled_now s mid p was acked)

-- one that is interrupted stalls before it and goes on after it
over_around : (s mid last new : State) (p : ℕ) → state_of s.hardware.shootdown p ≡ Interrupted
    → mid.hardware.shootdown ≡ stalled s.hardware.shootdown p → IsOver mid last
    → new.hardware.shootdown ≡ resumed last.hardware.shootdown p → IsOver s new
over_around s mid last new p was acked over went = record {
  lock = ap (λ (t : ShootdownState). t.lock) went ∙ over.lock;
  phases = λ q. ap (λ (t : ShootdownState). state_of t q) went ∙ at q (cases_eq q p);
}
  where
    sd : ShootdownState
    sd = s.hardware.shootdown

    ld : ShootdownState
    ld = last.hardware.shootdown

    at : (q : ℕ) → (q ≡ p) ⊎ (q ≡ p → ⊥) → state_of (resumed ld p) q ≡ phase_after (state_of sd q)
    at q (inl here) =
        ap (state_of (resumed ld p)) here ∙ state_there ld p (woken (processor_at ld p))
        (there_unless_active ld p (stalled_not_active _ (waits_then s mid last p was acked over)))
        ∙ sym (ap (λ (r : ℕ). phase_after (state_of sd r)) here ∙ ap phase_after was)
    at q (inr other) =
        state_elsewhere ld p (woken (processor_at ld p)) q other ∙ over.phases q
        ∙ ap phase_after (ap (λ (t : ShootdownState). state_of t q) acked
        ∙ state_elsewhere sd p (record (processor_at sd p) { state = Stalled }) q other)

-- ---- who is interrupted

-- one more isn't
pub calm_more : (next : ℕ) (s : State) → AreCalm next s → state_of s.hardware.shootdown next ≢ Interrupted
    → AreCalm (next + 1) s
calm_more next s calm isnt q below = go (cases_eq q next)
  where
    go : (q ≡ next) ⊎ (q ≡ next → ⊥) → state_of s.hardware.shootdown q ≢ Interrupted
    go (inl here) now = isnt (sym (ap (state_of s.hardware.shootdown) here) ∙ now)
    go (inr other) now = calm q (omega (arith, below, other)) now

pub calm_stalled : (next : ℕ) (s mid : State) → AreCalm next s → state_of s.hardware.shootdown next ≡ Interrupted
    → mid.hardware.shootdown ≡ stalled s.hardware.shootdown next → AreCalm (next + 1) mid
calm_stalled next s mid calm was acked q below = go (cases_eq q next)
  where
    go : (q ≡ next) ⊎ (q ≡ next → ⊥) → state_of mid.hardware.shootdown q ≢ Interrupted
    go (inl here) now = true≢false (sym (ap is_interrupted now)
        ∙ ap is_interrupted (ap (state_of mid.hardware.shootdown) here ∙ stalled_now s mid next was acked))
    go (inr other) now = calm q (omega (arith, below, other))
        (sym (ap (λ (t : ShootdownState). state_of t q) acked ∙ state_elsewhere s.hardware.shootdown next
        (record (processor_at s.hardware.shootdown next) { state = Stalled }) q other) ∙ now)

-- there are no more than 16 processors
pub calm_all : (next : ℕ) (s : State) → 16 ≤ next → AreCalm next s → AreCalm 16 s
calm_all next s long calm q below = calm q (omega (arith, below, long))

calm_everywhere : (s : State) → IsShootdown s.hardware.shootdown → AreCalm 16 s → (q : ℕ)
    → state_of s.hardware.shootdown q ≢ Interrupted
calm_everywhere s is calm q now =
    calm q (omega (arith, is.few, there_unless_active s.hardware.shootdown q (interrupted_not_active _ now))) now

-- ---- steps of a session

module _ {D : Type 0} (disk : Ghosts D) (old new : Whole D) (before after : Notes) where
  -- one step
  rules_of : (step : Step) (reply : Reply) → Makes disk old before (step ∷ []) (reply ∷ []) new after
      → (d d' : List ℕ) × Acts old.state d step.p step.act reply new.state d'
  rules_of step reply makes =
      let here = makes.taken.1 in (
        here.answered.0,
        here.answered.1,
        subst (λ (m : Whole D). Acts old.state here.answered.0 step.p step.act reply m.state here.answered.1)
            (sym makes.taken.2) here.answered.2,
      )

  pub step_keeps : (step : Step) (reply : Reply) → Makes disk old before (step ∷ []) (reply ∷ []) new after
      → IsQuiet step.act reply → KeepsPhases old.state new.state
  step_keeps step reply makes is = let r = rules_of step reply makes in
      act_keeps old.state r.0 step.p step.act reply new.state r.1 is r.2

  -- a change is begun
  pub step_begins : (step : Step) (reply : Reply) (change : Change) → IsShootdown old.state.hardware.shootdown
      → reports_begun reply ≡ true → Makes disk old before (step ∷ []) (reply ∷ []) new after
      → Begins step.act change → HasBegun step.p change old.state new.state
  step_begins step reply change sound is makes begins = let r = rules_of step reply makes in
      act_begins old.state r.0 step.p step.act change new.state r.1 sound begins
      (subst (λ (replied : Reply). Acts old.state r.0 step.p step.act replied new.state r.1) (begun_is reply is) r.2)

  -- and made
  ack_is : (p : ℕ) (reply : Reply) → state_of old.state.hardware.shootdown p ≡ Interrupted
      → Makes disk old before (record { p = p; act = acts.Ack } ∷ []) (reply ∷ []) new after
      → (reply ≡ replies.Acked) × (new.state.hardware.shootdown ≡ stalled old.state.hardware.shootdown p)
  ack_is p reply is makes = let r = rules_of _ reply makes in ack_made old.state r.0 p reply new.state r.1 is r.2

  resume_is : (p : ℕ) (reply : Reply) → old.state.hardware.shootdown.lock ≡ None
      → state_of old.state.hardware.shootdown p ≡ Stalled
      → Makes disk old before (record { p = p; act = acts.Resume } ∷ []) (reply ∷ []) new after
      → (reply ≡ replies.Resumed) × (new.state.hardware.shootdown ≡ resumed old.state.hardware.shootdown p)
  resume_is p reply free is makes = let r = rules_of _ reply makes in
      resume_made old.state r.0 p reply new.state r.1 free is r.2

  pub change_is : (p : ℕ) (reply : Reply) (change : Change) → IsShootdown old.state.hardware.shootdown
      → HoldsLock p change old.state → AreCalm 16 old.state
      → Makes disk old before (record { p = p; act = acts.Change } ∷ []) (reply ∷ []) new after
      → (reports_changed reply ≡ true) × (reports_made change reply ≡ true) × IsOver old.state new.state
  change_is p reply change sound held calm makes =
      let r = rules_of _ reply makes in
      let everywhere = calm_everywhere old.state sound calm in
      let did = change_made old.state r.0 p reply new.state r.1 change sound held (none_interrupted
      old.state.hardware.shootdown.processors (fresh_processor 1) (λ k within. everywhere k)) r.2 in
      (did.0, did.1, over_made old.state p change new.state sound held everywhere did.2)

-- a change that was begun and made leaves all as it was
pub begun_over : (old mid new : State) (p : ℕ) (change : Change) → HasBegun p change old mid → IsOver mid new
    → KeepsPhases old new
begun_over old mid new p change begins over =
    record { lock = over.lock ∙ sym begins.free; phases = λ q. over.phases q ∙ begins.phases q }

-- steps after which nothing is other, and then the begin of a change
pub begins_kept : (old mid new : State) (p : ℕ) (change : Change) → KeepsPhases old mid → HasBegun p change mid new
    → HasBegun p change old new
begins_kept old mid new p change kept begins =
    record { free = sym kept.lock ∙ begins.free; held = begins.held; phases = λ q. begins.phases q ∙ kept.phases q }

-- who is interrupted by a change isn't the one that began it
pub interrupted_other : (s : State) (p next : ℕ) (change : Change) → IsShootdown s.hardware.shootdown
    → HoldsLock p change s → state_of s.hardware.shootdown next ≡ Interrupted → next ≢ p
interrupted_other s p next change is held was same =
    let lock = is.held (record { holder = p; change = change }) held in
    let now : state_of s.hardware.shootdown p ≡ Interrupted =
    subst (λ n. state_of s.hardware.shootdown n ≡ Interrupted) same was in
    true≢false (sym (ap is_interrupted now) ∙ ap is_interrupted ((lock.1 p lock.0).1 refl))

-- the lock is held while one stalls
pub held_stalled : (s mid : State) (p q : ℕ) (change : Change) → HoldsLock p change s
    → mid.hardware.shootdown ≡ stalled s.hardware.shootdown q → HoldsLock p change mid
held_stalled s mid p q change held acked = ap (λ (t : ShootdownState). t.lock) acked ∙ held

-- one that is interrupted stalls before a change and goes on after it
pub changes_around : {D : Type 0} (disk : Ghosts D) (old mid last new : Whole D) (before between next after : Notes)
    (p : ℕ) (acked resumed : Reply) → state_of old.state.hardware.shootdown p ≡ Interrupted
    → Makes disk old before (record { p = p; act = acts.Ack } ∷ []) (acked ∷ []) mid between
    → IsOver mid.state last.state
    → Makes disk last next (record { p = p; act = acts.Resume } ∷ []) (resumed ∷ []) new after
    → (acked ≡ replies.Acked) × (resumed ≡ replies.Resumed) × IsOver old.state new.state
changes_around disk old mid last new before between next after p acked resumed was stalls over goes =
    let stalled-is = ack_is disk old mid before between p acked was stalls in
    let waits = waits_then old.state mid.state last.state p was stalled-is.1 over in
    let goes-is = resume_is disk last new next after p resumed over.lock waits goes in (
      stalled-is.0,
      goes-is.0,
      over_around old.state mid.state last.state new.state p was stalled-is.1 over goes-is.1,
    )
