-- What holds where an act isn't refused.
use Rattle.machine.proofs.Names.{ℕ, ◌≡◌, ◌<◌, Bool, true, false, not, ◌&&◌, cond, List, [], ◌∷◌, length, Option, Some}
use Rattle.machine.proofs.Names.{None, is_some, Ok, refl, subst, option_or, Refusal, Place, Spaces, has_space, Lock}
use Rattle.machine.proofs.Names.{ProcState, Active, Interrupted, Stalled, Initiating, Idle, is_running, ShootdownState}
use Rattle.machine.proofs.Names.{is_there, state_of, current, not_running, not_free, is_interrupted, interrupted}
use Rattle.machine.proofs.Names.{not_there, wait_refusal, idle_refusal, switch_refusal, change_refusal, lock_refusal}
use Rattle.machine.proofs.Names.{is_there_below, none_unless_some, admitted, running, place_of_fault, fault_refusal}
use Rattle.machine.proofs.Names.{State, length_of, refuse_if, first_of, served_refusal, reason_against}
use Rattle.page_entry.specs.declared.refusal.Refusal.TheVariants as refusals
use Rattle.machine.specs.declared.act.Act.TheVariants as acts

-- ---- none of several reasons

pub both_none : (a b : Option Refusal) → option_or a b ≡ None → (a ≡ None) × (b ≡ None)
both_none None b e = (refl, e)
both_none (Some why) b e = absurd (cc)

pub first_none : (reason : Option Refusal) (reasons : List (Option Refusal)) → first_of (reason ∷ reasons) ≡ None
    → (reason ≡ None) × (first_of reasons ≡ None)
first_none reason reasons e = both_none reason (first_of reasons) e

pub refuse_none : (b : Bool) (why : Refusal) → refuse_if b why ≡ None → b ≡ false
refuse_none true why e = absurd (cc)
refuse_none false why e = refl

unless_none : (b : Bool) (why : Refusal) → cond b None (Some why) ≡ None → b ≡ true
unless_none true why e = refl
unless_none false why e = absurd (cc)

where_none : (b : Bool) (why : Refusal) → cond b (Some why) None ≡ None → b ≡ false
where_none true why e = absurd (cc)
where_none false why e = refl

-- the second of some reasons
pub second_not_refused : (a : Option Refusal) (b : Bool) (why : Refusal) (reasons : List (Option Refusal))
    → first_of (a ∷ refuse_if b why ∷ reasons) ≡ None → b ≡ false
second_not_refused a b why reasons e =
    refuse_none b why (first_none (refuse_if b why) reasons (first_none a (refuse_if b why ∷ reasons) e).1).0

-- ---- processors and the lock

-- nothing holds of a lock that is free
pub unlocked : {A : Type 0} (lock : Option Lock) (held : Lock) → lock ≡ None → lock ≡ Some held → A
unlocked lock held free is = absurd (cc)

-- the processor is there, and the lock is free
pub free_below : (s : ShootdownState) (p : ℕ) → not_free s p ≡ None → (p < length s.processors) × (s.lock ≡ None)
free_below s p free = let parts = admitted s p free in (is_there_below s p parts.0, parts.1)

pub running_below : (s : ShootdownState) (p : ℕ) → not_running s p ≡ None
    → (p < length s.processors) × (is_running (state_of s p) ≡ true)
running_below s p free = let parts = running s p free in (is_there_below s p parts.0, parts.1)

pub is_there_by : (s : ShootdownState) (p : ℕ) → not_there s p ≡ None → is_there s p ≡ true
is_there_by s p none = unless_none (is_there s p) refusals.Einval none

pub there_below : (s : ShootdownState) (p : ℕ) → not_there s p ≡ None → p < length s.processors
there_below s p none = is_there_below s p (is_there_by s p none)

pub there_at_change : (s : ShootdownState) (p : ℕ) → change_refusal s p ≡ None → is_there s p ≡ true
there_at_change s p none = is_there_by s p (both_none (not_there s p) (lock_refusal p (interrupted s) s.lock) none).0

pub switch_admitted : (s : ShootdownState) (spaces : Spaces) (p pcid : ℕ) → switch_refusal s spaces p pcid ≡ None
    → (not_free s p ≡ None) × (has_space spaces pcid ≡ true)
switch_admitted s spaces p pcid none =
    let parts = both_none (not_free s p) (cond (has_space spaces pcid) None (Some refusals.Einval)) none in
    (parts.0, unless_none (has_space spaces pcid) refusals.Einval parts.1)

-- one that waits goes on only while the lock is free
pub there_at_wait : (waits : ProcState → Bool) (s : ShootdownState) (p : ℕ) → wait_refusal waits s p ≡ None
    → is_there s p ≡ true
there_at_wait waits s p none = is_there_by s p
    (both_none (not_there s p) (cond (waits (state_of s p) && is_some s.lock) (Some refusals.Locked) None) none).0

pub wait_admitted : (waits : ProcState → Bool) (s : ShootdownState) (p : ℕ) → wait_refusal waits s p ≡ None
    → waits (state_of s p) ≡ true → (p < length s.processors) × (s.lock ≡ None)
wait_admitted waits s p none is =
    let held = (both_none (not_there s p)
    (cond (waits (state_of s p) && is_some s.lock) (Some refusals.Locked) None) none).1 in (
      is_there_below s p (there_at_wait waits s p none),
      none_unless_some s.lock (unlocked (waits (state_of s p)) is (is_some s.lock)
          (where_none (waits (state_of s p) && is_some s.lock) refusals.Locked held)),
    )
  where
    unlocked : (a : Bool) → a ≡ true → (b : Bool) → (a && b) ≡ false → b ≡ false
    unlocked true e b h = h
    unlocked false e b h = absurd (cc)

active_from : (state : ProcState) → is_running state ≡ true → is_interrupted state ≡ false → state ≡ Active
active_from Active runs not = refl
active_from Interrupted runs not = absurd (cc)
active_from Stalled runs not = absurd (cc)
active_from Initiating runs not = absurd (cc)
active_from Idle runs not = absurd (cc)

pub idle_admitted : (s : ShootdownState) (p : ℕ) → idle_refusal s p ≡ None
    → (p < length s.processors) × (state_of s p ≡ Active)
idle_admitted s p none =
    let parts = both_none (not_running s p) (cond (is_interrupted (state_of s p)) (Some refusals.Locked) None) none in
    let runs = running_below s p parts.0 in
    (runs.0, active_from (state_of s p) runs.1 (where_none (is_interrupted (state_of s p)) refusals.Locked parts.1))

-- ---- acts of a processor that goes on, while the lock is free

abbrev pub IsFree : State → ℕ → Type 0
IsFree s p = not_free s.hardware.shootdown p ≡ None

pub free_of : (s : State) (p : ℕ) (later : Option Refusal) → option_or (not_free s.hardware.shootdown p) later ≡ None
    → IsFree s p
free_of s p later none = (both_none (not_free s.hardware.shootdown p) later none).0

-- nothing is against the service of a fault that leads to a place
pub served_at_fix : (s : State) (p va : ℕ) (write : Bool) (place : Place)
    → reason_against s p (acts.Fix va write) ≡ None
    → place_of_fault s.hardware.spaces (current s.hardware.shootdown p) va write ≡ Ok place
    → fault_refusal s.hardware.memory s.checkpoint s.write_outs.broken place (length_of s place.file) write ≡ None
served_at_fix s p va write place none leads =
    (both_none (served_refusal s write (Ok place)) None
    (subst (λ r. option_or (served_refusal s write r) None ≡ None) leads
    (first_none (not_free s.hardware.shootdown p) (served_refusal s write
    (place_of_fault s.hardware.spaces (current s.hardware.shootdown p) va write) ∷ []) none).1)).0
