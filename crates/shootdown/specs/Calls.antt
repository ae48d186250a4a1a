-- The result of each call of a processor, and the state after it.
use Rattle.std.specs.Prelude.{ℕ, ◌≡◌, ◌≤◌, ◌+◌, ◌^◌, ◌==◌, ◌&&◌, not, Bool, true, false}
use Rattle.std.specs.Prelude.{is_some, Option, Some, None, Result, Ok, Err, if◌then◌else◌}
use Rattle.std.specs.Option.{option_or, option_map}
use Rattle.page_entry.specs.declared.refusal.Refusal.{Refusal}
use Rattle.page_entry.specs.declared.refusal.Refusal.TheVariants.{Einval, Locked, NotYet, Busy}
use Rattle.spaces.specs.declared.change.Change.{Change}
use Rattle.spaces.specs.declared.change.Change.TheVariants.{Unmap, Protect}
use Rattle.spaces.specs.Spaces.{Spaces, has_space}
use Rattle.spaces.specs.Requests.{is_user_space}
use Rattle.shootdown.specs.declared.lock.Lock.{Lock}
use Rattle.shootdown.specs.declared.proc_state.ProcState.{ProcState}
use Rattle.shootdown.specs.declared.proc_state.ProcState.TheVariants as states
use Rattle.shootdown.specs.Shootdown.{ShootdownState, is_there, state_of, not_running, not_free, is_interrupted}
use Rattle.shootdown.specs.Shootdown.{interrupted, is_current, stalled, resumed, idled, switched_to}

-- the refusal if there is no processor with this number
abbrev pub not_there : ShootdownState → ℕ → Option Refusal
not_there s p = if is_there s p then None else Some Einval

-- An interrupted processor stalls. In any other state nothing happens.
abbrev pub Acks : ShootdownState → ℕ → Result Bool Refusal → ShootdownState → Type 0
Acks old p (Ok true) new = (not_there old p ≡ None) × (is_interrupted (state_of old p) ≡ true) × (new ≡ stalled old p)
Acks old p (Ok false) new = (not_there old p ≡ None) × (is_interrupted (state_of old p) ≡ false) × (new ≡ old)
Acks old p (Err why) new = (not_there old p ≡ Some why) × (new ≡ old)

-- Why the change that was begun isn't handed out. Other processors wait for the lock. The holder of the lock waits for
-- the processors that are still interrupted.
abbrev pub lock_refusal : ℕ → ℕ → Option Lock → Option Refusal
lock_refusal p waiting None = None
lock_refusal p waiting (Some lock) =
    if lock.holder == p then (if waiting == 0 then None else Some (NotYet waiting)) else Some Locked

abbrev pub change_refusal : ShootdownState → ℕ → Option Refusal
change_refusal s p = option_or (not_there s p) (lock_refusal p (interrupted s) s.lock)

-- The change is handed out to the lock's holder once no processor is interrupted. While the lock is free, there is no
-- change.
abbrev pub HandsOut : ShootdownState → ℕ → Result (Option Change) Refusal → Type 0
HandsOut s p (Ok (Some change)) =
    (change_refusal s p ≡ None) × (s.lock ≡ Some (record { holder = p; change = change })) × (interrupted s ≡ 0)
HandsOut s p (Ok None) = (change_refusal s p ≡ None) × (s.lock ≡ None)
HandsOut s p (Err why) = change_refusal s p ≡ Some why

-- the processor that holds the lock
abbrev pub holder_of : ShootdownState → Option ℕ
holder_of s = option_map (λ lock. lock.holder) s.lock

abbrev pub is_stalled : ProcState → Bool
is_stalled states.Stalled = true
is_stalled _ = false

abbrev pub is_idle : ProcState → Bool
is_idle states.Idle = true
is_idle _ = false

-- A waiting processor can't resume while the lock is held.
abbrev pub wait_refusal : (ProcState → Bool) → ShootdownState → ℕ → Option Refusal
wait_refusal waits s p = option_or (not_there s p) (if waits (state_of s p)
    && is_some s.lock then Some Locked else None)

-- A waiting processor carries out its queue and becomes active. In any other state nothing happens.
abbrev pub GoesOn : (ProcState → Bool) → ShootdownState → ℕ → Result Bool Refusal → ShootdownState → Type 0
GoesOn waits old p (Ok true) new =
    (wait_refusal waits old p ≡ None) × (waits (state_of old p) ≡ true) × (new ≡ resumed old p)
GoesOn waits old p (Ok false) new = (wait_refusal waits old p ≡ None) × (waits (state_of old p) ≡ false) × (new ≡ old)
GoesOn waits old p (Err why) new = (wait_refusal waits old p ≡ Some why) × (new ≡ old)

-- An active processor may become idle. An interrupted processor has to stall first.
abbrev pub idle_refusal : ShootdownState → ℕ → Option Refusal
idle_refusal s p = option_or (not_running s p) (if is_interrupted (state_of s p) then Some Locked else None)

abbrev pub IdleAnswers : ShootdownState → ℕ → Result (Unit {0}) Refusal → ShootdownState → Type 0
IdleAnswers old p (Ok done) new = (idle_refusal old p ≡ None) × (new ≡ idled old p)
IdleAnswers old p (Err why) new = (idle_refusal old p ≡ Some why) × (new ≡ old)

-- A processor may switch to a space that exists, while the lock is free.
abbrev pub switch_refusal : ShootdownState → Spaces → ℕ → ℕ → Option Refusal
switch_refusal s spaces p pcid = option_or (not_free s p) (if has_space spaces pcid then None else Some Einval)

abbrev pub SwitchAnswers : ShootdownState → Spaces → ℕ → ℕ → Bool → Result (Unit {0}) Refusal → ShootdownState → Type 0
SwitchAnswers old spaces p pcid keep (Ok done) new =
    (switch_refusal old spaces p pcid ≡ None) × (new ≡ switched_to old p pcid keep)
SwitchAnswers old spaces p pcid keep (Err why) new = (switch_refusal old spaces p pcid ≡ Some why) × (new ≡ old)

-- A space other than 0 may be destroyed while it is no processor's current space.
abbrev pub destroy_refusal : ShootdownState → Spaces → ℕ → Option Refusal
destroy_refusal s spaces pcid =
    if not (is_user_space spaces pcid) then Some Einval else (if is_current s pcid then Some Busy else None)

-- The pages of the change's range are user pages, with numbers below 2 ^ 35.
abbrev pub HasUserPages : Change → Type 0
HasUserPages (Unmap pcid range) = range.first + range.count ≤ 2 ^ 35
HasUserPages (Protect pcid range rights) = range.first + range.count ≤ 2 ^ 35
HasUserPages _ = Unit {0}
