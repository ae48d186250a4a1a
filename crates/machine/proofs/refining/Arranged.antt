-- Each move leaves spaces, processors and the lock as it tells them.
use Rattle.machine.proofs.Names.{ℕ, ◌≡◌, ◌<◌, Bool, true, set, List, length, Option, None, Some, is_some, refl, sym, ap}
use Rattle.machine.proofs.Names.{◌≢◌, Resizing, ResizeMade}
use Rattle.spaces.specs.declared.change.Change.TheVariants.{SetLength}
use Rattle.machine.proofs.Names.{◌∙◌, subst, FramesState, Change, Unmap, Protect, Reclaim, Checkpoint, Spaces, Lock}
use Rattle.machine.proofs.Names.{Processor, woken, ShootdownState, processor_at, with_processor, change_refusal}
use Rattle.machine.proofs.Names.{admitted, is_there_below, CheckpointState, Event, State, with_hardware, begin_change}
use Rattle.machine.proofs.Names.{end_change, Observed, Pending, changed, ended_by, IsSound, IsArranged, pending_in}
use Rattle.machine.proofs.Names.{change_in, Effect, Silent, Running, Entering, Mapping, Leaving, Beginning, Storing}
use Rattle.machine.proofs.Names.{after_effect, IsProcessorObserved, effect_of}
use Rattle.machine.proofs.Names.{ending_of, EndsChange, Move, Replace, Remap, Destroy}
use Rattle.machine.proofs.Names.{Begin, End, Store, Bring, Copy, Drop}
use Rattle.machine.specs.inside.Moves.{AreSpacesObserved as AreEffects}
use Rattle.machine.proofs.sound.Admitted.{there_at_change}
use Rattle.machine.proofs.refining.Translations.{has_stored}
use Rattle.machine.proofs.refining.ObservedSpaces.{AreProcessorsObserved, observed_still, observed_running}
use Rattle.machine.proofs.refining.ObservedSpaces.{observed_switched, observed_begun}
use Rattle.machine.proofs.refining.ObservedSpaces.{observed_destroyed, ObservedSpaces}
use Rattle.machine.proofs.refining.ObservedSpaces.{AreSpacesObserved, spaces_still, spaces_with, spaces_without}

-- the lock as it is observed
pub record IsLockObserved (locked : Bool) (pending : Option Pending) (lock : Option Lock) : Type 0 where
  pub same_locked : locked ≡ is_some lock
  pub same_pending : pending ≡ pending_in (change_in lock)

-- ---- the parts of what is observed

module _ {observed : Observed} {s : State} (a : IsArranged observed s) where
  pub processors_of : AreProcessorsObserved observed.current observed.running s.hardware.shootdown
  processors_of = record {
    processors = a.processors;
    same_current = a.same_current;
    as_many = a.as_many;
    same_running = a.same_running;
  }

  pub spaces_of : AreSpacesObserved observed.spaces s.hardware.spaces
  spaces_of = record { same_spaces = a.same_spaces; same_places = a.same_places }

  -- the lock is observed still where it is the same
  lock_as : (lock : Option Lock) → lock ≡ s.hardware.shootdown.lock
      → IsLockObserved observed.locked observed.pending lock
  lock_as lock same = record {
    same_locked = a.same_locked ∙ sym (ap is_some same);
    same_pending = a.same_pending ∙ sym (ap (λ l. pending_in (change_in l)) same);
  }

pub arranged_from : (observed : Observed) (s : State) → AreSpacesObserved observed.spaces s.hardware.spaces
    → AreProcessorsObserved observed.current observed.running s.hardware.shootdown
    → IsLockObserved observed.locked observed.pending s.hardware.shootdown.lock
    → observed.lengths ≡ s.lengths → IsArranged observed s
arranged_from observed s spaces processors lock lengths = record {
  same_spaces = spaces.same_spaces;
  same_places = spaces.same_places;
  processors = processors.processors;
  same_current = processors.same_current;
  as_many = processors.as_many;
  same_running = processors.same_running;
  same_locked = lock.same_locked;
  same_pending = lock.same_pending;
  same_lengths = lengths;
}

-- of what is observed the history doesn't matter
pub with_history : {observed : Observed} {s : State} (history : List Event) → IsArranged observed s
    → IsArranged (record observed { history = history }) s
with_history {observed} {s} history a =
    arranged_from (record observed { history = history }) s (spaces_of a) (processors_of a)
    (lock_as a s.hardware.shootdown.lock refl) a.same_lengths

-- of the state only the hardware and the lengths matter
pub arranged_beside : (observed : Observed) (s new : State) → IsArranged observed s
    → new.hardware.shootdown ≡ s.hardware.shootdown
    → new.hardware.spaces ≡ s.hardware.spaces → new.lengths ≡ s.lengths → IsArranged observed new
arranged_beside observed s new a shootdown spaces lengths =
    arranged_from observed new
    (subst (AreSpacesObserved observed.spaces) (sym spaces) (spaces_of a))
    (subst (AreProcessorsObserved observed.current observed.running) (sym shootdown) (processors_of a))
    (lock_as a new.hardware.shootdown.lock (ap (λ (x : ShootdownState). x.lock) shootdown))
    (a.same_lengths ∙ sym lengths)

-- ---- what moves tell of processors and of spaces

module _ (observed : Observed) (s : State) (a : IsArranged observed s) where
  abbrev processors : ShootdownState
  processors = s.hardware.shootdown

  -- another processor
  arranged_processor : (effect : Effect) (new : State) (p : ℕ) (x : Processor)
      → p < length s.hardware.shootdown.processors → IsProcessorObserved processors p x effect
      → new.hardware.shootdown ≡ with_processor processors p x → new.hardware.spaces ≡ s.hardware.spaces
      → new.lengths ≡ s.lengths → IsArranged (after_effect observed effect) new
  arranged_processor effect new p x there is shootdown spaces lengths = by effect is
    where
      with : (current : List ℕ) (running : List Bool)
          → AreProcessorsObserved current running (with_processor processors p x)
          → IsArranged (record observed { current = current; running = running }) new
      with current running t =
          arranged_from (record observed { current = current; running = running }) new
          (subst (AreSpacesObserved observed.spaces) (sym spaces) (spaces_of a))
          (subst (AreProcessorsObserved current running) (sym shootdown) t) (lock_as a new.hardware.shootdown.lock
          (ap (λ (y : ShootdownState). y.lock) shootdown)) (a.same_lengths ∙ sym lengths)

      by : (effect : Effect) → IsProcessorObserved processors p x effect → IsArranged (after_effect observed effect) new
      by Silent is = with observed.current observed.running
          (observed_still observed.current observed.running processors p x there (processors_of a) is.0 is.1)
      by (Running q goes) is =
          subst (λ k. IsArranged (record observed { running = set observed.running k goes }) new) (sym is.0)
          (with observed.current (set observed.running p goes)
          (observed_running observed.current observed.running processors p x there (processors_of a) goes is.1 is.2))
      by (Entering q space) is =
          subst (λ k. IsArranged (record observed { current = set observed.current k space }) new) (sym is.0)
          (with (set observed.current p space) observed.running
          (observed_switched observed.current observed.running processors p x there (processors_of a) space is.1 is.2))
      by effect is = absurd is

  -- other spaces
  spaces_after : (effect : Effect) (spaces : Spaces) → AreEffects effect s.hardware.spaces spaces
      → AreSpacesObserved (after_effect observed effect).spaces spaces
  spaces_after Silent spaces is = spaces_still observed.spaces s.hardware.spaces spaces is.there is.places (spaces_of a)
  spaces_after (Mapping space change) spaces is =
      spaces_with observed.spaces space s.hardware.spaces spaces _ is.there
      (is.here ∙ ap change (sym (a.same_places space))) is.others (spaces_of a)
  spaces_after effect spaces is = absurd is

  arranged_spaces : (effect : Effect) (new : State) → AreEffects effect s.hardware.spaces new.hardware.spaces
      → new.hardware.shootdown ≡ processors → new.lengths ≡ s.lengths → IsArranged (after_effect observed effect) new
  arranged_spaces effect new is shootdown lengths = by effect is (spaces_after effect new.hardware.spaces is)
    where
      with : (places : ObservedSpaces) → AreSpacesObserved places new.hardware.spaces
          → IsArranged (record observed { spaces = places }) new
      with places t =
          arranged_from (record observed { spaces = places }) new t
          (subst (AreProcessorsObserved observed.current observed.running) (sym shootdown) (processors_of a))
          (lock_as a new.hardware.shootdown.lock (ap (λ (y : ShootdownState). y.lock) shootdown))
          (a.same_lengths ∙ sym lengths)

      by : (effect : Effect) → AreEffects effect s.hardware.spaces new.hardware.spaces
          → AreSpacesObserved (after_effect observed effect).spaces new.hardware.spaces
          → IsArranged (after_effect observed effect) new
      by Silent is t = with observed.spaces t
      by (Mapping space change) is t = with _ t
      by effect is t = absurd is

  -- a change ends
  pub arranged_end : (p : ℕ) (places : ObservedSpaces) (spaces : Spaces) (memory : FramesState) (c : CheckpointState)
      → change_refusal processors p ≡ None → AreSpacesObserved places spaces
      → IsArranged (ended_by (record observed { spaces = places }) p) (end_change s p spaces memory c)
  arranged_end p places spaces memory c allowed t =
      let there = is_there_below processors p (there_at_change processors p allowed) in
      let runs = observed_running observed.current observed.running processors p
      (woken (processor_at processors p)) there
      (processors_of a) true refl refl in
      arranged_from (ended_by (record observed { spaces = places }) p) (end_change s p spaces memory c) t
      (record {
        processors = runs.processors;
        same_current = runs.same_current;
        as_many = runs.as_many;
        same_running = runs.same_running;
      })
      (record { same_locked = refl; same_pending = refl }) a.same_lengths

  -- the length of a file becomes another
  pub arranged_resized : (p : ℕ) (new : State) → ResizeMade s p new
      → IsArranged (ended_by (changed observed observed.pending) p) new
  arranged_resized p new made =
      let there = is_there_below processors p (there_at_change processors p made.may.allowed) in
      let runs = observed_running observed.current observed.running processors p
      (woken (processor_at processors p)) there
      (processors_of a) true refl refl in
      let edits = made.pages.cleared in
      let now = ended_by (record observed { lengths = set observed.lengths made.file made.to }) p in
      let pending : observed.pending ≡ Some (Resizing made.file made.to) =
      a.same_pending ∙ ap (λ l. pending_in (change_in l)) made.may.lock in
      subst (λ o. IsArranged (ended_by (changed observed o) p) new) (sym pending)
      (subst (IsArranged now) (sym made.done)
      (arranged_from now _
      (spaces_still observed.spaces s.hardware.spaces made.spaces edits.same_spaces edits.same_places (spaces_of a))
      (record {
        processors = runs.processors;
        same_current = runs.same_current;
        as_many = runs.as_many;
        same_running = runs.same_running;
      })
      (record { same_locked = refl; same_pending = refl })
      (ap (λ (l : List ℕ). set l made.file made.to) a.same_lengths)))

  module _ (effect : Effect) (new : State) (is : EndsChange s effect new) where
    abbrev ended : State
    ended = end_change s is.p is.spaces s.hardware.memory is.checkpoint

    with : (places : ObservedSpaces) → AreSpacesObserved places is.spaces
        → IsArranged (ended_by (record observed { spaces = places }) is.p) ended
    with places t = arranged_end is.p places is.spaces s.hardware.memory is.checkpoint is.may.allowed t

    -- the change that was observed takes effect
    takes : (change : Change) → observed.pending ≡ pending_in (Some change)
        → IsArranged (ended_by (changed observed (pending_in (Some change))) is.p) ended
        → IsArranged (ended_by (changed observed observed.pending) is.p) ended
    takes change same = subst (λ o. IsArranged (ended_by (changed observed o) is.p) ended) (sym same)

    by_change : (change : Change) → ((file to : ℕ) → change ≢ SetLength file to)
        → observed.pending ≡ pending_in (Some change)
        → AreSpacesObserved (after_effect observed (effect_of change)).spaces is.spaces
        → IsArranged (after_effect observed (ending_of is.p change)) ended
    by_change (Unmap pcid range) others same t = takes (Unmap pcid range) same (with _ t)
    by_change (Protect pcid range rights) others same t = takes (Protect pcid range rights) same (with _ t)
    by_change (Reclaim owner) others same t = with observed.spaces t
    by_change (SetLength file to) others same t = absurd (others file to refl)
    by_change Checkpoint others same t = with observed.spaces t

    arranged_ended : IsArranged (after_effect observed (ending_of is.p is.change)) new
    arranged_ended =
        let pending = a.same_pending ∙ ap (λ l. pending_in (change_in l)) is.may.lock in
        subst (IsArranged (after_effect observed (ending_of is.p is.change))) (sym is.done)
        (by_change is.change is.same_lengths pending (spaces_after (effect_of is.change) is.spaces is.observed))

  -- ---- each move

  as_effect : (effect other : Effect) (new : State) → effect ≡ other → IsArranged (after_effect observed other) new
      → IsArranged (after_effect observed effect) new
  as_effect effect other new is = subst (λ x. IsArranged (after_effect observed x) new) (sym is)

  -- frames alone change
  by_memory : (effect : Effect) (new : State) (memory : FramesState) → effect ≡ Silent
      → new ≡ with_hardware s (record s.hardware { memory = memory }) → IsArranged (after_effect observed effect) new
  by_memory effect new memory silent done =
      as_effect effect Silent new silent
      (arranged_beside observed s new a (ap (λ (x : State). x.hardware.shootdown) done)
      (ap (λ (x : State). x.hardware.spaces) done) (ap (λ (x : State). x.lengths) done))

  pub arranged_moved : (disk : List ℕ) (effect : Effect) (new : State) → IsSound s → Move disk s effect new
      → IsArranged (after_effect observed effect) new
  arranged_moved disk effect new sound (Replace is) =
      arranged_processor effect new is.p is.x is.there is.observed (ap (λ (x : State). x.hardware.shootdown) is.done)
      (ap (λ (x : State). x.hardware.spaces) is.done) (ap (λ (x : State). x.lengths) is.done)
  arranged_moved disk effect new sound (Remap spaces is dirty) =
      arranged_spaces effect new
      (subst (AreEffects effect s.hardware.spaces) (sym (ap (λ (x : State). x.hardware.spaces) is.done)) is.observed)
      (ap (λ (x : State). x.hardware.shootdown) is.done) (ap (λ (x : State). x.lengths) is.done)
  arranged_moved disk effect new sound (Destroy is) =
      as_effect effect (Leaving is.pcid) new is.effect_is
      (subst (IsArranged (after_effect observed (Leaving is.pcid))) (sym is.made.done)
      (arranged_from (after_effect observed (Leaving is.pcid)) _
      (spaces_without observed.spaces is.pcid s.hardware.spaces (spaces_of a))
      (observed_destroyed observed.current observed.running processors is.pcid (processors_of a))
      (lock_as a processors.lock refl) a.same_lengths))
  arranged_moved disk effect new sound (Begin is) =
      let now = Beginning is.p (pending_in (Some is.change)) in
      as_effect effect now new is.effect_is (subst (IsArranged (after_effect observed now)) (sym is.done)
      (arranged_from (after_effect observed now) (begin_change s is.p is.change) (spaces_of a)
      (observed_begun observed.current observed.running processors is.p s.hardware.spaces is.change
      (is_there_below processors is.p (admitted processors is.p is.free).0) (processors_of a))
      (record { same_locked = refl; same_pending = refl }) a.same_lengths))
  arranged_moved disk effect new sound (End is) =
      as_effect effect (ending_of is.p is.change) new is.effect_is (arranged_ended effect new is)
  arranged_moved disk effect new sound (Store is) =
      let keeps = (has_stored s.hardware s.checkpoint is.p is.va is.bytes is.hardware sound.spaces.coheres
      sound.memory.backed is.made).observed in
      let now = Storing is.p is.va is.bytes in
      as_effect effect now new is.effect_is (subst (IsArranged (after_effect observed now)) (sym is.done)
      (arranged_from (after_effect observed now) (with_hardware s is.hardware)
      (keeps.spaces observed.spaces (spaces_of a))
      (keeps.processors observed.current observed.running (processors_of a))
      (lock_as a is.hardware.shootdown.lock keeps.lock) a.same_lengths))
  arranged_moved disk effect new sound (Bring is) = by_memory effect new _ is.effect_is is.done
  arranged_moved disk effect new sound (Copy is) = by_memory effect new _ is.effect_is is.done
  arranged_moved disk effect new sound (Drop is) = by_memory effect new _ is.effect_is is.done
