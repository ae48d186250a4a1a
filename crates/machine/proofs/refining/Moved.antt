-- Each move of a tracked machine keeps it tracked.
use Rattle.machine.proofs.Names.{ℕ, ◌≡◌, ◌↔◌, ◌%◌, true, List, [], ◌∷◌, ◌++◌, Option, Some, None, refl, sym, ap, ◌∙◌}
use Rattle.machine.proofs.Names.{Resizing, HasPages}
use Rattle.machine.proofs.Names.{subst, inl, inr, append-nil, Contains, both_ways, FilePage, Place, FramesState, File}
use Rattle.machine.proofs.Names.{SuperValue, Change, Checkpoint, running, is_there_below, CheckpointState, IsDirty}
use Rattle.machine.proofs.Names.{IsInSpace, page_at, Hardware, WriteOutsValue, IsConsistent, Event, State, page_from}
use Rattle.machine.proofs.Names.{bytes_at_mark, Observed, Pending, Unmapping}
use Rattle.machine.proofs.Names.{Protecting, changed, place_observed, store_at}
use Rattle.machine.proofs.Names.{offset_at, IsSound, Refines, change_in, Effect}
use Rattle.machine.proofs.Names.{Changing, Storing, after_effect, after_effects}
use Rattle.machine.proofs.Names.{IsProcessorObserved, AreSpacesObserved, ending_of}
use Rattle.machine.proofs.Names.{StoresBytes, Move, Moves, Replace, Remap}
use Rattle.machine.proofs.Names.{Destroy, Begin, End, Store, Bring, Copy, Drop}
use Rattle.std.specs.FinMap as maps
use Rattle.machine.proofs.moves.Kept.{move_sound}
use Rattle.history.proofs.Public.{some_same, none_some}
use Rattle.machine.proofs.durable.Histories.{Leaves, written_left}
use Rattle.history.proofs.Public.{IsQuiet, quiet_nothing}
use Rattle.machine.proofs.durable.Pages.{write_leaves, brought_leaves, copy_leaves, reclaimed_leaves, is_brought}
use Rattle.machine.proofs.durable.Homes.{page_read}
use Rattle.machine.proofs.refining.Lawful.{place_is}
use Rattle.machine.proofs.refining.DirtyFrames.{dirty_taken, takes_space}
use Rattle.machine.proofs.refining.Translations.{has_stored}
use Rattle.machine.proofs.refining.Arranged.{arranged_moved}
use Rattle.machine.proofs.refining.Pages.{pages_quiet, pages_fixed, pages_left, pages_stored}

-- ---- what a move adds to the history: a store, or nothing

abbrev adds : Observed → Effect → List Event
adds observed (Storing p va bytes) = store_at (place_observed observed p va) va bytes
adds observed effect = []

history_after : (observed : Observed) (effect : Effect)
    → (after_effect observed effect).history ≡ observed.history ++ adds observed effect
history_after observed (Storing p va bytes) = refl
history_after observed (Changing p) = by observed.pending
  where
    by : (pending : Option Pending) → (changed observed pending).history ≡ observed.history ++ []
    by None = sym (append-nil observed.history)
    by (Some (Unmapping space range)) = sym (append-nil observed.history)
    by (Some (Protecting space range rights)) = sym (append-nil observed.history)
    by (Some (Resizing file to)) = sym (append-nil observed.history)
history_after observed effect = sym (append-nil observed.history)

adds_quietly : (observed : Observed) (effect : Effect) → IsQuiet (adds observed effect)
adds_quietly observed (Storing p va bytes) = by (place_observed observed p va)
  where
    by : (o : Option Place) → IsQuiet (store_at o va bytes)
    by None = inl refl
    by (Some place) = inr (place.file, offset_at place va, bytes, refl)
adds_quietly observed effect = inl refl

-- ---- it leaves the write-outs, and what their records are

module _ (s : State) where
  -- with this hardware and this checkpoint
  abbrev KeepsLock : Hardware → Type 0
  KeepsLock h = s.write_outs.broken ≡ true → change_in h.shootdown.lock ≡ Some Checkpoint
      → change_in s.hardware.shootdown.lock ≡ Some Checkpoint

  leaves_with : (h : Hardware) (c : CheckpointState) (new : State) → c.frozen ≡ s.checkpoint.frozen → KeepsLock h
      → ((owner : FilePage) → Contains s.checkpoint.frozen owner
      → bytes_at_mark h.memory owner ≡ bytes_at_mark s.hardware.memory owner)
      → new ≡ record s { hardware = h; checkpoint = c } → Leaves s new
  leaves_with h c new frozen lock bytes done = subst (Leaves s) (sym done) (record {
    files = record { table = refl; lengths = refl };
    write_outs = refl;
    marks = refl;
    lock = lock;
    resized = refl;
    frozen = frozen;
    bytes = bytes;
  })

  pub leaves_moved : (disk : List ℕ) (effect : Effect) (new : State) → IsSound s → Move disk s effect new → Leaves s new
  leaves_moved disk effect new sound (Replace is) =
      leaves_with _ s.checkpoint new refl (λ broken held. held) (λ owner has. refl) is.done
  leaves_moved disk effect new sound (Remap spaces is dirty) =
      leaves_with _ s.checkpoint new refl (λ broken held. held) (λ owner has. refl) is.done
  leaves_moved disk effect new sound (Destroy is) =
      leaves_with _ is.made.checkpoint new is.made.noted.frozen (λ broken held. held) (λ owner has. refl) is.made.done
  leaves_moved disk effect new sound (Begin is) =
      leaves_with _ s.checkpoint new refl (λ broken held. absurd (both_ways s.write_outs.broken
      (is.whole (some_same is.change Checkpoint held)) broken)) (λ owner has. refl) is.done
  leaves_moved disk effect new sound (End is) = leaves_with _ is.checkpoint new is.same_frozen
      (λ broken held. absurd (none_some Checkpoint held)) (λ owner has. refl) is.done
  leaves_moved disk effect new sound (Store is) =
      let w = has_stored s.hardware s.checkpoint is.p is.va is.bytes is.hardware sound.spaces.coheres
      sound.memory.backed is.made in
      leaves_with is.hardware s.checkpoint new refl (λ broken held. sym (ap change_in w.observed.lock) ∙ held)
      (λ owner has. ap (λ (m : FramesState). bytes_at_mark m owner) w.memory
      ∙ write_leaves s sound (page_at w.place) w.frame (is.va % 4096) is.bytes w.holds w.thawed owner has) is.done
  leaves_moved disk effect new sound (Bring is) =
      leaves_with _ s.checkpoint new refl (λ broken held. held)
      (brought_leaves s sound is.owner (page_from s disk is.owner) is.frame is.absent is.free) is.done
  leaves_moved disk effect new sound (Copy is) = leaves_with _ s.checkpoint new refl (λ broken held. held)
      (copy_leaves s sound is.owner is.frame is.copy is.held is.holds is.free) is.done
  leaves_moved disk effect new sound (Drop is) = leaves_with _ s.checkpoint new refl (λ broken held. held)
      (reclaimed_leaves s sound is.owner is.frame is.leaves) is.done

-- ---- pages are as it tells them

module _ (files : List File) (observed : Observed) (s : State) (seen : List ℕ) (may : List ℕ → Type 0)
    (t : Refines files observed s seen may) (effect : Effect) (new : State) where
  abbrev now : Observed
  now = after_effect observed effect

  history_as : (events : List Event) → adds observed effect ≡ events → now.history ≡ observed.history ++ events
  history_as events is = history_after observed effect ∙ ap (λ l. observed.history ++ l) is

  abbrev new_of : Hardware → CheckpointState → State
  new_of h c = record s { hardware = h; checkpoint = c }

  -- nothing is added, and the pages stay
  same_pages : (h : Hardware) (c : CheckpointState) → new ≡ new_of h c → adds observed effect ≡ []
      → h.memory.frames ≡ s.hardware.memory.frames
      → ((frame : ℕ) → IsDirty s.hardware.spaces s.checkpoint frame ↔ IsDirty h.spaces c frame) → HasPages files now new
  same_pages h c done none frames dirty =
      subst (HasPages files now) (sym done)
      (pages_quiet files observed now s (new_of h c) [] (history_as [] none) (quiet_nothing observed.history)
      (record { table = refl; lengths = refl }) refl t.pages (record { frames = frames; dirty = dirty }))

  stored : StoresBytes s effect new → HasPages files now new
  stored is =
      let w = has_stored s.hardware s.checkpoint is.p is.va is.bytes is.hardware t.sound.spaces.coheres
      t.sound.memory.backed is.made in
      let there = is_there_below s.hardware.shootdown is.p (running s.hardware.shootdown is.p is.made.running).0 in
      let leads : place_observed observed is.p is.va ≡ Some w.place = place_is t.arranged is.p is.va there ∙ w.leads in
      subst (HasPages files now) (sym is.done)
      (pages_stored files observed now s is.p is.va is.bytes is.hardware w t.sound.memory.memory
      t.sound.memory.in_files is.made.access.inside
      (history_as _ (ap (adds observed) is.effect_is ∙ ap (λ o. store_at o is.va is.bytes) leads)) t.pages)

  pub pages_moved : Move seen s effect new → HasPages files now new
  pages_moved (Replace is) =
      same_pages _ s.checkpoint is.done (by_processor effect is.observed) refl (λ frame. (λ d. d, λ d. d))
    where
      by_processor : (effect : Effect) → IsProcessorObserved s.hardware.shootdown is.p is.x effect
          → adds observed effect ≡ []
      by_processor (Storing p va bytes) never = absurd never
      by_processor effect is = refl
  pages_moved (Remap spaces is dirty) = same_pages _ s.checkpoint is.done (by_spaces effect is.observed) refl dirty
    where
      by_spaces : (effect : Effect) → AreSpacesObserved effect s.hardware.spaces spaces → adds observed effect ≡ []
      by_spaces (Storing p va bytes) never = absurd never
      by_spaces effect is = refl
  pages_moved (Destroy is) =
      same_pages _ is.made.checkpoint is.made.done (ap (adds observed) is.effect_is) refl
      (λ frame. dirty_taken (IsInSpace is.pcid) s.hardware.spaces (maps.remove s.hardware.spaces is.pcid) s.checkpoint
      is.made.checkpoint frame (takes_space s.hardware.spaces is.pcid) is.made.noted)
  pages_moved (Begin is) =
      same_pages _ s.checkpoint is.done (ap (adds observed) is.effect_is) refl (λ frame. (λ d. d, λ d. d))
  pages_moved (End is) = same_pages _ is.checkpoint is.done
      (ap (adds observed) is.effect_is ∙ by_change is.change) refl is.dirty
    where
      by_change : (change : Change) → adds observed (ending_of is.p change) ≡ []
      by_change Checkpoint = refl
      by_change change = refl
  pages_moved (Store is) = stored is
  pages_moved (Bring is) =
      let bytes = page_from s seen is.owner in
      subst (HasPages files now) (sym is.done)
      (pages_fixed files observed now s _ [] (history_as [] (ap (adds observed) is.effect_is))
      (quiet_nothing observed.history)
      (record { table = refl; lengths = refl }) refl t.pages t.sound is.owner bytes
      (is_brought s.hardware.memory is.owner bytes is.frame is.absent is.free) (λ frame. (λ d. d, λ d. d))
      (λ absent. page_read files observed s seen may t is.owner is.in_file absent is.whole))
  pages_moved (Copy is) = same_pages _ s.checkpoint is.done (ap (adds observed) is.effect_is) refl
      (λ frame. (λ d. d, λ d. d))
  pages_moved (Drop is) =
      subst (HasPages files now) (sym is.done)
      (pages_left files observed now s _ [] (history_as [] (ap (adds observed) is.effect_is))
      (quiet_nothing observed.history)
      (record { table = refl; lengths = refl }) refl t.pages is.owner is.frame is.leaves refl
      (λ frame. (λ d. d, λ d. d)))

  -- ---- all that is tracked

  pub refines_moved : Move seen s effect new → Refines files now new seen may
  refines_moved move =
      let leaves = leaves_moved s seen effect new t.sound move in
      record {
        sound = move_sound seen s effect new move t.sound;
        arranged = arranged_moved observed s t.arranged seen effect new t.sound move;
        pages = pages_moved move;
        durable = record {
          old = t.old;
          new = t.new;
          consistent =
              subst (λ (o : WriteOutsValue). IsConsistent new.table o t.old t.new seen may) (sym leaves.write_outs)
              (subst (λ (v : SuperValue). IsConsistent v s.write_outs t.old t.new seen may)
              (sym leaves.files.table) t.consistent);
          written = written_left files observed now (adds observed effect) s new t.old t.new
              (history_after observed effect)
              (adds_quietly observed effect) leaves t.written;
        };
      }

pub moves_refine : (files : List File) (observed : Observed) (s : State) (seen : List ℕ) (may : List ℕ → Type 0)
    → Refines files observed s seen may → (effect : List Effect) (new : State) → Moves seen s effect new
    → Refines files (after_effects observed effect) new seen may
moves_refine files observed s seen may t [] new same =
    subst (λ (x : State). Refines files observed x seen may) (sym same) t
moves_refine files observed s seen may t (first ∷ more) new (mid, move, rest) =
    moves_refine files (after_effect observed first) mid seen may
    (refines_moved files observed s seen may t first mid move) more new rest

-- moves leave the write-outs and the marks
pub moves_leave : (disk : List ℕ) (s : State) (effect : List Effect) (new : State) → IsSound s → Moves disk s effect new
    → (new.write_outs ≡ s.write_outs) × (new.marks ≡ s.marks)
moves_leave disk s [] new sound same = (ap (λ (x : State). x.write_outs) same, ap (λ (x : State). x.marks) same)
moves_leave disk s (first ∷ more) new sound (mid, move, rest) =
    let here = leaves_moved s disk first mid sound move in
    let later = moves_leave disk mid more new (move_sound disk s first mid move sound) rest in
    (later.0 ∙ here.write_outs, later.1 ∙ here.marks)
