-- The effects of acts on a machine, divided into moves. For each move: what it changes, and its effect on the observed
-- state.
use Rattle.std.specs.Prelude.{ℕ, ◌≡◌, ◌≢◌, ◌<◌, ◌↔◌, ◌==◌, ◌||◌, Bool, true, false, List, [], ◌∷◌}
use Rattle.std.specs.Prelude.{◌++◌, length, Option, Some, None, IsSome, slice_set, slice_get}
use Rattle.std.specs.FinMap as maps
use Rattle.page_entry.specs.Entry.{Mapped}
use Rattle.page_entry.specs.declared.numbers.FilePage.{FilePage}
use Rattle.page_entry.specs.declared.refusal.Refusal.{Refusal}
use Rattle.page_entry.specs.declared.refusal.Refusal.TheVariants as refusals
use Rattle.mappings.specs.declared.place.Place.{Place}
use Rattle.mappings.specs.Places.{Places, without_range, with_rights}
use Rattle.frames.specs.Frames.{frame_at, with_page, with_copy, without_frame}
use Rattle.spaces.specs.declared.change.Change.{Change}
use Rattle.spaces.specs.declared.change.Change.TheVariants.{Unmap, Protect, Reclaim, SetLength, Checkpoint}
use Rattle.spaces.specs.Changes.{ChangesOnlyAffected}
use Rattle.spaces.specs.Spaces.{Spaces, AreSpaces, has_space, space_at, place_at, entry_at}
use Rattle.shootdown.specs.declared.lock.Lock.{Lock}
use Rattle.shootdown.specs.Processors.{Processor, is_running}
use Rattle.shootdown.specs.Shootdown.{ShootdownState, IsShootdown, current, state_of, with_processor, not_free}
use Rattle.shootdown.specs.Coherence.{Coheres, IsNoWider}
use Rattle.cpu.specs.Access.{Hardware, StoreMade}
use Rattle.checkpoint.specs.Checkpoint.{CheckpointState, Holds, IsDirty, is_noted, is_held}
use Rattle.checkpoint.specs.Backing.{AreBacked}
use Rattle.fault.specs.Fault.{is_in_memory}
use Rattle.journal.specs.Work.{Nothing}
use Rattle.journal.specs.declared.flushed.Flushed.{Flushed as Answer}
use Rattle.journal.specs.declared.flushed.Flushed.TheVariants as flushed
use Rattle.journal.specs.WriteOuts.{next_answer}
use Rattle.machine.specs.declared.act.Act.{Act}
use Rattle.machine.specs.declared.act.Act.TheVariants as acts
use Rattle.machine.specs.declared.act.Reply.{Reply}
use Rattle.machine.specs.declared.act.Reply.TheVariants as replies
use Rattle.machine.specs.State.{State, page_from}
use Rattle.machine.specs.Refusals.{reason_against}
use Rattle.machine.specs.Rules.{with_hardware, with_shootdown, with_spaces, begin_change, end_change, MayChange}
use Rattle.machine.specs.Rules.{MayLeave, SpaceDestroyed, MarkMade, ResizeMade, FlushMade, FlushFailed}
use Rattle.machine.specs.Durability.{IsInFile}
use Rattle.machine.specs.Steps.{step_work}
use Rattle.machine.specs.Observed.{Observed, Pending, with_running, with_places, begun_by}
use Rattle.machine.specs.Observed.{ended_by, changed, store_at, place_observed, places_in, observe}
use Rattle.machine.specs.inside.Sound.{IsPrepared}
use Rattle.machine.specs.inside.Refining.{pending_in}

-- ---- the effect of a move on what is observed

pub data Effect : Type 0 where
  -- No effect.
  Silent : Effect
  -- Processor `p` is running from now on, or no longer is.
  Running : (p : ℕ) (goes : Bool) → Effect
  -- Processor `p` enters another space.
  Entering : (p space : ℕ) → Effect
  -- The places of a space change, or a space with these places is made.
  Mapping : (space : ℕ) (change : Places → Places) → Effect
  -- A space is removed.
  Leaving : (space : ℕ) → Effect
  -- Processor `p` begins a change.
  Beginning : (p : ℕ) (pending : Option Pending) → Effect
  -- Processor `p` ends its change. With `Changing`, the pending unmap, protect or change of a length takes effect.
  Ending : (p : ℕ) → Effect
  Changing : (p : ℕ) → Effect
  -- Processor `p` stored these bytes.
  Storing : (p va : ℕ) (bytes : List ℕ) → Effect

-- The observed state after the effect.
abbrev pub after_effect : Observed → Effect → Observed
after_effect observed Silent = observed
after_effect observed (Running p goes) = with_running observed p goes
after_effect observed (Entering p space) = record observed { current = slice_set observed.current p space }
after_effect observed (Mapping space change) = with_places observed space (change (places_in observed space))
after_effect observed (Leaving space) = record observed { spaces = maps.remove observed.spaces space }
after_effect observed (Beginning p pending) = begun_by observed p pending
after_effect observed (Ending p) = ended_by observed p
after_effect observed (Changing p) = ended_by (changed observed observed.pending) p
after_effect observed (Storing p va bytes) =
    record observed { history = observed.history ++ store_at (place_observed observed p va) va bytes }

abbrev pub after_effects : Observed → List Effect → Observed
after_effects observed [] = observed
after_effects observed (effect ∷ more) = after_effects (after_effect observed effect) more

-- ---- processors

-- Processor `p` becomes `x`, and this is the effect.
abbrev pub IsProcessorObserved : ShootdownState → ℕ → Processor → Effect → Type 0
IsProcessorObserved s p x Silent = (x.space ≡ current s p) × (is_running x.state ≡ is_running (state_of s p))
IsProcessorObserved s p x (Running q goes) = (q ≡ p) × (x.space ≡ current s p) × (is_running x.state ≡ goes)
IsProcessorObserved s p x (Entering q space) =
    (q ≡ p) × (x.space ≡ space) × (is_running x.state ≡ is_running (state_of s p))
IsProcessorObserved s p x effect = ⊥

-- One processor is replaced, and its current space exists.
pub record ReplacesProcessor (s : State) (effect : Effect) (new : State) : Type 0 where
  pub p : ℕ
  pub x : Processor
  pub there : p < length s.hardware.shootdown.processors
  pub is_shootdown : IsShootdown (with_processor s.hardware.shootdown p x)
  pub coheres : Coheres s.hardware.spaces (with_processor s.hardware.shootdown p x)
  pub space : has_space s.hardware.spaces x.space ≡ true
  pub observed : IsProcessorObserved s.hardware.shootdown p x effect
  pub done : new ≡ with_shootdown s (with_processor s.hardware.shootdown p x)

-- ---- spaces

-- Both map the same places.
pub record SamePlaces (old new : Spaces) : Type 0 where
  pub there : (q : ℕ) → has_space new q ≡ has_space old q
  pub places : (q : ℕ) → (space_at new q).places ≡ (space_at old q).places

-- The places of one space change, or the space is made with them. Other spaces keep their places.
pub record ChangesPlaces (space : ℕ) (change : Places → Places) (old new : Spaces) : Type 0 where
  pub there : (q : ℕ) → has_space new q ≡ (q == space || has_space old q)
  pub here : (space_at new space).places ≡ change (space_at old space).places
  pub others : (q : ℕ) → q ≢ space → (space_at new q).places ≡ (space_at old q).places

abbrev pub AreSpacesObserved : Effect → Spaces → Spaces → Type 0
AreSpacesObserved Silent old new = SamePlaces old new
AreSpacesObserved (Mapping space change) old new = ChangesPlaces space change old new
AreSpacesObserved effect old new = ⊥

-- Only files of the table are mapped.
abbrev pub AreInTable : State → Spaces → Type 0
AreInTable s spaces =
    (pcid page : ℕ) (place : Place) → place_at spaces pcid page ≡ Some place → place.file < length s.table.files

-- The same frames are dirty by these entries and notes.
abbrev pub SameDirty : State → Spaces → CheckpointState → Type 0
SameDirty s spaces checkpoint =
    (frame : ℕ) → IsDirty s.hardware.spaces s.checkpoint frame ↔ IsDirty spaces checkpoint frame

-- The spaces are replaced. The change in progress remains prepared, and the processors are coherent with the new
-- spaces.
pub record ReplacesSpaces (s : State) (spaces : Spaces) (effect : Effect) (new : State) : Type 0 where
  pub are_spaces : AreSpaces spaces
  pub coheres : Coheres spaces s.hardware.shootdown
  pub in_table : AreInTable s spaces
  pub prepared : (lock : Lock) → s.hardware.shootdown.lock ≡ Some lock → IsPrepared (with_spaces s spaces) lock.change
  pub backed : AreBacked s.hardware.memory s.checkpoint spaces
  pub observed : AreSpacesObserved effect s.hardware.spaces spaces
  pub done : new ≡ with_spaces s spaces

-- A space is destroyed.
pub record DestroysSpace (s : State) (effect : Effect) (new : State) : Type 0 where
  pub p : ℕ
  pub pcid : ℕ
  pub allowed : reason_against s p (acts.Destroy pcid) ≡ None
  pub made : SpaceDestroyed s pcid new
  pub effect_is : effect ≡ Leaving pcid

-- ---- changes

-- Processor `p` may begin a change.
pub record CanBegin (s : State) (p : ℕ) (change : Change) : Type 0 where
  pub free : not_free s.hardware.shootdown p ≡ None
  pub prepared : IsPrepared s change
  -- A broken machine begins no checkpoint.
  pub whole : change ≡ Checkpoint → s.write_outs.broken ≡ false

pub record BeginsChange (s : State) (effect : Effect) (new : State) : Type 0 where
  pub p : ℕ
  pub change : Change
  pub may : CanBegin s p change
  pub open may use *
  pub effect_is : effect ≡ Beginning p (pending_in (Some change))
  pub done : new ≡ begin_change s p change

-- The effect of the end of a change on places, and its effect on the observed state.
abbrev pub effect_of : Change → Effect
effect_of (Unmap pcid range) = Mapping pcid (λ places. without_range places range.first range.count)
effect_of (Protect pcid range rights) = Mapping pcid (λ places. with_rights places range.first range.count rights)
effect_of (Reclaim owner) = Silent
effect_of (SetLength file to) = Silent
effect_of Checkpoint = Silent

abbrev pub ending_of : ℕ → Change → Effect
ending_of p (Unmap pcid range) = Changing p
ending_of p (Protect pcid range rights) = Changing p
ending_of p (Reclaim owner) = Ending p
ending_of p (SetLength file to) = Changing p
ending_of p Checkpoint = Ending p

-- The processor that began a change makes it. The change does not concern a length.
pub record MakesChange (s : State) : Type 0 where
  pub p : ℕ
  pub change : Change
  pub same_lengths : (file to : ℕ) → change ≢ SetLength file to
  pub may : MayChange s p change

-- The change ends. Only entries that it affects change, and frames are unchanged.
pub record EndsChange (s : State) (effect : Effect) (new : State) : Type 0 where
  pub made : MakesChange s
  pub open made use *
  pub spaces : Spaces
  pub checkpoint : CheckpointState
  pub only : ChangesOnlyAffected change s.hardware.spaces spaces
  pub wider : IsNoWider change s.hardware.spaces spaces
  pub are_spaces : AreSpaces spaces
  pub same_spaces : (q : ℕ) → has_space spaces q ≡ has_space s.hardware.spaces q
  pub in_table : AreInTable s spaces
  pub same_frozen : checkpoint.frozen ≡ s.checkpoint.frozen
  pub same_notes : length checkpoint.notes ≡ length s.checkpoint.notes
  pub noted : (frame : ℕ) → is_noted checkpoint frame ≡ true → IsSome (frame_at s.hardware.memory frame)
  pub backed : AreBacked s.hardware.memory checkpoint spaces
  pub dirty : SameDirty s spaces checkpoint
  pub observed : AreSpacesObserved (effect_of change) s.hardware.spaces spaces
  pub effect_is : effect ≡ ending_of p change
  pub done : new ≡ end_change s p spaces s.hardware.memory checkpoint

-- ---- frames

-- Bytes are stored in a page.
pub record StoresBytes (s : State) (effect : Effect) (new : State) : Type 0 where
  pub p : ℕ
  pub va : ℕ
  pub bytes : List ℕ
  pub hardware : Hardware
  pub made : StoreMade s.hardware p va bytes hardware
  pub effect_is : effect ≡ Storing p va bytes
  pub done : new ≡ with_hardware s hardware

-- A page that is not in memory is read into a free frame.
pub record BringsPage (disk : List ℕ) (s : State) (effect : Effect) (new : State) : Type 0 where
  pub owner : FilePage
  pub frame : ℕ
  pub in_file : IsInFile s owner
  pub absent : is_in_memory s.hardware.memory owner ≡ false
  -- A broken machine reads no page.
  pub whole : s.write_outs.broken ≡ false
  pub unlocked : s.hardware.shootdown.lock ≡ None
  pub free : slice_get s.hardware.memory.frames frame ≡ Some None
  pub effect_is : effect ≡ Silent
  pub done : new ≡ with_hardware s
      (record s.hardware { memory = with_page s.hardware.memory frame owner (page_from s disk owner) })

-- A held page is copied.
pub record CopiesPage (s : State) (effect : Effect) (new : State) : Type 0 where
  pub owner : FilePage
  pub frame : ℕ
  pub copy : ℕ
  pub holds : Holds s.hardware.memory frame owner
  pub held : is_held s.hardware.memory s.checkpoint owner ≡ true
  pub free : slice_get s.hardware.memory.copies copy ≡ Some None
  pub effect_is : effect ≡ Silent
  pub done : new ≡ with_hardware s (record s.hardware { memory = with_copy s.hardware.memory copy frame })

-- A page leaves memory while the lock is free.
pub record DropsPage (s : State) (effect : Effect) (new : State) : Type 0 where
  pub owner : FilePage
  pub frame : ℕ
  pub leaves : MayLeave s owner frame
  pub unmapped : (pcid page : ℕ) (entry : Mapped) → entry_at s.hardware.spaces pcid page ≡ Some entry
      → entry.frame ≢ frame
  pub free : s.hardware.shootdown.lock ≡ None
  pub effect_is : effect ≡ Silent
  pub done : new ≡ with_hardware s (record s.hardware { memory = without_frame s.hardware.memory frame })

-- ---- moves

-- One of the moves. `disk` is what a read of the device returns.
pub data Move (disk : List ℕ) (s : State) (effect : Effect) (new : State) : Type 0 where
  Replace : ReplacesProcessor s effect new → Move disk s effect new
  Remap : (spaces : Spaces) → ReplacesSpaces s spaces effect new → SameDirty s spaces s.checkpoint
      → Move disk s effect new
  Destroy : DestroysSpace s effect new → Move disk s effect new
  Begin : BeginsChange s effect new → Move disk s effect new
  End : EndsChange s effect new → Move disk s effect new
  Store : StoresBytes s effect new → Move disk s effect new
  Bring : BringsPage disk s effect new → Move disk s effect new
  Copy : CopiesPage s effect new → Move disk s effect new
  Drop : DropsPage s effect new → Move disk s effect new

-- Moves in sequence.
abbrev pub Moves : List ℕ → State → List Effect → State → Type 0
Moves disk s [] new = new ≡ s
Moves disk s (effect ∷ more) new = (mid : State) × Move disk s effect mid × Moves disk mid more new

-- ---- acts

-- The act consists of moves. It makes no device call except reads, and its effects are those of the moves.
pub record IsMoved (s : State) (disk : List ℕ) (p : ℕ) (act : Act) (reply : Reply) (new : State) (disk' : List ℕ)
    : Type 0 where
  pub effect : List Effect
  pub moves : Moves disk s effect new
  pub observes : (observed : Observed)
      → observe observed (record { p = p; act = act }) reply ≡ after_effects observed effect
  pub no_work : step_work s act reply ≡ Nothing
  pub same_disk : disk' ≡ disk

-- The reply for the answer of a write-outs' step.
abbrev pub reply_to : Answer → Reply
reply_to flushed.Going = replies.Going
reply_to (flushed.Committed mark) = replies.Committed mark
reply_to (flushed.Done mark) = replies.Done mark
reply_to flushed.Device = replies.Refused refusals.Device
reply_to flushed.Broken = replies.Refused refusals.Broken

-- A step of the write-outs was made, and `reply` is the reply for its answer.
pub record HasStepped (s : State) (disk : List ℕ) (p : ℕ) (reply : Reply) (new : State) (disk' : List ℕ)
    : Type 0 where
  pub answered : reply ≡ reply_to (next_answer s.write_outs)
  pub made : FlushMade s disk p (next_answer s.write_outs) new disk'

-- The effect of an act. It makes moves, makes a mark, changes a length, or makes a step of the write-outs, in which a
-- device call may fail.
pub data Performed (s : State) (disk : List ℕ) (p : ℕ) (act : Act) (reply : Reply) (new : State) (disk' : List ℕ)
    : Type 0 where
  Moved : IsMoved s disk p act reply new disk' → Performed s disk p act reply new disk'
  Marked : (number : ℕ) → act ≡ acts.Change → reply ≡ replies.Marked number → MarkMade s p number new → disk' ≡ disk
      → Performed s disk p act reply new disk'
  Resized : act ≡ acts.Change → reply ≡ replies.Resized → ResizeMade s p new → disk' ≡ disk
      → Performed s disk p act reply new disk'
  Flushed : act ≡ acts.Flush → HasStepped s disk p reply new disk' → ((why : Refusal) → reply ≢ replies.Refused why)
      → Performed s disk p act reply new disk'
  Failed : act ≡ acts.Flush → reply ≡ replies.Refused refusals.Device → FlushFailed s disk p new disk'
      → Performed s disk p act reply new disk'
