-- What can be observed of a run by its steps and replies, without looking into the machine. These are the mappings, the
-- current space of each processor, the lengths of files, the change in progress, and the history.
use Rattle.std.specs.Prelude.{ℕ, Bool, true, false, ◌+◌, ◌*◌, ◌/◌, ◌%◌, if◌then◌else◌, List, [], ◌∷◌, ◌++◌}
use Rattle.std.specs.Prelude.{Option, Some, None, slice_index_or, slice_set, Result, Ok, Err, unwrap_or}
use Rattle.std.specs.Ordering.{nat_cmp}
use Rattle.std.specs.FinMap as maps
use Rattle.page_entry.specs.declared.refusal.Refusal.{Refusal}
use Rattle.mappings.specs.declared.place.Place.{Place}
use Rattle.mappings.specs.declared.place.Rights.{Rights}
use Rattle.mappings.specs.declared.page_range.PageRange.{PageRange}
use Rattle.mappings.specs.Places.{Places, with_range, without_range, with_rights}
use Rattle.mappings.specs.Judgement.{range_of_bytes, mapped_pages_of}
use Rattle.machine.specs.declared.act.Act.{Act}
use Rattle.machine.specs.declared.act.Act.TheVariants as acts
use Rattle.machine.specs.declared.act.Reply.{Reply}
use Rattle.machine.specs.declared.act.Reply.TheVariants as replies
use Rattle.machine.specs.declared.act.Step.{Step}
use Rattle.history.specs.History.{Event, Store, SetLength, Mark, Acknowledge, has_unmarked}

-- An unmap, a protect or a change of a file's length that has begun. It takes effect when the act `Change` ends it.
pub data Pending : Type 0 where
  Unmapping : (space : ℕ) (range : PageRange) → Pending
  Protecting : (space : ℕ) (range : PageRange) (rights : Rights) → Pending
  Resizing : (file to : ℕ) → Pending

-- The observed state of a run, by its steps and replies. `spaces` has the place of each mapped page of each existing
-- space. `current` has each processor's current space. `running` records for each processor whether it loads and
-- stores. A processor stops running when it stalls, idles or begins a change. It runs again when it resumes, wakes or
-- ends a change. `locked` is true after a change has begun, until it is made. `lengths` has each file's length in
-- bytes. `pending` is the change that has begun. `history` is the history of the run.
pub record Observed : Type 0 where
  pub spaces : maps.FinMap nat_cmp Places
  pub current : List ℕ
  pub running : List Bool
  pub locked : Bool
  pub lengths : List ℕ
  pub pending : Option Pending
  pub history : List Event

-- The places of a space.
abbrev pub places_in : Observed → ℕ → Places
places_in observed space = unwrap_or (maps.get observed.spaces space) maps.empty

-- The place to which an address of a processor leads.
abbrev pub place_observed : Observed → ℕ → ℕ → Option Place
place_observed observed p va = maps.get (places_in observed (slice_index_or observed.current p 0)) (va / 4096)

-- The length of a file.
abbrev pub length_observed : Observed → ℕ → ℕ
length_observed observed file = slice_index_or observed.lengths file 0

-- The observed state with other places for a space.
abbrev pub with_places : Observed → ℕ → Places → Observed
with_places observed space places = record observed { spaces = maps.insert observed.spaces space places }

-- A mapping that was made takes effect at once.
abbrev pub mapped_in : Observed → ℕ → ℕ → Rights → Rights → Result (PageRange × ℕ) Refusal → Observed
mapped_in observed space file prot access (Err why) = observed
mapped_in observed space file prot access (Ok pages) =
    with_places observed space (with_range (places_in observed space) pages.0.first pages.0.count
    (record { file = file; page = pages.1; rights = prot; access = access }))

-- The unmap that has begun, if the bytes are a range of pages.
abbrev pub begun_unmap : ℕ → Result PageRange Refusal → Option Pending
begun_unmap space (Err why) = None
begun_unmap space (Ok range) = Some (Unmapping space range)

-- The protect that has begun, if the bytes are a range of pages.
abbrev pub begun_protect : ℕ → Rights → Result PageRange Refusal → Option Pending
begun_protect space rights (Err why) = None
begun_protect space rights (Ok range) = Some (Protecting space range rights)

-- The change that had begun takes effect.
abbrev pub changed : Observed → Option Pending → Observed
changed observed None = observed
changed observed (Some (Unmapping space range)) =
    with_places observed space (without_range (places_in observed space) range.first range.count)
changed observed (Some (Protecting space range rights)) =
    with_places observed space (with_rights (places_in observed space) range.first range.count rights)
changed observed (Some (Resizing file to)) = record observed { lengths = slice_set observed.lengths file to }

-- The offset in the file of an address that leads to this place.
abbrev pub offset_at : Place → ℕ → ℕ
offset_at place va = 4096 * place.page + va % 4096

-- The event of a store that was made, at the place to which its address leads.
abbrev pub store_at : Option Place → ℕ → List ℕ → List Event
store_at None va bytes = []
store_at (Some place) va bytes = Store place.file (offset_at place va) bytes ∷ []

-- The event of the change of a length that had begun, and is now made.
abbrev pub resized_at : Observed → Option Pending → List Event
resized_at observed (Some (Resizing file to)) = SetLength file (length_observed observed file) to ∷ []
resized_at observed pending = []

-- Rule: empty mark: If nothing was stored and no length changed since the previous mark, a new mark is acknowledged at
-- once.
-- The events that an act of processor `p` and its reply add to the history. A mark is acknowledged at once if nothing
-- was stored and no length was changed since the mark before it.
abbrev pub events_of : Observed → ℕ → Act → Reply → List Event
events_of observed p (acts.Store va bytes) replies.Stored = store_at (place_observed observed p va) va bytes
events_of observed p act (replies.Marked number) =
    Mark number ∷ (if has_unmarked observed.history then [] else Acknowledge number ∷ [])
events_of observed p act replies.Resized = resized_at observed observed.pending
events_of observed p act (replies.Committed number) = Acknowledge number ∷ []
events_of observed p act reply = []

-- Processor `p` is running from now on, or no longer is.
abbrev pub with_running : Observed → ℕ → Bool → Observed
with_running observed p running = record observed { running = slice_set observed.running p running }

-- Processor `p` begins a change.
abbrev pub begun_by : Observed → ℕ → Option Pending → Observed
begun_by observed p pending = record (with_running observed p false) { locked = true; pending = pending }

-- Processor `p` ends a change.
abbrev pub ended_by : Observed → ℕ → Observed
ended_by observed p = record (with_running observed p true) { locked = false; pending = None }

-- All that is observed except the history, after an act and its reply.
abbrev pub arranged : Observed → ℕ → Act → Reply → Observed
arranged observed p acts.Create (replies.Space space) = with_places observed space maps.empty
arranged observed p (acts.Destroy space) replies.Destroyed =
    record observed { spaces = maps.remove observed.spaces space }
arranged observed p (acts.Switch space keep) replies.Switched =
    record observed { current = slice_set observed.current p space }
arranged observed p (acts.Map space va len file offset prot access) replies.Mapped =
    mapped_in observed space file prot access (mapped_pages_of va len offset)
arranged observed p (acts.Unmap space va len) replies.Begun =
    begun_by observed p (begun_unmap space (range_of_bytes va len))
arranged observed p (acts.Protect space va len prot) replies.Begun =
    begun_by observed p (begun_protect space prot (range_of_bytes va len))
arranged observed p (acts.SetLength file to) replies.Begun = begun_by observed p (Some (Resizing file to))
arranged observed p act replies.Begun = begun_by observed p None
arranged observed p act replies.Unmapped = ended_by (changed observed observed.pending) p
arranged observed p act replies.Protected = ended_by (changed observed observed.pending) p
arranged observed p act replies.Resized = ended_by (changed observed observed.pending) p
arranged observed p act replies.Reclaimed = ended_by observed p
arranged observed p act replies.Kept = ended_by observed p
arranged observed p act (replies.Marked number) = ended_by observed p
arranged observed p act replies.Acked = with_running observed p false
arranged observed p act replies.Resumed = with_running observed p true
arranged observed p act replies.Idled = with_running observed p false
arranged observed p act replies.Woken = with_running observed p true
arranged observed p act reply = observed

-- The observed state after one more step and its reply.
abbrev pub observe : Observed → Step → Reply → Observed
observe observed step reply =
    record (arranged observed step.p step.act reply)
    { history = observed.history ++ events_of observed step.p step.act reply }

-- The observed state after a run.
abbrev pub observe_all : Observed → List Step → List Reply → Observed
observe_all observed [] replies = observed
observe_all observed (step ∷ steps) [] = observed
observe_all observed (step ∷ steps) (reply ∷ replies) = observe_all (observe observed step reply) steps replies
