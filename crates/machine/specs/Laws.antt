-- Laws of whole runs, stated by their steps and replies.
use Rattle.std.specs.Prelude.{ℕ, ◌≡◌, ◌*◌, ◌/◌, ◌%◌, ◌<◌, ◌≤◌, ◌^◌, Bool, true, false, not, ◌||◌, ◌⊎◌, List}
use Rattle.std.specs.Prelude.{[], ◌∷◌, length, take, drop, map, replicate, Some, None, slice_index_or}
use Rattle.std.specs.FinMap as maps
use Rattle.page_entry.specs.declared.refusal.Refusal.TheVariants as refusals
use Rattle.mappings.specs.declared.place.Place.{Place}
use Rattle.mappings.specs.Places.{may_write}
use Rattle.volume_codec.specs.Files.{File}
use Rattle.machine.specs.declared.act.Act.{Act}
use Rattle.machine.specs.declared.act.Act.TheVariants as acts
use Rattle.machine.specs.declared.act.Reply.{Reply}
use Rattle.machine.specs.declared.act.Reply.TheVariants as replies
use Rattle.machine.specs.declared.act.Step.{Step}
use Rattle.cpu.specs.Access.{IsAccess}
use Rattle.history.specs.History.{memory_of, after}
use Rattle.history.specs.Reading.{ReadsBack}
use Rattle.machine.specs.Observed.{Observed, place_observed, length_observed, observe, observe_all}

-- The observed state at the start of a run with these files and `cpus` processors. Each processor is in space 0, which
-- maps nothing.
abbrev pub observed_at_start : List File → ℕ → Observed
observed_at_start files cpus = record {
  spaces = maps.insert maps.empty 0 maps.empty;
  current = replicate cpus 0;
  running = replicate cpus true;
  locked = false;
  lengths = map (λ f. length f.bytes) files;
  pending = None;
  history = [];
}

-- `P` holds of each step of a run, given what was observed before it.
abbrev pub EachStep : (Observed → ℕ → Act → Reply → Type 0) → Observed → List Step → List Reply → Type 0
EachStep P observed (step ∷ steps) (reply ∷ replies) =
    P observed step.p step.act reply × EachStep P (observe observed step reply) steps replies
EachStep P observed steps replies = Unit {0}

-- ---- coherence

-- An answered load returns, for each byte, the latest answered store. A byte without a store is the file's byte, or
-- zero past the file's end.
pub record LoadsLatest (files : List File) (observed : Observed) (p va count : ℕ) (bytes : List ℕ) : Type 0 where
  pub as_many : length bytes ≡ count
  pub place : Place
  pub leads : place_observed observed p va ≡ Some place
  pub latest : bytes ≡ take count (drop (va % 4096) (after (memory_of files) observed.history place.file place.page))

-- The page of a place begins before its file's end.
abbrev pub IsInside : Observed → Place → Type 0
IsInside observed place = 4096 * place.page < length_observed observed place.file

-- The address of an answered store leads to a place, and the place's rights allow the store. The place's page begins
-- before its file's end.
pub record StoresAtPlace (observed : Observed) (p va : ℕ) : Type 0 where
  pub place : Place
  pub leads : place_observed observed p va ≡ Some place
  pub allowed : may_write place.rights ≡ true
  pub inside : IsInside observed place

-- A fault's address leads to this place, which allows the access.
pub record LeadsTo (observed : Observed) (p va : ℕ) (write : Bool) (place : Place) : Type 0 where
  pub leads : place_observed observed p va ≡ Some place
  pub allowed : (not write || may_write place.rights) ≡ true

-- The processor exists and is running, so it may load and store, and the lock is free.
pub record IsFreeToAct (observed : Observed) (p : ℕ) : Type 0 where
  pub there : p < length observed.running
  pub running : slice_index_or observed.running p false ≡ true
  pub free : observed.locked ≡ false

-- Loads, stores and faults are answered according to what was observed. A fault has three refusals for its address.
-- SegvMapErr: the address leads to no place. SegvAccErr: the place does not allow the access. BusAdrErr: the page
-- begins at its file's end or past it. Einval, Stalled and Locked, which come before these, have their own reasons. Any
-- other answer comes only if none of the three applies.
abbrev pub IsLawful : List File → Observed → ℕ → Act → Reply → Type 0
IsLawful files observed p (acts.Load va count) (replies.Bytes bytes) = LoadsLatest files observed p va count bytes
IsLawful files observed p (acts.Store va bytes) replies.Stored = StoresAtPlace observed p va
IsLawful files observed p (acts.Fix va write) (replies.Refused refusals.Einval) =
    (length observed.running ≤ p) ⊎ (IsFreeToAct observed p × (2 ^ 47 ≤ va))
IsLawful files observed p (acts.Fix va write) (replies.Refused refusals.Stalled) =
    (p < length observed.running) × (slice_index_or observed.running p false ≡ false)
IsLawful files observed p (acts.Fix va write) (replies.Refused refusals.Locked) = observed.locked ≡ true
IsLawful files observed p (acts.Fix va write) (replies.Refused refusals.SegvMapErr) =
    (va < 2 ^ 47) × (place_observed observed p va ≡ None)
IsLawful files observed p (acts.Fix va write) (replies.Refused refusals.SegvAccErr) =
    (place : Place) × (place_observed observed p va ≡ Some place) × (write ≡ true) × (may_write place.rights ≡ false)
IsLawful files observed p (acts.Fix va write) (replies.Refused refusals.BusAdrErr) =
    (place : Place) × LeadsTo observed p va write place × (IsInside observed place → ⊥)
IsLawful files observed p (acts.Fix va write) reply =
    (place : Place) × LeadsTo observed p va write place × IsInside observed place
IsLawful files observed p act reply = Unit {0}

-- The reply of a load or a store that was made.
abbrev pub IsAnswered : Act → Reply → Type 0
IsAnswered (acts.Load va count) (replies.Bytes bytes) = Unit {0}
IsAnswered (acts.Store va bytes) replies.Stored = Unit {0}
IsAnswered act reply = ⊥

-- An access to the page of an address. It may be a store only if writing was requested.
abbrev pub IsAccessOf : ℕ → Bool → Act → Type 0
IsAccessOf va write (acts.Load at count) = IsAccess at count × (at / 4096 ≡ va / 4096)
IsAccessOf va write (acts.Store at bytes) = IsAccess at (length bytes) × (at / 4096 ≡ va / 4096) × (write ≡ true)
IsAccessOf va write act = ⊥

-- If the step after a served fault is the same processor's access to that page, it is answered.
abbrev pub ServesNext : ℕ → Act → Reply → List Step → List Reply → Type 0
ServesNext p (acts.Fix va write) replies.Fixed (next ∷ steps) (reply ∷ replies) =
    next.p ≡ p → IsAccessOf va write next.act → IsAnswered next.act reply
ServesNext p act reply steps replies = Unit {0}

-- After each served fault, the access that follows at once is answered.
abbrev pub FaultsAreServed : List Step → List Reply → Type 0
FaultsAreServed (step ∷ steps) (reply ∷ replies) =
    ServesNext step.p step.act reply steps replies × FaultsAreServed steps replies
FaultsAreServed steps replies = Unit {0}

-- ---- durability

-- These bytes recover to the files after a durable prefix of some history. It is the history observed before, extended
-- by the first `n` of these steps.
abbrev pub ReadsBackSince : List File → Observed → List Step → List Reply → List ℕ → Type 0
ReadsBackSince files observed steps replies disk =
    (n : ℕ) × ReadsBack files (observe_all observed (take n steps) (take n replies)).history disk
