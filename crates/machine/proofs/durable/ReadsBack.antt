-- What a crash may leave reads back as the files after a durable prefix of the history; frozen pages are protected.
use Rattle.machine.proofs.Names.{ℕ, ◌⊎◌, inl, inr, List, Option, Some, None, ◌≡◌, Bool, true, false, MatchBool, refl}
use Rattle.machine.proofs.Names.{sym, ap, ◌∙◌, ◌<◌, length, subst, File, SuperValue, Recovers, RecoversTo, Stage}
use Rattle.machine.proofs.Names.{Recording, Describing, SyncingRecords, Opening, Committing, current_stage, LeftWithin}
use Rattle.machine.proofs.Names.{LeftBefore, consistent_left, committed-at}
use Rattle.machine.proofs.Names.{stage_committed, Event, memory_of, after, Mark, Acknowledge}
use Rattle.machine.proofs.Names.{files_after, is_touched, State, ReadsBack, IsSound, Observed, AreContentsOf}
use Rattle.machine.proofs.Names.{HasAcknowledged, HasFiles, IsWritten, IsWaiting, Refines, Contains, All}
use Rattle.machine.proofs.Names.{option_map_or, option_and_then, both_ways, false_from_ne_true, All-contains}
use Rattle.machine.proofs.Names.{is_committed, WriteOut, next_stage, has_committed, AreInOrder, IsAcknowledged, IsOld}
use Rattle.machine.proofs.Names.{IsNew, StopsBefore, StopsWithin, StopsInStep, Stops, Mapped, FilePage, entry_at}
use Rattle.machine.proofs.Names.{processor_at, IsUsable, Holds, is_held, page_at, MarkMade, IsInFile, HasPart}
use Rattle.machine.proofs.Names.{AreFrozenProtected, IsDurable}
use Rattle.journal.specs.WriteOuts.{current}
use Rattle.history.specs.History.{IsDurablePrefix}
use Rattle.history.proofs.Public.{prefix_has}
use Rattle.machine.proofs.durable.Marks.{committed, clean}
use Rattle.machine.proofs.durable.Uncommitted.{current_there, waiting_is_current, none_current}
use Rattle.history.proofs.Public.{some_same}

-- ---- what a crash may leave reads back

-- what may be left within a step recovers to Old or to New
pub left_either : (v : SuperValue) (old new : ℕ → List ℕ) (o : Option Stage) (c : List ℕ) → LeftWithin v old new o c
    → Recovers v old c ⊎ Recovers v new c
left_either v old new (Some (Recording i)) c left = inl left
left_either v old new (Some (Describing i)) c left = inl left
left_either v old new (Some SyncingRecords) c left = inl left
left_either v old new (Some Opening) c left = left
left_either v old new (Some Committing) c left = left
left_either v old new o c left = inr left

-- a prefix that has what was acknowledged is durable where contents are those after it
durable_by : {files : List File} {history prefix : List Event} {v : SuperValue} {contents : ℕ → List ℕ}
    → AreContentsOf files history v contents prefix → HasAcknowledged prefix history → IsDurablePrefix prefix history
durable_by are acknowledged =
    record { rest = are.rest; begins = are.begins; marked = are.marked; acknowledged = acknowledged }

module _ (files : List File) (history : List Event) (s : State) (has : HasFiles files history s)
    (contents : ℕ → List ℕ) (prefix : List Event) (are : AreContentsOf files history s.table contents prefix)
    (c : List ℕ) where
  -- bytes that recover to the contents recover to the files after the prefix
  recovers_to : Recovers s.table contents c → RecoversTo c (files_after files prefix)
  recovers_to recovers = record {
    table = s.table;
    contents = contents;
    recovers = recovers;
    lengths = are.fits;
    files_are = prefix_has files s.table has.named history contents prefix are;
  }

  -- and read back so, where the prefix is durable
  reads_contents : HasAcknowledged prefix history → Recovers s.table contents c → ReadsBack files history c
  reads_contents acknowledged recovers =
      record { prefix = prefix; durable = durable_by are acknowledged; recovers = recovers_to recovers }

  -- to those at the last acknowledged mark, where it has no other
  abbrev acknowledged_by : HasAcknowledged prefix history
      → ((n : ℕ) → Contains prefix (Mark n) → Contains history (Acknowledge n)) → Recovers s.table contents c
      → IsAcknowledged files history c
  acknowledged_by acknowledged only recovers = record {
    prefix = prefix;
    durable = durable_by are acknowledged;
    only = only;
    recovers = recovers_to recovers;
  }

pub reads_within : (files : List File) (observed : Observed) (s : State) → IsSound s → HasFiles files observed.history s
    → (old new : ℕ → List ℕ) → IsWritten files observed s old new → (c : List ℕ)
    → LeftWithin s.table old new (current_stage s.write_outs) c → ReadsBack files observed.history c
reads_within files observed s sound has old new w c left =
    elim (left_either s.table old new (current_stage s.write_outs) c left) [
      | inl is ↦ reads_contents files observed.history s has old w.before w.old_are c w.acknowledged is
      | inr is ↦ reads_contents files observed.history s has new w.marked w.new_are c w.grown is
    ]

-- what a crash may leave now
pub reads_now : (files : List File) (observed : Observed) (s : State) (seen : List ℕ) (may : List ℕ → Type 0)
    → IsSound s
    → HasFiles files observed.history s → IsDurable files observed s seen may → (c : List ℕ) → may c
    → ReadsBack files observed.history c
reads_now files observed s seen may sound has is c left =
    reads_within files observed s sound has is.old is.new is.written c
    (consistent_left s.table is.old is.new s.write_outs seen may is.consistent c left)

-- ---- what a crash leaves by the write-out whose step comes next

module _ (files : List File) (observed : Observed) (s : State) (sound : IsSound s)
    (has : HasFiles files observed.history s)
    (old new : ℕ → List ℕ) (w : IsWritten files observed s old new)
    (ordered : AreInOrder s.write_outs.batches) (c : List ℕ) where
  -- where no batch waits, New is the files at the last acknowledged mark
  confirmed : ((n : ℕ) → IsWaiting s.write_outs.batches n → ⊥) → Recovers s.table new c
      → IsAcknowledged files observed.history c
  confirmed none =
      acknowledged_by files observed.history s has new w.marked w.new_are c w.grown
      (λ n in_it. elim (w.only.in_marked n in_it) [ inl acked ↦ acked | inr wait ↦ absurd (none n wait) ])

  module _ (y : WriteOut) (is : current s.write_outs.batches ≡ Some y) where
    there : Contains s.write_outs.batches y
    there = current_there s.write_outs.batches y is

    is_old : has_committed y ≡ false → Recovers s.table old c → IsOld files observed.history y.batch.mark c
    is_old early recovers = record {
      confirmed = acknowledged_by files observed.history s has old w.before w.old_are c w.acknowledged w.only.in_before
          recovers;
      lacks = w.fresh y there early;
    }

    is_new : Recovers s.table new c → IsNew files observed.history y.batch.mark c
    is_new recovers = record {
      prefix = w.marked;
      durable = durable_by w.new_are w.grown;
      has = All-contains (λ (x : WriteOut). Contains w.marked (Mark x.batch.mark)) s.write_outs.batches y w.marks there;
      only = λ n in_it. elim (w.only.in_marked n in_it) [
        | inl acked ↦ inl acked
        | inr wait ↦ inr (sym wait.is ∙ ap (λ (x : WriteOut). x.batch.mark)
            (waiting_is_current s.write_outs.batches ordered y is wait.w wait.there wait.early))
      ];
      recovers = recovers_to files observed.history s has new w.marked w.new_are c recovers;
    }

    -- one that is done waits no more, and nor does another
    none_waits : next_stage y ≡ None → (n : ℕ) → IsWaiting s.write_outs.batches n → ⊥
    none_waits at n wait =
        both_ways (has_committed y)
        (ap has_committed (sym (waiting_is_current s.write_outs.batches ordered y is wait.w wait.there wait.early))
        ∙ wait.early) (ap (λ (o : Option Stage). option_map_or is_committed o true) at)

    before_at : (o : Option Stage) → next_stage y ≡ o → LeftBefore s.table old new o c
        → StopsBefore files observed.history y.batch.mark o c
    before_at (Some (Recording i)) at left = is_old (committed-at y (Recording i) at) left
    before_at (Some (Describing i)) at left = is_old (committed-at y (Describing i) at) left
    before_at (Some SyncingRecords) at left = is_old (committed-at y SyncingRecords at) left
    before_at (Some Opening) at left = is_old (committed-at y Opening at) left
    before_at (Some Committing) at (inl left) = inl (is_old (committed-at y Committing at) left)
    before_at (Some Committing) at (inr left) = inr (is_new left)
    before_at (Some stage) at left = is_new left
    before_at None at left = confirmed (none_waits at) left

    within_at : (o : Option Stage) → next_stage y ≡ o → LeftWithin s.table old new o c
        → StopsWithin files observed.history y.batch.mark o c
    within_at (Some (Recording i)) at left = is_old (committed-at y (Recording i) at) left
    within_at (Some (Describing i)) at left = is_old (committed-at y (Describing i) at) left
    within_at (Some SyncingRecords) at left = is_old (committed-at y SyncingRecords at) left
    within_at (Some Opening) at (inl left) = inl (is_old (committed-at y Opening at) left)
    within_at (Some Opening) at (inr left) = inr (is_new left)
    within_at (Some Committing) at (inl left) = inl (is_old (committed-at y Committing at) left)
    within_at (Some Committing) at (inr left) = inr (is_new left)
    within_at (Some stage) at left = is_new left
    within_at None at left = confirmed (none_waits at) left

  -- where there is none, New is what is left
  none_left : current s.write_outs.batches ≡ None → Recovers s.table new c → IsAcknowledged files observed.history c
  none_left is = confirmed (λ n wait. none_current s.write_outs.batches is wait.w wait.there)

  by_current : (Left : Option Stage → Type 0) (Stops : ℕ → Option Stage → Type 0)
      → (current s.write_outs.batches ≡ None → Left None → Stops 0 None)
      → ((y : WriteOut) → current s.write_outs.batches ≡ Some y → Left (next_stage y)
      → Stops y.batch.mark (next_stage y))
      → (o : Option WriteOut) → current s.write_outs.batches ≡ o → Left (option_and_then next_stage o)
      → Stops (option_map_or (λ (x : WriteOut). x.batch.mark) o 0) (option_and_then next_stage o)
  by_current Left Stops none some None is left = none is left
  by_current Left Stops none some (Some y) is left = some y is left

  pub stops_within : LeftWithin s.table old new (current_stage s.write_outs) c
      → StopsInStep files observed.history s.write_outs c
  stops_within = by_current (λ o. LeftWithin s.table old new o c)
      (λ mark o. StopsWithin files observed.history mark o c) none_left (λ y is. within_at y is (next_stage y) refl)
      (current s.write_outs.batches) refl

  pub stops_now : MatchBool s.write_outs.broken (LeftWithin s.table old new (current_stage s.write_outs) c)
      (LeftBefore s.table old new (current_stage s.write_outs) c) → Stops files observed.history s.write_outs c
  stops_now left = by s.write_outs.broken left
    where
      by : (b : Bool) → MatchBool b (LeftWithin s.table old new (current_stage s.write_outs) c)
          (LeftBefore s.table old new (current_stage s.write_outs) c)
          → MatchBool b (StopsInStep files observed.history s.write_outs c)
          (StopsBefore files observed.history (option_map_or
          (λ (x : WriteOut). x.batch.mark) (current s.write_outs.batches) 0) (current_stage s.write_outs) c)
      by true left = stops_within left
      by false left = by_current (λ o. LeftBefore s.table old new o c)
          (λ mark o. StopsBefore files observed.history mark o c) none_left (λ y is. before_at y is (next_stage y) refl)
          (current s.write_outs.batches) refl left

-- what a crash now leaves of a tracked machine
pub refines_stops : (files : List File) (observed : Observed) (s : State) (seen : List ℕ) (may : List ℕ → Type 0)
    → Refines files observed s seen may → (c : List ℕ) → may c → Stops files observed.history s.write_outs c
refines_stops files observed s seen may t c left =
    stops_now files observed s t.sound t.files_are t.old t.new t.written t.consistent.sound.ordered c
    (t.consistent.left c left)

-- ---- frozen pages

module _ (s : State) (sound : IsSound s) (owner : FilePage)
    (held : is_held s.hardware.memory s.checkpoint owner ≡ true) where
  -- no entry of a held page is writable
  pub held_entry : (pcid page : ℕ) (entry : Mapped) → entry_at s.hardware.spaces pcid page ≡ Some entry
      → Holds s.hardware.memory entry.frame owner → entry.writable ≡ false
  held_entry pcid page entry present holds =
      let is = sound.memory.backed pcid page entry present in
      let same : page_at is.place ≡ owner = some_same (page_at is.place) owner (sym is.held ∙ holds) in
      false_from_ne_true entry.writable (λ writable.
      both_ways (is_held s.hardware.memory s.checkpoint owner)
      (subst (λ (o : FilePage). is_held s.hardware.memory s.checkpoint o ≡ false) same (is.thawed writable)) held)

  -- nor is one that a processor has cached and may still use, be it because its queue keeps it
  pub held_cached : (p : ℕ) → p < length s.hardware.shootdown.processors
      → All (λ e. IsUsable (processor_at s.hardware.shootdown p) e → Holds s.hardware.memory e.frame owner
      → e.writable ≡ false) (processor_at s.hardware.shootdown p).tlb.entries
  held_cached p there k d lt usable holds =
      let agrees = sound.spaces.coheres.covered p there k d lt usable in
      let entry = agrees.0 in
      let protected = held_entry _ _ entry agrees.1
      (subst (λ frame. Holds s.hardware.memory frame owner) agrees.2.same_frame holds) in
      false_from_ne_true _ (λ writable. both_ways entry.writable protected (agrees.2.writable writable))

pub frozen_protected : (s : State) → IsSound s → AreFrozenProtected s
frozen_protected s sound = record {
  waiting = sound.write_outs.frozen;
  protected = λ owner held. record { entries = held_entry s sound owner held; cached = held_cached s sound owner held };
}

-- ---- kept pages

-- where each batch is committed, what may be left recovers to New
left_new : (v : SuperValue) (old new : ℕ → List ℕ) (o : Option Stage) (c : List ℕ)
    → option_map_or is_committed o true ≡ true → LeftWithin v old new o c → Recovers v new c
left_new v old new None c late left = left
left_new v old new (Some (Recording i)) c late left = absurd (both_ways false refl late)
left_new v old new (Some (Describing i)) c late left = absurd (both_ways false refl late)
left_new v old new (Some SyncingRecords) c late left = absurd (both_ways false refl late)
left_new v old new (Some Opening) c late left = absurd (both_ways false refl late)
left_new v old new (Some Committing) c late left = absurd (both_ways false refl late)
left_new v old new (Some stage) c late left = left

module _ (files : List File) (observed : Observed) (s : State) (seen : List ℕ) (may : List ℕ → Type 0)
    (t : Refines files observed s seen may) (p number : ℕ) (new : State) (is : MarkMade s p number new) where
  -- a page that isn't gathered at a mark has the bytes that each list that a crash may leave recovers to
  pub kept_page : (owner : FilePage) → IsInFile s owner → (Contains is.pages owner → ⊥) → (c : List ℕ) → may c
      → HasPart s owner (after (memory_of files) observed.history owner.file owner.page) c
  kept_page owner in_file other c left =
      let none =
      committed files observed s p number seen may t.old t.new t.sound t.files_are t.latest t.touched t.consistent
      t.written is.next is.may.lock in
      let untouched : is_touched observed.history owner.file owner.page ≡ false =
      false_from_ne_true (is_touched observed.history owner.file owner.page)
      (λ stored. other ((is.gathered.gathered.dirty owner).1 ((t.touched.each owner).0 (in_file, stored)))) in
      record {
        contents = t.new;
        recovers = left_new s.table t.old t.new (current_stage s.write_outs) c (stage_committed s.write_outs.batches
            none) (consistent_left s.table t.old t.new s.write_outs seen may t.consistent c left);
        same = clean files observed s p number seen may t.old t.new t.sound t.files_are t.latest t.touched t.consistent
            t.written is.next is.may.lock owner in_file untouched;
      }
