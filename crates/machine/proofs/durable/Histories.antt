-- Histories that grow: the memory after them, the pages that they touch, their prefixes and their marks.
use Rattle.machine.proofs.Names.{◌≡◌, ◌≢◌, ℕ, ◌+◌, ◌*◌, ◌/◌, ◌%◌, ◌<◌, ◌≤◌, Bool, true, false, ◌&&◌, eqb, if◌then◌else◌}
use Rattle.machine.proofs.Names.{List, [], ◌∷◌, ◌++◌, length, take, refl, sym, ap, ◌∙◌, inl, inr, arith, ◌⊎◌}
use Rattle.machine.proofs.Names.{cond, subst, append_assoc, ◌↔◌, ◌-◌, get_or, Some, cond-true, cond-false, cond_both}
use Rattle.machine.proofs.Names.{and_from, and_left, and_right, eq-eqb, ne_eqb, cases_eq, both_ways, eqb-true}
use Rattle.machine.proofs.Names.{and_parts, false_from_ne_true, append-nil, File, overwrite}
use Rattle.machine.proofs.Names.{length-overwrite, Memory, Event, Mark, Acknowledge, memory_of, stored}
use Rattle.machine.proofs.Names.{after, is_touched, has_unmarked, Contains, All, fold, fold-append}
use Rattle.machine.proofs.Names.{list_any, list_any-append, min, ◌||◌, or_from, or_left}
use Rattle.machine.proofs.Names.{or_right, or_parts, cases_Bool, lengths_after}
use Rattle.machine.proofs.Names.{with_length, with_event, since_mark, is_change}
use Rattle.machine.proofs.Names.{is_change_of, is_resize, has_resized, cut_file, lengths_in}
use Rattle.machine.proofs.Names.{Contains-append_left, Contains-append_cases, Contains-get_or, HasAcknowledged, IsLost}
use Rattle.machine.proofs.Names.{IsWaiting, AreMarks, AreTouched, change_in, AreContentsOf, IsWritten, State}
use Rattle.machine.proofs.Names.{home_of, cut_at_end, FilePage, MarkMade, bytes_at_mark, Observed, SuperValue, WriteOut}
use Rattle.machine.proofs.Names.{has_committed, WriteOutsValue, has_uncommitted, Checkpoint, IsInFile, within_file}
use Rattle.history.specs.History.{Store, SetLength}
use Rattle.machine.proofs.Names.{map, first_home, mark_homes}
use Rattle.history.proofs.Public.{contains_none, first_or, only_one}
use Rattle.machine.proofs.sound.Sources.{none_written}
use Rattle.history.proofs.Public.{unmarked_by_touched, unmarked_by_resized, IsQuiet, quiet_acknowledges, quiet_marks}
use Rattle.history.proofs.Public.{quiet_untouched, begins_more, acknowledged_more, some_touched, AreCalm}

-- ---- which marks are acknowledged, wait or are lost

-- what waited is acknowledged by these events, or still waits
pub marks_more : (before marked history events : List Event) (s x : State) → ((n : ℕ) → Contains events (Mark n) → ⊥)
    → ((n : ℕ) → IsWaiting s.write_outs.batches n
    → Contains (history ++ events) (Acknowledge n) ⊎ IsWaiting x.write_outs.batches n) → (IsLost s → IsLost x)
    → AreMarks history before marked s → AreMarks (history ++ events) before marked x
marks_more before marked history events s x unmarked waits lost are = record {
  each = λ n has. elim (Contains-append_cases history events (Mark n) has)
      [ inl was ↦ by_each n (are.each n was) | inr now ↦ absurd (unmarked n now) ];
  in_before = λ n has. acked n (are.in_before n has);
  in_marked = λ n has. by_marked n (are.in_marked n has);
}
  where
    acked : (n : ℕ) → Contains history (Acknowledge n) → Contains (history ++ events) (Acknowledge n)
    acked n has = Contains-append_left history events (Acknowledge n) has

    by_marked : (n : ℕ) → Contains history (Acknowledge n) ⊎ IsWaiting s.write_outs.batches n
        → Contains (history ++ events) (Acknowledge n) ⊎ IsWaiting x.write_outs.batches n
    by_marked n (inl has) = inl (acked n has)
    by_marked n (inr wait) = waits n wait

    still : (n : ℕ) → Contains (history ++ events) (Acknowledge n) ⊎ IsWaiting x.write_outs.batches n
        → Contains (history ++ events) (Acknowledge n) ⊎ (IsWaiting x.write_outs.batches n ⊎ IsLost x)
    still n (inl has) = inl has
    still n (inr wait) = inr (inl wait)

    by_each : (n : ℕ) → Contains history (Acknowledge n) ⊎ (IsWaiting s.write_outs.batches n ⊎ IsLost s)
        → Contains (history ++ events) (Acknowledge n) ⊎ (IsWaiting x.write_outs.batches n ⊎ IsLost x)
    by_each n (inl has) = inl (acked n has)
    by_each n (inr (inl wait)) = still n (waits n wait)
    by_each n (inr (inr is)) = inr (inr (lost is))

-- where none waits any more, the second prefix has acknowledged marks alone
pub marks_confirmed : (before marked history : List Event) (x : State)
    → ((n : ℕ) → IsWaiting x.write_outs.batches n → ⊥)
    → AreMarks history before marked x → AreMarks history marked marked x
marks_confirmed before marked history x none are = record {
  each = are.each;
  in_before = λ n has. elim (are.in_marked n has) [ inl acked ↦ acked | inr wait ↦ absurd (none n wait) ];
  in_marked = are.in_marked;
}

-- ---- which pages a mark gathers, by the history

module _ (observed : Observed) (s : State) (p number : ℕ) (new : State) (mark : MarkMade s p number new)
    (touched : AreTouched observed s) where
  -- those of files that were touched since the last mark
  pub gathers_touched : (owner : FilePage)
      → (Contains mark.pages owner) ↔ (IsInFile s owner × (is_touched observed.history owner.file owner.page ≡ true))
  gathers_touched owner =
      let dirty = mark.gathered.gathered.dirty owner in
      (λ gathered. (touched.each owner).1 (dirty.0 gathered), λ stored. dirty.1 ((touched.each owner).0 stored))

  -- it writes nothing, where nothing was stored and no length was set
  pub gathers_nothing : has_resized observed.history ≡ s.resized
      → (mark_homes s mark.pages ≡ []) ↔ (has_unmarked observed.history ≡ false)
  gathers_nothing resized = (
    (λ none. let parts = none_written s mark.pages none in false_from_ne_true (has_unmarked observed.history) (λ stored.
        let some = some_touched observed.history (resized ∙ parts.0) stored in
        let there = subst (λ (pages : List FilePage). Contains pages (record { file = some.0; page = some.1 })) parts.1
        ((gathers_touched (record { file = some.0; page = some.1 })).1
        (touched.inside parts.0 (record { file = some.0; page = some.1 }) some.2, some.2)) in
        omega (arith, there.1))),
    (λ none.
        let unset : s.resized ≡ false = false_from_ne_true s.resized
        (λ set. both_ways (has_unmarked observed.history) none
        (unmarked_by_resized observed.history (resized ∙ set))) in
        let no_pages : mark.pages ≡ [] =
        empty mark.pages (λ owner gathered. both_ways (has_unmarked observed.history) none
        (unmarked_by_touched observed.history owner.file owner.page ((gathers_touched owner).0 gathered).1)) in
        λ i. cond (unset i) (first_home s.table.layout s.table.slots ∷ []) [] ++ map (home_of s.table) (no_pages i)),
  )
    where
      empty : (pages : List FilePage) → ((owner : FilePage) → Contains pages owner → ⊥) → pages ≡ []
      empty [] none = refl
      empty (owner ∷ pages) none = absurd (none owner (0, omega arith, refl))

-- ---- the files stay

pub record SameFiles (s x : State) : Type 0 where
  pub table : x.table ≡ s.table
  pub lengths : x.lengths ≡ s.lengths

pub in_file_as : (s x : State) → SameFiles s x → (owner : FilePage) → IsInFile x owner → IsInFile s owner
in_file_as s x same owner is = record {
  there = subst (λ (t : SuperValue). owner.file < length t.files) same.table is.there;
  inside = subst (λ (l : List ℕ). 4096 * owner.page < get_or l owner.file 0) same.lengths is.inside;
}

-- a fact on the part of a page in its file, and its home block
pub part_as : (s x : State) → SameFiles s x → (owner : FilePage) (contents : ℕ → List ℕ) (bytes : List ℕ)
    → within_file s owner (contents (home_of s.table owner)) ≡ within_file s owner bytes
    → within_file x owner (contents (home_of x.table owner)) ≡ within_file x owner bytes
part_as s x same owner contents bytes e =
    subst (λ (l : List ℕ). take (get_or l owner.file 0 - 4096 * owner.page) (contents (home_of x.table owner))
    ≡ take (get_or l owner.file 0 - 4096 * owner.page) bytes) (sym same.lengths)
    (subst (λ (t : SuperValue). within_file s owner (contents (home_of t owner)) ≡ within_file s owner bytes)
    (sym same.table) e)

-- contents after a prefix of a history are those after a prefix of a longer one
pub contents_more : (files : List File) (history events : List Event) (s x : State) → SameFiles s x
    → (contents : ℕ → List ℕ) (prefix : List Event) → AreContentsOf files history s.table contents prefix
    → AreContentsOf files (history ++ events) x.table contents prefix
contents_more files history events s x same contents prefix are =
    subst (λ (t : SuperValue). AreContentsOf files (history ++ events) t contents prefix) (sym same.table) (record {
      rest = are.rest ++ events;
      begins = begins_more prefix are.rest history events are.begins;
      marked = are.marked;
      whole = are.whole;
      fits = are.fits;
      same_lengths = are.same_lengths;
      parts = are.parts;
    })

-- ---- the write-outs, and what their records are, stay

pub record Leaves (s x : State) : Type 0 where
  pub files : SameFiles s x
  pub write_outs : x.write_outs ≡ s.write_outs
  pub marks : x.marks ≡ s.marks
  -- no checkpoint is begun of a broken machine
  pub lock : s.write_outs.broken ≡ true → change_in x.hardware.shootdown.lock ≡ Some Checkpoint
      → change_in s.hardware.shootdown.lock ≡ Some Checkpoint
  pub resized : x.resized ≡ s.resized
  pub frozen : x.checkpoint.frozen ≡ s.checkpoint.frozen
  pub bytes : (owner : FilePage) → Contains s.checkpoint.frozen owner
      → bytes_at_mark x.hardware.memory owner ≡ bytes_at_mark s.hardware.memory owner

-- the records of frozen pages are what was gathered
abbrev pub AreFrozenRecords : State → (ℕ → List ℕ) → Type 0
AreFrozenRecords s new = All (λ owner.
    new (home_of s.table owner) ≡ cut_at_end s owner (bytes_at_mark s.hardware.memory owner)) s.checkpoint.frozen

-- one of them under another state
pub record_as : (s x : State) → SameFiles s x → (owner : FilePage) (new : ℕ → List ℕ)
    → bytes_at_mark x.hardware.memory owner ≡ bytes_at_mark s.hardware.memory owner
    → new (home_of s.table owner) ≡ cut_at_end s owner (bytes_at_mark s.hardware.memory owner)
    → new (home_of x.table owner) ≡ cut_at_end x owner (bytes_at_mark x.hardware.memory owner)
record_as s x same owner new bytes e =
    ap (λ (t : SuperValue). new (home_of t owner)) same.table ∙ e
    ∙ sym (ap (λ (b : List ℕ). cut_at_end x owner b) bytes ∙ cut_as)
  where
    cut_as : cut_at_end x owner (bytes_at_mark s.hardware.memory owner)
        ≡ cut_at_end s owner (bytes_at_mark s.hardware.memory owner)
    cut_as = ap (λ (l : List ℕ). cut_at_end (record s { lengths = l }) owner (bytes_at_mark s.hardware.memory owner))
        same.lengths

pub records_as : (s x : State) → Leaves s x → (new : ℕ → List ℕ) → AreFrozenRecords s new → AreFrozenRecords x new
records_as s x leaves new are =
    subst (λ (pages : List FilePage). All (λ owner. new (home_of x.table owner)
    ≡ cut_at_end x owner (bytes_at_mark x.hardware.memory owner)) pages) (sym leaves.frozen)
    (λ k d lt. record_as s x leaves.files (get_or s.checkpoint.frozen k d) new
    (leaves.bytes (get_or s.checkpoint.frozen k d) (Contains-get_or s.checkpoint.frozen k d lt)) (are k d lt))

-- the batches that aren't committed aren't in this prefix
abbrev pub IsFresh : State → List Event → Type 0
IsFresh x before = (y : WriteOut) → Contains x.write_outs.batches y → has_committed y ≡ false
    → Contains before (Mark y.batch.mark) → ⊥

module _ (files : List File) (observed : Observed) (s x : State) (old new : ℕ → List ℕ)
    (w : IsWritten files observed s old new)
    (events : List Event) (calm : AreCalm files observed.history events) (same : SameFiles s x)
    (unset : x.resized ≡ false → s.resized ≡ false)
    (acks : (n : ℕ) → Contains events (Acknowledge n) → Contains w.marked (Mark n))
    (marks : All (λ (y : WriteOut). Contains w.marked (Mark y.batch.mark)) x.write_outs.batches)
    (ready : x.write_outs.broken ≡ true → change_in x.hardware.shootdown.lock ≡ Some Checkpoint → has_uncommitted
    x.write_outs.batches ≡ false) (lost_as : IsLost s → IsLost x) (frozen : AreFrozenRecords x new)
    (unmarked : (n : ℕ) → Contains events (Mark n) → ⊥) (same_marks : x.marks ≡ s.marks)
    (only : AreMarks (observed.history ++ events) w.before w.marked x) where
  abbrev now : Observed
  now = record observed { history = observed.history ++ events }

  -- with another Old
  pub written_on : (other : ℕ → List ℕ) (before : List Event) → AreContentsOf files
      (observed.history ++ events) x.table other before
      → HasAcknowledged before (observed.history ++ events) → IsFresh x before
      → AreMarks (observed.history ++ events) before w.marked x → IsWritten files now x other new
  written_on other before are acknowledged fresh only = record {
    before = before;
    old_are = are;
    acknowledged = acknowledged;
    marked = w.marked;
    new_are = contents_more files observed.history events s x same new w.marked w.new_are;
    grown = acknowledged_more w.marked observed.history events acks w.grown;
    marks = marks;
    fresh = fresh;
    only = only;
    numbered = λ n has. elim (Contains-append_cases observed.history events (Mark n) has)
        [ inl was ↦ subst (λ m. n ≤ m) (sym same_marks) (w.numbered n was) | inr this ↦ absurd (unmarked n this) ];
    ready = ready;
    clean = elim w.clean [
      | inl lost ↦ inl (lost_as lost)
      | inr clean ↦ inr (λ owner is untouched.
          let still = calm owner.file owner.page untouched in
          part_as s x same owner new (after (memory_of files) (observed.history ++ events) owner.file owner.page)
          (clean owner (in_file_as s x same owner is) still.before ∙ sym (ap (within_file s owner) still.same)))
    ];
    same_lengths = λ none. ap (λ (t : SuperValue). lengths_in t new) same.table
        ∙ w.same_lengths (unset none) ∙ sym same.lengths;
    frozen = frozen;
  }

  -- with the same Old
  pub written_same : ((n : ℕ) → Contains events (Acknowledge n) → Contains w.before (Mark n)) → IsFresh x w.before
      → IsWritten files now x old new
  written_same old_acks fresh =
      written_on old w.before (contents_more files observed.history events s x same old w.before
      w.old_are) (acknowledged_more w.before observed.history events old_acks w.acknowledged) fresh only

  -- where New is Old, too
  pub written_new : IsFresh x w.marked → ((n : ℕ) → IsWaiting x.write_outs.batches n → ⊥)
      → IsWritten files now x new new
  written_new fresh none = written_on new w.marked (contents_more files observed.history events s x same new w.marked
      w.new_are) (acknowledged_more w.marked observed.history events acks w.grown) fresh
      (marks_confirmed w.before w.marked (observed.history ++ events) x none only)

-- of what is observed the history alone counts
pub written_as : (files : List File) (observed observed' : Observed) (s : State) (old new : ℕ → List ℕ)
    → observed'.history ≡ observed.history → IsWritten files observed s old new → IsWritten files observed' s old new
written_as files observed observed' s old new same w =
    let moved : (P : List Event → Type 0) → P observed.history → P observed'.history = λ P p. subst P (sym same) p in
    record {
      before = w.before;
      old_are = moved (λ h. AreContentsOf files h s.table old w.before) w.old_are;
      acknowledged = moved (HasAcknowledged w.before) w.acknowledged;
      marked = w.marked;
      new_are = moved (λ h. AreContentsOf files h s.table new w.marked) w.new_are;
      grown = moved (HasAcknowledged w.marked) w.grown;
      marks = w.marks;
      fresh = w.fresh;
      only = moved (λ h. AreMarks h w.before w.marked s) w.only;
      numbered = moved (λ h. (n : ℕ) → Contains h (Mark n) → n ≤ s.marks) w.numbered;
      ready = w.ready;
      clean = moved (λ h. IsLost s ⊎ ((owner : FilePage) → IsInFile s owner → is_touched h owner.file owner.page ≡ false
          → within_file s owner (new (home_of s.table owner))
          ≡ within_file s owner (after (memory_of files) h owner.file owner.page))) w.clean;
      same_lengths = w.same_lengths;
      frozen = w.frozen;
    }

-- what the device recovers to goes with a history to which nothing or a store is added
pub written_left : (files : List File) (observed observed' : Observed) (events : List Event)
    (s x : State) (old new : ℕ → List ℕ)
    → observed'.history ≡ observed.history ++ events → IsQuiet events → Leaves s x → IsWritten files observed s old new
    → IsWritten files observed' x old new
written_left files observed observed' events s x old new grows quiet leaves w =
    let acks : (n : ℕ) (prefix : List Event) → Contains events (Acknowledge n) → Contains prefix (Mark n) =
    λ n prefix has. absurd (quiet_acknowledges events n quiet has) in
    let unmarked : (n : ℕ) → Contains events (Mark n) → ⊥ = λ n has. quiet_marks events n quiet has in
    let outs = leaves.write_outs in
    let lost_as : IsLost s → IsLost x = λ lost. record {
      broken = ap (λ (o : WriteOutsValue). o.broken) outs ∙ lost.broken;
      no_mark = λ held. lost.no_mark (leaves.lock lost.broken held);
    } in
    written_as files (record observed { history = observed.history ++ events }) observed' x old new grows
    (written_same files observed s x old new w events
    (λ file page is. quiet_untouched (memory_of files) observed.history events
    file page quiet is) leaves.files (λ none. sym leaves.resized ∙ none) (λ n has. acks n w.marked has)
    (subst (λ (o : WriteOutsValue). All (λ batch. Contains w.marked (Mark batch.batch.mark)) o.batches)
    (sym outs) w.marks)
    (λ broken held.
    let was = sym (ap (λ (o : WriteOutsValue). o.broken) outs) ∙ broken in
    ap (λ (o : WriteOutsValue). has_uncommitted o.batches) outs ∙ w.ready was (leaves.lock was held))
    lost_as (records_as s x leaves new w.frozen) unmarked leaves.marks
    (marks_more w.before w.marked observed.history events s x unmarked
    (λ n wait. inr (subst (λ (o : WriteOutsValue). IsWaiting o.batches n) (sym outs) wait)) lost_as w.only)
    (λ n has. acks n w.before has)
    (λ y there early. w.fresh y (subst (λ (o : WriteOutsValue). Contains o.batches y) outs there) early))
