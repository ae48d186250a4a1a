-- Bytes that one commit may leave in its midst, and another once it is acknowledged.
use Rattle.std.proofs.Common.{◌≡◌, ◌≤◌, ⊎_elim, ℕ, ◌+◌, false, List, ◌++◌, length, drop}
use Rattle.std.proofs.Common.{get_or, refl, sym, ◌∙◌, ap, subst, arith, length-append}
use Rattle.std.proofs.lemmas.Bool.{cases_lt}
use Rattle.std.specs.Prelude.{◌≢◌}
use Rattle.device.specs.Memory.{DiskChange, Recorded, MayBeLeft, is_unsynced, content_after}
use Rattle.device.specs.Memory.{seen_of, may_leave_of, moment_of, left_since_of}
use Rattle.least_syncs.specs.Commit.{AreWithin, HasMade, IsCommit, WriteTheSamePlaces}
use Rattle.least_syncs.specs.Commit.{WritesOver, before_sync, content_at_sync, is_open, syncs_of}
use Rattle.least_syncs.proofs.Early.{within_early, within_past, no_syncs, earlier}
use Rattle.least_syncs.proofs.Early.{all_early, length_content, as_before, as_at_sync}

-- the writes are within the disk, as it began
pub fits : (begun : Recorded) (calls : List DiskChange) (ended : Recorded) → HasMade begun calls ended
    → AreWithin (length begun.first) (calls ++ begun.changes)
fits begun calls ended made =
    subst (λ (l : List ℕ). AreWithin (length l) (calls ++ begun.changes)) made.first
    (subst (λ (l : List DiskChange). AreWithin (length ended.first) l) made.changes made.within)

left_of : (begun : Recorded) (calls : List DiskChange) (ended : Recorded) (c : List ℕ)
    → HasMade begun calls ended → MayBeLeft begun.first (calls ++ begun.changes) c
    → may_leave_of ended c
left_of begun calls ended c made left =
    subst (λ (l : List ℕ). MayBeLeft l ended.changes c) (sym made.first)
    (subst (λ (l : List DiskChange). MayBeLeft begun.first l c) (sym made.changes) left)

-- as long as the disk was before
pub same_length : (begun : Recorded) (early : List DiskChange) → AreWithin (length begun.first) (early ++ begun.changes)
    → length (content_after begun.first (early ++ begun.changes)) ≡ length (seen_of begun)
same_length begun early within =
    length_content begun.first (early ++ begun.changes) within
    ∙ sym (length_content begun.first begun.changes (within_past (length begun.first) early begun.changes within))

length_at_sync : (begun : Recorded) (calls : List DiskChange) (ended : Recorded) → HasMade begun calls ended
    → length (content_at_sync begun calls) ≡ length begun.first
length_at_sync begun calls ended made =
    length_content begun.first (before_sync calls ++ begun.changes)
    (within_early (length begun.first) calls begun.changes (fits begun calls ended made))

-- what is on the disk as it syncs is left after a commit with no further sync
left_at_end : (begun : Recorded) (calls : List DiskChange) (ended : Recorded)
    → HasMade begun calls ended → syncs_of calls ≤ 1
    → may_leave_of ended (content_at_sync begun calls)
left_at_end begun calls ended made few =
    let within = fits begun calls ended made in
    left_of begun calls ended (content_at_sync begun calls) made (record {
      same_length = length_at_sync begun calls ended made
          ∙ sym (length_content begun.first (calls ++ begun.changes) within);
      synced = λ i unwritten. as_at_sync begun.first calls begun.changes i within few unwritten;
    })

-- in the midst of a commit anything is left in the places that it wrote
pub left_in_midst : (begun : Recorded) (calls : List DiskChange) (ended : Recorded) (c : List ℕ)
    → HasMade begun calls ended → length c ≡ length begun.first
    → ((i : ℕ) → is_open begun calls i ≡ false → get_or c i 0 ≡ get_or (seen_of begun) i 0)
    → left_since_of ended (moment_of begun) c
left_in_midst begun calls ended c made same unwritten =
    let early = before_sync calls in
    let past = begun.changes in
    let within = within_early (length begun.first) calls past (fits begun calls ended made) in
    let moment = earlier calls past in
    let left : MayBeLeft begun.first (early ++ past) c = record {
      same_length = same ∙ sym (length_content begun.first (early ++ past) within);
      synced = λ i none. unwritten i none ∙ sym (as_before begun.first early past i within (no_syncs calls) none);
    } in
    let long : length ended.changes ≡ length calls + length past =
    ap length made.changes ∙ length-append calls past in (
      moment.0,
      omega (arith, moment.1, long),
      omega (arith, moment.1, long, made.start),
      subst (λ (l : List ℕ). MayBeLeft l (drop moment.0 ended.changes) c) (sym made.first)
          (subst (λ (l : List DiskChange). MayBeLeft begun.first (drop moment.0 l) c) (sym made.changes)
          (subst (λ (l : List DiskChange). MayBeLeft begun.first l c) (sym moment.2) left)),
    )

pub same_places : (begun : Recorded) (these others : List DiskChange) (b : Recorded)
    → HasMade begun others b → WriteTheSamePlaces begun these others
    → WritesOver begun these others
same_places begun these others b made same i none =
    as_before begun.first (before_sync others) begun.changes i
    (within_early (length begun.first) others begun.changes (fits begun others b made)) (no_syncs others)
    (sym (same i) ∙ none)

pub two_syncs : {C : Type 0} (recovers : List ℕ → C → Type 0)
    (old one other : C) (begun a b : Recorded) (these others : List DiskChange)
    → IsCommit recovers old one begun these a → IsCommit recovers old other begun others b
    → WritesOver begun these others → other ≢ old → other ≢ one
    → 2 ≤ syncs_of others
two_syncs recovers old one other begun a b these others first second over new apart = ⊎_elim
    (λ few.
    let c = content_at_sync begun others in
    let early = left_in_midst begun these a c first.made (length_at_sync begun others b second.made) over in
    let late = second.durable c (left_at_end begun others b second.made (omega (arith, few))) in
    ⊎_elim (λ is. absurd (new is)) (λ is. absurd (apart is)) (first.atomic c other early late))
    (λ enough. enough)
    (cases_lt (syncs_of others) 2)

-- without a sync a crash may leave all as it was
pub one_sync : {C : Type 0} (recovers : List ℕ → C → Type 0)
    (old new : C) (begun ended : Recorded) (calls : List DiskChange)
    → IsCommit recovers old new begun calls ended → (recovers (seen_of begun) new → ⊥)
    → 1 ≤ syncs_of calls
one_sync recovers old new begun ended calls commit before = ⊎_elim
    (λ few.
    let within = fits begun calls ended commit.made in
    absurd (before (commit.durable (seen_of begun) (left_of begun calls ended (seen_of begun) commit.made (record {
      same_length = sym (same_length begun calls within);
      synced = λ i unwritten. sym (as_before begun.first calls begun.changes i within (omega (arith, few)) unwritten);
    })))))
    (λ enough. enough)
    (cases_lt (syncs_of calls) 1)

-- what a read gives may be left
pub seen_is_left : (disk : Recorded) → may_leave_of disk (seen_of disk)
seen_is_left disk = record { same_length = refl; synced = λ i same. refl }

-- the same as it began
pub as_begun : (begun : Recorded) (calls : List DiskChange) (ended : Recorded) → HasMade begun calls ended
    → seen_of ended ≡ content_after begun.first (calls ++ begun.changes)
as_begun begun calls ended made =
    ap (λ (l : List ℕ). content_after l ended.changes) made.first
    ∙ ap (λ (l : List DiskChange). content_after begun.first l) made.changes

pub as_long : (begun : Recorded) (these others : List DiskChange) (a b : Recorded)
    → HasMade begun these a → HasMade begun others b
    → length (seen_of b) ≡ length (seen_of a)
as_long begun these others a b first second =
    ap length (as_begun begun others b second)
    ∙ length_content begun.first (others ++ begun.changes) (fits begun others b second)
    ∙ sym (ap length (as_begun begun these a first)
    ∙ length_content begun.first (these ++ begun.changes) (fits begun these a first))

-- a crash now, before the first sync, may leave the bytes of a disk on which another commit is synced
pub left_now : (begun : Recorded) (these others : List DiskChange) (a b : Recorded)
    → HasMade begun these a → HasMade begun others b → syncs_of these ≡ 0
    → seen_of b ≡ content_at_sync begun others → WritesOver begun these others
    → may_leave_of a (seen_of b)
left_now begun these others a b first second early synced over =
    let within = fits begun these a first in
    left_of begun these a (seen_of b) first (record {
      same_length = as_long begun these others a b first second ∙ ap length (as_begun begun these a first);
      synced = λ i unwritten.
          ap (λ (l : List ℕ). get_or l i 0) synced
          ∙ over i (ap (λ l. is_unsynced (l ++ begun.changes) i) (all_early these early) ∙ unwritten)
          ∙ sym (as_before begun.first these begun.changes i within early unwritten);
    })
