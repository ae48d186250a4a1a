-- A disk over another is a disk in memory that first held what the other gives.
use Rattle.std.proofs.Common.{◌≡◌, ℕ, ◌+◌, ◌≤◌, Bool, List, length, refl, sym}
use Rattle.std.proofs.Common.{◌∙◌, ap, subst, arith, Result, Ok, Err, OnOk, OnErr}
use Rattle.std.proofs.lemmas.List.{ext_get_or}
use Rattle.std.specs.Prelude.{slice_range}
use Rattle.device.specs.Device.{TornFrom, LeavesOnly, Only}
use Rattle.device.specs.Failing.{IsPassedOn}
use Rattle.device.specs.Memory.{DiskChange, Recorded, content_after, MayBeLeft}
use Rattle.device.specs.Memory.{seen_of, may_leave_of, moment_of, left_since_of}
use Rattle.device.specs.Memory.DiskChange.{write, sync}
use Rattle.device.specs.Memory as memory
use Rattle.device.specs.Overlay.{Overlaid, as_recorded, after_change, after_refusal}
use Rattle.device.specs.inside.Replay.{AreWithin}
use Rattle.device.proofs.Outcomes.{ok_map}
use Rattle.device.proofs.Patches.{length-content_after}
use Rattle.device.proofs.Ranges.{length-written}
use Rattle.device.proofs.Replay.{write_left, write_keeps, write_time, sync_time}

pub same_inner : {D T E : Type 0} (result : Result T E) (old new : Overlaid D) (change : DiskChange)
    → OnOk result (new ≡ after_change old change) → OnErr result (new ≡ after_refusal old) → new.inner ≡ old.inner
same_inner (Ok x) old new change done refused = ap (λ (d : Overlaid _). d.inner) done
same_inner (Err e) old new change done refused = ap (λ (d : Overlaid _). d.inner) refused

-- a disk that is a record in what a read gives and a crash may leave is one in what a crash left since a moment, too
recorded_time : {D : Type 0} (recorded : D → Recorded) (old new : D) (P : List ℕ → Type 0)
    → LeavesOnly moment_of left_since_of (recorded old) (recorded new) P
    → LeavesOnly (λ (d : D). moment_of (recorded d)) (λ (d : D). left_since_of (recorded d)) old new P
recorded_time recorded old new P time =
    record { later = time.later; each = time.each; before = time.before; keeps = time.keeps }

length_after_write : {T E : Type 0} (result : Result T E) (old new : Recorded) (at : ℕ) (bytes : List ℕ)
    → at + length bytes ≤ length (seen_of old) → OnOk result (new ≡ memory.after_change old (write at bytes))
    → OnErr result (new ≡ memory.after_refusal old) → length (seen_of new) ≡ length (seen_of old)
length_after_write (Ok x) old new at bytes fits done refused = rw done (length-written (seen_of old) at bytes fits)
length_after_write (Err e) old new at bytes fits done refused = rw refused refl

durable_after_sync : {T E : Type 0} (result : Result T E) (old new : Recorded)
    → OnOk result (new ≡ memory.after_change old sync) → OnOk result (Only (may_leave_of new) (seen_of old))
durable_after_sync (Ok x) old new done =
    rw done (λ c left. ext_get_or 0 c (seen_of old) left.same_length (λ i lt. left.synced i refl))
durable_after_sync (Err e) old new done = tt

-- What a disk that is a record promises of a write, which is done or refused: of a crash, and of its length,
pub write_told : {D T E : Type 0} (recorded : D → Recorded) (result : Result T E) (old new : D) (at : ℕ)
    (bytes : List ℕ) → at + length bytes ≤ length (seen_of (recorded old))
    → OnOk result (recorded new ≡ memory.after_change (recorded old) (write at bytes))
    → OnErr result (recorded new ≡ memory.after_refusal (recorded old))
    → ((c : List ℕ) → may_leave_of (recorded old) c → may_leave_of (recorded new) c)
    × (((c : List ℕ) → may_leave_of (recorded new) c → TornFrom at (length bytes) (may_leave_of (recorded old)) c)
    × (LeavesOnly (λ (d : D). moment_of (recorded d)) (λ (d : D). left_since_of (recorded d)) old new
    (TornFrom at (length bytes) (may_leave_of (recorded old)))
    × (length (seen_of (recorded new)) ≡ length (seen_of (recorded old)))))
write_told recorded result old new at bytes fits done refused = (
  write_keeps result (recorded old) (recorded new) at bytes fits done refused,
  (
    write_left result (recorded old) (recorded new) at bytes fits done refused,
    (
      recorded_time recorded old new _ (write_time result (recorded old) (recorded new) at bytes fits done refused),
      length_after_write result (recorded old) (recorded new) at bytes fits done refused,
    ),
  ),
)

-- and of a sync
pub sync_told : {D T E : Type 0} (recorded : D → Recorded) (result : Result T E) (old new : D)
    → OnOk result (recorded new ≡ memory.after_change (recorded old) sync)
    → OnErr result (recorded new ≡ memory.after_refusal (recorded old))
    → OnOk result (Only (may_leave_of (recorded new)) (seen_of (recorded old)))
    × LeavesOnly (λ (d : D). moment_of (recorded d)) (λ (d : D). left_since_of (recorded d)) old new
    (may_leave_of (recorded old))
sync_told recorded result old new done refused = (
  durable_after_sync result (recorded old) (recorded new) done,
  recorded_time recorded old new _ (sync_time result (recorded old) (recorded new) done refused),
)

-- It is as long as the disk under it, as its fields say: its writes are within that.
pub length_of_overlay : {D : Type 0} (seen : D → List ℕ) (disk : Overlaid D) (inner : D) (changes : List DiskChange)
    (refused : Bool) (calls faults : ℕ)
    → record { inner = inner; changes = changes; refused = refused; calls = calls; faults = faults } ≡ disk
    → AreWithin (length (seen inner)) changes → length (seen_of (as_recorded seen disk)) ≡ length (seen inner)
length_of_overlay seen disk inner changes refused calls faults is within =
    ap (λ (d : Overlaid _). length (seen_of (as_recorded seen d))) (sym is)
    ∙ length-content_after (seen inner) changes within

-- These changes make new of old, wherever old is the m places from at on of some content.
abbrev pub Patches : List ℕ → List ℕ → ℕ → ℕ → List DiskChange → Type 0
Patches old new at m changes = (first : List ℕ) → at + m ≤ length first → AreWithin (length first) changes
    → old ≡ slice_range first at (at + m) → new ≡ slice_range (content_after first changes) at (at + m)

-- a part of what it gives: what was read of the disk under it, patched by its writes
pub read_and_patched : {D T E : Type 0} (seen : D → List ℕ) (result outcome : Result T E) (disk : Overlaid D)
    (inner : D) (changes : List DiskChange) (refused : Bool) (calls faults : ℕ) (at n m : ℕ) (old new : List ℕ)
    → record { inner = inner; changes = changes; refused = refused; calls = calls; faults = faults } ≡ disk
    → AreWithin (length (seen inner)) changes → at + n ≤ length (seen_of (as_recorded seen disk)) → m ≡ n
    → result ≡ outcome
    → Patches old new at m changes → OnOk outcome (old ≡ slice_range (seen inner) at (at + n))
    → OnOk result (new ≡ slice_range (seen_of (as_recorded seen disk)) at (at + n))
read_and_patched seen result outcome disk inner changes refused calls faults at n m old new is within fits
    same_length same patches read =
    let long = length_of_overlay seen disk inner changes refused calls faults is within in
    let P : ℕ → Type 0 = λ k. old ≡ slice_range (seen inner) at (at + k)
    → new ≡ slice_range (content_after (seen inner) changes) at (at + k) in
    let Q : Result _ _ → Type 0 = λ r. OnOk r (new ≡ slice_range (seen_of (as_recorded seen disk)) at (at + n)) in
    let patched = subst P same_length (patches (seen inner) (omega (arith, fits, long, same_length)) within) in
    let given : slice_range (content_after (seen inner) changes) at (at + n)
    ≡ slice_range (seen_of (as_recorded seen disk)) at (at + n) =
    ap (λ (d : Overlaid _). slice_range (seen_of (as_recorded seen d)) at (at + n)) is in
    subst Q (sym same) (ok_map outcome (λ e. patched e ∙ given) read)

pub passed_on : {D T E : Type 0} {calls_made faults_met : D → ℕ} {old new old' new' : D} {result result' : Result T E}
    → old ≡ old' → new ≡ new' → result ≡ result' → IsPassedOn calls_made faults_met old new result
    → IsPassedOn calls_made faults_met old' new' result'
passed_on {calls_made = calls_made} {faults_met = faults_met} {new = new} {old' = old'} {new' = new'}
    {result = result} o n r passed =
    subst (λ x. IsPassedOn calls_made faults_met old' new' x) r (subst (λ x. IsPassedOn calls_made faults_met old' x
    result) n (subst (λ x. IsPassedOn calls_made faults_met x new result) o passed))
