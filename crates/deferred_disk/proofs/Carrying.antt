-- What is left of a device on which recorded calls are made.
use Rattle.std.proofs.Common.{◌≡◌, ◌<◌, ◌≤◌, ℕ, zero, suc, ◌+◌, ◌-◌, ◌^◌, Bool, true, false, List, [], ◌∷◌}
use Rattle.std.proofs.Common.{◌++◌, length, take, drop, Option, Some, None, refl, sym, ◌∙◌, ap, subst, arith}
use Rattle.std.proofs.lemmas.List.{take-append-drop}
use Rattle.std.specs.Prelude.{slice_get}
use Rattle.deferred_disk.specs.Carrying.{CarriedOut}
use Rattle.deferred_disk.specs.Deferred.{Deferred, as_memory, made_before, oldest_call}
use Rattle.deferred_disk.specs.Deferred.{done_by, with_waiting, carried_moment, IsBehind}
use Rattle.device.specs.Device.{written, Torn, LeavesOnly}
use Rattle.device.specs.Did.{Did}
use Rattle.device.specs.Memory.{DiskChange, content_after, MayBeLeft, left_since_of}
use Rattle.device.specs.Memory.DiskChange.{write, sync}
use Rattle.device.specs.Work.{Work, WriteAt, CopyBlock, Sync, Nothing, TornByWork, TornFromWork}
use Rattle.device.specs.declared.device.Device.{Ghosts}
use Rattle.device.specs.inside.Replay.{AreWithin}
use Rattle.device.proofs.Public.{done_seen, done_calls, failed_seen, failed_calls}
use Rattle.device.proofs.Public.{leaves_at_start, leaves_weaker, leaves_then}
use Rattle.device.proofs.Public.{length-content_after}
use Rattle.device.proofs.Public.{torn_none, torn_twice, torn_from_none}
use Rattle.device.proofs.Public.{any_torn, within_older}

-- a change that is there, and the older ones behind it
pub drop_got : (changes : List DiskChange) (k : ℕ) (change : DiskChange) → slice_get changes k ≡ Some change
    → (drop k changes ≡ change ∷ drop (suc k) changes) × (k < length changes)
drop_got [] k change got = absurd (cc)
drop_got (x ∷ xs) zero change got = let same : x ≡ change = cc in (ap (λ y. y ∷ xs) same, omega arith)
drop_got (x ∷ xs) (suc k) change got = let rest = drop_got xs k change got in (rest.0, omega (arith, rest.1))

pub got_below : (changes : List DiskChange) (k : ℕ) → k < length changes
    → (change : DiskChange) × (slice_get changes k ≡ Some change)
got_below [] k lt = absurd (omega (arith, lt))
got_below (x ∷ xs) zero lt = (x, refl)
got_below (x ∷ xs) (suc k) lt = got_below xs k (omega (arith, lt))

pub within_dropped : (n k : ℕ) (changes : List DiskChange) → AreWithin n changes → AreWithin n (drop k changes)
within_dropped n k changes within =
    within_older n (take k changes) (drop k changes) (subst (AreWithin n) (sym (take-append-drop k changes)) within)

-- a write that is there fits the content before it
pub fits_before : (first : List ℕ) (changes : List DiskChange) (k at : ℕ) (bytes : List ℕ)
    → AreWithin (length first) changes → slice_get changes k ≡ Some (write at bytes)
    → at + length bytes ≤ length (content_after first (drop (suc k) changes))
fits_before first changes k at bytes within got =
    let here = subst (AreWithin (length first)) (drop_got changes k (write at bytes) got).0
    (within_dropped (length first) k changes within) in
    omega (arith, here.0, length-content_after first (drop (suc k) changes) here.1)

-- torn twice by one work is torn once
torn_by_twice : (work : Work) (old mid new : List ℕ) → TornByWork work old mid → TornByWork work mid new
    → TornByWork work old new
torn_by_twice (WriteAt at bytes) old mid new first second = torn_twice first second
torn_by_twice (CopyBlock from to) old mid new first second = torn_twice first second
torn_by_twice Sync old mid new first second = second ∙ first
torn_by_twice Nothing old mid new first second = second ∙ first

torn_from_twice : (work : Work) (lists more : List ℕ → Type 0) → ((d : List ℕ) → more d → TornFromWork work lists d)
    → (c : List ℕ) → TornFromWork work more c → TornFromWork work lists c
torn_from_twice (WriteAt at bytes) lists more was c torn = let before = was torn.0 torn.1 in
    (before.0, before.1, torn_twice before.2 torn.2)
torn_from_twice (CopyBlock from to) lists more was c torn = let before = was torn.0 torn.1 in
    (before.0, before.1, torn_twice before.2 torn.2)
torn_from_twice Sync lists more was c torn = was c torn
torn_from_twice Nothing lists more was c torn = was c torn

-- nothing torn
by_none : (call : Option DiskChange) (old new : List ℕ) → new ≡ old → TornByWork (done_by call) old new
by_none None old new same = same
by_none (Some (write at bytes)) old new same =
    subst (λ (l : List ℕ). Torn at (length bytes) old l) (sym same) (torn_none at (length bytes) old)
by_none (Some sync) old new same = same

from_none : (call : Option DiskChange) (lists : List ℕ → Type 0) (c : List ℕ) → lists c
    → TornFromWork (done_by call) lists c
from_none None lists c left = left
from_none (Some (write at bytes)) lists c left = torn_from_none at (length bytes) left
from_none (Some sync) lists c left = left

-- a write over a torn range
written_over : (old mid : List ℕ) (at : ℕ) (bytes : List ℕ) → Torn at (length bytes) old mid
    → written mid at bytes ≡ written old at bytes
written_over old mid at bytes torn = λ i. torn.before i ++ bytes ++ torn.after i

-- What a crash may leave of a device on which the oldest of `waiting` calls is being made, one of the disk might have
-- left since the oldest of `all`.
pub since_oldest : (disk : Deferred) (waiting : ℕ) (c : List ℕ) → waiting ≤ disk.waiting → waiting ≤ length disk.changes
    → AreWithin (length disk.first) disk.changes
    → TornFromWork (done_by (made_before waiting disk.changes)) (MayBeLeft disk.first (drop waiting disk.changes)) c
    → left_since_of (as_memory disk) (carried_moment disk) c
since_oldest disk zero c le few within left = (0, omega arith, omega arith, left)
since_oldest disk (suc k) c le few within left = by_call (slice_get disk.changes k) refl left
  where
    by_call : (call : Option DiskChange) → slice_get disk.changes k ≡ call
        → TornFromWork (done_by call) (MayBeLeft disk.first (drop (suc k) disk.changes)) c
        → left_since_of (as_memory disk) (carried_moment disk) c
    by_call None got now = (suc k, few, omega (arith, le, few), now)
    by_call (Some sync) got now = (suc k, few, omega (arith, le, few), now)
    by_call (Some (write at bytes)) got now = (
      k,
      omega (arith, few),
      omega (arith, le, few),
      subst (λ (l : List DiskChange). MayBeLeft disk.first l c) (sym (drop_got disk.changes k (write at bytes) got).0)
          (any_torn disk.first (drop (suc k) disk.changes) at bytes
          (fits_before disk.first disk.changes k at bytes within got) c now),
    )

module _ {D : Type 0} (device : Ghosts D) (old : D) (disk : Deferred) (few : disk.waiting ≤ length disk.changes)
    (within : AreWithin (length disk.first) disk.changes) where
  -- before any call
  pub carried_none : ((c : List ℕ) → device.left_since old (device.moment old) c → device.may_leave old c)
      → CarriedOut device old disk true old disk.waiting
  carried_none now = record {
    fewer = omega arith;
    stays_behind = λ behind. behind;
    time = λ behind. leaves_at_start
        (λ c left. since_oldest disk disk.waiting c (omega arith) few within (behind.left c (now c left)));
    honest = (λ h. h, λ h. h);
    same_length = refl;
    calls = λ some. omega arith;
    faults = refl;
  }

  module _ (mid : D) (k : ℕ) (so_far : CarriedOut device old disk true mid (suc k)) where
    -- what the call that is made now may leave
    leaves_now : (call : Option DiskChange) (done : Bool) (new : D) → slice_get disk.changes k ≡ call
        → Did device mid (done_by call) done new → IsBehind device.is_honest device.seen device.may_leave old disk
        → LeavesOnly device.moment device.left_since old new (left_since_of (as_memory disk) (carried_moment disk))
    leaves_now call done new got did behind =
        let now = so_far.stays_behind behind in
        leaves_then (so_far.time behind) (leaves_weaker did.time (λ c torn.
        let work = done_by (slice_get disk.changes k) in
        let here : TornFromWork work (device.may_leave mid) c =
        subst (λ o. TornFromWork (done_by o) (device.may_leave mid) c) (sym got) torn in
        since_oldest disk (suc k) c so_far.fewer (omega (arith, few, so_far.fewer)) within
        (torn_from_twice work (MayBeLeft disk.first (drop (suc k) disk.changes))
        (device.may_leave mid) now.left c here)))

    -- a call more that fails
    pub carried_failed : (change : DiskChange) (new : D) → slice_get disk.changes k ≡ Some change
        → Did device mid (done_by (Some change)) false new → CarriedOut device old disk false new (suc k)
    carried_failed change new got did = record {
      fewer = so_far.fewer;
      stays_behind = λ behind.
          let now = so_far.stays_behind behind in
          let same = subst (λ o. Did device mid (done_by o) false new) (sym got) did in
          record {
            honest = did.honest.1 now.honest;
            seen_torn = torn_by_twice (done_by (slice_get disk.changes k))
                (content_after disk.first (drop (suc k) disk.changes)) (device.seen mid) (device.seen new) now.seen_torn
                (failed_seen same now.honest refl);
            left = λ c left. torn_from_twice (done_by (slice_get disk.changes k))
                (MayBeLeft disk.first (drop (suc k) disk.changes)) (device.may_leave mid) now.left c (same.left c left);
          };
      time = leaves_now (Some change) false new got did;
      honest = (λ h. so_far.honest.0 (did.honest.0 h), λ h. did.honest.1 (so_far.honest.1 h));
      same_length = did.same_length ∙ so_far.same_length;
      calls = λ some. failed_count change did (so_far.calls some) some;
      faults = did.faults ∙ ap Rattle.device.specs.Count.raised so_far.faults;
    }
      where
        failed_count : (change : DiskChange) → Did device mid (done_by (Some change)) false new
            → device.calls_made mid + suc k ≡ device.calls_made old + disk.waiting + 0
            → device.calls_made old + disk.waiting < 2 ^ 64
            → device.calls_made new + suc k ≡ device.calls_made old + disk.waiting + 1
        failed_count (write at bytes) did was some =
            omega (arith, was, some, failed_calls did (omega (arith, was, some)) refl)
        failed_count sync did was some = omega (arith, was, some, failed_calls did (omega (arith, was, some)) refl)

    -- a call more that is made
    pub carried_more : (change : DiskChange) (new : D) → slice_get disk.changes k ≡ Some change
        → Did device mid (done_by (Some change)) true new → CarriedOut device old disk true new k
    carried_more change new got did = record {
      fewer = omega (arith, so_far.fewer);
      stays_behind = λ behind. made change got did (so_far.stays_behind behind);
      time = leaves_now (Some change) true new got did;
      honest = (λ h. so_far.honest.0 (did.honest.0 h), λ h. did.honest.1 (so_far.honest.1 h));
      same_length = did.same_length ∙ so_far.same_length;
      calls = λ some. done_count change did (so_far.calls some) some;
      faults = did.faults ∙ so_far.faults;
    }
      where
        done_count : (change : DiskChange) → Did device mid (done_by (Some change)) true new
            → device.calls_made mid + suc k ≡ device.calls_made old + disk.waiting + 0
            → device.calls_made old + disk.waiting < 2 ^ 64
            → device.calls_made new + k ≡ device.calls_made old + disk.waiting + 0
        done_count (write at bytes) did was some =
            omega (arith, was, some, done_calls did (omega (arith, was, some)) refl)
        done_count sync did was some = omega (arith, was, some, done_calls did (omega (arith, was, some)) refl)

        done : List DiskChange
        done = drop (suc k) disk.changes

        -- where a read of the device and what a crash may leave of it are exact
        exact : (change : DiskChange) → slice_get disk.changes k ≡ Some change → device.is_honest new
            → device.seen new ≡ content_after disk.first (change ∷ done)
            → ((c : List ℕ) → device.may_leave new c → MayBeLeft disk.first (change ∷ done) c)
            → IsBehind device.is_honest device.seen device.may_leave new (with_waiting disk k)
        exact change got honest seen left =
            let is = sym (drop_got disk.changes k change got).0 in
            record {
              honest = honest;
              seen_torn = by_none (made_before k disk.changes) (content_after disk.first (drop k disk.changes))
                  (device.seen new) (seen ∙ ap (content_after disk.first) is);
              left = λ c may. from_none (made_before k disk.changes) (MayBeLeft disk.first (drop k disk.changes)) c
                  (subst (λ (l : List DiskChange). MayBeLeft disk.first l c) is (left c may));
            }

        made : (change : DiskChange) → slice_get disk.changes k ≡ Some change
            → Did device mid (done_by (Some change)) true new
            → IsBehind device.is_honest device.seen device.may_leave mid (with_waiting disk (suc k))
            → IsBehind device.is_honest device.seen device.may_leave new (with_waiting disk k)
        made (write at bytes) got did now =
            let content = content_after disk.first done in
            let torn : Torn at (length bytes) content (device.seen mid) =
            subst (λ o. TornByWork (done_by o) content (device.seen mid)) got now.seen_torn in
            exact (write at bytes) got (did.honest.1 now.honest)
            (done_seen did now.honest refl ∙ written_over content (device.seen mid) at bytes torn)
            (λ c left. any_torn disk.first done at bytes (fits_before disk.first disk.changes k at bytes within got) c
            (torn_from_twice (WriteAt at bytes) (MayBeLeft disk.first done) (device.may_leave mid) (λ d was. subst (λ o.
            TornFromWork (done_by o) (MayBeLeft disk.first done) d) got (now.left d was)) c (did.left c left)))
        made sync got did now =
            let content = content_after disk.first done in
            let same : device.seen mid ≡ content =
            subst (λ o. TornByWork (done_by o) content (device.seen mid)) got now.seen_torn in
            exact sync got (did.honest.1 now.honest) (done_seen did now.honest refl ∙ same)
            (λ c left. let is = did.durable now.honest refl refl c left ∙ same in record {
              same_length = ap length is;
              synced = λ i unmarked. ap (λ (l : List ℕ). Rattle.std.specs.Prelude.slice_index l i) is;
            })

  -- the oldest call of what waits now is made
  pub carried_step : (mid : D) (now : Deferred) (new : D) → now ≡ with_waiting disk now.waiting → 0 < now.waiting
      → CarriedOut device old disk true mid now.waiting → Did device mid (done_by (oldest_call now)) true new
      → CarriedOut device old disk true new (now.waiting - 1)
  carried_step mid now new same some so_far did =
      let k = now.waiting - 1 in
      let one : now.waiting ≡ suc k = omega (arith, some) in
      let got = got_below disk.changes k (omega (arith, one, few, so_far.fewer)) in
      let is : oldest_call now ≡ Some got.0 = ap oldest_call same ∙ ap (λ n. made_before n disk.changes) one ∙ got.1 in
      carried_more mid k (subst (CarriedOut device old disk true mid) one so_far) got.0 new got.1
      (subst (λ o. Did device mid (done_by o) true new) is did)

  -- or it fails
  pub carried_stop : (mid : D) (now : Deferred) (new : D) → now ≡ with_waiting disk now.waiting → 0 < now.waiting
      → CarriedOut device old disk true mid now.waiting → Did device mid (done_by (oldest_call now)) false new
      → CarriedOut device old disk false new now.waiting
  carried_stop mid now new same some so_far did =
      let k = now.waiting - 1 in
      let one : now.waiting ≡ suc k = omega (arith, some) in
      let got = got_below disk.changes k (omega (arith, one, few, so_far.fewer)) in
      let is : oldest_call now ≡ Some got.0 = ap oldest_call same ∙ ap (λ n. made_before n disk.changes) one ∙ got.1 in
      subst (CarriedOut device old disk false new) (sym one)
      (carried_failed mid k (subst (CarriedOut device old disk true mid) one so_far) got.0 new got.1
      (subst (λ o. Did device mid (done_by o) false new) is did))
