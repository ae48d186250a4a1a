-- What each call of a disk in memory does to its record.
use Rattle.std.proofs.Common.{◌≡◌, ◌<◌, ◌≤◌, ◌⊎◌, inl, inr, ⊎_elim, ℕ, zero, suc, ◌+◌, ◌-◌, Bool, true, false, List}
use Rattle.std.proofs.Common.{[], ◌∷◌, ◌++◌, length, get_or, cond, min, ◌^◌, length-append, length-drop, length-take}
use Rattle.std.proofs.Common.{append_assoc, take, drop, refl, sym, ◌∙◌, ap, subst, arith, Result, Ok, Err, OnOk, OnErr}
use Rattle.std.proofs.lemmas.Bool.{cases_lt}
use Rattle.std.proofs.lemmas.Bool.Decides.{nat_tests}
use Rattle.std.proofs.lemmas.List.{ext_get_or, get_or_past, get_or-take, get_or-drop}
use Rattle.std.proofs.lemmas.List.{append-nil, take-append-drop, take_more}
use Rattle.std.specs.Prelude.{slice_range, ◌&&◌, ◌||◌, nat_le, nat_lt}
use Rattle.device.specs.Device.{written, TornFrom, Only, LeavesOnly}
use Rattle.device.specs.Count.{raised}
use Rattle.device.specs.Memory.{DiskChange, Recorded, content_after, is_unsynced, MayBeLeft, seen_of, may_leave_of}
use Rattle.device.specs.Memory.{moment_of, left_since_of, after_change, chosen_from, after_stop, after_refusal}
use Rattle.device.specs.inside.Laws.{since_now_of}
use Rattle.device.specs.inside.Replay.{since_sync, with_choice, AreWithin, IsReplay}
use Rattle.device.specs.Memory.DiskChange.{write, sync}
use Rattle.device.specs.inside.Logged.{change_of, changes_of}
use Rattle.device.specs.declared.log.Logged.{Logged}
use Rattle.device.proofs.Outcomes.{either}
use Rattle.device.proofs.Ranges.{length-written, written_before, written_within, written_after}
use Rattle.device.proofs.Ranges.{torn_from_none, torn_before, torn_after, restored, length-restored}
use Rattle.device.proofs.Ranges.{torn_restored, restored_before, restored_within, restored_after}

pub changes_of-push : {A : Type 0} (log : List (Logged A)) (entry : Logged A)
    → changes_of (log ++ entry ∷ []) ≡ change_of entry ∷ changes_of log
changes_of-push [] entry = refl
changes_of-push (e ∷ log) entry = ap (λ (l : List DiskChange). l ++ change_of e ∷ []) (changes_of-push log entry)

pub changes_of-append : {A : Type 0} (old new : List (Logged A))
    → changes_of (old ++ new) ≡ changes_of new ++ changes_of old
changes_of-append [] new = sym (append-nil (changes_of new))
changes_of-append (e ∷ old) new =
    ap (λ (l : List DiskChange). l ++ change_of e ∷ []) (changes_of-append old new)
    ∙ append_assoc (changes_of new) (changes_of old) (change_of e ∷ [])

-- the log from an entry on, and the log up to there
pub changes_of-split : {A : Type 0} (log : List (Logged A)) (n : ℕ)
    → changes_of log ≡ changes_of (drop n log) ++ changes_of (take n log)
changes_of-split log n = ap changes_of (sym (take-append-drop n log)) ∙ changes_of-append (take n log) (drop n log)

pub length-changes_of : {A : Type 0} (log : List (Logged A)) → length (changes_of log) ≡ length log
length-changes_of [] = refl
length-changes_of (e ∷ log) = omega (arith, length-append (changes_of log) (change_of e ∷ []), length-changes_of log)

-- whether one of these changes wrote the place
abbrev is_written : List DiskChange → ℕ → Bool
is_written [] i = false
is_written (write at bytes ∷ older) i = (nat_le at i && nat_lt i (at + length bytes)) || is_written older i
is_written (sync ∷ older) i = is_written older i

-- where as many changes came since the last sync as these are, they are writes, and the unsynced places are theirs
unsynced_none : (older : List DiskChange) (i : ℕ) → since_sync older ≡ 0 → is_unsynced older i ≡ false
unsynced_none [] i none = refl
unsynced_none (write at bytes ∷ older) i none = absurd (omega (arith, none))
unsynced_none (sync ∷ older) i none = refl

unsynced_newer : (newer older : List DiskChange) (i : ℕ) → since_sync (newer ++ older) ≡ length newer
    → is_unsynced (newer ++ older) i ≡ is_written newer i
unsynced_newer [] older i all = unsynced_none older i all
unsynced_newer (write at bytes ∷ newer) older i all =
    ap (λ b. (nat_le at i && nat_lt i (at + length bytes)) || b) (unsynced_newer newer older i (omega (arith, all)))
unsynced_newer (sync ∷ newer) older i all = absurd (omega (arith, all))

pub unsynced_is_written : {A : Type 0} (log : List (Logged A)) (synced : ℕ) (i : ℕ)
    → synced + since_sync (changes_of log) ≡ length log
    → is_unsynced (changes_of log) i ≡ is_written (changes_of (drop synced log)) i
unsynced_is_written log synced i since =
    let split = changes_of-split log synced in
    let count : since_sync (changes_of (drop synced log) ++ changes_of (take synced log))
    ≡ length (changes_of (drop synced log)) =
    sym (ap since_sync split) ∙ omega (arith, since, length-changes_of (drop synced log), length-drop synced log) in
    ap (λ (l : List DiskChange). is_unsynced l i) split
    ∙ unsynced_newer (changes_of (drop synced log)) (changes_of (take synced log)) i count

pub within_newer : (n : ℕ) (newer older : List DiskChange) → AreWithin n (newer ++ older) → AreWithin n newer
within_newer n [] older within = tt
within_newer n (write at bytes ∷ newer) older within = (within.0, within_newer n newer older within.1)
within_newer n (sync ∷ newer) older within = within_newer n newer older within

-- the writes from an entry on are within the disk where all are
pub AreWithin-drop : {A : Type 0} (log : List (Logged A)) (k n : ℕ) → AreWithin n (changes_of log)
    → AreWithin n (changes_of (drop k log))
AreWithin-drop log k n within =
    within_newer n (changes_of (drop k log)) (changes_of (take k log))
    (subst (λ (l : List DiskChange). AreWithin n l) (changes_of-split log k) within)

-- the writes up to an entry, and that entry
pub changes_of-more : {A : Type 0} (log : List (Logged A)) (k : ℕ) (entry : Logged A) → k < length log
    → entry ≡ get_or log k entry → changes_of (take (k + 1) log) ≡ change_of entry ∷ changes_of (take k log)
changes_of-more log k entry lt is =
    ap changes_of (take_more log k entry lt) ∙ changes_of-push (take k log) (get_or log k entry)
    ∙ ap (λ e. change_of e ∷ changes_of (take k log)) (sym is)

-- a place before or past the range that was written was written since the last sync only if it was before
outside_before : (older : List DiskChange) (at : ℕ) (bytes : List ℕ) (i : ℕ) → i < at
    → is_unsynced (write at bytes ∷ older) i ≡ is_unsynced older i
outside_before older at bytes i lt = grind (arith, nat_tests)

outside_after : (older : List DiskChange) (at : ℕ) (bytes : List ℕ) (i : ℕ) → at + length bytes ≤ i
    → is_unsynced (write at bytes ∷ older) i ≡ is_unsynced older i
outside_after older at bytes i le = grind (arith, nat_tests)

inside : (older : List DiskChange) (at : ℕ) (bytes : List ℕ) (i : ℕ) → at ≤ i → i < at + length bytes
    → is_unsynced (write at bytes ∷ older) i ≡ true
inside older at bytes i le lt = grind (arith, nat_tests)

-- a torn range can have any bytes
pub any_torn : (first : List ℕ) (older : List DiskChange) (at : ℕ) (bytes : List ℕ)
    → at + length bytes ≤ length (content_after first older) → (c : List ℕ)
    → TornFrom at (length bytes) (MayBeLeft first older) c → MayBeLeft first (write at bytes ∷ older) c
any_torn first older at bytes fits c from =
    let seen = content_after first older in
    let torn = from.2 in
    record {
      same_length = torn.same_length ∙ from.1.same_length ∙ sym (length-written seen at bytes fits);
      synced = λ i same. ⊎_elim
          (λ (before : i < at). torn_before torn i before ∙ from.1.synced i
          (sym (outside_before older at bytes i before) ∙ same) ∙ sym (written_before seen at bytes i fits before))
          (λ (reached : at ≤ i). ⊎_elim
          (λ (within : i < at + length bytes). cc (inside older at bytes i reached within, same))
          (λ (after : at + length bytes ≤ i). torn_after torn i after ∙ from.1.synced i
          (sym (outside_after older at bytes i after) ∙ same) ∙ sym (written_after seen at bytes i fits after))
          (cases_lt i (at + length bytes)))
          (cases_lt i at);
    }

-- what may be left after a write is what might be left before it, torn in the range
pub left_by_write : (first : List ℕ) (older : List DiskChange) (at : ℕ) (bytes : List ℕ)
    → at + length bytes ≤ length (content_after first older) → (c : List ℕ) → MayBeLeft first (write at bytes ∷ older) c
    → TornFrom at (length bytes) (MayBeLeft first older) c
left_by_write first older at bytes fits c left =
    let seen = content_after first older in
    let n = length bytes in
    let same : length c ≡ length seen = left.same_length ∙ length-written seen at bytes fits in
    let before : MayBeLeft first older (restored seen c at n) = record {
      same_length = length-restored seen c at n fits same ∙ same;
      synced = λ i unmarked. ⊎_elim
          (λ (before : i < at). restored_before seen c at n i fits same before ∙ left.synced i
          (outside_before older at bytes i before ∙ unmarked) ∙ written_before seen at bytes i fits before)
          (λ (reached : at ≤ i). ⊎_elim
          (λ (within : i < at + n). restored_within seen c at n i fits same reached within)
          (λ (after : at + n ≤ i). restored_after seen c at n i fits same after ∙ left.synced i
          (outside_after older at bytes i after ∙ unmarked) ∙ written_after seen at bytes i fits after)
          (cases_lt i (at + n)))
          (cases_lt i at);
    } in
    (restored seen c at n, before, torn_restored seen c at n fits same)

-- which might be left before it
pub left_by_sync : (first : List ℕ) (older : List DiskChange) (c : List ℕ) → MayBeLeft first (sync ∷ older) c
    → MayBeLeft first older c
left_by_sync first older c left = record { same_length = left.same_length; synced = λ i same. left.synced i refl }

-- A call that changes the content or syncs it leaves what P says of what may be left before and after it.
pub time_of_change : (disk : Recorded) (change : DiskChange) (P : List ℕ → Type 0)
    → ((c : List ℕ) → may_leave_of disk c → P c) → ((c : List ℕ) → may_leave_of (after_change disk change) c → P c)
    → LeavesOnly moment_of left_since_of disk (after_change disk change) P
time_of_change disk change P was is = record {
  later = omega arith;
  each =
      λ c left. ⊎_elim (λ since. was c (since_now_of disk c since)) (λ now. is c now) (newest (moment_of disk) c left);
  before = λ t c le left. ⊎_elim (λ since. inl since) (λ now. inr (is c now)) (newest t c left);
  keeps = λ t c le left. (suc left.0, omega (arith, left.1), omega (arith, left.2), left.3);
}
  where
    newest : (t : ℕ) (c : List ℕ) → left_since_of (after_change disk change) t c
        → left_since_of disk t c ⊎ may_leave_of (after_change disk change) c
    newest t c (zero, le, when, left) = inr left
    newest t c (suc n, le, when, left) = inl (n, omega (arith, le), omega (arith, when), left)

-- a call that changes no more than the counts
pub time_of_none : (disk : Recorded) (calls faults : ℕ) (P : List ℕ → Type 0)
    → ((c : List ℕ) → may_leave_of disk c → P c)
    → LeavesOnly moment_of left_since_of disk (record disk { calls = calls; faults = faults }) P
time_of_none disk calls faults P was = record {
  later = omega arith;
  each = λ c left. was c (since_now_of disk c left);
  before = λ t c le left. inl left;
  keeps = λ t c le left. left;
}

pub length-chosen_from : (marked : ℕ → Bool) (i : ℕ) (choice bytes : List ℕ) → length choice ≡ length bytes
    → length (chosen_from marked i choice bytes) ≡ length bytes
length-chosen_from marked i [] [] same = refl
length-chosen_from marked i [] (b ∷ bytes) same = absurd (omega (arith, same))
length-chosen_from marked i (c ∷ choice) [] same = absurd (omega (arith, same))
length-chosen_from marked i (c ∷ choice) (b ∷ bytes) same =
    ap suc (length-chosen_from marked (i + 1) choice bytes (omega (arith, same)))

-- the byte at one place of what is chosen
pub chosen_at : (marked : ℕ → Bool) (i : ℕ) (choice bytes : List ℕ) (k j : ℕ) → length choice ≡ length bytes
    → k < length bytes → i + k ≡ j
    → get_or (chosen_from marked i choice bytes) k 0 ≡ cond (marked j) (get_or choice k 0) (get_or bytes k 0)
chosen_at marked i [] [] k j same lt at = absurd (omega (arith, lt))
chosen_at marked i [] (b ∷ bytes) k j same lt at = absurd (omega (arith, same))
chosen_at marked i (c ∷ choice) [] k j same lt at = absurd (omega (arith, same))
chosen_at marked i (c ∷ choice) (b ∷ bytes) zero j same lt at =
    let here : i ≡ j = omega (arith, at) in ap (λ n. cond (marked n) c b) here
chosen_at marked i (c ∷ choice) (b ∷ bytes) (suc k) j same lt at =
    chosen_at marked (i + 1) choice bytes k j (omega (arith, same)) (omega (arith, lt)) (omega (arith, at))

-- A crash leaves what may be left.
pub chosen_is_left : (first : List ℕ) (changes : List DiskChange) (choice : List ℕ)
    → length choice ≡ length (content_after first changes)
    → MayBeLeft first changes (chosen_from (is_unsynced changes) 0 choice (content_after first changes))
chosen_is_left first changes choice same =
    let seen = content_after first changes in
    record {
      same_length = length-chosen_from (is_unsynced changes) 0 choice seen same;
      synced = λ i unmarked. ⊎_elim
          (λ (within : i < length seen).
          chosen_at (is_unsynced changes) 0 choice seen i i same within (omega arith)
          ∙ ap (λ b. cond b (get_or choice i 0) (get_or seen i 0)) unmarked)
          (λ (past : length seen ≤ i).
          get_or_past (chosen_from (is_unsynced changes) 0 choice seen) i 0
          (omega (arith, past, length-chosen_from (is_unsynced changes) 0 choice seen same))
          ∙ sym (get_or_past seen i 0 past))
          (cases_lt i (length seen));
    }

same_either : (b : Bool) (x y : ℕ) → (b ≡ false → x ≡ y) → cond b x y ≡ x
same_either true x y is = refl
same_either false x y is = sym (is refl)

-- Each list that may be left can be chosen.
pub left_is_chosen : (first : List ℕ) (changes : List DiskChange) (choice : List ℕ) → MayBeLeft first changes choice
    → chosen_from (is_unsynced changes) 0 choice (content_after first changes) ≡ choice
left_is_chosen first changes choice left =
    let seen = content_after first changes in
    let long = length-chosen_from (is_unsynced changes) 0 choice seen left.same_length in
    ext_get_or 0 (chosen_from (is_unsynced changes) 0 choice seen) choice (long ∙ sym left.same_length) (λ i lt.
    chosen_at (is_unsynced changes) 0 choice seen i i left.same_length (omega (arith, lt, long)) (omega arith)
    ∙ same_either (is_unsynced changes i) (get_or choice i 0) (get_or seen i 0) (left.synced i))

-- with no changes a crash leaves what is there
pub only_first : (first : List ℕ) → Only (MayBeLeft first []) first
only_first first c left = ext_get_or 0 c first left.same_length (λ i lt. left.synced i refl)

-- what a crash makes of a record, from its parts
pub stopped_of : (disk : Recorded) (choice first : List ℕ) (changes : List DiskChange) (start : ℕ)
    → first ≡ chosen_from (is_unsynced disk.changes) 0 choice (seen_of disk) → changes ≡ []
    → start ≡ min (moment_of disk) (2 ^ 64 - 1)
    → record disk { first = first; changes = changes; start = start } ≡ after_stop disk choice
stopped_of disk choice first changes start first_is none start_is =
    ap (λ (l : List ℕ). record disk { first = l; changes = changes; start = start }) first_is
    ∙ ap (λ (l : List DiskChange). record disk
    { first = chosen_from (is_unsynced disk.changes) 0 choice (seen_of disk); changes = l; start = start }) none
    ∙ ap (λ n. record disk {
      first = chosen_from (is_unsynced disk.changes) 0 choice (seen_of disk);
      changes = [];
      start = n;
    }) start_is

-- what may be left after a write, done or refused
pub write_left : {T E : Type 0} (result : Result T E) (disk new : Recorded) (at : ℕ) (bytes : List ℕ)
    → at + length bytes ≤ length (seen_of disk) → OnOk result (new ≡ after_change disk (write at bytes))
    → OnErr result (new ≡ after_refusal disk) → (c : List ℕ) → may_leave_of new c
    → TornFrom at (length bytes) (may_leave_of disk) c
write_left result disk new at bytes fits done refused c left = ⊎_elim
    (λ (is : new ≡ after_change disk (write at bytes)).
    left_by_write disk.first disk.changes at bytes fits c (subst (λ (d : Recorded). may_leave_of d c) is left))
    (λ (is : new ≡ after_refusal disk).
    torn_from_none at (length bytes) (subst (λ (d : Recorded). may_leave_of d c) is left))
    (either result done refused)

pub write_time : {T E : Type 0} (result : Result T E) (disk new : Recorded) (at : ℕ) (bytes : List ℕ)
    → at + length bytes ≤ length (seen_of disk) → OnOk result (new ≡ after_change disk (write at bytes))
    → OnErr result (new ≡ after_refusal disk)
    → LeavesOnly moment_of left_since_of disk new (TornFrom at (length bytes) (may_leave_of disk))
write_time result disk new at bytes fits done refused =
    let P = TornFrom at (length bytes) (may_leave_of disk) in
    ⊎_elim
    (λ (is : new ≡ after_change disk (write at bytes)).
    subst (λ (d : Recorded). LeavesOnly moment_of left_since_of disk d P) (sym is)
    (time_of_change disk (write at bytes) P (λ c left. torn_from_none at (length bytes) left)
    (left_by_write disk.first disk.changes at bytes fits)))
    (λ (is : new ≡ after_refusal disk). subst (λ (d : Recorded). LeavesOnly moment_of left_since_of disk d P) (sym is)
    (time_of_none disk (raised disk.calls) (raised disk.faults) P (λ c left. torn_from_none at (length bytes) left)))
    (either result done refused)

pub sync_time : {T E : Type 0} (result : Result T E) (disk new : Recorded) → OnOk result (new ≡ after_change disk sync)
    → OnErr result (new ≡ after_refusal disk) → LeavesOnly moment_of left_since_of disk new (may_leave_of disk)
sync_time result disk new done refused = ⊎_elim
    (λ (is : new ≡ after_change disk sync).
    subst (λ (d : Recorded). LeavesOnly moment_of left_since_of disk d (may_leave_of disk)) (sym is)
    (time_of_change disk sync (may_leave_of disk) (λ c left. left) (left_by_sync disk.first disk.changes)))
    (λ (is : new ≡ after_refusal disk).
    subst (λ (d : Recorded). LeavesOnly moment_of left_since_of disk d (may_leave_of disk)) (sym is)
    (time_of_none disk (raised disk.calls) (raised disk.faults) (may_leave_of disk) (λ c left. left)))
    (either result done refused)

-- a write, done or refused, makes nothing durabler
pub write_keeps : {T E : Type 0} (result : Result T E) (disk new : Recorded) (at : ℕ) (bytes : List ℕ)
    → at + length bytes ≤ length (seen_of disk) → OnOk result (new ≡ after_change disk (write at bytes))
    → OnErr result (new ≡ after_refusal disk) → (c : List ℕ) → may_leave_of disk c → may_leave_of new c
write_keeps result disk new at bytes fits done refused c left = ⊎_elim
    (λ (is : new ≡ after_change disk (write at bytes)). subst (λ (d : Recorded). may_leave_of d c) (sym is)
    (any_torn disk.first disk.changes at bytes fits c (torn_from_none at (length bytes) left)))
    (λ (is : new ≡ after_refusal disk). subst (λ (d : Recorded). may_leave_of d c) (sym is) left)
    (either result done refused)

-- a write that is done leaves any bytes in its range
pub write_any : {T E : Type 0} (result : Result T E) (disk new : Recorded) (at : ℕ) (bytes : List ℕ)
    → at + length bytes ≤ length (seen_of disk) → OnOk result (new ≡ after_change disk (write at bytes))
    → OnOk result ((c : List ℕ) → TornFrom at (length bytes) (may_leave_of disk) c → may_leave_of new c)
write_any (Ok x) disk new at bytes fits done = λ c from.
    subst (λ (d : Recorded). may_leave_of d c) (sym done) (any_torn disk.first disk.changes at bytes fits c from)
write_any (Err e) disk new at bytes fits done = tt

written_here : (at n i : ℕ) (before : Bool) → at ≤ i → i < at + n
    → ((nat_le at i && nat_lt i (at + n)) || before) ≡ true
written_here at n i before le lt = grind (arith, nat_tests)

written_below : (at n i : ℕ) (before : Bool) → i < at → ((nat_le at i && nat_lt i (at + n)) || before) ≡ before
written_below at n i before lt = grind (arith, nat_tests)

written_above : (at n i : ℕ) (before : Bool) → at + n ≤ i → ((nat_le at i && nat_lt i (at + n)) || before) ≡ before
written_above at n i before le = grind (arith, nat_tests)

pub length-with_choice : (changes : List DiskChange) (choice content : List ℕ) → length choice ≡ length content
    → AreWithin (length content) changes → length (with_choice changes choice content) ≡ length content
length-with_choice [] choice content same within = refl
length-with_choice (write at bytes ∷ older) choice content same within =
    let before = length-with_choice older choice content same within.1 in
    length-written (with_choice older choice content) at (slice_range choice at (at + length bytes)) (omega (
      arith,
      before,
      within.0,
      same,
      length-take (at + length bytes - at) (drop at choice),
      length-drop at choice,
    )) ∙ before
length-with_choice (sync ∷ older) choice content same within = length-with_choice older choice content same within

-- At each place is what is chosen if one of the changes wrote it, and else what was there.
with_choice_at : (changes : List DiskChange) (choice content : List ℕ) (i : ℕ) → length choice ≡ length content
    → AreWithin (length content) changes → get_or (with_choice changes choice content) i 0
    ≡ cond (is_written changes i) (get_or choice i 0) (get_or content i 0)
with_choice_at [] choice content i same within = refl
with_choice_at (sync ∷ older) choice content i same within = with_choice_at older choice content i same within
with_choice_at (write at bytes ∷ older) choice content i same within =
    let now = with_choice older choice content in
    let long = length-with_choice older choice content same within.1 in
    let is = with_choice_at older choice content i same within.1 in
    let part = slice_range choice at (at + length bytes) in
    let n : length part ≡ length bytes =
    omega (arith, length-take (at + length bytes - at) (drop at choice), length-drop at choice, same, within.0) in
    let room : at + length part ≤ length now = omega (arith, n, long, within.0) in
    ⊎_elim
    (λ (before : i < at). written_before now at part i room before ∙ is
    ∙ ap (λ b. cond b (get_or choice i 0) (get_or content i 0))
    (sym (written_below at (length bytes) i (is_written older i) before)))
    (λ (from : at ≤ i). ⊎_elim
    (λ (to : i < at + length bytes).
    let place : at + (i - at) ≡ i = omega (arith, from) in
    written_within now at part i room from (omega (arith, to, n))
    ∙ get_or-take (at + length bytes - at) (drop at choice) (i - at) 0 (omega (arith, from, to))
    ∙ get_or-drop at choice (i - at) 0
    ∙ ap (λ k. get_or choice k 0) place
    ∙ ap (λ b. cond b (get_or choice i 0) (get_or content i 0))
    (sym (written_here at (length bytes) i (is_written older i) from to)))
    (λ (past : at + length bytes ≤ i). written_after now at part i room (omega (arith, past, n)) ∙ is
    ∙ ap (λ b. cond b (get_or choice i 0) (get_or content i 0))
    (sym (written_above at (length bytes) i (is_written older i) past)))
    (cases_lt i (at + length bytes)))
    (cases_lt i at)

pub within_older : (n : ℕ) (newer older : List DiskChange) → AreWithin n (newer ++ older) → AreWithin n older
within_older n [] older within = within
within_older n (write at bytes ∷ newer) older within = within_older n newer older within.1
within_older n (sync ∷ newer) older within = within_older n newer older within

with_choice-one : (change : DiskChange) (older : List DiskChange) (choice content : List ℕ)
    → with_choice (change ∷ older) choice content ≡ with_choice (change ∷ []) choice (with_choice older choice content)
with_choice-one (write at bytes) older choice content = refl
with_choice-one sync older choice content = refl

-- the write of an entry is within the disk where all are
pub within_at : {A : Type 0} (log : List (Logged A)) (k n : ℕ) (entry : Logged A) → k < length log
    → entry ≡ get_or log k entry → AreWithin n (changes_of log) → AreWithin n (change_of entry ∷ [])
within_at log k n entry lt is within =
    let upto = within_older n (changes_of (drop (k + 1) log)) (changes_of (take (k + 1) log))
    (subst (λ (l : List DiskChange). AreWithin n l) (changes_of-split log (k + 1)) within) in
    let more = subst (λ (l : List DiskChange). AreWithin n l) (changes_of-more log k entry lt is) upto in
    within_newer n (change_of entry ∷ []) (changes_of (take k log)) more

-- what is chosen after one more entry of the log
pub with_choice-more : {A : Type 0} (log : List (Logged A)) (k : ℕ) (entry : Logged A) (choice content : List ℕ)
    → k < length log → entry ≡ get_or log k entry → with_choice (changes_of (take (k + 1) log)) choice content
    ≡ with_choice (change_of entry ∷ []) choice (with_choice (changes_of (take k log)) choice content)
with_choice-more log k entry choice content lt is =
    ap (λ (l : List DiskChange). with_choice l choice content) (changes_of-more log k entry lt is)
    ∙ with_choice-one (change_of entry) (changes_of (take k log)) choice content

-- What is chosen in the writes since the last sync is chosen in the unsynced places.
pub with_choice-chosen : {A : Type 0} (log : List (Logged A)) (synced : ℕ) (choice content : List ℕ)
    → length choice ≡ length content → synced + since_sync (changes_of log) ≡ length log
    → AreWithin (length content) (changes_of log) → with_choice (changes_of (drop synced log)) choice content
    ≡ chosen_from (is_unsynced (changes_of log)) 0 choice content
with_choice-chosen log synced choice content same since all_within =
    let changes = changes_of (drop synced log) in
    let within = AreWithin-drop log synced (length content) all_within in
    let long = length-with_choice changes choice content same within in
    ext_get_or 0 (with_choice changes choice content) (chosen_from (is_unsynced (changes_of log)) 0 choice content)
    (long ∙ sym (length-chosen_from (is_unsynced (changes_of log)) 0 choice content same)) (λ i lt.
    with_choice_at changes choice content i same within
    ∙ ap (λ b. cond b (get_or choice i 0) (get_or content i 0)) (sym (unsynced_is_written log synced i since))
    ∙ sym (chosen_at (is_unsynced (changes_of log)) 0 choice content i i same (omega (arith, lt, long)) (omega arith)))

-- A disk's fields stay a replay of its log: after a write,
pub replay_write : (first content : List ℕ) (changes : List DiskChange) (synced at : ℕ) (bytes : List ℕ)
    → at + length bytes ≤ length content → IsReplay first changes content synced
    → IsReplay first (write at bytes ∷ changes) (written content at bytes) synced
replay_write first content changes synced at bytes fits replay =
    let same = length-written content at bytes fits in
    record {
      replayed = ap (λ (l : List ℕ). written l at bytes) replay.replayed;
      first_length = replay.first_length ∙ sym same;
      since = omega (arith, replay.since);
      within = (omega (arith, same, fits), subst (λ n. AreWithin n changes) (sym same) replay.within);
    }

-- after a sync, with all of the log before it,
pub replay_sync : (first content : List ℕ) (changes : List DiskChange) (synced : ℕ)
    → IsReplay first changes content synced → (all : ℕ) → all ≡ length changes + 1
    → IsReplay first (sync ∷ changes) content all
replay_sync first content changes synced replay all is = record {
  replayed = replay.replayed;
  first_length = replay.first_length;
  since = omega (arith, is);
  within = replay.within;
}
