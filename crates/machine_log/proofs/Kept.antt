-- A disk keeps what it keeps in each call.
use Rattle.std.proofs.Common.{◌≡◌, ◌⊎◌, inl, inr, ⊎_elim, ℕ, ◌+◌, ◌≤◌, Bool, true, false, List, [], ◌∷◌, length}
use Rattle.std.proofs.Common.{refl, sym, ap, subst, ◌∙◌, arith, if◌then◌else◌}
use Rattle.std.specs.Prelude.{◌↔◌, MatchBool, Result, Ok, Err, is_ok, is_err, not}
use Rattle.device.specs.Device.{LeavesOnly, written}
use Rattle.device.specs.Memory.{DiskChange, Recorded, left_since_of, may_leave_of, moment_of, seen_of, after_change}
use Rattle.device.specs.Memory.DiskChange.{write, sync}
use Rattle.device.specs.declared.device.Device.{Ghosts}
use Rattle.device.specs.inside.Laws.{seen_is_left_of}
use Rattle.device.specs.inside.Replay.{AreWithin}
use Rattle.device.proofs.Public.{leaves_at_start, leaves_weaker, sync_told, write_told, length-content_after}
use Rattle.volume_codec.specs.Layout.{IsHome, block_at}
use Rattle.volume_codec.specs.Recovery.{Recovers, contents_in}
use Rattle.volume_codec.specs.Super.{SuperValue, geometry_of}
use Rattle.journal.specs.Recovered.{RecoversBy}
use Rattle.machine_log.specs.Shown.{ShownValue, HasShown, StaysShown}
use Rattle.log_codec.specs.Log.{LogValue}
use Rattle.log_codec.specs.Chain.{LogRecovers}
use Rattle.log_codec.specs.declared.start.LogStart.{LogStart}
use Rattle.log_commits.specs.Tail.{EndsAtTail, HoldsUpTo}
use Rattle.log_commits.proofs.Public.{recovers, up_to}
use Rattle.log_store.specs.Store.{StoreValue}
use Rattle.log_pager.specs.Pager.{LogPagerValue, IsPagerOver}
use Rattle.log_volume.specs.Super.{LogSuperValue, log_of, log_super_text}
use Rattle.machine_log.specs.Disk.{LogDiskValue}
use Rattle.machine_log.specs.Made.{gates_opened, opens_gate}
use Rattle.machine_log.specs.inside.Keeping.{RecoverAlike, IsHeld, IsHonestBelow, IsOverLog, IsKeptDisk}
use Rattle.machine_log.specs.inside.Keeping.{OpensGate, StaysAlike}
use Rattle.machine_log.specs.inside.Keeping.{WritesOn}
use Rattle.machine_log.specs.inside.Keeping.{changed, shown_contents}
use Rattle.machine_log.proofs.Moments.{backed_on, moments_next}

abbrev pub fine : Result (Unit {0}) (Unit {0})
fine = Ok tt

-- bytes of the disk have one list of contents
abbrev pub OneContents : Type 0
OneContents = (v w : SuperValue) (contents others : ℕ → List ℕ) (bytes : List ℕ)
    → Recovers v contents bytes → Recovers w others bytes
    → (v ≡ w) × ((b : ℕ) → IsHome (geometry_of v) b → contents b ≡ others b)

-- a change that opens no gate isn't counted
none_more : (change : DiskChange) (older : List DiskChange) (n : ℕ) → opens_gate change ≡ false
    → n + gates_opened older ≡ n + gates_opened (change ∷ older)
none_more change older n closed = omega (arith, ap {B = ℕ} (λ (b : Bool). if b then 1 else 0) closed)

module _ {D : Type 0} (disk : Ghosts D)
    (since_now : (d : D) (c : List ℕ) → disk.left_since d (disk.moment d) c → disk.may_leave d c)
    (now_is_since : (d : D) (r : ℕ) (c : List ℕ) → r ≤ disk.moment d → disk.may_leave d c → disk.left_since d r c)
    (v : LogSuperValue) (t : SuperValue) (start : LogStart) (first : List ℕ) (changes : List DiskChange)
    (moments : List (ℕ × ℕ)) (pager : LogPagerValue D) (shown : ShownValue)
    (kept : IsKeptDisk disk v t start first changes moments pager shown false) where
  abbrev memory : Recorded
  memory = changed first changes

  abbrev seen : List ℕ
  seen = seen_of memory

  abbrev as_disk : LogPagerValue D → List DiskChange → List (ℕ × ℕ) → LogDiskValue D
  as_disk pager changes moments = record {
    device = pager.device;
    volume = v;
    table = t;
    log_start = start;
    memory = changed first changes;
    moments = moments;
  }

  -- what may be left of the device now is alike to what the disk has
  alike_by : (pager : LogPagerValue D) (shown : ShownValue) (bytes : List ℕ) → pager.store.tail.log ≡ log_of v
      → IsOverLog disk v t pager shown bytes → (c : List ℕ) → disk.may_leave pager.device c → RecoverAlike v t c bytes
  alike_by pager shown bytes log over c left = record {
    contents = over.contents;
    first = over.first c left;
    volume = subst (λ (g : LogValue). LogRecovers g over.contents c) log
        (recovers pager.store.tail over.contents c (over.over.store.holds c left).held (over.ended c left));
    disk = record {
      batches = shown.opened;
      volume = over.recovers.volume;
      contents_are = over.recovers.contents_are;
    };
  }

  pub alike_now : disk.is_honest pager.device → (c : List ℕ) → disk.may_leave pager.device c → RecoverAlike v t c seen
  alike_now honest = alike_by pager shown seen kept.log (kept.over honest refl)

  -- the same of the commits that it holds
  abbrev pub AsHeld : List ℕ → Type 0
  AsHeld c = (contents : ℕ → List ℕ) × Recovers t (shown_contents v t contents) seen
      × HoldsUpTo (log_of v) (start.number + gates_opened changes) contents c × (block_at c 0 ≡ log_super_text v)

  pub held_as : (contents : ℕ → List ℕ) (c : List ℕ)
      → HoldsUpTo pager.store.tail.log pager.store.tail.number contents c
      → HoldsUpTo (log_of v) (start.number + gates_opened changes) contents c
  held_as contents c holds =
      subst (λ (g : LogValue). HoldsUpTo g (start.number + gates_opened changes) contents c) kept.log
      (subst (λ (n : ℕ). HoldsUpTo pager.store.tail.log n contents c) (kept.number refl) holds)

  held_now : disk.is_honest pager.device → (c : List ℕ) → disk.may_leave pager.device c → AsHeld c
  held_now honest c left =
      let over = kept.over honest refl in (
        over.contents,
        record {
          batches = shown.opened;
          volume = over.recovers.volume;
          contents_are = over.recovers.contents_are;
        },
        held_as over.contents c (up_to pager.store.tail over.contents c (over.over.store.holds c left).held),
        over.first c left,
      )

  -- these bytes recover to contents, by the batches of the volume
  pub by_opened : OneContents → (contents : ℕ → List ℕ) → Recovers t (shown_contents v t contents) seen
      → RecoversBy t shown.opened (shown_contents v t contents) seen
  by_opened one contents is =
      let volume = (kept.shows refl).volume in
      record {
        volume = volume;
        contents_are = (one t t (shown_contents v t contents) (contents_in t.slots shown.opened seen) seen is
            (record { batches = shown.opened; volume = volume; contents_are = λ b home. refl })).1;
      }

  -- ---- a write or a sync more

  module _ (after : LogPagerValue D) (opened : ShownValue) (change : DiskChange) (failed : Bool) where
    abbrev changes' : List DiskChange
    changes' = change ∷ changes

    abbrev memory' : Recorded
    memory' = changed first changes'

    pub record Next : Type 0 where
      pub log : after.store.tail.log ≡ log_of v
      pub number : failed ≡ false → after.store.tail.number ≡ start.number + gates_opened changes'
      pub within : AreWithin (length first) changes'
      pub keeps : LeavesOnly moment_of left_since_of memory memory' (λ w. Unit {0})
      pub old_left : may_leave_of memory' seen
      pub later : disk.moment pager.device ≤ disk.moment after.device
      pub honest : disk.is_honest after.device → disk.is_honest pager.device
      pub shows : failed ≡ false → HasShown t opened (seen_of memory')
      pub none_put : failed ≡ false → after.staged ≡ []
      pub over : disk.is_honest pager.device → failed ≡ false → IsOverLog disk v t after opened (seen_of memory')
      pub leaves : IsHonestBelow disk v pager → LeavesOnly disk.moment disk.left_since pager.device after.device
          (λ c. RecoverAlike v t c seen ⊎ RecoverAlike v t c (seen_of memory'))
      pub follows : MatchBool (opens_gate change) (OpensGate v t first change changes)
          (StaysAlike v t first change changes)
      pub held : disk.is_honest pager.device
          → LeavesOnly disk.moment disk.left_since pager.device after.device AsHeld

    held_more : (c : List ℕ) → AsHeld c → (u : ℕ) → u ≤ length changes + 1 → IsHeld v t start first changes' u c seen
    held_more c is u le = record {
      newer = change ∷ [];
      older = changes;
      parts = refl;
      late = le;
      seen = refl;
      contents = is.0;
      text = is.3;
      recovers = is.1;
      holds = is.2;
    }

    held_later : (u : ℕ) (c w : List ℕ) → IsHeld v t start first changes u c w → IsHeld v t start first changes' u c w
    held_later u c w is = record {
      newer = change ∷ is.newer;
      older = is.older;
      parts = ap (λ (l : List DiskChange). change ∷ l) is.parts;
      late = is.late;
      seen = is.seen;
      contents = is.contents;
      text = is.text;
      recovers = is.recovers;
      holds = is.holds;
    }

    pub kept_next : Next → IsKeptDisk disk v t start first changes'
        ((moment_of memory', disk.moment after.device) ∷ moments) after opened failed
    kept_next next = record {
      fits = kept.fits;
      table = kept.table;
      log = next.log;
      number = next.number;
      long = kept.long;
      within = next.within;
      moments_are = moments_next (moment_of memory) (disk.moment pager.device) (moment_of memory')
          (disk.moment after.device) moments ((moment_of memory', disk.moment after.device) ∷ moments)
          kept.moments_are refl (omega arith) next.later;
      shows = next.shows;
      none_put = next.none_put;
      over = λ honest works. next.over (next.honest honest) works;
      backed = λ sealed. let honest : IsHonestBelow disk v pager = (next.honest sealed.0, sealed.1) in
          backed_on disk (as_disk pager changes moments)
          (as_disk after changes' ((moment_of memory', disk.moment after.device) ∷ moments))
          (λ u c w. RecoverAlike v t c w) (λ u c w. RecoverAlike v t c w)
          kept.moments_are refl next.keeps (next.leaves honest) (λ u c w is. is)
          (λ c alike. ⊎_elim (λ old. (seen, inl (seen_is_left_of memory), λ u le. old))
          (λ new. (seen_of memory', inr (seen_is_left_of memory'), λ u le. new)) alike)
          (λ c left. ⊎_elim (λ old. (seen, next.old_left, old))
          (λ new. (seen_of memory', seen_is_left_of memory', new))
          ((next.leaves honest).each c
          (now_is_since after.device (disk.moment pager.device) c next.later left)))
          (since_now after.device) (kept.backed honest);
      followed = (next.follows, kept.followed);
      held = λ fair. let honest = next.honest fair in
          backed_on disk (as_disk pager changes moments)
          (as_disk after changes' ((moment_of memory', disk.moment after.device) ∷ moments))
          (IsHeld v t start first changes) (IsHeld v t start first changes')
          kept.moments_are refl next.keeps (next.held honest) held_later
          (λ c is. (seen, inl (seen_is_left_of memory), λ u le. held_more c is u (omega (arith, le))))
          (λ c left. (
            seen,
            next.old_left,
            held_more c ((next.held honest).each c
                (now_is_since after.device (disk.moment pager.device) c next.later left)) (moment_of memory')
                (omega arith),
          ))
          (since_now after.device) (kept.held honest);
    }

  -- counts play no part
  uncounted : (change : DiskChange) {P : List ℕ → Type 0}
      → LeavesOnly moment_of left_since_of memory (after_change memory change) P
      → LeavesOnly moment_of left_since_of memory (changed first (change ∷ changes)) P
  uncounted change leaves =
      record { later = leaves.later; each = leaves.each; before = leaves.before; keeps = leaves.keeps }

  seen_long : length seen ≡ length first
  seen_long = length-content_after first changes kept.within

  module _ (at : ℕ) (bytes : List ℕ) (fits : at + length bytes ≤ length seen) where
    pub write_within : AreWithin (length first) (write at bytes ∷ changes)
    write_within = (omega (arith, fits, seen_long), kept.within)

    pub write_keeps : LeavesOnly moment_of left_since_of memory (changed first (write at bytes ∷ changes))
        (λ w. Unit {0})
    write_keeps = uncounted (write at bytes) (leaves_weaker (write_told (λ (r : Recorded). r) fine memory
        (after_change memory (write at bytes)) at bytes fits refl tt).1.1.0 (λ w torn. tt))

    pub write_old_left : may_leave_of (changed first (write at bytes ∷ changes)) seen
    write_old_left = (write_told (λ (r : Recorded). r) fine memory (after_change memory (write at bytes)) at bytes fits
        refl tt).0 seen (seen_is_left_of memory)

    -- of a block that recovery doesn't read, or a gate that closes
    pub kept_write : OneContents → opens_gate (write at bytes) ≡ false → (opened : ShownValue)
        → StaysShown shown opened (λ s. written s at bytes)
        → IsKeptDisk disk v t start first (write at bytes ∷ changes)
        ((moment_of (changed first (write at bytes ∷ changes)), disk.moment pager.device) ∷ moments) pager opened false
    kept_write one closed opened stays = kept_next pager opened (write at bytes) false (record {
      log = kept.log;
      number = λ works. kept.number works ∙ none_more (write at bytes) changes start.number closed;
      within = write_within;
      keeps = write_keeps;
      old_left = write_old_left;
      later = omega arith;
      honest = λ honest. honest;
      shows = λ works. stays.shown t seen (kept.shows works);
      none_put = kept.none_put;
      over = λ honest works. let over = kept.over honest works in record {
        contents = over.contents;
        over = over.over;
        ended = over.ended;
        first = over.first;
        recovers = stays.recovers t seen (shown_contents v t over.contents) (kept.shows works) over.recovers;
      };
      leaves = λ honest. leaves_at_start (λ c left. inl (alike_now honest.0 c (since_now pager.device c left)));
      follows = subst (λ (b : Bool). MatchBool b (OpensGate v t first (write at bytes) changes)
          (StaysAlike v t first (write at bytes) changes)) (sym closed) (λ contents is.
          let by = stays.recovers t seen (shown_contents v t contents) (kept.shows refl) (by_opened one contents is) in
          record { batches = opened.opened; volume = by.volume; contents_are = by.contents_are });
      held = λ honest. leaves_at_start (λ c left. held_now honest c (since_now pager.device c left));
    })

  pub kept_sync : IsKeptDisk disk v t start first (sync ∷ changes)
      ((moment_of (changed first (sync ∷ changes)), disk.moment pager.device) ∷ moments) pager shown false
  kept_sync =
      let told = sync_told (λ (r : Recorded). r) fine memory (after_change memory sync) refl tt in
      kept_next pager shown sync false (record {
        log = kept.log;
        number = λ works. kept.number works ∙ none_more sync changes start.number refl;
        within = kept.within;
        keeps = uncounted sync (leaves_weaker told.1 (λ w left. tt));
        old_left = seen_is_left_of (changed first (sync ∷ changes));
        later = omega arith;
        honest = λ honest. honest;
        shows = kept.shows;
        none_put = kept.none_put;
        over = kept.over;
        leaves = λ honest. leaves_at_start (λ c left. inl (alike_now honest.0 c (since_now pager.device c left)));
        follows = λ contents is. is;
        held = λ honest. leaves_at_start (λ c left. held_now honest c (since_now pager.device c left));
      })

  -- ---- a batch that wasn't put

  -- then no further call is taken
  pub kept_failed : (after : LogPagerValue D) (opened : ShownValue) → after ≡ record pager { staged = after.staged }
      → IsKeptDisk disk v t start first changes moments after opened true
  kept_failed after opened is =
      subst (λ (p : LogPagerValue D). IsKeptDisk disk v t start first changes moments p opened true) (sym is) (record {
        fits = kept.fits;
        table = kept.table;
        log = kept.log;
        number = λ works. absurd (cc);
        long = kept.long;
        within = kept.within;
        moments_are = kept.moments_are;
        shows = λ works. absurd (cc);
        none_put = λ works. absurd (cc);
        over = λ honest works. absurd (cc);
        backed = kept.backed;
        followed = kept.followed;
        held = kept.held;
      })

  -- ---- calls of the device that aren't seen

  pub kept_read : (after : LogPagerValue D) → after.store ≡ pager.store → after.staged ≡ []
      → disk.moment pager.device ≤ disk.moment after.device
      → (disk.is_honest after.device → disk.is_honest pager.device)
      → ((c : List ℕ) → disk.may_leave after.device c → disk.may_leave pager.device c)
      → ((contents : ℕ → List ℕ) → disk.is_honest pager.device → IsPagerOver disk pager contents
      → IsPagerOver disk after contents)
      → LeavesOnly disk.moment disk.left_since pager.device after.device (disk.may_leave pager.device)
      → IsKeptDisk disk v t start first changes ((moment_of memory, disk.moment after.device) ∷ moments) after shown
      false
  kept_read after store none later honest left over leaves = record {
    fits = kept.fits;
    table = kept.table;
    log = ap (λ (s : StoreValue). s.tail.log) store ∙ kept.log;
    number = λ works. ap (λ (s : StoreValue). s.tail.number) store ∙ kept.number works;
    long = kept.long;
    within = kept.within;
    moments_are = moments_next (moment_of memory) (disk.moment pager.device) (moment_of memory)
        (disk.moment after.device) moments ((moment_of memory, disk.moment after.device) ∷ moments)
        kept.moments_are refl (omega arith) later;
    shows = kept.shows;
    none_put = λ works. none;
    over = λ h works. let was = kept.over (honest h) works in record {
      contents = was.contents;
      over = over was.contents (honest h) was.over;
      ended = λ c now. subst (λ (s : StoreValue). EndsAtTail s.tail c) (sym store) (was.ended c (left c now));
      first = λ c now. was.first c (left c now);
      recovers = was.recovers;
    };
    backed = λ sealed. let h : IsHonestBelow disk v pager = (honest sealed.0, sealed.1) in
        backed_on disk (as_disk pager changes moments)
        (as_disk after changes ((moment_of memory, disk.moment after.device) ∷ moments))
        (λ u c w. RecoverAlike v t c w) (λ u c w. RecoverAlike v t c w) kept.moments_are refl stands_still
        leaves (λ u c w is. is) (λ c was. (seen, inl (seen_is_left_of memory), λ u le. alike_now h.0 c was))
        (λ c now. (seen, seen_is_left_of memory, alike_now h.0 c (left c now)))
        (since_now after.device) (kept.backed h);
    followed = kept.followed;
    held = λ fair. let h = honest fair in
        backed_on disk (as_disk pager changes moments)
        (as_disk after changes ((moment_of memory, disk.moment after.device) ∷ moments))
        (IsHeld v t start first changes) (IsHeld v t start first changes) kept.moments_are refl stands_still
        leaves (λ u c w is. is)
        (λ c was. (seen, inl (seen_is_left_of memory), λ u le. held_same c (held_now h c was) u (omega (arith, le))))
        (λ c now. (
          seen,
          seen_is_left_of memory,
          held_same c (held_now h c (left c now)) (moment_of memory)
              (omega arith),
        ))
        (since_now after.device) (kept.held h);
  }
    where
      stands_still : LeavesOnly moment_of left_since_of memory memory (λ w. Unit {0})
      stands_still =
          leaves_at_start {moment = moment_of} {left_since = left_since_of} {device = memory} {P = λ w. Unit {0}}
          (λ w now. tt)

      held_same : (c : List ℕ) → AsHeld c → (u : ℕ) → u ≤ length changes + 1 → IsHeld v t start first changes u c seen
      held_same c is u le = record {
        newer = [];
        older = changes;
        parts = refl;
        late = le;
        seen = refl;
        contents = is.0;
        text = is.3;
        recovers = is.1;
        holds = is.2;
      }

-- what is written ends within what the disk has
pub write_fits : {D : Type 0} {disk value : LogDiskValue D} {n m : ℕ} (at : ℕ) → disk ≡ value
    → at + m ≤ length (seen_of value.memory) → n ≡ m → at + n ≤ length (seen_of disk.memory)
write_fits {D} at view fits same =
    omega (arith, fits, same, ap (λ (d : LogDiskValue D). length (seen_of d.memory)) view)

-- as the past tells it
pub as_told : {D : Type 0} (disk : Ghosts D) (v : LogSuperValue) (t : SuperValue) (start : LogStart) (first : List ℕ)
    (changes : List DiskChange) (moments : List (ℕ × ℕ)) (pager : LogPagerValue D) (shown : ShownValue)
    (failed now : Bool) (count : ℕ) (first0 : List ℕ) (changes0 : List DiskChange) (moments0 : List (ℕ × ℕ))
    (device : D) → (first0 ≡ first) × (changes0 ≡ changes)
    × (moments0 ≡ (count, disk.moment device) ∷ moments) → device ≡ pager.device → failed ≡ now
    → moment_of (changed first changes) ≡ count
    → IsKeptDisk disk v t start first changes ((moment_of (changed first changes), disk.moment pager.device) ∷ moments)
    pager
    shown now
    → IsKeptDisk disk v t start first0 changes0 moments0 pager shown failed
as_told {D} disk v t start first changes moments pager shown failed now count first0 changes0 moments0 device told is
    same
    counted kept =
    let pair : (moment_of (changed first changes), disk.moment pager.device) ∷ moments ≡ moments0 =
    ap (λ (n : ℕ). (n, disk.moment pager.device) ∷ moments) counted
    ∙ ap (λ (d : D). (count, disk.moment d) ∷ moments) (sym is) ∙ sym told.2 in
    subst (λ f. IsKeptDisk disk v t start f changes0 moments0 pager shown failed) (sym told.0)
    (subst (λ l. IsKeptDisk disk v t start first l moments0 pager shown failed) (sym told.1)
    (subst (λ m. IsKeptDisk disk v t start first changes m pager shown failed) pair
    (subst (λ f. IsKeptDisk disk v t start first changes ((moment_of (changed first changes), disk.moment pager.device)
    ∷ moments) pager shown f) (sym same) kept)))

-- what a call did to the disk, by its parts
pub writes_told : {D : Type 0} (disk : Ghosts D) (v : LogSuperValue) (t : SuperValue) (start : LogStart)
    (first : List ℕ) (changes : List DiskChange) (moments : List (ℕ × ℕ)) (calls faults : ℕ) (before after device : D)
    (old : LogDiskValue D) (change : DiskChange) (first0 : List ℕ) (changes0 : List DiskChange)
    (moments0 : List (ℕ × ℕ))
    → record {
      device = before;
      volume = v;
      table = t;
      log_start = start;
      memory = record { first = first; changes = changes; start = 0; calls = calls; faults = faults };
      moments = moments;
    } ≡ old
    → (first0 ≡ first) × (changes0 ≡ change ∷ changes)
    × (moments0 ≡ (length changes + 1, disk.moment device) ∷ moments)
    → device ≡ after → disk.moment before ≤ disk.moment after → (disk.is_honest after ↔ disk.is_honest before)
    → WritesOn disk old change (record {
      device = after;
      volume = v;
      table = t;
      log_start = start;
      memory = record { first = first0; changes = changes0; start = 0; calls = calls; faults = faults };
      moments = moments0;
    })
writes_told {D} disk v t start first changes moments calls faults before after device old change first0 changes0
    moments0 view
    told is later honest =
    let new : LogDiskValue D = record {
      device = after;
      volume = v;
      table = t;
      log_start = start;
      memory = record { first = first0; changes = changes0; start = 0; calls = calls; faults = faults };
      moments = moments0;
    } in
    let count : length changes + 1 ≡ 0 + length (change ∷ changes) = omega arith in
    subst (λ old. WritesOn disk old change new) view (record {
      memory = ap (λ (f : List ℕ). let r : Recorded =
          record { first = f; changes = changes0; start = 0; calls = calls; faults = faults } in r) told.0
          ∙ ap (λ (l : List DiskChange). let r : Recorded =
          record { first = first; changes = l; start = 0; calls = calls; faults = faults } in r) told.1;
      volume = refl;
      table = refl;
      log_start = refl;
      moments = told.2 ∙ ap (λ (d : D). (length changes + 1, disk.moment d) ∷ moments) is
          ∙ ap (λ (n : ℕ). (n, disk.moment after) ∷ moments) count
          ∙ ap (λ (l : List DiskChange). (0 + length l, disk.moment after) ∷ moments) (sym told.1);
      later = later;
      honest = honest;
    })

pub err_not : {T E : Type 0} (r : Result T E) → is_err r ≡ not (is_ok r)
err_not (Ok x) = refl
err_not (Err e) = refl
