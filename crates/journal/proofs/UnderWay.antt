-- One step more towards the end of a batch that recovery found.
use Rattle.std.proofs.Common.{◌≡◌, ◌≢◌, ℕ, zero, suc, ◌+◌, ◌*◌, ◌^◌, ◌<◌, ◌≤◌, ◌⊎◌, inl}
use Rattle.std.proofs.Common.{inr, Bool, true, false, List, [], ◌∷◌, ◌++◌, length, get_or}
use Rattle.std.proofs.Common.{Option, Some, None, Ok, Err, refl, sym, ap, ◌∙◌, subst, arith}
use Rattle.std.specs.List.{AllByRecursion}
use Rattle.std.specs.Option.{option_map_or}
use Rattle.std.proofs.lemmas.Bool.{both_ways, cases_lt}
use Rattle.device.specs.Count.{raised}
use Rattle.device.specs.Device.{LeavesOnly, Torn, written}
use Rattle.device.specs.Did.{Did}
use Rattle.device.specs.declared.device.Device.{Ghosts}
use Rattle.device.proofs.Done.{did_as, done_seen}
use Rattle.device.proofs.Moments.{leaves_at_start, leaves_on}
use Rattle.device.proofs.Ranges.{torn_before, torn_after}
use Rattle.volume_codec.specs.Layout.{GeometryValue, IsHome, descriptor_blocks, record_block, gate_block}
use Rattle.volume_codec.specs.Layout.{first_home, block_at}
use Rattle.volume_codec.specs.Super.{SuperValue, geometry_of}
use Rattle.volume_codec.specs.Recovery.{Batch, Recovers, IsOpenBatch, AreOpen}
use Rattle.volume_codec.proofs.Places.{fits_geometry}
use Rattle.journal.specs.declared.flushed.Flushed.{Flushed}
use Rattle.journal.specs.declared.flushed.Flushed.TheVariants.{Going, Committed, Done, Device, Broken}
use Rattle.journal.specs.declared.stage.Stage.{Stage}
use Rattle.journal.specs.declared.stage.Stage.TheVariants.{Recording, Describing, SyncingRecords, Opening}
use Rattle.journal.specs.declared.stage.Stage.TheVariants.{Committing, Applying, SyncingHomes, Closing, Finishing}
use Rattle.journal.specs.Stage.{stage_at, is_committed, answer_at}
use Rattle.journal.specs.Work.{Work, WriteAt, CopyBlock, Nothing, Sync, work_at}
use Rattle.journal.specs.Work.{worked, TornFromWork, calls_of, HasFailed}
use Rattle.journal.specs.WriteOut.{WriteOut, FlushValue, IsBatch, next_stage, has_committed}
use Rattle.journal.specs.WriteOut.{after_steps, committing_steps, all_steps}
use Rattle.journal.specs.WriteOut.{advanced_of, work_of, answer_of, flush_after, calls_in_steps}
use Rattle.journal.specs.WriteOuts.{has_uncommitted}
use Rattle.journal.specs.Crash.{LeftWithin}
use Rattle.journal.specs.Finished.{IsOutside, gate_byte, HoldsVolume, RecoversSame, finishing_calls, Finishes}
use Rattle.journal.specs.inside.Sound.{IsWriteOut, IsOlder, AreInOrder}
use Rattle.journal.specs.inside.Tied.{is_applied, IsTied}
use Rattle.journal.specs.inside.Finishing.{found_in, left_of, IsOnWay, IsUnderWay}
use Rattle.journal.proofs.Alls.{all_map, all_front}
use Rattle.journal.proofs.Batches.{committed-at, at-is}
use Rattle.journal.proofs.Changes.{torn-written, first-written, length-block_at}
use Rattle.journal.proofs.Places.{gate-below, record-below}
use Rattle.journal.proofs.Stages.{IsAt, stage_is, stage_at-is, stage_from, applying_within, early_calls, all_calls}
use Rattle.journal.proofs.Sounding.{some_stage, late_next}
use Rattle.journal.proofs.Keeping.{oldest_within, oldest_after, oldest_done}
use Rattle.journal.proofs.Leaving.{recovers_of, is_last}
use Rattle.journal.proofs.Tying.{false_true}
use Rattle.journal.proofs.Written.{home_at}
use Rattle.journal.proofs.Found.{applying_first, found_last, found_each, found_none, found_order, found_tied}
use Rattle.journal.proofs.Found.{tied_recovers}

-- ---- which bytes a step changes

module _ (g : GeometryValue) (batch : Batch) (is_batch : IsBatch g batch) (steps : ℕ) (bytes : List ℕ) where
  home_of : (i : ℕ) → i < length batch.homes → IsHome g (get_or batch.homes i 0)
  home_of i lt = home_at g batch.homes i is_batch.described.homes lt

  -- the gate and the records lie below the home blocks
  gate_low : gate_block g.slots batch.journal < first_home g.layout g.slots
  gate_low = gate-below g.layout g.slots batch.journal is_batch.there

  low_within : first_home g.layout g.slots < g.blocks
  low_within = let home = home_of 0 is_batch.described.homes.some in omega (arith, home.low, home.high)

  record_fits : (old : List ℕ) → 4096 * g.blocks ≤ length old → (i : ℕ) → i < length batch.homes
      → length (block_at old (record_block g.slots batch.journal i)) ≡ 4096
  record_fits old long i lt =
      let below =
      record-below g.layout g.slots batch.journal i is_batch.there (omega (arith, lt, is_batch.described.homes.few)) in
      length-block_at old (record_block g.slots batch.journal i) (omega (arith, below, low_within, long))

  -- a home block that is written
  home_torn : (old : List ℕ) → 4096 * g.blocks ≤ length old → (i : ℕ) → i < length batch.homes
      → Torn (4096 * get_or batch.homes i 0) 4096 old
      (written old (4096 * get_or batch.homes i 0) (block_at old (record_block g.slots batch.journal i)))
  home_torn old long i lt =
      let home = home_of i lt in
      let size = record_fits old long i lt in
      subst (λ n. Torn (4096 * get_or batch.homes i 0) n old
      (written old (4096 * get_or batch.homes i 0) (block_at old (record_block g.slots batch.journal i)))) size
      (torn-written (4096 * get_or batch.homes i 0) (block_at old (record_block g.slots batch.journal i)) old
      (omega (arith, home.high, size, long)))

  gate_torn : (old : List ℕ) → 4096 * g.blocks ≤ length old
      → Torn (gate_byte g.slots batch) 1 old (written old (gate_byte g.slots batch) (0 ∷ []))
  gate_torn old long = torn-written (gate_byte g.slots batch) (0 ∷ []) old (omega (arith, gate_low, low_within, long))

  outside_home : {old new : List ℕ} (i k : ℕ) → i < length batch.homes
      → Torn (4096 * get_or batch.homes i 0) 4096 old new → IsOutside g k
      → get_or new k 0 ≡ get_or old k 0
  outside_home i k lt torn (inl before) = torn_before torn k (let home = home_of i lt in
      omega (arith, before, home.low))
  outside_home i k lt torn (inr after) = torn_after torn k (let home = home_of i lt in omega (arith, after, home.high))

  outside_gate : {old new : List ℕ} (k : ℕ) → Torn (gate_byte g.slots batch) 1 old new → k ≢ gate_byte g.slots batch
      → get_or new k 0 ≡ get_or old k 0
  outside_gate k torn apart = elim (cases_lt k (gate_byte g.slots batch)) [
    | inl before ↦ torn_before torn k before
    | inr after ↦ torn_after torn k (let other = apart in omega (arith, after, other))
  ]

  pub others_step : (stage : Stage) → next_stage (after_steps g.slots batch steps) ≡ Some stage
      → is_committed stage ≡ true
      → (old : List ℕ) → 4096 * g.blocks ≤ length old → (k : ℕ) → IsOutside g k → k ≢ gate_byte g.slots batch
      → get_or (worked old (work_at g batch bytes stage)) k 0 ≡ get_or old k 0
  others_step (Recording i) at late old long k out apart = false_true late
  others_step (Describing i) at late old long k out apart = false_true late
  others_step SyncingRecords at late old long k out apart = false_true late
  others_step Opening at late old long k out apart = false_true late
  others_step Committing at late old long k out apart = false_true late
  others_step (Applying i) at late old long k out apart =
      let lt = applying_within (length batch.homes) (descriptor_blocks g.slots) steps i at in
      outside_home i k lt (home_torn old long i lt) out
  others_step SyncingHomes at late old long k out apart = refl
  others_step Closing at late old long k out apart = outside_gate k (gate_torn old long) apart
  others_step Finishing at late old long k out apart = refl

  pub closed_step : (stage : Stage) → next_stage (after_steps g.slots batch steps) ≡ Some stage
      → is_committed stage ≡ true → (old : List ℕ) → 4096 * g.blocks ≤ length old
      → (2 * length batch.homes + descriptor_blocks g.slots + 5 ≤ steps → get_or old (gate_byte g.slots batch) 0 ≡ 0)
      → 2 * length batch.homes + descriptor_blocks g.slots + 5 ≤ steps + 1
      → get_or (worked old (work_at g batch bytes stage)) (gate_byte g.slots batch) 0 ≡ 0
  closed_step (Recording i) at late old long before from = false_true late
  closed_step (Describing i) at late old long before from = false_true late
  closed_step SyncingRecords at late old long before from = false_true late
  closed_step Opening at late old long before from = false_true late
  closed_step Committing at late old long before from = false_true late
  closed_step (Applying i) at late old long before from =
      let is = stage_at-is (length batch.homes) (descriptor_blocks g.slots) steps at in
      absurd (omega (arith, is.0, is.1, from))
  closed_step SyncingHomes at late old long before from =
      let is = stage_at-is (length batch.homes) (descriptor_blocks g.slots) steps at in
      absurd (omega (arith, is, from))
  closed_step Closing at late old long before from =
      first-written (gate_block g.slots batch.journal) 0 old (omega (arith, gate_low, low_within, long))
  closed_step Finishing at late old long before from =
      let is = stage_at-is (length batch.homes) (descriptor_blocks g.slots) steps at in
      before (omega (arith, is))

  -- what may be left of it
  pub torn_step : (stage : Stage) → next_stage (after_steps g.slots batch steps) ≡ Some stage
      → is_committed stage ≡ true
      → (may : List ℕ → Type 0) (c : List ℕ) → TornFromWork (work_at g batch bytes stage) may c
      → (d : List ℕ) × may d × (length c ≡ length d) × ((k : ℕ) → 4096 * g.blocks ≤ k → get_or c k 0 ≡ get_or d k 0)
  torn_step (Recording i) at late may c torn = false_true late
  torn_step (Describing i) at late may c torn = false_true late
  torn_step SyncingRecords at late may c torn = false_true late
  torn_step Opening at late may c torn = false_true late
  torn_step Committing at late may c torn = false_true late
  torn_step (Applying i) at late may c torn = (
    torn.0,
    torn.1,
    torn.2.same_length,
    λ k from. torn_after torn.2 k
        (let home = home_of i (applying_within (length batch.homes) (descriptor_blocks g.slots) steps i at) in
        omega (arith, from, home.high)),
  )
  torn_step SyncingHomes at late may c torn = (c, torn, refl, λ k from. refl)
  torn_step Closing at late may c torn =
      (torn.0, torn.1, torn.2.same_length, λ k from. torn_after torn.2 k (omega (arith, from, gate_low, low_within)))
  torn_step Finishing at late may c torn = (c, torn, refl, λ k from. refl)

  -- ---- calls

  rest : (n m : ℕ) → m + n ≡ all_steps g.slots batch
      → calls_in_steps g batch m ≤ 3 * length batch.homes + descriptor_blocks g.slots + 6
  rest zero m e =
      let all =
      ap (calls_in_steps g batch) (let same : m ≡ all_steps g.slots batch = omega (arith, e) in same)
      ∙ all_calls g batch in
      omega (arith, all)
  rest (suc n) m e = let more = rest n (suc m) (omega (arith, e)) in omega (arith, more)

  pub calls_within : (m : ℕ) → m ≤ all_steps g.slots batch
      → calls_in_steps g batch m ≤ 3 * length batch.homes + descriptor_blocks g.slots + 6
  calls_within m le = rest (Rattle.std.specs.Prelude.◌-◌ (all_steps g.slots batch) m) m (omega (arith, le))

  -- the calls don't hang on the bytes of a record
  calls_same : (stage : Stage) → calls_of (work_at g batch [] stage) ≡ calls_of (work_at g batch bytes stage)
  calls_same (Recording i) = refl
  calls_same (Describing i) = refl
  calls_same SyncingRecords = refl
  calls_same Opening = refl
  calls_same Committing = refl
  calls_same (Applying i) = refl
  calls_same SyncingHomes = refl
  calls_same Closing = refl
  calls_same Finishing = refl

  pub calls_step : (stage : Stage) → next_stage (after_steps g.slots batch steps) ≡ Some stage
      → calls_in_steps g batch (steps + 1) ≡ calls_in_steps g batch steps + calls_of (work_at g batch bytes stage)
  calls_step stage at =
      let one =
      ap (λ (o : Option Stage). calls_of (option_map_or (work_at g batch []) o Nothing)) at
      ∙ calls_same stage in
      let next : steps + 1 ≡ suc steps = omega arith in
      ap (calls_in_steps g batch) next ∙ omega (arith, one)

pub failed_within : (work : Work) (old new : ℕ) → HasFailed work old new → new ≤ old + calls_of work
failed_within (WriteAt at bytes) old new failed = omega (arith, failed)
failed_within (CopyBlock from to) old new (inl failed) = omega (arith, failed)
failed_within (CopyBlock from to) old new (inr failed) = omega (arith, failed)
failed_within Sync old new failed = omega (arith, failed)
failed_within Nothing old new failed = absurd failed

-- ---- a volume

left_new : (v : SuperValue) (contents : ℕ → List ℕ) (c : List ℕ) (stage : Stage)
    → is_committed stage ≡ true → LeftWithin v contents contents (Some stage) c
    → Recovers v contents c
left_new v contents c (Recording i) late left = false_true late
left_new v contents c (Describing i) late left = false_true late
left_new v contents c SyncingRecords late left = false_true late
left_new v contents c Opening late left = false_true late
left_new v contents c Committing late left = false_true late
left_new v contents c (Applying i) late left = left
left_new v contents c SyncingHomes late left = left
left_new v contents c Closing late left = left
left_new v contents c Finishing late left = left

-- before the first step
module _ {D : Type 0} (disk : Ghosts D) (v : SuperValue) (newer : List Batch) (contents : ℕ → List ℕ) (batch : Batch)
    (start : D) (found : HoldsVolume disk v (newer ++ batch ∷ []) contents start) where
  opened : AreOpen (geometry_of v) (newer ++ batch ∷ []) (disk.seen start)
  opened = found.recovers.volume.journals

  pub newer_open : AllByRecursion (IsOpenBatch (geometry_of v) (disk.seen start)) newer
  newer_open = all_front (IsOpenBatch (geometry_of v) (disk.seen start)) newer (batch ∷ []) opened.each

  order : AreInOrder (after_steps v.slots batch (committing_steps v.slots batch) ∷ found_in v.slots newer)
  order = subst AreInOrder (found_last v.slots newer batch)
      (found_order v (disk.seen start) (newer ++ batch ∷ []) opened
      (fits_geometry v found.recovers.volume.super_block.fits))

  each : AllByRecursion (IsWriteOut (geometry_of v))
      (after_steps v.slots batch (committing_steps v.slots batch) ∷ found_in v.slots newer)
  each = subst (AllByRecursion (IsWriteOut (geometry_of v))) (found_last v.slots newer batch)
      (found_each v (disk.seen start) (newer ++ batch ∷ []) opened.each)

  pub none : has_uncommitted (found_in v.slots newer) ≡ false
  none = found_none v (disk.seen start) newer newer_open

  pub older_at : (steps : ℕ) → has_committed (after_steps v.slots batch steps) ≡ true
      → AllByRecursion (IsOlder (after_steps v.slots batch steps)) (found_in v.slots newer)
  older_at steps committed =
      all_map {P = IsOlder (after_steps v.slots batch (committing_steps v.slots batch))}
      {Q = IsOlder (after_steps v.slots batch steps)}
      (λ x is. record {
        marks = is.marks;
        journals = is.journals;
        committed = committed;
        waits = λ e. elim (is.waits e) [
          | inl first ↦ inl first
          | inr sure ↦ absurd (both_ways false refl (sym (at-is is_applied
              (after_steps v.slots batch (committing_steps v.slots batch)) (Applying 0)
              (applying_first v.slots batch each.0.batch.described.homes.some)) ∙ sure.1))
        ];
      })
      (found_in v.slots newer) order.0

  pub first_way : ((c : List ℕ) → disk.left_since start (disk.moment start) c → disk.may_leave start c)
      → IsOnWay disk v newer contents batch (committing_steps v.slots batch) start start
  first_way now =
      let at = applying_first v.slots batch each.0.batch.described.homes.some in
      let tied = found_tied v (disk.seen start) contents (newer ++ batch ∷ [])
      (disk.may_leave start) found.recovers found.synced in
      record {
        tied = subst (λ (l : List WriteOut). IsTied v l contents contents (disk.seen start) (disk.may_leave start))
            (found_last v.slots newer batch ∙ sym (ap (λ (o : Option Stage). option_map_or (λ (s : Stage).
            after_steps v.slots batch (committing_steps v.slots batch) ∷ found_in v.slots newer) o
            (found_in v.slots newer)) at)) tied;
        length_left = λ c left. ap length (found.synced c left);
        past = λ c left i from. ap (λ (l : List ℕ). get_or l i 0) (found.synced c left);
        synced = λ last. absurd (omega (arith, last, each.0.batch.described.homes.some));
        time = leaves_at_start (λ c left. let same = found.synced c (now c left) in record {
          recovers = subst (Recovers v contents) (sym same)
              (recovers_of v (newer ++ batch ∷ []) contents (disk.seen start) found.recovers);
          same_length = ap length same;
          past = λ i from. ap (λ (l : List ℕ). get_or l i 0) same;
        });
      }

  -- a step
  module _ (steps : ℕ) (now : D) (stage : Stage) (bytes : List ℕ)
      (at : next_stage (after_steps v.slots batch steps) ≡ Some stage) (late : is_committed stage ≡ true)
      (way : IsOnWay disk v newer contents batch steps start now) where
    w : WriteOut
    w = after_steps v.slots batch steps

    own : IsBatch (geometry_of v) batch
    own = each.0.batch

    older : AllByRecursion (IsOlder (after_steps v.slots batch steps)) (found_in v.slots newer)
    older = older_at steps (committed-at (after_steps v.slots batch steps) stage at ∙ late)

    each_now : AllByRecursion (IsWriteOut (geometry_of v)) (after_steps v.slots batch steps ∷ found_in v.slots newer)
    each_now = (record { batch = own; described = refl; going = some_stage at }, each.1)

    order_now : AreInOrder (after_steps v.slots batch steps ∷ found_in v.slots newer)
    order_now = (older, order.1)

    tied : IsTied v (after_steps v.slots batch steps ∷ found_in v.slots newer) contents contents
        (disk.seen now) (disk.may_leave now)
    tied = subst (λ (l : List WriteOut). IsTied v l contents contents (disk.seen now) (disk.may_leave now))
        (ap (λ (o : Option Stage).
        option_map_or (λ (s : Stage). after_steps v.slots batch steps ∷ found_in v.slots newer) o
        (found_in v.slots newer)) at) way.tied

    -- what a crash leaves within it
    within : (c : List ℕ) → TornFromWork (work_at (geometry_of v) batch bytes stage) (disk.may_leave now) c
        → RecoversSame v contents (disk.seen start) c
    within c torn =
        let d = torn_step (geometry_of v) batch own steps bytes stage at late (disk.may_leave now) c torn in
        record {
          recovers = left_new v contents c stage late
              (oldest_within v contents contents (disk.seen now) (disk.may_leave now) bytes
              (after_steps v.slots batch steps)
              (found_in v.slots newer) each_now order_now none stage at late tied c torn);
          same_length = d.2 ∙ way.length_left d.0 d.1;
          past = λ i from. d.3 i from ∙ way.past d.0 d.1 i from;
        }

    pub time_step : (next : D) (done : Bool) → Did disk now (work_at (geometry_of v) batch bytes stage) done next
        → LeavesOnly disk.moment disk.left_since start next (RecoversSame v contents (disk.seen start))
    time_step next done did = leaves_on way.time did.time within

    module _ (next : D) (honest : disk.is_honest now)
        (did : Did disk now (work_at (geometry_of v) batch bytes stage) true next) where
      goes : (stage ≡ Finishing → ⊥)
          → IsTied v (after_steps v.slots batch (steps + 1) ∷ found_in v.slots newer) contents contents (disk.seen next)
          (disk.may_leave next)
      goes not_last = subst (λ (l : List ℕ).
          IsTied v (after_steps v.slots batch (steps + 1) ∷ found_in v.slots newer) contents contents
          l (disk.may_leave next))
          (sym (done_seen did honest refl))
          (oldest_after v contents contents (disk.seen now) (disk.may_leave now) bytes (after_steps v.slots batch steps)
          (found_in v.slots newer) each_now order_now none stage at late tied not_last (disk.may_leave next) did.left
          (did.durable honest refl))

      ends : stage ≡ Finishing
          → IsTied v (found_in v.slots newer) contents contents (disk.seen next) (disk.may_leave next)
      ends last =
          let sync : work_at (geometry_of v) batch bytes stage ≡ Sync = ap (work_at (geometry_of v) batch bytes) last in
          subst (λ (l : List ℕ). IsTied v (found_in v.slots newer) contents contents l (disk.may_leave next))
          (sym (done_seen did honest refl ∙ ap (worked (disk.seen now)) sync))
          (oldest_done v contents contents (disk.seen now) (disk.may_leave now) bytes (after_steps v.slots batch steps)
          (found_in v.slots newer) each_now order_now none stage at late tied last (disk.may_leave next)
          (did.durable honest refl sync))

      still_tied : (stage ≡ Finishing) ⊎ (stage ≡ Finishing → ⊥)
          → IsTied v (left_of (after_steps v.slots batch (steps + 1)) (found_in v.slots newer)) contents
          contents (disk.seen next)
          (disk.may_leave next)
      still_tied (inl last) =
          let k = length batch.homes in
          let d = descriptor_blocks v.slots in
          let is = stage_at-is k d steps (at ∙ ap Some last) in
          let end : stage_at k d (steps + 1) ≡ None = stage_from k d (steps + 1) None (omega (arith, is)) in
          subst (λ (l : List WriteOut). IsTied v l contents contents (disk.seen next) (disk.may_leave next))
          (sym (ap (λ (o : Option Stage).
          option_map_or (λ (s : Stage). after_steps v.slots batch (steps + 1) ∷ found_in v.slots newer) o
          (found_in v.slots newer)) end))
          (ends last)
      still_tied (inr not_last) =
          let following = late_next (geometry_of v)
          (after_steps v.slots batch steps) stage each_now.0 at late not_last in
          subst (λ (l : List WriteOut). IsTied v l contents contents (disk.seen next) (disk.may_leave next))
          (sym (ap (λ (o : Option Stage).
          option_map_or (λ (s : Stage). after_steps v.slots batch (steps + 1) ∷ found_in v.slots newer) o
          (found_in v.slots newer))
          following.at))
          (goes not_last)

      last_stage : (s : Stage) → IsAt (length batch.homes) (descriptor_blocks v.slots) steps (Some s)
          → all_steps v.slots batch ≤ steps + 1
          → s ≡ Finishing
      last_stage (Recording i) is last = absurd (omega (arith, is.0, is.1, last))
      last_stage (Describing i) is last = absurd (omega (arith, is.0, is.1, last))
      last_stage SyncingRecords is last = absurd (omega (arith, is, last))
      last_stage Opening is last = absurd (omega (arith, is, last))
      last_stage Committing is last = absurd (omega (arith, is, last))
      last_stage (Applying i) is last = absurd (omega (arith, is.0, is.1, last))
      last_stage SyncingHomes is last = absurd (omega (arith, is, last))
      last_stage Closing is last = absurd (omega (arith, is, last))
      last_stage Finishing is last = refl

      pub way_step : IsOnWay disk v newer contents batch (steps + 1) start next
      way_step = record {
        tied = still_tied (is_last stage);
        length_left = λ c left. (within c (did.left c left)).same_length;
        past = λ c left. (within c (did.left c left)).past;
        synced = λ last c left.
            let sync : work_at (geometry_of v) batch bytes stage ≡ Sync =
            ap (work_at (geometry_of v) batch bytes)
            (last_stage stage (stage_at-is (length batch.homes) (descriptor_blocks v.slots) steps at) last) in
            did.durable honest refl sync c left ∙ sym (done_seen did honest refl ∙ ap (worked (disk.seen now)) sync);
        time = time_step next true did;
      }

  -- after the last one
  pub way_end : (steps : ℕ) (now : D) → steps ≡ all_steps v.slots batch
      → disk.is_honest now → IsOnWay disk v newer contents batch steps start now
      → HoldsVolume disk v newer contents now
  way_end steps now last honest way =
      let k = length batch.homes in
      let d = descriptor_blocks v.slots in
      let end : stage_at k d steps ≡ None = stage_from k d steps None (omega (arith, last)) in
      record {
        honest = honest;
        recovers = tied_recovers v (disk.seen start) contents newer (disk.seen now)
            (disk.may_leave now) newer_open order.1
            (subst (λ (l : List WriteOut). IsTied v l contents contents (disk.seen now) (disk.may_leave now))
            (ap (λ (o : Option Stage).
            option_map_or (λ (s : Stage). after_steps v.slots batch steps ∷ found_in v.slots newer) o
            (found_in v.slots newer)) end) way.tied);
        synced = way.synced (omega (arith, last));
      }

-- ---- whatever the device held

-- the stage of a step after the one that commits
pub late_stage : (slots : ℕ) (batch : Batch) (n : ℕ) → committing_steps slots batch ≤ n → n < all_steps slots batch
    → (stage : Stage) × (next_stage (after_steps slots batch n) ≡ Some stage) × (is_committed stage ≡ true)
late_stage slots batch n from to = by (stage_at (length batch.homes) (descriptor_blocks slots) n) refl
    (stage_is (length batch.homes) (descriptor_blocks slots) n)
  where
    by : (o : Option Stage) → stage_at (length batch.homes) (descriptor_blocks slots) n ≡ o
        → IsAt (length batch.homes) (descriptor_blocks slots) n o
        → (stage : Stage) × (next_stage (after_steps slots batch n) ≡ Some stage) × (is_committed stage ≡ true)
    by None e at = absurd (omega (arith, at, to))
    by (Some (Recording i)) e at = absurd (omega (arith, at.0, at.1, from))
    by (Some (Describing i)) e at = absurd (omega (arith, at.0, at.1, from))
    by (Some SyncingRecords) e at = absurd (omega (arith, at, from))
    by (Some Opening) e at = absurd (omega (arith, at, from))
    by (Some Committing) e at = absurd (omega (arith, at, from))
    by (Some (Applying i)) e at = (Applying i, e, refl)
    by (Some SyncingHomes) e at = (SyncingHomes, e, refl)
    by (Some Closing) e at = (Closing, e, refl)
    by (Some Finishing) e at = (Finishing, e, refl)

-- its answer where no call fails
pub late_answer_of : (slots : ℕ) (batch : Batch) (n : ℕ) → committing_steps slots batch ≤ n
    → n < all_steps slots batch → answer_of (after_steps slots batch n) ≡ Broken
    → ⊥
late_answer_of slots batch n from to e =
    let s = late_stage slots batch n from to in
    by s.0 s.2 (sym (ap (λ (o : Option Stage). option_map_or (answer_at batch.mark) o Broken) s.1) ∙ e)
  where
    by : (stage : Stage) → is_committed stage ≡ true → answer_at batch.mark stage ≡ Broken → ⊥
    by (Recording i) late e = cc
    by (Describing i) late e = cc
    by SyncingRecords late e = cc
    by Opening late e = cc
    by Committing late e = cc
    by (Applying i) late e = cc
    by SyncingHomes late e = cc
    by Closing late e = cc
    by Finishing late e = cc

pub after_value : (f : FlushValue) (answer : Flushed) → answer ≢ Device → answer ≢ Broken
    → flush_after f answer ≡ record f { write_out = advanced_of f.write_out }
after_value f Going whole sane = refl
after_value f (Committed mark) whole sane = refl
after_value f (Done mark) whole sane = refl
after_value f Device whole sane = absurd (whole refl)
after_value f Broken whole sane = absurd (sane refl)

module _ {D : Type 0} (disk : Ghosts D) (g : GeometryValue) (batch : Batch) where
  k : ℕ
  k = length batch.homes

  pub first_step : (start : D) → IsBatch g batch
      → ((c : List ℕ) → disk.left_since start (disk.moment start) c → disk.may_leave start c)
      → IsUnderWay disk g batch (committing_steps g.slots batch) start start
  first_step start is_batch now = record {
    on_way = λ v newer contents same found. subst (λ (x : GeometryValue).
        IsOnWay disk v newer contents batch (committing_steps x.slots batch) start start) same
        (first_way disk v newer contents batch start found now);
    closed = λ honest last. absurd (omega (arith, last, is_batch.described.homes.some));
    others = λ honest i out apart. refl;
    honest = (λ h. h, λ h. h);
    same_length = refl;
    calls = λ few. let first =
        early_calls g batch (committing_steps g.slots batch) (omega arith) in omega (arith, first);
    faults = refl;
  }

  module _ (is_batch : IsBatch g batch) (steps : ℕ) (bytes : List ℕ) (start now next : D)
      (long : 4096 * g.blocks ≤ length (disk.seen start)) (from : committing_steps g.slots batch ≤ steps)
      (to : steps < all_steps g.slots batch)
      (under : IsUnderWay disk g batch steps start now) where
    at : (stage : Stage) × (next_stage (after_steps g.slots batch steps) ≡ Some stage) × (is_committed stage ≡ true)
    at = late_stage g.slots batch steps from to

    at_of : (v : SuperValue) → geometry_of v ≡ g → next_stage (after_steps v.slots batch steps) ≡ Some at.0
    at_of v same =
        subst (λ (x : GeometryValue). next_stage (after_steps x.slots batch steps) ≡ Some at.0) (sym same) at.1

    its_work : work_of g bytes (after_steps g.slots batch steps) ≡ work_at g batch bytes at.0
    its_work = ap (λ (o : Option Stage). option_map_or (work_at g batch bytes) o Nothing) at.1

    calls_so_far : calls_in_steps g batch steps + calls_of (work_at g batch bytes at.0)
        ≤ 3 * length batch.homes + descriptor_blocks g.slots + 6
    calls_so_far =
        let sum = calls_step g batch is_batch steps bytes at.0 at.1 in
        let most = calls_within g batch is_batch steps bytes (steps + 1) (omega (arith, to)) in
        omega (arith, sum, most)

    few_now : disk.calls_made start + finishing_calls batch < 2 ^ 64
        → disk.calls_made now + calls_of (work_at g batch bytes at.0) < 2 ^ 64
    few_now few = let made_so = under.calls few in omega (arith, few, made_so, calls_so_far)

    pub under_step : Did disk now (work_of g bytes (after_steps g.slots batch steps)) true next
        → IsUnderWay disk g batch (steps + 1) start next
    under_step did_it =
        let did = did_as disk its_work refl did_it in
        let whole : 4096 * g.blocks ≤ length (disk.seen now) = omega (arith, long, under.same_length) in
        record {
          on_way = λ v newer contents same found.
              way_step disk v newer contents batch start found steps now at.0 bytes (at_of v same) at.2
              (under.on_way v newer contents same found) next (under.honest.1 found.honest)
              (did_as disk (ap (λ (x : GeometryValue). work_at x batch bytes at.0) (sym same)) refl did);
          closed = λ honest last.
              ap (λ (l : List ℕ). get_or l (gate_byte g.slots batch) 0) (done_seen did (under.honest.1 honest) refl)
              ∙ closed_step g batch is_batch steps bytes at.0 at.1 at.2 (disk.seen now) whole
              (under.closed honest) last;
          others = λ honest i out apart.
              ap (λ (l : List ℕ). get_or l i 0) (done_seen did (under.honest.1 honest) refl)
              ∙ others_step g batch is_batch steps bytes at.0 at.1 at.2 (disk.seen now) whole i out apart
              ∙ under.others honest i out apart;
          honest = (λ h. under.honest.0 (did.honest.0 h), λ h. did.honest.1 (under.honest.1 h));
          same_length = did.same_length ∙ under.same_length;
          calls = λ few. let made_so = under.calls few in let more = did.calls (few_now few) in
              let sum = calls_step g batch is_batch steps bytes at.0 at.1 in omega (arith, made_so, more, sum);
          faults = did.faults ∙ under.faults;
        }

    pub under_failed : {T E : Type 0} (e : E)
        → Did disk now (work_of g bytes (after_steps g.slots batch steps)) false next
        → Finishes {T = T} {E = E} disk g batch start (Err e) next
    under_failed e did_it =
        let did = did_as disk its_work refl did_it in
        record {
          finished = λ v newer contents same found. tt;
          closed = λ honest. tt;
          time = λ v newer contents same found.
              time_step disk v newer contents batch start found steps now at.0 bytes (at_of v same) at.2
              (under.on_way v newer contents same found) next false
              (did_as disk (ap (λ (x : GeometryValue). work_at x batch bytes at.0) (sym same)) refl did);
          honest = (λ h. under.honest.0 (did.honest.0 h), λ h. did.honest.1 (under.honest.1 h));
          same_length = did.same_length ∙ under.same_length;
          calls = λ few. tt;
          most = λ few. let made_so = under.calls few in let more = failed_within (work_at g batch bytes at.0)
              (disk.calls_made now) (disk.calls_made next) (did.calls (few_now few)) in
              omega (arith, made_so, more, calls_so_far);
          faults = did.faults ∙ ap raised under.faults;
        }

  pub under_end : {E : Type 0} (steps : ℕ) (start now : D)
      → steps ≡ all_steps g.slots batch → IsUnderWay disk g batch steps start now
      → Finishes {T = Unit {0}} {E = E} disk g batch start (Ok tt) now
  under_end steps start now last under =
      let all = ap (calls_in_steps g batch) last ∙ all_calls g batch in
      let made_all : disk.calls_made start + finishing_calls batch < 2 ^ 64
      → disk.calls_made now ≡ disk.calls_made start + finishing_calls batch =
      λ few. (let so_far = under.calls few in omega (arith, so_far, all)) in
      record {
        finished = λ v newer contents same found. way_end disk v newer contents batch start found steps now
            (subst (λ (x : GeometryValue). steps ≡ all_steps x.slots batch)
            (sym same) last)
            (under.honest.1 found.honest) (under.on_way v newer contents same found);
        closed = λ honest. record { gate = under.closed honest (omega (arith, last)); others = under.others honest };
        time = λ v newer contents same found. (under.on_way v newer contents same found).time;
        honest = under.honest;
        same_length = under.same_length;
        calls = made_all;
        most = λ few. let made_so = made_all few in omega (arith, made_so);
        faults = under.faults;
      }
