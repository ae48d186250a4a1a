-- The write-outs of a volume whose open journals recovery has found.
use Rattle.std.proofs.Common.{◌≡◌, ◌≢◌, ℕ, ◌+◌, ◌<◌, inl, inr, Bool, true, false, not, cond, List}
use Rattle.std.proofs.Common.{[], ◌∷◌, ◌++◌, length, Some, refl, sym, ap, ◌∙◌, subst, arith}
use Rattle.std.specs.List.{AllByRecursion}
use Rattle.std.proofs.lemmas.Bool.{both_ways, or_from, not_from_true}
use Rattle.volume_codec.specs.Layout.{descriptor_block, descriptor_blocks, block_at}
use Rattle.volume_codec.specs.Descriptor.{descriptor_text}
use Rattle.volume_codec.specs.Super.{SuperValue, geometry_of}
use Rattle.volume_codec.specs.Recovery.{Batch, IsOpenBatch, AreFalling, AreOpen, has_journal, contents_in}
use Rattle.volume_codec.proofs.Batches.{IsAmong, each_among, one_batch, falling_among}
use Rattle.journal.specs.declared.stage.Stage.{Stage}
use Rattle.journal.specs.declared.stage.Stage.TheVariants.{Applying}
use Rattle.journal.specs.WriteOut.{WriteOut, committing_steps, next_stage, has_committed}
use Rattle.journal.specs.WriteOuts.{has_uncommitted}
use Rattle.journal.specs.Recovered.{RecoversBy}
use Rattle.journal.specs.inside.Sound.{IsWriteOut, IsOlder, AreInOrder}
use Rattle.journal.specs.inside.Tied.{Progress, progress_in, is_durable, durable_in}
use Rattle.journal.specs.inside.Tied.{is_under_way, IsWritten, AreWritten, IsTied}
use Rattle.journal.specs.inside.Finishing.{found_in}
use Rattle.journal.specs.inside.Queued.{committed_in}
use Rattle.journal.proofs.Alls.{all_map, all-append, all_of}
use Rattle.journal.proofs.RecoveredBlocks.{lacking}
use Rattle.journal.proofs.Batches.{committed_parts, committed-at}
use Rattle.journal.proofs.Blocks.{block_among}
use Rattle.journal.proofs.Stages.{stage_from}
use Rattle.journal.proofs.Tying.{progress-newest, progress_all, going_of}
use Rattle.journal.proofs.Firm.{durable_all}
use Rattle.journal.proofs.Leaving.{seen_recovers}
use Rattle.journal.proofs.Stepping.{durable_push, left_same}
use Rattle.journal.proofs.Sounding.{some_stage, order-push}

-- the write-outs of batches that were found
module _ (slots : ℕ) where
  pub applying_first : (batch : Batch) → 0 < length batch.homes
      → next_stage (committed_in slots batch) ≡ Some (Applying 0)
  applying_first batch some =
      stage_from (length batch.homes) (descriptor_blocks slots)
      (committing_steps slots batch) (Some (Applying 0)) (omega arith, some)

  pub found_committed : (batch : Batch) → 0 < length batch.homes → has_committed (committed_in slots batch) ≡ true
  found_committed batch some = committed-at (committed_in slots batch) (Applying 0) (applying_first batch some)

  all_found : (P : WriteOut → Type 0) (batches : List Batch)
      → ((a : Batch) → IsAmong a batches → P (committed_in slots a))
      → AllByRecursion P (found_in slots batches)
  all_found P [] each = tt
  all_found P (b ∷ older) each = all-append P (found_in slots older) (committed_in slots b ∷ [])
      (all_found P older (λ a among. each a (inr among))) (each b (inl refl), tt)

  -- the oldest of them
  pub found_last : (newer : List Batch) (b : Batch)
      → found_in slots (newer ++ b ∷ []) ≡ committed_in slots b ∷ found_in slots newer
  found_last [] b = refl
  found_last (x ∷ newer) b = ap (λ (l : List WriteOut). l ++ committed_in slots x ∷ []) (found_last newer b)

none_push : (batches : List WriteOut) (w : WriteOut) → has_uncommitted batches ≡ false → has_committed w ≡ true
    → has_uncommitted (batches ++ w ∷ []) ≡ false
none_push [] w none is = or_from (not (has_committed w)) false (not_from_true (has_committed w) is) refl
none_push (x ∷ batches) w none is =
    let parts = committed_parts x batches none in
    or_from (not (has_committed x)) (has_uncommitted (batches ++ w ∷ [])) (not_from_true (has_committed x) parts.0)
    (none_push batches w parts.1 is)

module _ (v : SuperValue) (seen : List ℕ) where
  some_homes : (a : Batch) → IsOpenBatch (geometry_of v) seen a → 0 < length a.homes
  some_homes a is = is.descriptor.described.homes.some

  durable_found : (batches : List Batch) → AllByRecursion (IsOpenBatch (geometry_of v) seen) batches
      → durable_in (progress_in (found_in v.slots batches)) ≡ batches
  durable_found [] each = refl
  durable_found (b ∷ older) each =
      ap durable_in (progress-newest (found_in v.slots older) (committed_in v.slots b) (Applying 0)
      (applying_first v.slots b (some_homes b each.0)))
      ∙ durable_push (progress_in (found_in v.slots older)) (record { batch = b; stage = Applying 0 })
      ∙ ap (λ (l : List Batch). b ∷ l) (durable_found older each.1)

  pub found_each : (batches : List Batch) → AllByRecursion (IsOpenBatch (geometry_of v) seen) batches
      → AllByRecursion (IsWriteOut (geometry_of v)) (found_in v.slots batches)
  found_each batches each = all_found v.slots (IsWriteOut (geometry_of v)) batches (λ a among.
      let is = each_among (IsOpenBatch (geometry_of v) seen) a batches each among in
      let r : IsWriteOut (geometry_of v) (committed_in v.slots a) = record {
        batch = record { there = is.there; described = is.descriptor.described };
        described = refl;
        going = some_stage (applying_first v.slots a (some_homes a is));
      } in r)

  pub found_none : (batches : List Batch) → AllByRecursion (IsOpenBatch (geometry_of v) seen) batches
      → has_uncommitted (found_in v.slots batches) ≡ false
  found_none [] each = refl
  found_none (b ∷ older) each =
      none_push (found_in v.slots older) (committed_in v.slots b) (found_none older each.1)
      (found_committed v.slots b (some_homes b each.0))

  pub found_order : (batches : List Batch) → AreOpen (geometry_of v) batches seen
      → Rattle.volume_codec.specs.Layout.IsGeometry (geometry_of v)
      → AreInOrder (found_in v.slots batches)
  found_order batches are is = by batches are.each are.falling
    where
      by : (bs : List Batch) → AllByRecursion (IsOpenBatch (geometry_of v) seen) bs → AreFalling bs
          → AreInOrder (found_in v.slots bs)
      by [] each falls = tt
      by (b ∷ older) each falls = order-push (found_in v.slots older) (committed_in v.slots b) (by older each.1 falls.1)
          (all_found v.slots (λ (x : WriteOut). IsOlder x (committed_in v.slots b)) older (λ a among.
          let own = each_among (IsOpenBatch (geometry_of v) seen) a older each.1 among in
          let lt : a.mark < b.mark = falling_among b a older falls among in
          let r : IsOlder (committed_in v.slots a) (committed_in v.slots b) = record {
            marks = lt;
            journals = λ e. let m = ap (λ (x : Batch). x.mark) (one_batch (geometry_of v) seen a b is own each.0 e) in
                absurd (omega (arith, m, lt));
            committed = found_committed v.slots a (some_homes a own);
            waits = λ e. inl (applying_first v.slots b (some_homes b each.0));
          } in r))

  -- a block of the descriptor of one of them
  block_said : {a : Batch} → IsOpenBatch (geometry_of v) seen a → (i : ℕ) → i < descriptor_blocks v.slots
      → block_at seen (descriptor_block v.slots a.journal + i)
      ≡ block_at (descriptor_text v.slots (record { mark = a.mark; homes = a.homes })) i
  block_said {a} is i lt =
      sym (block_among seen (descriptor_block v.slots a.journal) (descriptor_blocks v.slots) i lt)
      ∙ ap (λ (l : List ℕ). block_at l i) is.descriptor.spelled

  -- they are tied to the bytes
  written_each : (new : ℕ → List ℕ) (progress : List Progress)
      → AllByRecursion (λ (p : Progress). (l : List Batch) → IsWritten v new l p seen) progress
      → AreWritten v new seen progress
  written_each new [] all = tt
  written_each new (p ∷ newer) all = (all.0 (durable_in newer), written_each new newer all.1)

  -- each waits with its application
  waits : (P : Progress → Type 0) (batches : List Batch) → AllByRecursion (IsOpenBatch (geometry_of v) seen) batches
      → ((a : Batch) → IsOpenBatch (geometry_of v) seen a → P (record { batch = a; stage = Applying 0 }))
      → AllByRecursion P (progress_in (found_in v.slots batches))
  waits P batches each own = progress_all P (found_in v.slots batches)
      (all_found v.slots
      (λ (w : WriteOut). (s : Stage) → next_stage w ≡ Some s → P (record { batch = w.batch; stage = s }))
      batches (λ a among s e.
      let is = each_among (IsOpenBatch (geometry_of v) seen) a batches each among in
      subst (λ (t : Stage). P (record { batch = a; stage = t }))
      (same_stage (sym (applying_first v.slots a (some_homes a is)) ∙ e)) (own a is)))
    where
      same_stage : {x y : Stage} → Some x ≡ Some y → x ≡ y
      same_stage e = cc

  contents_same : (b : Bool) (contents : ℕ → List ℕ) → cond b contents contents ≡ contents
  contents_same true contents = refl
  contents_same false contents = refl

  pub found_tied : (contents : ℕ → List ℕ) (batches : List Batch) (may : List ℕ → Type 0)
      → RecoversBy v batches contents seen → ((c : List ℕ) → may c → c ≡ seen)
      → IsTied v (found_in v.slots batches) contents contents seen may
  found_tied contents batches may r only =
      let each = r.volume.journals.each in
      record {
        seen_is = record {
          super_block = r.volume.super_block;
          long = r.volume.long;
          written = written_each contents (progress_in (found_in v.slots batches))
              (waits (λ (p : Progress). (l : List Batch) → IsWritten v contents l p seen) batches each (λ a is l.
              let w : IsWritten v contents l (record { batch = a; stage = Applying 0 }) seen = record {
                records = λ i within less. absurd (omega (arith, less));
                descriptor = λ i within less. block_said is i within;
                homes = λ i within less. absurd (omega (arith, less));
                gate = is.gate;
              } in w));
          shut = λ j lt others opens. both_ways (has_journal batches j)
              (lacking batches j (subst (AllByRecursion (λ (b : Batch). b.journal ≢ j)) (durable_found batches each)
              (durable_all (λ (b : Batch). b.journal ≢ j) (progress_in (found_in v.slots batches))
              (all_map {P = λ (p : Progress). p.batch.journal ≢ j}
              {Q = λ (p : Progress). is_durable p.stage ≡ true → p.batch.journal ≢ j} (λ p other durable. other)
              (progress_in (found_in v.slots batches)) others))))
              (r.volume.journals.all j lt opens);
          contents = λ b home.
              ap (λ (f : ℕ → List ℕ). f b)
              (contents_same (is_under_way (progress_in (found_in v.slots batches))) contents)
              ∙ r.contents_are b home
              ∙ ap (λ (l : List Batch). contents_in v.slots l seen b) (sym (durable_found batches each));
          outside = all_of _ (progress_in (found_in v.slots batches)) (λ (p : Progress) early b none. refl);
        };
        left_are =
            λ c left. left_same v contents contents (progress_in (found_in v.slots batches)) seen c (only c left);
      }

  -- and say what the bytes recover to
  pub tied_recovers : (contents : ℕ → List ℕ) (batches : List Batch) (now : List ℕ) (may : List ℕ → Type 0)
      → AllByRecursion (IsOpenBatch (geometry_of v) seen) batches
      → AreInOrder (found_in v.slots batches) → IsTied v (found_in v.slots batches) contents contents now may
      → RecoversBy v batches contents now
  tied_recovers contents batches now may each ordered tied =
      subst (λ (l : List Batch). RecoversBy v l contents now) (durable_found batches each)
      (subst (λ (f : ℕ → List ℕ). RecoversBy v (durable_in (progress_in (found_in v.slots batches))) f now)
      (contents_same (is_under_way (progress_in (found_in v.slots batches))) contents)
      (seen_recovers v (progress_in (found_in v.slots batches))
      (going_of (geometry_of v) (found_in v.slots batches) (found_each batches each) ordered) contents contents now
      (waits (λ (p : Progress). is_durable p.stage ≡ true) batches each (λ a is. refl)) tied.seen_is))
