-- How write-outs stand with their device within a step and after one.
use Rattle.std.proofs.Common.{◌≡◌, ◌≢◌, ℕ, ◌<◌, ◌⊎◌, inl, inr, Bool, true, false, not, cond, List, [], ◌∷◌}
use Rattle.std.proofs.Common.{◌++◌, length, drop, map, get_or, Option, Some, None, refl, sym, ap, ◌∙◌, subst}
use Rattle.std.specs.Prelude.{MatchBool}
use Rattle.std.specs.List.{AllByRecursion}
use Rattle.std.specs.Option.{option_map_or, option_and_then}
use Rattle.std.proofs.lemmas.Bool.{both_ways, cases_Bool, or_from, or_parts, not_from_true}
use Rattle.volume_codec.specs.Layout.{descriptor_blocks}
use Rattle.volume_codec.specs.Super.{SuperValue, geometry_of}
use Rattle.volume_codec.specs.Recovery.{Batch, Recovers}
use Rattle.journal.specs.declared.stage.Stage.{Stage}
use Rattle.journal.specs.declared.stage.Stage.TheVariants.{Recording, Describing, SyncingRecords, Opening}
use Rattle.journal.specs.declared.stage.Stage.TheVariants.{Committing, Applying, SyncingHomes, Closing, Finishing}
use Rattle.journal.specs.declared.flushed.Flushed.{Flushed}
use Rattle.journal.specs.Stage.{is_committed, may_share, answer_at}
use Rattle.journal.specs.Work.{Work, Sync, work_at, worked, TornFromWork}
use Rattle.journal.specs.WriteOut.{WriteOut, next_stage, has_committed, advanced_of}
use Rattle.journal.specs.WriteOuts.{has_uncommitted, shares_syncs, is_at, moving, moved}
use Rattle.journal.specs.Crash.{LeftBefore, LeftWithin}
use Rattle.journal.specs.inside.Sound.{AreSound, IsWriteOut, IsOlder, AreInOrder}
use Rattle.journal.specs.inside.Tied.{Progress, progress_in, is_applied, is_under_way, IsTied}
use Rattle.journal.proofs.Alls.{all_map, all-append, all_front, all_back}
use Rattle.journal.proofs.Stages.{next_in, recording_within, describing_within, applying_within}
use Rattle.journal.proofs.Batches.{newest_of, current-newest, current-oldest, current-later, committed-at, at-is}
use Rattle.journal.proofs.Tying.{false_true, stage_of, AreGoing, at_stage, progress-oldest, progress-middle}
use Rattle.journal.proofs.Tying.{progress-newest, progress_all, going_of, under_way-is}
use Rattle.journal.proofs.Leaving.{is_last, left_recovers}
use Rattle.journal.proofs.Stepping.{IsTiedAt, IsPlaced, left_same, not_way, all_committed, waiting, newer_than_it}
use Rattle.journal.proofs.Stepping.{step_after, step_within, finish_step, is_sync, before_within, outcome}
use Rattle.journal.proofs.Stepping.{outcome_before}
use Rattle.journal.proofs.Sounding.{next_from, early_next, late_next, newest_order, newest_each}
use Rattle.journal.proofs.Sounding.{IsOneOf, none_older, older_of, one_order, one_each}
use Rattle.journal.proofs.Moving.{AreSyncing, None_syncs, Homes_syncs, Records_syncs, Both_sync, AllMove}
use Rattle.journal.proofs.Moving.{Moves, By_newest, By_one, By_all, moves_of}
use Rattle.journal.proofs.Answering.{stage_committed, work_in, answer_in, after_in}
use Rattle.journal.proofs.Answering.{stage_in, IsNewRecord, work_is, answer_is, stage_in-is, home_is}
use Rattle.journal.proofs.Answering.{early_answer, late_answer, older_committed, homes_one, homes_sound}
use Rattle.journal.proofs.Answering.{oldest_ends, ends_oldest, shared_after}

-- where none of them isn't committed
none_among : (older : List WriteOut) (w : WriteOut) (newer : List WriteOut) → has_uncommitted older ≡ false
    → has_committed w ≡ true → has_uncommitted newer ≡ false → has_uncommitted (older ++ w ∷ newer) ≡ false
none_among [] w newer olds is none =
    or_from (not (has_committed w)) (has_uncommitted newer) (not_from_true (has_committed w) is) none
none_among (x ∷ older) w newer olds is none =
    let parts = or_parts (not (has_committed x)) (has_uncommitted older) olds in
    or_from (not (has_committed x)) (has_uncommitted (older ++ w ∷ newer)) parts.0
    (none_among older w newer parts.1 is none)

module _ (v : SuperValue) (old new : ℕ → List ℕ) where
  -- by the stages of the next steps
  pub tied_at : (batches : List WriteOut) (progress : List Progress) (seen : List ℕ) (may : List ℕ → Type 0)
      → progress_in batches ≡ progress → IsTied v batches old new seen may
      → IsTiedAt v old new progress seen may
  tied_at batches progress seen may e tied = subst (λ (l : List Progress). IsTiedAt v old new l seen may) e
      (record { seen_is = tied.seen_is; left_are = tied.left_are })

  pub tied_of : (batches : List WriteOut) (progress : List Progress) (seen : List ℕ) (may : List ℕ → Type 0)
      → progress_in batches ≡ progress → IsTiedAt v old new progress seen may
      → IsTied v batches old new seen may
  tied_of batches progress seen may e tied =
      let at = subst (λ (l : List Progress). IsTiedAt v old new l seen may) (sym e) tied in
      record { seen_is = at.seen_is; left_are = at.left_are }

  -- ---- what a crash leaves

  -- where each batch is committed
  pub left_committed : (progress : List Progress) (seen c : List ℕ) (may : List ℕ → Type 0)
      → AreGoing (geometry_of v) progress → is_under_way progress ≡ false → IsTiedAt v old new progress seen may → may c
      → Recovers v new c
  left_committed progress seen c may going none tied left =
      elim (left_recovers v progress going old new seen c tied.seen_is (tied.left_are c left)) [
        | inl kept ↦ subst (λ (f : ℕ → List ℕ). Recovers v f c) (ap (λ b. cond b old new) none) kept
        | inr opens ↦ opens.1
      ]

  pub before_committed : (o : Option Stage) (c : List ℕ) → option_map_or is_committed o true ≡ true → Recovers v new c
      → LeftBefore v old new o c
  before_committed None c late is = is
  before_committed (Some s) c late is =
      outcome_before v old new s c
      (subst (λ b. MatchBool b (Recovers v new c) (Recovers v old c ⊎ ((s ≡ Committing) × Recovers v new c)))
      (sym late) is)

  -- whether syncs are shared
  abbrev pub sharing : Bool
  sharing = shares_syncs v.layout

  -- once all is sure nothing is loose
  pub tied_synced : (batches : List WriteOut) (seen : List ℕ) (may may' : List ℕ → Type 0)
      → IsTied v batches old new seen may
      → ((c : List ℕ) → may' c → c ≡ seen) → IsTied v batches old new seen may'
  tied_synced batches seen may may' tied synced = record {
    seen_is = tied.seen_is;
    left_are = λ c left. left_same v old new (progress_in batches) seen c (synced c left);
  }

  module _ (seen : List ℕ) (may : List ℕ → Type 0) (bytes : List ℕ) where
    -- what a crash may leave within the next step
    abbrev pub IsWithin : List WriteOut → Type 0
    IsWithin batches = (c : List ℕ) → TornFromWork (work_in (geometry_of v) bytes batches) may c
        → LeftWithin v old new (stage_in batches) c

    -- the write-outs are tied after the next step, where its device calls succeed
    abbrev pub GoesOn : List WriteOut → Type 1
    GoesOn batches =
        (may' : List ℕ → Type 0) → ((c : List ℕ) → may' c → TornFromWork (work_in (geometry_of v) bytes batches) may c)
        → (work_in (geometry_of v) bytes batches ≡ Sync → (c : List ℕ) → may' c → c ≡ seen)
        → IsTied v (after_in sharing (answer_in sharing batches) batches) old new
        (worked seen (work_in (geometry_of v) bytes batches)) may'

    -- by the write-out whose step comes next
    steps_as : (batches after : List WriteOut) (w : WriteOut) (s : Stage) → moving sharing batches ≡ Some w
        → next_stage w ≡ Some s → after_in sharing (answer_in sharing batches) batches ≡ after
        → ((c : List ℕ) → TornFromWork (work_at (geometry_of v) w.batch bytes s) may c
        → LeftWithin v old new (stage_in batches) c)
        → ((may' : List ℕ → Type 0)
        → ((c : List ℕ) → may' c → TornFromWork (work_at (geometry_of v) w.batch bytes s) may c)
        → (work_at (geometry_of v) w.batch bytes s ≡ Sync → (c : List ℕ) → may' c → c ≡ seen)
        → IsTied v after old new (worked seen (work_at (geometry_of v) w.batch bytes s)) may')
        → IsWithin batches × GoesOn batches
    steps_as batches after w s is at next within goes =
        let work = work_is (geometry_of v) bytes batches w s is at in (
          λ c torn. within c (subst (λ (x : Work). TornFromWork x may c) work torn),
          λ may' left durable.
              subst (λ (x : Work).
              IsTied v (after_in sharing (answer_in sharing batches) batches) old new (worked seen x) may')
              (sym work)
              (subst (λ (l : List WriteOut).
              IsTied v l old new (worked seen (work_at (geometry_of v) w.batch bytes s)) may')
              (sym next)
              (goes may' (λ c may_c. subst (λ (x : Work). TornFromWork x may c) work (left c may_c))
              (λ e. durable (work ∙ e)))),
        )

    -- ---- the newest, which isn't committed

    module _ (others : List WriteOut) (w : WriteOut) (s : Stage) (at : next_stage w ≡ Some s)
        (early : is_committed s ≡ false) (each : AllByRecursion (IsWriteOut (geometry_of v)) (others ++ w ∷ []))
        (ordered : AreInOrder (others ++ w ∷ [])) (older : AllByRecursion (λ x. IsOlder x w) others)
        (tied : IsTied v (others ++ w ∷ []) old new seen may) where
      newest_is : IsWriteOut (geometry_of v) w
      newest_is = (all_back (IsWriteOut (geometry_of v)) others (w ∷ []) each).0

      newest_goes : next_stage (advanced_of w) ≡ Some (next_in v.slots w.batch s)
      newest_goes = next_from (geometry_of v) w s newest_is at
          (λ e. both_ways (is_committed s) early (ap is_committed e))

      newest_going : AreGoing (geometry_of v) (progress_in others ++ at_stage w s ∷ [])
      newest_going = subst (AreGoing (geometry_of v)) (progress-newest others w s at)
          (going_of (geometry_of v) (others ++ w ∷ []) each ordered)

      newest_now : IsTiedAt v old new (progress_in others ++ at_stage w s ∷ []) seen may
      newest_now = tied_at (others ++ w ∷ []) _ seen may (progress-newest others w s at) tied

      pub newest_before : (c : List ℕ) → may c → LeftBefore v old new (Some s) c
      newest_before c left = outcome_before v old new s c
          (outcome v old new (progress_in others) [] w.batch s seen c may newest_going
          (λ late. absurd (both_ways (is_committed s) early late)) newest_now left)

      newest_next : AreGoing (geometry_of v) (progress_in others ++ at_stage w (next_in v.slots w.batch s) ∷ [])
      newest_next =
          let next = early_next (geometry_of v) w s newest_is at early in
          subst (AreGoing (geometry_of v))
          (progress-newest others (advanced_of w) (next_in v.slots w.batch s) newest_goes)
          (going_of (geometry_of v) (others ++ advanced_of w ∷ []) (newest_each (geometry_of v) others w next each)
          (newest_order others w next ordered older))

      newest_none : (t : Stage) → is_committed t ≡ true → is_under_way (progress_in others ++ at_stage w t ∷ []) ≡ false
      newest_none t late = not_way (progress_in others ++ at_stage w t ∷ [])
          (all-append (λ (p : Progress). is_committed p.stage ≡ true) (progress_in others) (at_stage w t ∷ [])
          (all_committed (progress_in others)
          (under_way-is (geometry_of v) others (all_front (IsWriteOut (geometry_of v)) others (w ∷ []) each)
          ∙ older_committed others w older)) (late, tt))

      newest_placed : (t : Stage) → is_committed t ≡ false
          → ((i : ℕ) → t ≡ Recording i
          → (i < length w.batch.homes) × (length bytes ≡ 4096) × (bytes ≡ new (get_or w.batch.homes i 0)))
          → ((i : ℕ) → t ≡ Describing i → i < descriptor_blocks v.slots)
          → IsPlaced v old new (progress_in others) [] w.batch seen may bytes t
      newest_placed (Recording i) e record_is place = record_is i refl
      newest_placed (Describing i) e record_is place = place i refl
      newest_placed SyncingRecords e record_is place = tt
      newest_placed Opening e record_is place = tt
      newest_placed Committing e record_is place = refl
      newest_placed (Applying i) e record_is place = false_true (sym e)
      newest_placed SyncingHomes e record_is place = false_true (sym e)
      newest_placed Closing e record_is place = false_true (sym e)
      newest_placed Finishing e record_is place = false_true (sym e)

      pub newest_after : IsPlaced v old new (progress_in others) [] w.batch seen may bytes s
          → (may' : List ℕ → Type 0)
          → ((c : List ℕ) → may' c → TornFromWork (work_at (geometry_of v) w.batch bytes s) may c)
          → (work_at (geometry_of v) w.batch bytes s ≡ Sync → (c : List ℕ) → may' c → c ≡ seen)
          → IsTied v (others ++ advanced_of w ∷ []) old new (worked seen (work_at (geometry_of v) w.batch bytes s)) may'
      newest_after placed may' left durable = tied_of (others ++ advanced_of w ∷ [])
          (progress_in others ++ at_stage w (next_in v.slots w.batch s) ∷ [])
          (worked seen (work_at (geometry_of v) w.batch bytes s)) may'
          (progress-newest others (advanced_of w) (next_in v.slots w.batch s) newest_goes)
          (step_after v old new (progress_in others) [] w.batch seen may bytes s may'
          (record { going = newest_going; going' = newest_next; tied = newest_now }) placed left durable)

      newest_steps : length bytes ≡ 4096 → moving sharing (others ++ w ∷ []) ≡ Some w
          → moved sharing (others ++ w ∷ []) ≡ others ++ advanced_of w ∷ []
          → IsNewRecord sharing new bytes (others ++ w ∷ [])
          → IsWithin (others ++ w ∷ []) × GoesOn (others ++ w ∷ [])
      newest_steps size mover after is_new =
          let is = current-newest others w (committed-at w s at ∙ early) in
          let placed = newest_placed s early (λ i same. (
            recording_within (length w.batch.homes) w.described w.steps i (at ∙ ap Some same),
            size,
            is_new (get_or w.batch.homes i 0)
                (home_is sharing (others ++ w ∷ []) w i mover (at ∙ ap Some same)),
          )) (λ i same. subst (λ d. i < d) newest_is.described
          (describing_within (length w.batch.homes) w.described w.steps i (at ∙ ap Some same))) in
          steps_as (others ++ w ∷ []) (others ++ advanced_of w ∷ []) w s mover at
          (ap (λ (a : Flushed). after_in sharing a (others ++ w ∷ []))
          (answer_is sharing (others ++ w ∷ []) w s mover at)
          ∙ early_answer sharing w.batch.mark s (others ++ w ∷ []) early ∙ after)
          (λ c torn. subst (λ (o : Option Stage). LeftWithin v old new o c)
          (sym (stage_in-is (others ++ w ∷ []) w s is at))
          (step_within v old new (progress_in others) [] w.batch seen may bytes s newest_going (λ other. newest_next)
          (λ other. placed) newest_none newest_now c torn))
          (newest_after placed)

  -- ---- what a crash leaves before the next step

  module _ (seen : List ℕ) (may : List ℕ → Type 0) where
    pub left_by : (batches : List WriteOut) (c : List ℕ) → AllByRecursion (IsWriteOut (geometry_of v)) batches
        → AreInOrder batches → IsTied v batches old new seen may → may c
        → LeftBefore v old new (stage_in batches) c
    left_by batches c each ordered tied left = elim (cases_Bool (has_uncommitted batches)) [
      | inl has ↦
          (let n = newest_of batches ordered has in
          let are_each = subst (AllByRecursion (IsWriteOut (geometry_of v))) n.are each in
          let s = stage_of n.newest (all_back (IsWriteOut (geometry_of v)) n.others (n.newest ∷ []) are_each).0.going in
          let early : is_committed s.0 ≡ false = sym (committed-at n.newest s.0 s.1) ∙ n.uncommitted in
          subst (λ (o : Option Stage). LeftBefore v old new o c)
          (sym (ap stage_in n.are
          ∙ stage_in-is (n.others ++ n.newest ∷ []) n.newest s.0
          (current-newest n.others n.newest n.uncommitted) s.1))
          (newest_before seen may [] n.others n.newest s.0 s.1 early are_each
          (subst AreInOrder n.are ordered) n.older
          (subst (λ (l : List WriteOut). IsTied v l old new seen may) n.are tied) c left))
      | inr none ↦ before_committed (stage_in batches) c (stage_committed batches none)
          (left_committed (progress_in batches) seen c may (going_of (geometry_of v) batches each ordered)
          (under_way-is (geometry_of v) batches each ∙ none)
          (tied_at batches (progress_in batches) seen may refl tied) left)
    ]

    pub left_before : (next : ℕ) (batches : List WriteOut) (c : List ℕ)
        → AreSound (geometry_of v) next batches → IsTied v batches old new seen may → may c
        → LeftBefore v old new (stage_in batches) c
    left_before next batches c sound tied left = left_by batches c sound.each sound.ordered tied left

  -- ---- one that is committed, among others

  module _ (seen : List ℕ) (may : List ℕ → Type 0) (bytes : List ℕ) where
    -- the last step of the oldest
    pub ended : (w : WriteOut) (newer : List WriteOut) → AllByRecursion (IsWriteOut (geometry_of v)) (w ∷ newer)
        → AreInOrder (w ∷ newer) → next_stage w ≡ Some Finishing → IsTied v (w ∷ newer) old new seen may
        → (may' : List ℕ → Type 0) → ((c : List ℕ) → may' c → c ≡ seen) → IsTied v newer old new seen may'
    ended w newer each ordered at tied may' synced = tied_of newer (progress_in newer) seen may' refl
        (finish_step v old new w.batch (progress_in newer) seen may may'
        (going_of (geometry_of v) newer each.1 ordered.1)
        (tied_at (w ∷ newer) (at_stage w Finishing ∷ progress_in newer) seen may
        (progress-oldest w newer Finishing at) tied) synced)

    module _ (older : List WriteOut) (w : WriteOut) (newer : List WriteOut)
        (each : AllByRecursion (IsWriteOut (geometry_of v)) (older ++ w ∷ newer))
        (ordered : AreInOrder (older ++ w ∷ newer)) (s : Stage) (is : IsOneOf older w s)
        (tied : IsTied v (older ++ w ∷ newer) old new seen may) where
      own : IsWriteOut (geometry_of v) w
      own = (all_back (IsWriteOut (geometry_of v)) older (w ∷ newer) each).0

      one_going : AreGoing (geometry_of v) (progress_in older ++ at_stage w s ∷ progress_in newer)
      one_going = subst (AreGoing (geometry_of v)) (progress-middle older w newer s is.at)
          (going_of (geometry_of v) (older ++ w ∷ newer) each ordered)

      next_at : s ≢ Finishing → next_stage (advanced_of w) ≡ Some (next_in v.slots w.batch s)
      next_at not_last = next_from (geometry_of v) w s own is.at not_last

      each_next : s ≢ Finishing → AllByRecursion (IsWriteOut (geometry_of v)) (older ++ advanced_of w ∷ newer)
      each_next not_last = one_each (geometry_of v) older w newer s is
          (late_next (geometry_of v) w s own is.at is.late not_last) each

      order_next : s ≢ Finishing → AreInOrder (older ++ advanced_of w ∷ newer)
      order_next not_last = one_order (geometry_of v) older w newer s is
          (late_next (geometry_of v) w s own is.at is.late not_last) own not_last ordered

      one_next : s ≢ Finishing
          → AreGoing (geometry_of v) (progress_in older ++ at_stage w (next_in v.slots w.batch s) ∷ progress_in newer)
      one_next not_last = subst (AreGoing (geometry_of v))
          (progress-middle older (advanced_of w) newer (next_in v.slots w.batch s) (next_at not_last))
          (going_of (geometry_of v) (older ++ advanced_of w ∷ newer) (each_next not_last) (order_next not_last))

      one_now : IsTiedAt v old new (progress_in older ++ at_stage w s ∷ progress_in newer) seen may
      one_now = tied_at (older ++ w ∷ newer) (progress_in older ++ at_stage w s ∷ progress_in newer) seen may
          (progress-middle older w newer s is.at) tied

      one_placed : s ≢ Finishing
          → IsPlaced v old new (progress_in older) (progress_in newer) w.batch seen may bytes s
      one_placed not_last = by s refl is.late
        where
          by : (t : Stage) → s ≡ t → is_committed t ≡ true
              → IsPlaced v old new (progress_in older) (progress_in newer) w.batch seen may bytes t
          by (Recording i) e late = false_true late
          by (Describing i) e late = false_true late
          by SyncingRecords e late = false_true late
          by Opening e late = false_true late
          by Committing e late = false_true late
          by (Applying i) e late = (
            applying_within (length w.batch.homes) w.described w.steps i (is.at ∙ ap Some e),
            progress_all (λ (q : Progress). is_applied q.stage ≡ true) older
                (all_map {P = λ x. is_at is_applied x ≡ true}
                {Q = λ x. (t : Stage) → next_stage x ≡ Some t → is_applied t ≡ true}
                (λ x sure t at_t. sym (at-is is_applied x t at_t) ∙ sure) older is.sure),
            waiting (at_stage w s) (progress_in newer)
                (newer_than_it (progress_in older) (progress_in newer) (at_stage w s) one_going.ordered)
                (ap is_applied e),
          )
          by SyncingHomes e late = tt
          by Closing e late =
              ap progress_in (none_older older w (is.at ∙ ap Some e) (older_of older w newer ordered))
          by Finishing e late = absurd (not_last e)

      pub one_after : s ≢ Finishing → (may' : List ℕ → Type 0)
          → ((c : List ℕ) → may' c → TornFromWork (work_at (geometry_of v) w.batch bytes s) may c)
          → (work_at (geometry_of v) w.batch bytes s ≡ Sync → (c : List ℕ) → may' c → c ≡ seen)
          → IsTied v (older ++ advanced_of w ∷ newer) old new
          (worked seen (work_at (geometry_of v) w.batch bytes s)) may'
      one_after not_last may' left durable =
          tied_of (older ++ advanced_of w ∷ newer)
          (progress_in older ++ at_stage w (next_in v.slots w.batch s) ∷ progress_in newer)
          (worked seen (work_at (geometry_of v) w.batch bytes s)) may'
          (progress-middle older (advanced_of w) newer (next_in v.slots w.batch s) (next_at not_last))
          (step_after v old new (progress_in older) (progress_in newer) w.batch seen may bytes s may'
          (record { going = one_going; going' = one_next not_last; tied = one_now })
          (one_placed not_last) left durable)

      -- what a crash leaves within its step: what the newest decides, where that isn't committed
      pub one_within : (c : List ℕ) → TornFromWork (work_at (geometry_of v) w.batch bytes s) may c
          → LeftWithin v old new (stage_in (older ++ w ∷ newer)) c
      one_within c torn = elim (is_sync v old new (geometry_of v) w.batch bytes s) [
        | inl syncs ↦ before_within v old new (stage_in (older ++ w ∷ newer)) c
            (left_by seen may (older ++ w ∷ newer) c each ordered tied
            (subst (λ (work : Work). TornFromWork work may c) syncs torn))
        | inr writes ↦
            (let may' = TornFromWork (work_at (geometry_of v) w.batch bytes s) may in
            let not_last = writes.2 in
            let next = one_after not_last may' (λ d t. t) (λ e d t. absurd (writes.0 e)) in
            before_within v old new (stage_in (older ++ w ∷ newer)) c
            (elim (cases_Bool (has_uncommitted newer)) [
              | inl has ↦ subst (λ (o : Option WriteOut). LeftBefore v old new (option_and_then next_stage o) c)
                  (current-later older (advanced_of w) newer has ∙ sym (current-later older w newer has))
                  (left_by (worked seen (work_at (geometry_of v) w.batch bytes s)) may'
                  (older ++ advanced_of w ∷ newer) c (each_next not_last) (order_next not_last) next torn)
              | inr none ↦
                  (let following = late_next (geometry_of v) w s own is.at is.late not_last in
                  let olds = older_committed older w (older_of older w newer ordered) in
                  before_committed (stage_in (older ++ w ∷ newer)) c
                  (stage_committed (older ++ w ∷ newer)
                  (none_among older w newer olds (committed-at w s is.at ∙ is.late) none))
                  (left_committed (progress_in (older ++ advanced_of w ∷ newer))
                  (worked seen (work_at (geometry_of v) w.batch bytes s)) c may'
                  (going_of (geometry_of v) (older ++ advanced_of w ∷ newer) (each_next not_last)
                  (order_next not_last))
                  (under_way-is (geometry_of v) (older ++ advanced_of w ∷ newer) (each_next not_last)
                  ∙ none_among older (advanced_of w) newer olds
                  (committed-at (advanced_of w) following.stage following.at ∙ following.late) none)
                  (tied_at (older ++ advanced_of w ∷ newer) (progress_in (older ++ advanced_of w ∷ newer))
                  (worked seen (work_at (geometry_of v) w.batch bytes s)) may' refl next) torn))
            ]))
      ]

      one_steps : moving sharing (older ++ w ∷ newer) ≡ Some w
          → moved sharing (older ++ w ∷ newer) ≡ older ++ advanced_of w ∷ newer
          → IsWithin seen may bytes (older ++ w ∷ newer) × GoesOn seen may bytes (older ++ w ∷ newer)
      one_steps mover after =
          let answered = ap (λ (a : Flushed). after_in sharing a (older ++ w ∷ newer))
          (answer_is sharing (older ++ w ∷ newer) w s mover is.at) in
          elim (is_last s) [
            | inr not_last ↦
                steps_as seen may bytes (older ++ w ∷ newer) (older ++ advanced_of w ∷ newer) w s mover is.at
                (answered ∙ late_answer sharing w.batch.mark s (older ++ w ∷ newer) is.late not_last ∙ after) one_within
                (one_after not_last)
            | inl last ↦
                (let none = ends_oldest older w s is last in
                let syncs : work_at (geometry_of v) w.batch bytes s ≡ Sync =
                ap (work_at (geometry_of v) w.batch bytes) last in
                steps_as seen may bytes (older ++ w ∷ newer) newer w s mover is.at
                (answered ∙ ap (λ (t : Stage). after_in sharing (answer_at w.batch.mark t) (older ++ w ∷ newer)) last
                ∙ ap (drop 1) (after ∙ ap (λ (l : List WriteOut). l ++ advanced_of w ∷ newer) none)) one_within
                (λ may' left durable. subst (λ (x : Work). IsTied v newer old new (worked seen x) may') (sym syncs)
                (ended w newer
                (subst (λ (l : List WriteOut). AllByRecursion (IsWriteOut (geometry_of v)) (l ++ w ∷ newer)) none each)
                (subst (λ (l : List WriteOut). AreInOrder (l ++ w ∷ newer)) none ordered)
                (is.at ∙ ap Some last)
                (subst (λ (l : List WriteOut). IsTied v (l ++ w ∷ newer) old new seen may) none tied) may'
                (durable syncs))))
          ]

    -- ---- the oldest, where all are committed

    module _ (w : WriteOut) (newer : List WriteOut) (each : AllByRecursion (IsWriteOut (geometry_of v)) (w ∷ newer))
        (ordered : AreInOrder (w ∷ newer)) (none : has_uncommitted newer ≡ false)
        (s : Stage) (at : next_stage w ≡ Some s) (late : is_committed s ≡ true)
        (tied : IsTied v (w ∷ newer) old new seen may) where
      oldest_is : IsOneOf [] w s
      oldest_is = record { at = at; late = late; sure = tt; placed = inr refl }

      -- what a crash leaves within its step
      pub oldest_within : (c : List ℕ) → TornFromWork (work_at (geometry_of v) w.batch bytes s) may c
          → LeftWithin v old new (Some s) c
      oldest_within c torn = subst (λ (o : Option Stage). LeftWithin v old new o c)
          (stage_in-is (w ∷ newer) w s (current-oldest w newer none) at)
          (one_within [] w newer each ordered s oldest_is tied c torn)

      pub oldest_after : s ≢ Finishing → (may' : List ℕ → Type 0)
          → ((c : List ℕ) → may' c → TornFromWork (work_at (geometry_of v) w.batch bytes s) may c)
          → (work_at (geometry_of v) w.batch bytes s ≡ Sync → (c : List ℕ) → may' c → c ≡ seen)
          → IsTied v (advanced_of w ∷ newer) old new (worked seen (work_at (geometry_of v) w.batch bytes s)) may'
      oldest_after = one_after [] w newer each ordered s oldest_is tied

      pub oldest_done : s ≡ Finishing → (may' : List ℕ → Type 0) → ((c : List ℕ) → may' c → c ≡ seen)
          → IsTied v newer old new seen may'
      oldest_done last may' synced = ended w newer each ordered (at ∙ ap Some last) tied may' synced

    -- ---- a sync of all

    syncs_at : (batch : Batch) (s : Stage) → may_share s ≡ true → work_at (geometry_of v) batch bytes s ≡ Sync
    syncs_at batch (Recording i) e = false_true e
    syncs_at batch (Describing i) e = false_true e
    syncs_at batch SyncingRecords e = refl
    syncs_at batch Opening e = false_true e
    syncs_at batch Committing e = false_true e
    syncs_at batch (Applying i) e = false_true e
    syncs_at batch SyncingHomes e = refl
    syncs_at batch Closing e = false_true e
    syncs_at batch Finishing e = refl

    module _ (next : ℕ) (synced : (c : List ℕ) → may c → c ≡ seen) where
      homes_tied : (h : WriteOut) (newer : List WriteOut) → next_stage h ≡ Some SyncingHomes
          → AreSound (geometry_of v) next (h ∷ newer) → IsTied v (h ∷ newer) old new seen may
          → IsTied v (advanced_of h ∷ newer) old new seen may
      homes_tied h newer at sound tied = one_after [] h newer sound.each sound.ordered SyncingHomes
          (homes_one (geometry_of v) next h at) tied (λ e. cc) may (λ c left. left) (λ e. synced)

      records_tied : (others : List WriteOut) (r : WriteOut) → next_stage r ≡ Some SyncingRecords
          → AllByRecursion (λ x. IsOlder x r) others → AreSound (geometry_of v) next (others ++ r ∷ [])
          → IsTied v (others ++ r ∷ []) old new seen may
          → IsTied v (others ++ advanced_of r ∷ []) old new seen may
      records_tied others r at older sound tied = newest_after seen may bytes others r SyncingRecords at refl sound.each
          sound.ordered older tied tt may (λ c left. left) (λ e. synced)

      syncing_tied : (l : List WriteOut) → AreSyncing l → AreSound (geometry_of v) next l
          → IsTied v l old new seen may → IsTied v (map advanced_of l) old new seen may
      syncing_tied l None_syncs sound tied = tied
      syncing_tied l (Homes_syncs h at) sound tied = homes_tied h [] at sound tied
      syncing_tied l (Records_syncs r at) sound tied = records_tied [] r at tt sound tied
      syncing_tied l (Both_sync h r at_h at_r) sound tied =
          let first = homes_sound (geometry_of v) next h (r ∷ []) at_h sound in
          records_tied (advanced_of h ∷ []) r at_r (first.ordered.0.0, tt) first
          (homes_tied h (r ∷ []) at_h sound tied)

  module _ (seen : List ℕ) (may : List ℕ → Type 0) (bytes : List ℕ) (next : ℕ) where
    all_steps : (batches : List WriteOut) → AllMove sharing batches → AreSound (geometry_of v) next batches
        → IsTied v batches old new seen may
        → IsWithin seen may bytes batches × GoesOn seen may bytes batches
    all_steps batches all sound tied =
        let syncs = syncs_at seen may bytes all.oldest.batch all.stage all.syncs in
        let within : (c : List ℕ) → TornFromWork (work_at (geometry_of v) all.oldest.batch bytes all.stage) may c
        → LeftWithin v old new (stage_in batches) c = λ c torn. before_within v old new (stage_in batches) c
        (left_before seen may next batches c sound tied
        (subst (λ (work : Work). TornFromWork work may c) syncs torn)) in
        elim (shared_after sharing batches all) [
          | inl ends ↦ steps_as seen may bytes batches (map advanced_of ends.1) all.oldest all.stage all.mover all.at
              ends.5 within
              (λ may' left durable. subst (λ (x : Work). IsTied v (map advanced_of ends.1) old new (worked seen x) may')
              (sym syncs)
              (let before = subst (AreSound (geometry_of v) next) ends.2 sound in
              syncing_tied seen may' bytes next (durable syncs) ends.1 ends.4
              (oldest_ends (geometry_of v) next ends.0 ends.1 before)
              (ended seen may bytes ends.0 ends.1 before.each before.ordered ends.3
              (subst (λ (l : List WriteOut). IsTied v l old new seen may) ends.2 tied) may' (durable syncs))))
          | inr goes ↦ steps_as seen may bytes batches (map advanced_of batches) all.oldest all.stage all.mover all.at
              goes.1 within
              (λ may' left durable.
              subst (λ (x : Work). IsTied v (map advanced_of batches) old new (worked seen x) may')
              (sym syncs)
              (syncing_tied seen may' bytes next (durable syncs) batches goes.0 sound
              (tied_synced batches seen may may' tied (durable syncs))))
        ]

    -- ---- of any write-outs

    pub steps_of : (batches : List WriteOut) → length bytes ≡ 4096 → (batches ≡ [] → ⊥)
        → AreSound (geometry_of v) next batches → IsTied v batches old new seen may
        → IsNewRecord sharing new bytes batches
        → IsWithin seen may bytes batches × GoesOn seen may bytes batches
    steps_of batches size some sound tied is_new =
        by (moves_of (geometry_of v) sharing batches some sound.each sound.ordered sound.spaced)
      where
        by : Moves sharing batches → IsWithin seen may bytes batches × GoesOn seen may bytes batches
        by (By_newest n) =
            subst (λ (l : List WriteOut). AreSound (geometry_of v) next l → IsTied v l old new seen may
            → IsNewRecord sharing new bytes l → moving sharing l ≡ Some n.newest
            → moved sharing l ≡ n.others ++ advanced_of n.newest ∷ []
            → IsWithin seen may bytes l × GoesOn seen may bytes l) (sym n.are)
            (λ sound tied is_new mover after. newest_steps seen may bytes n.others n.newest n.stage n.at n.early
            sound.each sound.ordered n.older tied size mover after is_new)
            sound tied is_new n.mover n.after
        by (By_one o) =
            subst (λ (l : List WriteOut). AreSound (geometry_of v) next l → IsTied v l old new seen may
            → moving sharing l ≡ Some o.it → moved sharing l ≡ o.older ++ advanced_of o.it ∷ o.newer
            → IsWithin seen may bytes l × GoesOn seen may bytes l) (sym o.are)
            (λ sound tied mover after. one_steps seen may bytes o.older o.it o.newer sound.each sound.ordered o.stage
            o.is tied mover after)
            sound tied o.mover o.after
        by (By_all a) = all_steps batches a sound tied
