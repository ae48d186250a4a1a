-- A write-out by itself is a list of one: it is consistent with its device as that is.
use Rattle.std.proofs.Common.{◌≡◌, ℕ, ◌+◌, ◌<◌, ◌⊎◌, inl, inr, Bool, false, cond, ◌==◌, List, [], ◌∷◌, length}
use Rattle.std.proofs.Common.{drop, get_or, Option, Some, None, refl, sym, ap, ◌∙◌, subst, ⊎_elim, arith}
use Rattle.std.specs.Prelude.{IsSome, MatchBool}
use Rattle.std.specs.List.{Contains}
use Rattle.std.specs.Option.{option_map_or, option_and_then}
use Rattle.std.proofs.lemmas.Bool.{cond-false, or_from, ne_eqb}
use Rattle.device.specs.Device.{Only, LeavesOnly}
use Rattle.device.specs.Did.{Did}
use Rattle.device.specs.declared.device.Device.{Ghosts}
use Rattle.device.proofs.Done.{did_as}
use Rattle.device.proofs.Moments.{leaves_weaker}
use Rattle.volume_codec.specs.Layout.{GeometryValue, IsHome, journals_of, descriptor_blocks, block_at}
use Rattle.volume_codec.specs.Super.{SuperValue, geometry_of}
use Rattle.volume_codec.specs.Recovery.{Batch, IsVolume}
use Rattle.volume_codec.proofs.Layouts.{few_journals}
use Rattle.volume_codec.proofs.Places.{fits_geometry}
use Rattle.journal.specs.declared.stage.Stage.{Stage}
use Rattle.journal.specs.declared.stage.Stage.TheVariants.{Recording, Describing, SyncingRecords, Opening}
use Rattle.journal.specs.declared.stage.Stage.TheVariants.{Committing, Applying, SyncingHomes, Closing, Finishing}
use Rattle.journal.specs.declared.flushed.Flushed.{Flushed}
use Rattle.journal.specs.declared.flushed.Flushed.TheVariants.{Going, Committed, Done, Device, Broken}
use Rattle.journal.specs.Stage.{answer_at}
use Rattle.journal.specs.Work.{Work, Nothing, TornFromWork, has_done}
use Rattle.journal.specs.WriteOut.{WriteOut, FlushValue, IsBatch, next_stage, advanced_of, next_home}
use Rattle.journal.specs.WriteOut.{work_of, answer_of, write_out_after, broken_after, begun_of}
use Rattle.journal.specs.WriteOut.{flush_of, flush_home, flush_work, flush_answer, flush_after}
use Rattle.journal.specs.WriteOuts.{WriteOutsValue, none_of, shares_syncs, moving, moved, current, current_stage}
use Rattle.journal.specs.WriteOuts.{outs_moving, outs_home}
use Rattle.journal.specs.WriteOuts.{next_work, next_answer, outs_after, is_busy, begun, HasBlock}
use Rattle.journal.specs.Crash.{LeftBefore, LeftWithin}
use Rattle.journal.specs.LedTo.{IsStep}
use Rattle.journal.specs.Alone.{HasLedAlone, BegunAlone, SteppedAlone}
use Rattle.journal.specs.inside.Sound.{IsWriteOut}
use Rattle.journal.specs.inside.Consistent.{IsConsistent}
use Rattle.journal.specs.inside.Queued.{QueuedWriteOut, queued_after}
use Rattle.journal.specs.inside.Alone.{unless_done, alone_of}
use Rattle.journal.proofs.Stages.{stage_at-is, stage_from, next_in}
use Rattle.journal.proofs.Tying.{stage_of}
use Rattle.journal.proofs.Sounding.{next_from, first_stage, sound_without}
use Rattle.journal.proofs.Leaving.{is_last}
use Rattle.journal.proofs.Moving.{lone_moves}
use Rattle.journal.proofs.KeptConsistent.{tied_first, consistent_going, consistent_begun}
use Rattle.journal.proofs.KeptConsistent.{consistent_stepped, consistent_left, consistent_within}

-- ---- a list of one

one_of : (w : WriteOut) (stage : Stage) → next_stage w ≡ Some stage → unless_done w ≡ w ∷ []
one_of w stage at = ap (λ (o : Option Stage). option_map_or (λ s. w ∷ []) o []) at

none_left : (w : WriteOut) → next_stage w ≡ None → unless_done w ≡ []
none_left w at = ap (λ (o : Option Stage). option_map_or (λ s. w ∷ []) o []) at

pub stage_same : (flush : FlushValue) → current_stage (alone_of flush) ≡ next_stage flush.write_out
stage_same flush = by (next_stage flush.write_out) refl
  where
    by : (o : Option Stage) → next_stage flush.write_out ≡ o
        → current_stage (alone_of flush) ≡ next_stage flush.write_out
    by None at =
        ap (λ (l : List WriteOut). option_and_then next_stage (current l)) (none_left flush.write_out at)
        ∙ sym at
    by (Some stage) at =
        ap (λ (l : List WriteOut). option_and_then next_stage (current l)) (one_of flush.write_out stage at)

module _ (flush : FlushValue) (stage : Stage) (at : next_stage flush.write_out ≡ Some stage) where
  mover_is : outs_moving (alone_of flush) ≡ Some flush.write_out
  mover_is =
      ap (moving (shares_syncs flush.geometry.layout)) (one_of flush.write_out stage at)
      ∙ (lone_moves (shares_syncs flush.geometry.layout) flush.write_out).0

  pub some_left : (alone_of flush).batches ≡ [] → ⊥
  some_left e = none (sym (one_of flush.write_out stage at) ∙ e)
    where
      none : flush.write_out ∷ [] ≡ [] → ⊥
      none e = cc

  pub work_same : (bytes : List ℕ) → next_work (alone_of flush) bytes ≡ flush_work flush bytes
  work_same bytes =
      ap (λ (o : Option WriteOut). cond flush.broken Nothing (option_map_or (work_of flush.geometry bytes) o Nothing))
      mover_is

  pub answer_same : next_answer (alone_of flush) ≡ flush_answer flush
  answer_same = ap (λ (o : Option WriteOut). cond flush.broken Broken (option_map_or answer_of o Broken)) mover_is

  pub home_same : outs_home (alone_of flush) ≡ flush_home flush
  home_same = ap (λ (o : Option WriteOut). cond flush.broken None (option_and_then next_home o)) mover_is

-- ---- after a step

-- a step that isn't the last ends nothing
goes : (mark : ℕ) (stage : Stage) → (stage ≡ Finishing → ⊥)
    → (answer_at mark stage ≡ Going) ⊎ (answer_at mark stage ≡ Committed mark)
goes mark (Recording i) not_last = inl refl
goes mark (Describing i) not_last = inl refl
goes mark SyncingRecords not_last = inl refl
goes mark Opening not_last = inl refl
goes mark Committing not_last = inr refl
goes mark (Applying i) not_last = inl refl
goes mark SyncingHomes not_last = inl refl
goes mark Closing not_last = inl refl
goes mark Finishing not_last = absurd (not_last refl)

-- and another follows
follows : (g : GeometryValue) (w : WriteOut) (stage : Stage) → IsWriteOut g w
    → next_stage w ≡ Some stage → (stage ≡ Finishing → ⊥)
    → (next : Stage) × (next_stage (advanced_of w) ≡ Some next)
follows g w stage is at not_last = (next_in g.slots w.batch stage, next_from g w stage is at not_last)

ends : (w : WriteOut) → next_stage w ≡ Some Finishing → next_stage (advanced_of w) ≡ None
ends w at =
    let is = stage_at-is (length w.batch.homes) w.described w.steps at in
    stage_from (length w.batch.homes) w.described (w.steps + 1) None (omega (arith, is))

module _ (flush : FlushValue) (stage : Stage) (at : next_stage flush.write_out ≡ Some stage)
    (g : GeometryValue) (own : IsWriteOut g flush.write_out) (whole : flush.broken ≡ false) where
  abbrev w : WriteOut
  w = flush.write_out

  after_going : (not_last : stage ≡ Finishing → ⊥) (answer : Flushed)
      → (answer ≡ Going) ⊎ (answer ≡ Committed w.batch.mark)
      → outs_after (alone_of flush) answer ≡ alone_of (flush_after flush answer)
  after_going not_last answer is =
      let next = follows g w stage own at not_last in
      let sharing = shares_syncs flush.geometry.layout in
      let lists : moved sharing (unless_done w) ≡ unless_done (advanced_of w) =
      ap (moved sharing) (one_of w stage at)
      ∙ (lone_moves sharing w).1
      ∙ sym (one_of (advanced_of w) next.0 next.1) in
      ⊎_elim
      (λ e. subst (λ (a : Flushed). outs_after (alone_of flush) a ≡ alone_of (flush_after flush a)) (sym e)
      (ap (λ (l : List WriteOut). record (alone_of flush) { batches = l }) lists))
      (λ e. subst (λ (a : Flushed). outs_after (alone_of flush) a ≡ alone_of (flush_after flush a)) (sym e)
      (ap (λ (l : List WriteOut). record (alone_of flush) { batches = l }) lists))
      is

  after_done : stage ≡ Finishing
      → outs_after (alone_of flush) (Done w.batch.mark) ≡ alone_of (flush_after flush (Done w.batch.mark))
  after_done last =
      let sharing = shares_syncs flush.geometry.layout in
      let lists : drop 1 (moved sharing (unless_done w)) ≡ unless_done (advanced_of w) =
      ap (λ (l : List WriteOut). drop 1 (moved sharing l)) (one_of w stage at)
      ∙ ap (drop 1) (lone_moves sharing w).1
      ∙ sym (none_left (advanced_of w) (ends w (at ∙ ap Some last))) in
      ap (λ (l : List WriteOut). record (alone_of flush) { batches = l }) lists

  answered_at : flush_answer flush ≡ answer_at w.batch.mark stage
  answered_at =
      cond-false flush.broken Broken (answer_of w) whole
      ∙ ap (λ (o : Option Stage). option_map_or (answer_at w.batch.mark) o Broken) at

  pub after_same : (answer : Flushed) → (answer ≡ flush_answer flush) ⊎ (answer ≡ Device)
      → outs_after (alone_of flush) answer ≡ alone_of (flush_after flush answer)
  after_same answer (inr is) =
      subst (λ (a : Flushed). outs_after (alone_of flush) a ≡ alone_of (flush_after flush a)) (sym is) refl
  after_same answer (inl is) = elim (is_last stage) [
    | inl last ↦ subst (λ (a : Flushed). outs_after (alone_of flush) a ≡ alone_of (flush_after flush a))
        (sym (is ∙ answered_at ∙ ap (answer_at w.batch.mark) last)) (after_done last)
    | inr not_last ↦ after_going not_last answer
        (⊎_elim (λ e. inl (is ∙ answered_at ∙ e)) (λ e. inr (is ∙ answered_at ∙ e)) (goes w.batch.mark stage not_last))
  ]

-- ---- at first

begun_alone : (v : SuperValue) (batch : Batch) (room : ℕ) (new : ℕ → List ℕ) (seen : List ℕ) (may : List ℕ → Type 0)
    → IsBatch (geometry_of v) batch → IsVolume v [] seen → Only may seen
    → ((b : ℕ) → (Contains batch.homes b → ⊥) → new b ≡ block_at seen b)
    → IsConsistent v (alone_of (flush_of (geometry_of v) batch room)) (block_at seen) new seen may
begun_alone v batch room new seen may is_batch volume only outside =
    subst (λ (o : WriteOutsValue). IsConsistent v o (block_at seen) new seen may) same
    (consistent_begun v empty (block_at seen) (block_at seen) new batch.mark batch.homes seen may refl free
    is_batch.described.some_mark is_batch.described.small_mark is_batch.described.homes tt outside rests)
  where
    empty : WriteOutsValue
    empty = record (none_of (geometry_of v)) { next = batch.journal }

    free : is_busy empty ≡ false
    free = or_from false (0 == journals_of v.layout) refl
        (ne_eqb 0 (journals_of v.layout) (λ e. absurd (let some = (few_journals v.layout).0 in omega (arith, some, e))))

    rests : IsConsistent v empty (block_at seen) (block_at seen) seen may
    rests = consistent_going v (block_at seen) (block_at seen) empty seen may refl
        (sound_without (geometry_of v) batch.journal (fits_geometry v volume.super_block.fits) is_batch.there) refl
        (tied_first v seen may volume only)

    same : begun empty batch.mark batch.homes ≡ alone_of (flush_of (geometry_of v) batch room)
    same = ap (λ (l : List WriteOut). record (alone_of (flush_of (geometry_of v) batch room)) { batches = l })
        (sym (one_of (begun_of v.slots batch) (Recording 0) (first_stage v.slots batch is_batch.described.homes.some)))

-- ---- whatever led to it

abbrev IsOwn : SuperValue → WriteOut → Type 0
IsOwn v w = IsBatch (geometry_of v) w.batch × (w.described ≡ descriptor_blocks v.slots)

-- it is one of the volume
own_alone : {D : Type 0} (disk : Ghosts D) (v : SuperValue) {flush : FlushValue} {old new : ℕ → List ℕ} {device : D}
    → HasLedAlone disk v flush old new device
    → IsOwn v flush.write_out
own_alone disk v (BegunAlone batch room new device may outside) = (may.is_batch, refl)
own_alone disk v (SteppedAlone flush old new bytes answer before after step is_new s) =
    by answer (own_alone disk v s)
  where
    by : (a : Flushed) → IsOwn v flush.write_out → IsOwn v (flush_after flush a).write_out
    by Going is = is
    by (Committed mark) is = is
    by (Done mark) is = is
    by Device is = is
    by Broken is = is

pub consistent_alone : {D : Type 0} (disk : Ghosts D)
    (v : SuperValue) {flush : FlushValue} {old new : ℕ → List ℕ} {device : D}
    → HasLedAlone disk v flush old new device
    → IsConsistent v (alone_of flush) old new (disk.seen device) (disk.may_leave device)
consistent_alone disk v (BegunAlone batch room new device may outside) =
    begun_alone v batch room new (disk.seen device) (disk.may_leave device) may.is_batch may.volume may.synced outside
consistent_alone disk v (SteppedAlone flush old new bytes answer before after step is_new s) =
    let at = stage_of flush.write_out step.going in
    let outs_step : IsStep disk (alone_of flush) bytes answer before after = record {
      whole = step.whole;
      some = some_left flush at.0 at.1;
      a_block = step.a_block;
      answered = ⊎_elim (λ is. inl (is ∙ sym (answer_same flush at.0 at.1))) (λ is. inr is) step.answered;
      honest = step.honest;
      did = did_as disk (sym (work_same flush at.0 at.1 bytes)) refl step.did;
    } in
    subst (λ (o : WriteOutsValue). IsConsistent v o old new (disk.seen after) (disk.may_leave after))
    (after_same flush at.0 at.1 (geometry_of v)
    (let own = own_alone disk v s in record { batch = own.0; described = own.1; going = step.going })
    step.whole answer step.answered)
    (consistent_stepped disk v (alone_of flush) old new bytes answer before after outs_step
    (λ home e. is_new home (sym (home_same flush at.0 at.1) ∙ e)) (consistent_alone disk v s))

module _ {D : Type 0} (disk : Ghosts D) (v : SuperValue) {flush : FlushValue} {old new : ℕ → List ℕ} {device : D}
    (s : HasLedAlone disk v flush old new device) where
  -- what may be left now may be left within the next step
  pub alone_left : (c : List ℕ) → disk.may_leave device c → LeftWithin v old new (next_stage flush.write_out) c
  alone_left c left =
      subst (λ (o : Option Stage). LeftWithin v old new o c) (stage_same flush)
      (consistent_left v old new (alone_of flush) (disk.seen device) (disk.may_leave device)
      (consistent_alone disk v s) c left)

  -- what a crash may leave within the next step
  pub alone_within : (bytes : List ℕ) → length bytes ≡ 4096 → flush.broken ≡ false
      → IsSome (next_stage flush.write_out) → ((home : ℕ) → flush_home flush ≡ Some home → bytes ≡ new home)
      → (c : List ℕ) → TornFromWork (flush_work flush bytes) (disk.may_leave device) c
      → LeftWithin v old new (next_stage flush.write_out) c
  alone_within bytes size whole going is_new c torn =
      let at = stage_of flush.write_out going in
      subst (λ (o : Option Stage). LeftWithin v old new o c) (stage_same flush)
      (consistent_within v old new (alone_of flush) (disk.seen device)
      (disk.may_leave device) bytes size (consistent_alone disk v s) whole (some_left flush at.0 at.1)
      (λ home e. is_new home (sym (home_same flush at.0 at.1) ∙ e))
      c (subst (λ (work : Work). TornFromWork work (disk.may_leave device) c)
      (sym (work_same flush at.0 at.1 bytes)) torn))

  -- what may be left now
  pub alone_now : (c : List ℕ) → disk.may_leave device c
      → MatchBool flush.broken (LeftWithin v old new (next_stage flush.write_out) c)
      (LeftBefore v old new (next_stage flush.write_out) c)
  alone_now c left =
      subst (λ (o : Option Stage). MatchBool flush.broken (LeftWithin v old new o c) (LeftBefore v old new o c))
      (stage_same flush) ((consistent_alone disk v s).left c left)

  -- a home block outside the batch
  pub alone_reads : flush.broken ≡ false → (b : ℕ) → IsHome (geometry_of v) b
      → (Contains flush.write_out.batch.homes b → ⊥)
      → block_at (disk.seen device) b ≡ new b
  alone_reads whole b home none =
      (consistent_alone disk v s).reads whole b home (λ has. none (by (next_stage flush.write_out) refl has))
    where
      by : (o : Option Stage) → next_stage flush.write_out ≡ o → HasBlock (alone_of flush) b
          → Contains flush.write_out.batch.homes b
      by None at has = absurd (let in_none : Contains {X = WriteOut} [] has.0 =
          subst (λ (l : List WriteOut). Contains l has.0) (none_left flush.write_out at) has.1 in let lt = in_none.1 in
          omega (arith, lt))
      by (Some stage) at has =
          let in_one : Contains (flush.write_out ∷ []) has.0 =
          subst (λ (l : List WriteOut). Contains l has.0) (one_of flush.write_out stage at) has.1 in
          subst (λ (x : WriteOut). Contains x.batch.homes b) (it in_one.0 in_one.1 in_one.2) has.2
        where
          it : {x : WriteOut} (k : ℕ) → k < length (flush.write_out ∷ []) → get_or (flush.write_out ∷ []) k x ≡ x
              → x ≡ flush.write_out
          it {x} k lt is =
              sym is
              ∙ ap (λ n. get_or (flush.write_out ∷ []) n x) (let zero_is : k ≡ 0 = omega (arith, lt) in zero_is)

  -- once it is done
  pub alone_rests : flush.broken ≡ false → next_stage flush.write_out ≡ None
      → IsVolume v [] (disk.seen device) × Only (disk.may_leave device) (disk.seen device)
  alone_rests whole at = (consistent_alone disk v s).rests whole (none_left flush.write_out at)

  pub alone_holds : flush.broken ≡ false → next_stage flush.write_out ≡ None → (b : ℕ) → IsHome (geometry_of v) b
      → block_at (disk.seen device) b ≡ new b
  alone_holds whole at b home = (consistent_alone disk v s).reads whole b home (λ has.
      absurd (let in_none : Contains {X = WriteOut} [] has.0 =
      subst (λ (l : List WriteOut). Contains l has.0) (none_left flush.write_out at) has.1 in let lt = in_none.1 in
      omega (arith, lt)))

-- ---- a step

-- what the code keeps, after a step that answers so
pub view_after : (g : GeometryValue) (queued new : QueuedWriteOut)
    (broken after : Bool) (answer : Flushed) (now : FlushValue)
    → (let f : FlushValue =
    record { geometry = g; write_out = queued.write_out; broken = broken; room = queued.room } in
    f) ≡ now → new ≡ queued_after queued answer → after ≡ broken_after answer broken
    → (let f : FlushValue = record { geometry = g; write_out = new.write_out; broken = after; room = new.room } in
    f) ≡ flush_after now answer
view_after g queued new broken after answer now same value failed =
    ap (λ (l : QueuedWriteOut). let f : FlushValue =
    record { geometry = g; write_out = l.write_out; broken = after; room = l.room } in f) value
    ∙ ap (λ b. let f : FlushValue =
    record { geometry = g; write_out = write_out_after answer queued.write_out; broken = b; room = queued.room } in
    f) failed
    ∙ ap (λ (f : FlushValue). flush_after f answer) same

pub stays_whole : (answer : Flushed) (broken : Bool) → (answer ≡ Device → ⊥) → broken ≡ broken_after answer broken
stays_whole Going broken other = refl
stays_whole (Committed mark) broken other = refl
stays_whole (Done mark) broken other = refl
stays_whole Device broken other = absurd (other refl)
stays_whole Broken broken other = refl

module _ {D : Type 0} (disk : Ghosts D) {before after : D} (inside now : FlushValue) (bytes : List ℕ)
    (answer : Flushed) (same : inside ≡ now) (size : length bytes ≡ 4096) (whole : inside.broken ≡ false)
    (going : IsSome (next_stage now.write_out))
    (answered : (answer ≡ answer_of inside.write_out) ⊎ (answer ≡ Device))
    (did : Did disk before (work_of inside.geometry bytes inside.write_out) (has_done answer) after)
    (v : SuperValue) (old new : ℕ → List ℕ) (s : HasLedAlone disk v now old new before)
    (is_new : (home : ℕ) → flush_home now ≡ Some home → bytes ≡ new home) where
  whole_now : now.broken ≡ false
  whole_now = sym (ap (λ (f : FlushValue). f.broken) same) ∙ whole

  did_now : Did disk before (flush_work now bytes) (has_done answer) after
  did_now = did_as disk (sym (cond-false inside.broken Nothing (work_of inside.geometry bytes inside.write_out) whole)
      ∙ ap (λ (f : FlushValue). flush_work f bytes) same) refl did

  answered_now : (answer ≡ flush_answer now) ⊎ (answer ≡ Device)
  answered_now = ⊎_elim
      (λ is. inl (is ∙ sym (cond-false inside.broken Broken (answer_of inside.write_out) whole) ∙ ap flush_answer same))
      (λ is. inr is) answered

  pub crash_of_step : LeavesOnly disk.moment disk.left_since before after
      (LeftWithin v old new (next_stage now.write_out))
  crash_of_step = leaves_weaker did_now.time (alone_within disk v s bytes size whole_now going is_new)

  pub consistent_after_step : disk.is_honest before → HasLedAlone disk v (flush_after now answer) old new after
  consistent_after_step honest =
      SteppedAlone now old new bytes answer before after (record {
        whole = whole_now;
        going = going;
        a_block = size;
        answered = answered_now;
        honest = honest;
        did = did_now;
      }) is_new s
