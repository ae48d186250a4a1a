-- The write-outs are consistent with their device: at first, after a batch has begun, and after each step.
use Rattle.std.proofs.Common.{◌≡◌, ◌≢◌, ℕ, suc, ◌+◌, ◌-◌, ◌*◌, ◌^◌, ◌<◌, inl, inr, Bool, true}
use Rattle.std.proofs.Common.{false, not, cond, List, [], ◌∷◌, ◌++◌, length, drop, get_or}
use Rattle.std.proofs.Common.{Option, Some, None, refl, sym, ap, ◌∙◌, subst, ⊎_elim, arith}
use Rattle.std.specs.Prelude.{◌/◌, MatchBool}
use Rattle.std.specs.List.{AllByRecursion, Contains}
use Rattle.std.specs.Option.{option_map_or, option_and_then}
use Rattle.std.proofs.lemmas.Bool.{both_ways, cases_Bool, cond-false, or_cases, not-true}
use Rattle.std.proofs.lemmas.List.{get_or-take, get_or-drop, get_or_default, ext_get_or}
use Rattle.device.specs.Device.{Only}
use Rattle.device.specs.declared.device.Device.{Ghosts}
use Rattle.device.proofs.Done.{done_seen}
use Rattle.volume_codec.specs.Layout.{GeometryValue, IsGeometry, IsHome, block_at, record_block}
use Rattle.volume_codec.specs.Descriptor.{AreHomes}
use Rattle.volume_codec.specs.Super.{SuperValue, geometry_of}
use Rattle.volume_codec.specs.Recovery.{Batch, IsVolume, contents_in, recovered_block}
use Rattle.volume_codec.proofs.Layouts.{few_journals}
use Rattle.volume_codec.proofs.Places.{fits_geometry}
use Rattle.journal.specs.declared.stage.Stage.{Stage}
use Rattle.journal.specs.declared.stage.Stage.TheVariants.{Recording, Describing, SyncingRecords, Opening}
use Rattle.journal.specs.declared.stage.Stage.TheVariants.{Committing, Applying, SyncingHomes, Closing, Finishing}
use Rattle.journal.specs.declared.flushed.Flushed.{Flushed}
use Rattle.journal.specs.declared.flushed.Flushed.TheVariants.{Going, Committed, Done, Device, Broken}
use Rattle.journal.specs.Stage.{is_committed}
use Rattle.journal.specs.Work.{Work, Nothing, Sync, worked, TornFromWork, has_done}
use Rattle.journal.specs.WriteOut.{WriteOut, next_stage, begun_of, next_home, work_of}
use Rattle.journal.specs.WriteOuts.{WriteOutsValue, none_of, has_uncommitted, shares_syncs, moving, current_stage}
use Rattle.journal.specs.WriteOuts.{outs_moving, next_work, next_answer, outs_after, is_busy, next_batch, begun}
use Rattle.journal.specs.WriteOuts.{outs_home}
use Rattle.journal.specs.WriteOut.{IsBatch}
use Rattle.journal.specs.Crash.{LeftBefore, LeftWithin}
use Rattle.journal.specs.LedTo.{IsStep, HasLedTo, AtFirst, Begun, AnyOld, Stepped}
use Rattle.journal.specs.inside.Consistent.{IsConsistent}
use Rattle.journal.specs.inside.Sound.{AreSound, IsWriteOut, IsSound}
use Rattle.journal.specs.inside.Tied.{Progress, progress_in, IsFirmFor, IsLeft, is_durable, durable_in, recorded}
use Rattle.journal.specs.inside.Tied.{IsWritten, AreWritten, is_under_way, kept_in, IsSeen, IsTied}
use Rattle.journal.proofs.Alls.{IsIn, all_map, all_in, all-append, all_front, in_right}
use Rattle.journal.proofs.RecoveredBlocks.{record_or-cases}
use Rattle.journal.proofs.Tying.{false_true, late_stage, progress-newest, progress_all, under_way-is}
use Rattle.journal.proofs.Firm.{durable_all}
use Rattle.journal.proofs.Leaving.{under_way}
use Rattle.journal.proofs.Stepping.{durable_push, left_same, all_committed, before_within}
use Rattle.journal.proofs.Sounding.{turn_free, first_stage, not_busy, next_is_batch, begun_sound, sound_without}
use Rattle.journal.proofs.Answering.{stage_committed, work_in, answer_in, after_in}
use Rattle.journal.proofs.Answering.{outs_after-is, step_sound, sound_after, answer_same}
use Rattle.journal.proofs.Keeping.{sharing, IsWithin, GoesOn, steps_of, tied_of, left_before}

module _ (v : SuperValue) (old new : ℕ → List ℕ) where
  -- ---- what is read

  recovered_none : (slots : ℕ) (opened : List Batch) (b : ℕ)
      → AllByRecursion (λ (batch : Batch). Contains batch.homes b → ⊥) opened
      → recovered_block slots opened b ≡ b
  recovered_none slots [] b lacks = refl
  recovered_none slots (batch ∷ older) b lacks =
      elim (record_or-cases (recovered_block slots older b) (record_block slots batch.journal 0) batch.homes b) [
        | inl at ↦ absurd (lacks.0 (at.0, at.1, get_or_default batch.homes at.0 b 0 at.1 ∙ at.2))
        | inr none ↦ none.1 ∙ recovered_none slots older b lacks.1
      ]

  lacks_block : (batches : List WriteOut) (b : ℕ)
      → (((w : WriteOut) × Contains batches w × Contains w.batch.homes b) → ⊥)
      → AllByRecursion (λ (w : WriteOut). Contains w.batch.homes b → ⊥) batches
  lacks_block [] b none = tt
  lacks_block (w ∷ newer) b none = (
    λ has. none (w, (0, omega arith, refl), has),
    lacks_block newer b (λ found. none (found.0, (suc found.1.0, omega (arith, found.1.1), found.1.2), found.2)),
  )

  -- one that isn't committed
  early_of : (progress : List Progress) → is_under_way progress ≡ true
      → (p : Progress) × IsIn p progress × (is_committed p.stage ≡ false)
  early_of [] has = false_true has
  early_of (p ∷ newer) has = elim (or_cases (not (is_committed p.stage)) (is_under_way newer) has) [
    | inl here ↦ (p, inl refl, not-true (is_committed p.stage) here)
    | inr later ↦ (let found = early_of newer later in (found.0, inr found.1, found.2))
  ]

  -- a home block of no batch reads as New
  reads_new : (batches : List WriteOut) (seen : List ℕ) (b : ℕ) → IsSeen v (progress_in batches) old new seen
      → IsHome (geometry_of v) b → (((w : WriteOut) × Contains batches w × Contains w.batch.homes b) → ⊥)
      → block_at seen b ≡ new b
  reads_new batches seen b is home none =
      sym (ap (block_at seen) (recovered_none v.slots (durable_in (progress_in batches)) b
      (durable_all (λ (x : Batch). Contains x.homes b → ⊥) (progress_in batches)
      (all_map {P = λ (p : Progress). Contains p.batch.homes b → ⊥}
      {Q = λ (p : Progress). is_durable p.stage ≡ true → Contains p.batch.homes b → ⊥} (λ p lacks durable. lacks)
      (progress_in batches) lacks))))
      ∙ sym (is.contents b home) ∙ kept
    where
      lacks : AllByRecursion (λ (p : Progress). Contains p.batch.homes b → ⊥) (progress_in batches)
      lacks = progress_all (λ (p : Progress). Contains p.batch.homes b → ⊥) batches
          (all_map {P = λ (w : WriteOut). Contains w.batch.homes b → ⊥}
          {Q = λ (w : WriteOut). (s : Stage) → next_stage w ≡ Some s → Contains w.batch.homes b → ⊥}
          (λ w own s e. own) batches (lacks_block batches b none))

      kept : kept_in (progress_in batches) old new b ≡ new b
      kept = elim (cases_Bool (is_under_way (progress_in batches))) [
        | inl has ↦ (let p = early_of (progress_in batches) has in
            ap (λ t. cond t old new b) has
            ∙ sym (all_in (λ (q : Progress).
            is_committed q.stage ≡ false → (x : ℕ) → (Contains q.batch.homes x → ⊥) → new x ≡ old x)
            (progress_in batches) p.0 is.outside p.1 p.2 b
            (all_in (λ (q : Progress). Contains q.batch.homes b → ⊥) (progress_in batches) p.0 lacks p.1)))
        | inr not ↦ ap (λ t. cond t old new b) not
      ]

  -- what is left where no block is loose
  all_same : (seen c : List ℕ) → IsLeft v.slots [] seen c → c ≡ seen
  all_same seen c l = ext_get_or 0 c seen l.same_length (λ i lt.
      let b = i / 4096 in
      let k = i - 4096 * b in
      let place : 4096 * b + k ≡ i = omega arith in
      let small : k < 4096 = omega arith in
      let byte : (l : List ℕ) → get_or (block_at l b) k 0 ≡ get_or l i 0 = λ l.
      get_or-take 4096 (drop (4096 * b) l) k 0 small ∙ get_or-drop (4096 * b) l k 0 ∙ ap (λ n. get_or l n 0) place in
      sym (byte c) ∙ ap (λ (x : List ℕ). get_or x k 0) (l.firm b tt) ∙ byte seen)

  -- ---- standing

  are_sound : (outs : WriteOutsValue) → outs.geometry ≡ geometry_of v → IsSound outs
      → AreSound (geometry_of v) outs.next outs.batches
  are_sound outs geometry sound =
      subst (λ (g : GeometryValue). AreSound g outs.next outs.batches) geometry sound

  pub consistent_going : (outs : WriteOutsValue) (seen : List ℕ) (may : List ℕ → Type 0)
      → outs.geometry ≡ geometry_of v → IsSound outs → outs.broken ≡ false → IsTied v outs.batches old new seen may
      → IsConsistent v outs old new seen may
  consistent_going outs seen may geometry sound whole tied = record {
    geometry = geometry;
    left = λ c left. subst
        (λ b. MatchBool b (LeftWithin v old new (current_stage outs) c) (LeftBefore v old new (current_stage outs) c))
        (sym whole)
        (left_before v old new seen may outs.next outs.batches c (are_sound outs geometry sound) tied left);
    reads = λ e b home none. reads_new outs.batches seen b tied.seen_is home none;
    rests = λ e empty. at_rest outs.batches empty tied;
    sound = sound;
    tied = λ e. tied;
  }
    where
      at_rest : (batches : List WriteOut) → batches ≡ [] → IsTied v batches old new seen may
          → IsVolume v [] seen × Only may seen
      at_rest [] e tied =
          let is = tied.seen_is in (
            record {
              super_block = is.super_block;
              long = is.long;
              journals = record { each = tt; all = λ j lt opens. absurd (is.shut j lt tt opens); falling = tt };
            },
            λ c left. all_same seen c (tied.left_are c left),
          )
      at_rest (w ∷ newer) e tied = absurd (some_list e)
        where
          some_list : (w ∷ newer) ≡ [] → ⊥
          some_list e = cc

  pub consistent_broken : (outs : WriteOutsValue) (seen : List ℕ) (may : List ℕ → Type 0)
      → outs.geometry ≡ geometry_of v
      → IsSound outs → outs.broken ≡ true → ((c : List ℕ) → may c → LeftWithin v old new (current_stage outs) c)
      → IsConsistent v outs old new seen may
  consistent_broken outs seen may geometry sound failed left = record {
    geometry = geometry;
    left = λ c may_c. subst
        (λ b. MatchBool b (LeftWithin v old new (current_stage outs) c) (LeftBefore v old new (current_stage outs) c))
        (sym failed) (left c may_c);
    reads = λ e b home none. absurd (both_ways outs.broken e failed);
    rests = λ e empty. absurd (both_ways outs.broken e failed);
    sound = sound;
    tied = λ e. absurd (both_ways outs.broken e failed);
  }

  -- what may be left now may be left within the next step
  pub consistent_left : (outs : WriteOutsValue) (seen : List ℕ) (may : List ℕ → Type 0)
      → IsConsistent v outs old new seen may → (c : List ℕ) → may c
      → LeftWithin v old new (current_stage outs) c
  consistent_left outs seen may s c left = by outs.broken (s.left c left)
    where
      by : (b : Bool)
          → MatchBool b (LeftWithin v old new (current_stage outs) c) (LeftBefore v old new (current_stage outs) c)
          → LeftWithin v old new (current_stage outs) c
      by true left = left
      by false left = before_within v old new (current_stage outs) c left

  module _ (outs : WriteOutsValue) (seen : List ℕ) (may : List ℕ → Type 0) (bytes : List ℕ) (size : length bytes ≡ 4096)
      (s : IsConsistent v outs old new seen may) (whole : outs.broken ≡ false) (some : outs.batches ≡ [] → ⊥)
      (is_new : (home : ℕ) → outs_home outs ≡ Some home → bytes ≡ new home) where
    work_same : next_work outs bytes ≡ work_in (geometry_of v) bytes outs.batches
    work_same =
        cond-false outs.broken Nothing
        (option_map_or (work_of outs.geometry bytes) (outs_moving outs) Nothing) whole
        ∙ ap (λ (g : GeometryValue). work_in g bytes outs.batches) s.geometry

    steps : IsWithin v old new seen may bytes outs.batches × GoesOn v old new seen may bytes outs.batches
    steps = steps_of v old new seen may bytes outs.next outs.batches size some (are_sound outs s.geometry s.sound)
        (s.tied whole) (λ home e.
        is_new home (cond-false outs.broken None (option_and_then next_home (outs_moving outs)) whole
        ∙ ap (λ (g : GeometryValue). option_and_then next_home (moving (shares_syncs g.layout) outs.batches)) s.geometry
        ∙ e))

    -- what a crash may leave within the next step
    pub consistent_within : (c : List ℕ) → TornFromWork (next_work outs bytes) may c
        → LeftWithin v old new (current_stage outs) c
    consistent_within c torn = steps.0 c (subst (λ (work : Work). TornFromWork work may c) work_same torn)

    -- after a step of which a device call failed
    pub consistent_failed : (seen' : List ℕ) (may' : List ℕ → Type 0)
        → ((c : List ℕ) → may' c → TornFromWork (next_work outs bytes) may c)
        → IsConsistent v (outs_after outs Device) old new seen' may'
    consistent_failed seen' may' left = consistent_broken (outs_after outs Device) seen' may' s.geometry
        s.sound refl (λ c may_c. consistent_within c (left c may_c))

    -- after a step whose device calls succeed
    pub consistent_after : (may' : List ℕ → Type 0)
        → ((c : List ℕ) → may' c → TornFromWork (next_work outs bytes) may c)
        → (next_work outs bytes ≡ Sync → (c : List ℕ) → may' c → c ≡ seen)
        → IsConsistent v (outs_after outs (next_answer outs)) old new (worked seen (next_work outs bytes)) may'
    consistent_after may' left durable =
        let tied = steps.1 may' (λ c may_c. subst (λ (work : Work). TornFromWork work may c) work_same (left c may_c))
        (λ sync. durable (work_same ∙ sync)) in
        let e = outs_after-is outs s.sound whole some in
        consistent_going (outs_after outs (next_answer outs)) (worked seen (next_work outs bytes)) may'
        (ap (λ (o : WriteOutsValue). o.geometry) e ∙ s.geometry) (step_sound outs s.sound whole some)
        (ap (λ (o : WriteOutsValue). o.broken) e ∙ whole)
        (subst (λ (l : List WriteOut). IsTied v l old new (worked seen (next_work outs bytes)) may')
        (sym (ap (λ (o : WriteOutsValue). o.batches) e
        ∙ ap (λ (g : GeometryValue).
        after_in (shares_syncs g.layout) (answer_in (shares_syncs g.layout) outs.batches) outs.batches) s.geometry))
        (subst (λ (work : Work).
        IsTied v (after_in (sharing v old new) (answer_in (sharing v old new) outs.batches) outs.batches) old new
        (worked seen work) may')
        (sym work_same) tied))

-- ---- at first

pub tied_first : (v : SuperValue) (seen : List ℕ) (may : List ℕ → Type 0) → IsVolume v [] seen → Only may seen
    → IsTied v [] (block_at seen) (block_at seen) seen may
tied_first v seen may volume only = record {
  seen_is = record {
    super_block = volume.super_block;
    long = volume.long;
    written = tt;
    shut = λ j lt none opens. both_ways false refl (volume.journals.all j lt opens);
    contents = λ b home. refl;
    outside = tt;
  };
  left_are = λ c left. left_same v (block_at seen) (block_at seen) [] seen c (only c left);
}

pub consistent_first : (v : SuperValue) (seen : List ℕ) (may : List ℕ → Type 0)
    → IsGeometry (geometry_of v) → IsVolume v [] seen → Only may seen
    → IsConsistent v (none_of (geometry_of v)) (block_at seen) (block_at seen) seen may
consistent_first v seen may is_geometry volume only =
    consistent_going v (block_at seen) (block_at seen) (none_of (geometry_of v)) seen may refl
    (sound_without (geometry_of v) 0 is_geometry (few_journals v.layout).0) refl
    (tied_first v seen may volume only)

-- ---- a batch begins

module _ (v : SuperValue) (old new next : ℕ → List ℕ) (batches : List WriteOut) (batch : Batch) (seen : List ℕ)
    (may : List ℕ → Type 0)
    (each : AllByRecursion (IsWriteOut (geometry_of v)) batches)
    (none : has_uncommitted batches ≡ false) (is_batch : IsBatch (geometry_of v) batch)
    (free : AllByRecursion (λ (w : WriteOut). w.batch.journal ≢ batch.journal) batches)
    (outside : (b : ℕ) → (Contains batch.homes b → ⊥) → next b ≡ new b) (tied : IsTied v batches old new seen may) where
  begins : next_stage (begun_of v.slots batch) ≡ Some (Recording 0)
  begins = first_stage v.slots batch is_batch.described.homes.some

  -- what a read finds of a committed batch doesn't depend on New
  none_recorded : (k : ℕ) (s : Stage) → is_committed s ≡ true → recorded k s ≡ 0
  none_recorded k = late_stage _ (λ i. refl) refl refl refl

  abbrev at_first : Progress
  at_first = record { batch = batch; stage = Recording 0 }

  written_begun : (l : List Progress) → AllByRecursion (λ (p : Progress). is_committed p.stage ≡ true) l
      → AreWritten v new seen l → IsWritten v next [] at_first seen
      → AreWritten v next seen (l ++ at_first ∷ [])
  written_begun [] committed are own = (own, tt)
  written_begun (p ∷ newer) committed are own = (
    subst (λ (x : List Batch). IsWritten v next x p seen) (sym (durable_push newer at_first)) (record {
      records = λ i within less. absurd (omega (arith, less, none_recorded (length p.batch.homes) p.stage committed.0));
      descriptor = are.0.descriptor;
      homes = are.0.homes;
      gate = are.0.gate;
    }),
    written_begun newer committed.1 are.1 own,
  )

  not_way : is_under_way (progress_in batches) ≡ false
  not_way = under_way-is (geometry_of v) batches each ∙ none

  seen_begun : IsSeen v (progress_in batches ++ at_first ∷ []) new next seen
  seen_begun =
      let is = tied.seen_is in
      let committed = all_committed (progress_in batches) not_way in
      let free_of = progress_all (λ (p : Progress). p.batch.journal ≢ batch.journal) batches
      (all_map {P = λ (w : WriteOut). w.batch.journal ≢ batch.journal}
      {Q = λ (w : WriteOut). (s : Stage) → next_stage w ≡ Some s → w.batch.journal ≢ batch.journal}
      (λ w other s e. other) batches free) in
      let way : is_under_way (progress_in batches ++ at_first ∷ []) ≡ true =
      under_way (progress_in batches ++ at_first ∷ []) at_first
      (in_right (progress_in batches) (at_first ∷ []) at_first (inl refl)) refl in
      record {
        super_block = is.super_block;
        long = is.long;
        written = written_begun (progress_in batches) committed is.written
            (record {
              records = λ i within less. absurd (omega (arith, less));
              descriptor = λ i within less. absurd (omega (arith, less));
              homes = λ i within less. absurd (omega (arith, less));
              gate = is.shut batch.journal is_batch.there free_of;
            });
        shut = λ j lt all.
            is.shut j lt (all_front (λ (p : Progress). p.batch.journal ≢ j) (progress_in batches) (at_first ∷ []) all);
        contents = λ b home.
            ap (λ t. cond t new next b) way ∙ sym (ap (λ t. cond t old new b) not_way) ∙ is.contents b home
            ∙ ap (λ (x : List Batch). contents_in v.slots x seen b) (sym (durable_push (progress_in batches) at_first));
        outside = all-append
            (λ (p : Progress). is_committed p.stage ≡ false → (b : ℕ) → (Contains p.batch.homes b → ⊥) → next b ≡ new b)
            (progress_in batches) (at_first ∷ [])
            (all_map {P = λ (p : Progress). is_committed p.stage ≡ true} {Q = λ (p : Progress).
            is_committed p.stage ≡ false → (b : ℕ) → (Contains p.batch.homes b → ⊥) → next b ≡ new b}
            (λ p late early. absurd (both_ways (is_committed p.stage) early late)) (progress_in batches) committed)
            (λ early. outside, tt);
      }

  tied_begun : IsTied v (batches ++ begun_of v.slots batch ∷ []) new next seen may
  tied_begun = tied_of v new next (batches ++ begun_of v.slots batch ∷ [])
      (progress_in batches ++ at_first ∷ []) seen may
      (progress-newest batches (begun_of v.slots batch) (Recording 0) begins) (record {
        seen_is = seen_begun;
        left_are = λ c may_c. let l = tied.left_are c may_c in record {
          same_length = l.same_length;
          firm = λ b is.
              l.firm b (all_front (λ (p : Progress). IsFirmFor v.slots p b) (progress_in batches) (at_first ∷ []) is);
        };
      })

pub consistent_begun : (v : SuperValue) (outs : WriteOutsValue) (old new next : ℕ → List ℕ)
    (mark : ℕ) (homes : List ℕ) (seen : List ℕ) (may : List ℕ → Type 0)
    → outs.broken ≡ false → is_busy outs ≡ false → 0 < mark → mark < 2 ^ 64
    → AreHomes outs.geometry homes → AllByRecursion (λ w. w.batch.mark < mark) outs.batches
    → ((b : ℕ) → (Contains homes b → ⊥) → next b ≡ new b) → IsConsistent v outs old new seen may
    → IsConsistent v (begun outs mark homes) new next seen may
consistent_begun v outs old new next mark homes seen may whole not_busy_is some small are below outside s =
    let free = not_busy outs s.sound not_busy_is in
    let is_batch = next_is_batch outs mark homes s.sound some small are in
    consistent_going v new next (begun outs mark homes) seen may s.geometry
    (begun_sound outs mark homes s.sound free is_batch below) whole
    (subst (λ (g : GeometryValue).
    IsTied v (outs.batches ++ begun_of g.slots (next_batch outs mark homes) ∷ []) new next seen may) (sym s.geometry)
    (tied_begun v old new next outs.batches (next_batch outs mark homes) seen may
    (subst (λ (g : GeometryValue). AllByRecursion (IsWriteOut g) outs.batches) s.geometry s.sound.each) free.none
    (subst (λ (g : GeometryValue). IsBatch g (next_batch outs mark homes)) s.geometry is_batch)
    (turn_free outs.geometry.layout outs.next outs.batches s.sound.turn free.fewer) outside (s.tied whole)))

-- ---- where each batch is committed, Old plays no part

module _ (v : SuperValue) (old other new : ℕ → List ℕ) where
  within_other : (o : Option Stage) (c : List ℕ) → option_map_or is_committed o true ≡ true → LeftWithin v old new o c
      → LeftWithin v other new o c
  within_other None c late left = left
  within_other (Some (Recording i)) c late left = false_true late
  within_other (Some (Describing i)) c late left = false_true late
  within_other (Some SyncingRecords) c late left = false_true late
  within_other (Some Opening) c late left = false_true late
  within_other (Some Committing) c late left = false_true late
  within_other (Some (Applying i)) c late left = left
  within_other (Some SyncingHomes) c late left = left
  within_other (Some Closing) c late left = left
  within_other (Some Finishing) c late left = left

  pub consistent_other : (outs : WriteOutsValue) (seen : List ℕ) (may : List ℕ → Type 0)
      → has_uncommitted outs.batches ≡ false → IsConsistent v outs old new seen may
      → IsConsistent v outs other new seen may
  consistent_other outs seen may none s = elim (cases_Bool outs.broken) [
    | inl failed ↦ consistent_broken v other new outs seen may s.geometry s.sound failed
        (λ c left. within_other (current_stage outs) c late (consistent_left v old new outs seen may s c left))
    | inr whole ↦ consistent_going v other new outs seen may s.geometry s.sound whole (tied_other (s.tied whole))
  ]
    where
      late : option_map_or is_committed (current_stage outs) true ≡ true
      late = stage_committed outs.batches none

      not_way : is_under_way (progress_in outs.batches) ≡ false
      not_way = under_way-is outs.geometry outs.batches s.sound.each ∙ none

      tied_other : IsTied v outs.batches old new seen may → IsTied v outs.batches other new seen may
      tied_other tied =
          let is = tied.seen_is in
          record {
            seen_is = record {
              super_block = is.super_block;
              long = is.long;
              written = is.written;
              shut = is.shut;
              contents = λ b home.
                  ap (λ t. cond t other new b) not_way ∙ sym (ap (λ t. cond t old new b) not_way) ∙ is.contents b home;
              outside = all_map {P = λ (p : Progress). is_committed p.stage ≡ true} {Q = λ (p : Progress).
                  is_committed p.stage ≡ false → (b : ℕ) → (Contains p.batch.homes b → ⊥) → new b ≡ other b}
                  (λ p late early. absurd (both_ways (is_committed p.stage) early late)) (progress_in outs.batches)
                  (all_committed (progress_in outs.batches) not_way);
            };
            left_are = tied.left_are;
          }

-- ---- whatever led to them

-- a step that doesn't answer that a call failed
pub done_unless : (answer : Flushed) → answer ≢ Device → has_done answer ≡ true
done_unless Going other = refl
done_unless (Committed mark) other = refl
done_unless (Done mark) other = refl
done_unless Device other = absurd (other refl)
done_unless Broken other = refl

pub consistent_stepped : {D : Type 0} (disk : Ghosts D) (v : SuperValue) (outs : WriteOutsValue)
    (old new : ℕ → List ℕ) (bytes : List ℕ) (answer : Flushed) (before after : D)
    → IsStep disk outs bytes answer before after → ((home : ℕ) → outs_home outs ≡ Some home → bytes ≡ new home)
    → IsConsistent v outs old new (disk.seen before) (disk.may_leave before)
    → IsConsistent v (outs_after outs answer) old new (disk.seen after) (disk.may_leave after)
consistent_stepped disk v outs old new bytes answer before after step is_new now = ⊎_elim
    (λ is.
    subst (λ (a : Flushed). IsConsistent v (outs_after outs a) old new (disk.seen after) (disk.may_leave after))
    (sym is)
    (subst (λ (l : List ℕ). IsConsistent v (outs_after outs (next_answer outs)) old new l (disk.may_leave after))
    (sym (done_seen step.did step.honest (done is)))
    (consistent_after v old new outs (disk.seen before)
    (disk.may_leave before) bytes step.a_block now step.whole step.some
    is_new (disk.may_leave after) step.did.left (step.did.durable step.honest (done is)))))
    (λ is.
    subst (λ (a : Flushed). IsConsistent v (outs_after outs a) old new (disk.seen after) (disk.may_leave after))
    (sym is)
    (consistent_failed v old new outs (disk.seen before)
    (disk.may_leave before) bytes step.a_block now step.whole step.some
    is_new (disk.seen after) (disk.may_leave after) step.did.left))
    step.answered
  where
    fine : answer ≡ next_answer outs → answer ≡ Device → ⊥
    fine is e = (sound_after outs.geometry outs.next outs.batches step.some now.sound).no_device
        (sym (answer_same outs now.sound step.whole step.some) ∙ sym is ∙ e)

    done : answer ≡ next_answer outs → has_done answer ≡ true
    done is = done_unless answer (fine is)

pub consistent : {D : Type 0} (disk : Ghosts D)
    (v : SuperValue) {outs : WriteOutsValue} {old new : ℕ → List ℕ} {device : D}
    → HasLedTo disk v outs old new device
    → IsConsistent v outs old new (disk.seen device) (disk.may_leave device)
consistent disk v (AtFirst device volume only) =
    consistent_first v (disk.seen device) (disk.may_leave device) (fits_geometry v volume.super_block.fits) volume only
consistent disk v (Begun outs old new next mark homes device may outside s) =
    consistent_begun v outs old new next mark homes (disk.seen device) (disk.may_leave device) may.whole may.free
    may.some_mark may.small_mark may.are_homes may.newest outside (consistent disk v s)
consistent disk v (AnyOld outs old other new device none s) =
    consistent_other v old other new outs (disk.seen device) (disk.may_leave device) none (consistent disk v s)
consistent disk v (Stepped outs old new bytes answer before after step is_new s) =
    consistent_stepped disk v outs old new bytes answer before after step is_new (consistent disk v s)
