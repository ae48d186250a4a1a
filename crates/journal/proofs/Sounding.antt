-- What holds of every value of the write-outs still holds after a step and after a batch has begun.
use Rattle.std.proofs.Common.{◌≡◌, ◌≢◌, ℕ, suc, ◌+◌, ◌^◌, ◌<◌, ◌≤◌, ◌⊎◌, inl, inr, true, false, ◌==◌, List, []}
use Rattle.std.proofs.Common.{◌∷◌, ◌++◌, length, Option, Some, refl, sym, ap, ◌∙◌, subst, arith, length-append}
use Rattle.std.specs.Prelude.{IsSome}
use Rattle.std.specs.List.{AllByRecursion}
use Rattle.std.proofs.lemmas.Bool.{both_ways, cond_both, eqb-true, eqb-false, or_parts}
use Rattle.volume_codec.specs.declared.layout.Layout.{Layout}
use Rattle.volume_codec.specs.Layout.{GeometryValue, IsGeometry, journals_of, descriptor_blocks}
use Rattle.volume_codec.specs.Descriptor.{AreHomes}
use Rattle.volume_codec.specs.Recovery.{Batch}
use Rattle.journal.specs.declared.stage.Stage.{Stage}
use Rattle.journal.specs.declared.stage.Stage.TheVariants.{Recording, Describing, SyncingRecords, Opening}
use Rattle.journal.specs.declared.stage.Stage.TheVariants.{Committing, Applying, SyncingHomes, Closing, Finishing}
use Rattle.journal.specs.Stage.{is_committed, has_writes, is_ahead}
use Rattle.journal.specs.WriteOut.{WriteOut, next_stage, has_committed, advanced_of, begun_of}
use Rattle.journal.specs.WriteOuts.{WriteOutsValue, none_of, has_uncommitted, is_at, following, is_busy}
use Rattle.journal.specs.WriteOuts.{next_batch, begun}
use Rattle.journal.specs.WriteOut.{IsBatch}
use Rattle.journal.specs.inside.Sound.{IsWriteOut, IsOlder, AreInOrder, IsSpaced, AreSpaced}
use Rattle.journal.specs.inside.Sound.{AreInTurn, IsTurn, IsSound}
use Rattle.journal.specs.inside.Tied.{is_applying, is_applied, is_recorded}
use Rattle.journal.proofs.Alls.{all_map, all_both, all-append, all_front, all_back, all_replaced}
use Rattle.journal.proofs.Places.{descriptor_some}
use Rattle.journal.proofs.Stages.{stage_from, next_of, next_in, next_is}
use Rattle.journal.proofs.Batches.{committed-at, at-is, committed_parts}
use Rattle.journal.proofs.Tying.{false_true, late_stage, late_writer}

pub some_stage : {o : Option Stage} {stage : Stage} → o ≡ Some stage → IsSome o
some_stage e = subst IsSome (sym e) refl

-- ---- the next stage

pub next_from : (g : GeometryValue) (w : WriteOut) (stage : Stage) → IsWriteOut g w → next_stage w ≡ Some stage
    → stage ≢ Finishing → next_stage (advanced_of w) ≡ Some (next_in g.slots w.batch stage)
next_from g w stage is at not_last =
    next_is (length w.batch.homes) w.described w.steps stage is.batch.described.homes.some
    (subst (λ n. 0 < n) (sym is.described) (descriptor_some g.slots)) not_last at
    ∙ ap (λ d. Some (next_of (length w.batch.homes) d stage)) is.described

-- after a step of a batch that isn't committed it isn't, or its application comes next
pub record Early (w : WriteOut) : Type 0 where
  pub stage : Stage
  pub at : next_stage (advanced_of w) ≡ Some stage
  pub waits : is_committed stage ≡ true → stage ≡ Applying 0

pub early_next : (g : GeometryValue) (w : WriteOut) (stage : Stage) → IsWriteOut g w
    → next_stage w ≡ Some stage → is_committed stage ≡ false
    → Early w
early_next g w stage is at early = record {
  stage = next_in g.slots w.batch stage;
  at = next_from g w stage is at (λ e. both_ways (is_committed stage) early (ap is_committed e));
  waits = by stage early;
}
  where
    by : (s : Stage) → is_committed s ≡ false → is_committed (next_in g.slots w.batch s) ≡ true
        → next_in g.slots w.batch s ≡ Applying 0
    by (Recording i) early late = false_true (cond_both (i + 1 == length w.batch.homes) (Describing 0)
        (Recording (i + 1)) (λ t. is_committed t ≡ true → false ≡ true) (λ e l. l) (λ e l. l) late)
    by (Describing i) early late = false_true (cond_both (i + 1 == descriptor_blocks g.slots) SyncingRecords
        (Describing (i + 1)) (λ t. is_committed t ≡ true → false ≡ true) (λ e l. l) (λ e l. l) late)
    by SyncingRecords early late = false_true late
    by Opening early late = false_true late
    by Committing early late = refl
    by (Applying i) early late = false_true (sym early)
    by SyncingHomes early late = false_true (sym early)
    by Closing early late = false_true (sym early)
    by Finishing early late = false_true (sym early)

-- after a step of a committed batch, but for the last, it is committed; home blocks that were sure are
pub record Late (w : WriteOut) : Type 0 where
  pub stage : Stage
  pub at : next_stage (advanced_of w) ≡ Some stage
  pub late : is_committed stage ≡ true
  pub keeps : is_at is_applied w ≡ true → is_at is_applied (advanced_of w) ≡ true

pub late_next : (g : GeometryValue) (w : WriteOut) (stage : Stage) → IsWriteOut g w
    → next_stage w ≡ Some stage → is_committed stage ≡ true → (stage ≡ Finishing → ⊥)
    → Late w
late_next g w stage is at late not_last = record {
  stage = next_in g.slots w.batch stage;
  at = next_from g w stage is at not_last;
  late = late_stage (λ s. is_committed (next_in g.slots w.batch s) ≡ true)
      (λ i. cond_both (i + 1 == length w.batch.homes) SyncingHomes (Applying (i + 1))
      (λ t. is_committed t ≡ true) (λ e. refl) (λ e. refl)) refl refl refl stage late;
  keeps = λ e. at-is is_applied (advanced_of w) (next_in g.slots w.batch stage) (next_from g w stage is at not_last)
      ∙ late_stage (λ s. is_applied s ≡ true → is_applied (next_in g.slots w.batch s) ≡ true)
      (λ i sure. false_true sure) (λ sure. false_true sure) (λ sure. refl) (λ sure. refl) stage late
      (sym (at-is is_applied w stage at) ∙ e);
}

-- ---- their order

pub order_front : (others : List WriteOut) (w : WriteOut) → AreInOrder (others ++ w ∷ []) → AreInOrder others
order_front [] w ordered = tt
order_front (x ∷ others) w ordered = (all_front (IsOlder x) others (w ∷ []) ordered.0, order_front others w ordered.1)

pub order-push : (others : List WriteOut) (w : WriteOut) → AreInOrder others → AllByRecursion (λ x. IsOlder x w) others
    → AreInOrder (others ++ w ∷ [])
order-push [] w ordered older = (tt, tt)
order-push (x ∷ others) w ordered older =
    (all-append (IsOlder x) others (w ∷ []) ordered.0 (older.0, tt), order-push others w ordered.1 older.1)

-- the newest after a step of it is newer than the others still
pub newest_order : (others : List WriteOut) (w : WriteOut) → Early w
    → AreInOrder (others ++ w ∷ []) → AllByRecursion (λ x. IsOlder x w) others
    → AreInOrder (others ++ advanced_of w ∷ [])
newest_order others w next ordered older =
    order-push others (advanced_of w) (order_front others w ordered)
    (all_map (λ (x : WriteOut) (is : IsOlder x w). let r : IsOlder x (advanced_of w) = record {
      marks = is.marks;
      journals = is.journals;
      committed = is.committed;
      waits = λ e. inl (next.at ∙ ap Some (next.waits (sym (committed-at (advanced_of w) next.stage next.at) ∙ e)));
    } in r) others older)

pub newest_each : (g : GeometryValue) (others : List WriteOut) (w : WriteOut)
    → Early w → AllByRecursion (IsWriteOut g) (others ++ w ∷ [])
    → AllByRecursion (IsWriteOut g) (others ++ advanced_of w ∷ [])
newest_each g others w next each =
    all-append (IsWriteOut g) others (advanced_of w ∷ []) (all_front (IsWriteOut g) others (w ∷ []) each) (
      record {
        batch = (all_back (IsWriteOut g) others (w ∷ []) each).0.batch;
        described = (all_back (IsWriteOut g) others (w ∷ []) each).0.described;
        going = some_stage next.at;
      },
      tt,
    )

-- ---- one among others

pub older_of : (older : List WriteOut) (w : WriteOut) (newer : List WriteOut) → AreInOrder (older ++ w ∷ newer)
    → AllByRecursion (λ x. IsOlder x w) older
older_of [] w newer ordered = tt
older_of (x ∷ older) w newer ordered =
    ((all_back (IsOlder x) older (w ∷ newer) ordered.0).0, older_of older w newer ordered.1)

pub newer_of : (older : List WriteOut) (w : WriteOut) (newer : List WriteOut) → AreInOrder (older ++ w ∷ newer)
    → AllByRecursion (IsOlder w) newer
newer_of [] w newer ordered = ordered.0
newer_of (x ∷ older) w newer ordered = newer_of older w newer ordered.1

order_replaced : (older : List WriteOut) (w x : WriteOut) (newer : List WriteOut) → AreInOrder (older ++ w ∷ newer)
    → AllByRecursion (λ y. IsOlder y x) older → AllByRecursion (IsOlder x) newer → AreInOrder (older ++ x ∷ newer)
order_replaced [] w x newer ordered olds news = (news, ordered.1)
order_replaced (y ∷ older) w x newer ordered olds news = (
  all_replaced (IsOlder y) older w x newer (λ is. olds.0) ordered.0,
  order_replaced older w x newer ordered.1 olds.1 news,
)

spaced_replaced : (older : List WriteOut) (w x : WriteOut) (newer : List WriteOut)
    → (is_at is_recorded x ≡ true → is_at is_recorded w ≡ true)
    → (is_at is_applied w ≡ true → is_at is_applied x ≡ true) → AreSpaced (older ++ w ∷ newer)
    → AreSpaced (older ++ x ∷ newer)
spaced_replaced [] w x newer back on spaced =
    (all_map {P = IsSpaced w} {Q = IsSpaced x} (λ y is e. on (is e)) newer spaced.0, spaced.1)
spaced_replaced (y ∷ older) w x newer back on spaced = (
  all_replaced (IsSpaced y) older w x newer (λ is e. is (back e)) spaced.0,
  spaced_replaced older w x newer back on spaced.1,
)

spaced-push : (others : List WriteOut) (w : WriteOut) → (is_at is_recorded w ≡ true → ⊥) → AreSpaced others
    → AreSpaced (others ++ w ∷ [])
spaced-push [] w early spaced = (tt, tt)
spaced-push (x ∷ others) w early spaced = (
  all-append (IsSpaced x) others (w ∷ []) spaced.0 (λ e. absurd (early e), tt),
  spaced-push others w early spaced.1,
)

-- a committed one among others: those that are older have their home blocks sure, and it writes, or it is the oldest
pub record IsOneOf (older : List WriteOut) (w : WriteOut) (stage : Stage) : Type 0 where
  pub at : next_stage w ≡ Some stage
  pub late : is_committed stage ≡ true
  pub sure : AllByRecursion (λ x. is_at is_applied x ≡ true) older
  pub placed : (has_writes stage ≡ true) ⊎ (older ≡ [])

-- its gate isn't closed before the older ones are done
pub none_older : (older : List WriteOut) (w : WriteOut) → next_stage w ≡ Some Closing
    → AllByRecursion (λ x. IsOlder x w) older → older ≡ []
none_older [] w at olds = refl
none_older (x ∷ older) w at olds = elim (olds.0.waits (committed-at w Closing at)) [
  | inl first ↦ (let never : ⊥ = other (sym at ∙ first) in absurd never)
  | inr applied ↦ false_true (sym (at-is is_applying w Closing at) ∙ applied.0)
]
  where
    other : Some Closing ≡ Some (Applying 0) → ⊥
    other e = cc

module _ (g : GeometryValue) (older : List WriteOut) (w : WriteOut) (newer : List WriteOut) (stage : Stage)
    (is : IsOneOf older w stage) (next : Late w) where
  -- those that are older are still
  older_still : IsWriteOut g w → stage ≢ Finishing → AllByRecursion (λ x. IsOlder x w) older
      → AllByRecursion (λ x. IsOlder x (advanced_of w)) older
  older_still own not_last olds = elim is.placed [
    | inr none ↦ subst (AllByRecursion (λ x. IsOlder x (advanced_of w))) (sym none) tt
    | inl writes ↦ all_both {P = λ x. IsOlder x w} {Q = λ x. is_at is_applied x ≡ true} (λ x old sure. record {
      marks = old.marks;
      journals = old.journals;
      committed = old.committed;
      waits = λ e. inr (
        at-is is_applying (advanced_of w) (next_in g.slots w.batch stage) (next_from g w stage own is.at not_last)
            ∙ by stage is.late writes is.at x old,
        sure,
      );
    }) older olds is.sure
  ]
    where
      some_list : (x : WriteOut) → (x ∷ []) ≡ [] → ⊥
      some_list x e = cc

      by : (s : Stage) → is_committed s ≡ true → has_writes s ≡ true → next_stage w ≡ Some s → (x : WriteOut)
          → IsOlder x w → is_applying (next_in g.slots w.batch s) ≡ true
      by = late_writer _
          (λ i at x old. cond_both (i + 1 == length w.batch.homes) SyncingHomes (Applying (i + 1))
          (λ t. is_applying t ≡ true) (λ e. refl) (λ e. refl))
          (λ at x old. absurd (some_list x (none_older (x ∷ []) w at (old, tt))))

  pub one_order : IsWriteOut g w → stage ≢ Finishing → AreInOrder (older ++ w ∷ newer)
      → AreInOrder (older ++ advanced_of w ∷ newer)
  one_order own not_last ordered =
      order_replaced older w (advanced_of w) newer ordered (older_still own not_last (older_of older w newer ordered))
      (all_map {P = IsOlder w} {Q = IsOlder (advanced_of w)} (λ x old. record {
        marks = old.marks;
        journals = old.journals;
        committed = committed-at (advanced_of w) next.stage next.at ∙ next.late;
        waits = λ e. elim (old.waits e) [ inl first ↦ inl first | inr applied ↦ inr (applied.0, next.keeps applied.1) ];
      }) newer (newer_of older w newer ordered))

  pub one_spaced : AreSpaced (older ++ w ∷ newer) → AreSpaced (older ++ advanced_of w ∷ newer)
  one_spaced spaced = spaced_replaced older w (advanced_of w) newer
      (λ e. at-is is_recorded w stage is.at
      ∙ late_stage (λ s. is_recorded s ≡ true) (λ i. refl) refl refl refl stage is.late)
      next.keeps spaced

  pub one_each : AllByRecursion (IsWriteOut g) (older ++ w ∷ newer)
      → AllByRecursion (IsWriteOut g) (older ++ advanced_of w ∷ newer)
  one_each each = all_replaced (IsWriteOut g) older w (advanced_of w) newer
      (λ own. record { batch = own.batch; described = own.described; going = some_stage next.at }) each

-- the newest that goes ahead
pub newest_spaced : (g : GeometryValue) (others : List WriteOut) (w : WriteOut) (stage : Stage) → IsWriteOut g w
    → next_stage w ≡ Some stage → is_ahead stage ≡ true → AreSpaced (others ++ w ∷ [])
    → AreSpaced (others ++ advanced_of w ∷ [])
newest_spaced g others w stage own at ahead spaced = spaced_replaced others w (advanced_of w) []
    (λ e. at-is is_recorded w stage at ∙ back stage ahead
    (sym (at-is is_recorded (advanced_of w) (next_in g.slots w.batch stage)
    (next_from g w stage own at (λ last. false_true (sym (ap is_ahead last) ∙ ahead)))) ∙ e))
    (λ e. unsure stage ahead (sym (at-is is_applied w stage at) ∙ e)) spaced
  where
    back : (s : Stage) → is_ahead s ≡ true → is_recorded (next_in g.slots w.batch s) ≡ true → is_recorded s ≡ true
    back (Recording i) ahead e = cond_both (i + 1 == length w.batch.homes) (Describing 0) (Recording (i + 1))
        (λ t. is_recorded t ≡ true → false ≡ true) (λ same l. l) (λ other l. l) e
    back (Describing i) ahead e = cond_both (i + 1 == descriptor_blocks g.slots) SyncingRecords (Describing (i + 1))
        (λ t. is_recorded t ≡ true → false ≡ true) (λ same l. l) (λ other l. l) e
    back SyncingRecords ahead e = false_true ahead
    back Opening ahead e = refl
    back Committing ahead e = refl
    back (Applying i) ahead e = false_true ahead
    back SyncingHomes ahead e = false_true ahead
    back Closing ahead e = false_true ahead
    back Finishing ahead e = false_true ahead

    unsure : {A : Type 0} (s : Stage) → is_ahead s ≡ true → is_applied s ≡ true → A
    unsure (Recording i) ahead e = false_true e
    unsure (Describing i) ahead e = false_true e
    unsure SyncingRecords ahead e = false_true e
    unsure Opening ahead e = false_true e
    unsure Committing ahead e = false_true e
    unsure (Applying i) ahead e = false_true e
    unsure SyncingHomes ahead e = false_true e
    unsure Closing ahead e = false_true ahead
    unsure Finishing ahead e = false_true ahead

-- ---- whose turn it is

in_turn_one : (layout : Layout) (next journal : ℕ) (older : List WriteOut) (w x : WriteOut) (newer : List WriteOut)
    → w.batch.journal ≡ x.batch.journal → AreInTurn layout next journal (older ++ w ∷ newer)
    → AreInTurn layout next journal (older ++ x ∷ newer)
in_turn_one layout next journal [] w x newer same turn = (sym same ∙ turn.0, turn.1)
in_turn_one layout next journal (y ∷ older) w x newer same turn =
    (turn.0, in_turn_one layout next (following layout journal) older w x newer same turn.1)

pub turn_one : (layout : Layout) (next : ℕ) (older : List WriteOut) (w x : WriteOut) (newer : List WriteOut)
    → w.batch.journal ≡ x.batch.journal → IsTurn layout next (older ++ w ∷ newer)
    → IsTurn layout next (older ++ x ∷ newer)
turn_one layout next [] w x newer same turn =
    subst (λ j. AreInTurn layout next (following layout j) newer) same turn
turn_one layout next (y ∷ older) w x newer same turn =
    in_turn_one layout next (following layout y.batch.journal) older w x newer same turn

pub turn_rest : (layout : Layout) (next : ℕ) (w : WriteOut) (newer : List WriteOut) → IsTurn layout next (w ∷ newer)
    → IsTurn layout next newer
turn_rest layout next w [] turn = tt
turn_rest layout next w (y ∷ newer) turn =
    subst (λ j. AreInTurn layout next (following layout j) newer) (sym turn.0) turn.1

in_turn-push : (layout : Layout) (next journal : ℕ) (others : List WriteOut) (w : WriteOut) → w.batch.journal ≡ next
    → AreInTurn layout next journal others → AreInTurn layout (following layout next) journal (others ++ w ∷ [])
in_turn-push layout next journal [] w same turn = (same ∙ turn, ap (following layout) turn)
in_turn-push layout next journal (y ∷ others) w same turn =
    (turn.0, in_turn-push layout next (following layout journal) others w same turn.1)

pub turn-push : (layout : Layout) (next : ℕ) (others : List WriteOut) (w : WriteOut) → w.batch.journal ≡ next
    → IsTurn layout next others → IsTurn layout (following layout next) (others ++ w ∷ [])
turn-push layout next [] w same turn = ap (following layout) (sym same)
turn-push layout next (y ∷ others) w same turn =
    in_turn-push layout next (following layout y.batch.journal) others w same turn

pub following_there : (layout : Layout) (j : ℕ) → j < journals_of layout → following layout j < journals_of layout
following_there layout j lt =
    cond_both (j + 1 == journals_of layout) 0 (j + 1) (λ k. k < journals_of layout) (λ e. omega (arith, lt))
    (λ e. omega (arith, lt, eqb-false (j + 1) (journals_of layout) e))

-- so many batches after a journal the next one follows, perhaps after a round through all journals
turn_after : (layout : Layout) (next journal : ℕ) (batches : List WriteOut) → AreInTurn layout next journal batches
    → length batches < journals_of layout
    → (journal + length batches ≡ next) ⊎ (journal + length batches ≡ next + journals_of layout)
turn_after layout next journal [] turn few = inl (omega (arith, turn))
turn_after layout next journal (w ∷ newer) turn few =
    cond_both (journal + 1 == journals_of layout) 0 (journal + 1)
    (λ k. (k + length newer ≡ next) ⊎ (k + length newer ≡ next + journals_of layout)
    → (journal + suc (length newer) ≡ next) ⊎ (journal + suc (length newer) ≡ next + journals_of layout))
    (λ e rest. elim rest [
      | inl is ↦ inr (omega (arith, is, eqb-true (journal + 1) (journals_of layout) e))
      | inr is ↦ absurd (omega (arith, is, few))
    ])
    (λ e rest. elim rest [ inl is ↦ inl (omega (arith, is)) | inr is ↦ inr (omega (arith, is)) ])
    (turn_after layout next (following layout journal) newer turn.1 (omega (arith, few)))

-- with fewer batches than journals, no batch has the journal whose turn it is
free_after : (layout : Layout) (next journal : ℕ) (batches : List WriteOut) → AreInTurn layout next journal batches
    → length batches < journals_of layout
    → AllByRecursion (λ (w : WriteOut). w.batch.journal ≢ next) batches
free_after layout next journal [] turn few = tt
free_after layout next journal (w ∷ newer) turn few = (
  λ e. elim (turn_after layout next journal (w ∷ newer) turn few) [
    | inl is ↦ omega (arith, is, e, turn.0)
    | inr is ↦ omega (arith, is, e, turn.0, few)
  ],
  free_after layout next (following layout journal) newer turn.1 (omega (arith, few)),
)

pub turn_free : (layout : Layout) (next : ℕ) (batches : List WriteOut)
    → IsTurn layout next batches → length batches < journals_of layout
    → AllByRecursion (λ (w : WriteOut). w.batch.journal ≢ next) batches
turn_free layout next [] turn few = tt
turn_free layout next (w ∷ newer) turn few = free_after layout next w.batch.journal (w ∷ newer) (refl, turn) few

-- ---- a batch begins

-- where there is none yet
pub sound_without : (g : GeometryValue) (next : ℕ) → IsGeometry g → next < journals_of g.layout
    → IsSound (record (none_of g) { next = next })
sound_without g next is_geometry there = record {
  geometry = is_geometry;
  there = there;
  few = omega arith;
  each = tt;
  ordered = tt;
  spaced = λ e. tt;
  turn = tt;
}

-- where none isn't committed, each is
pub each_committed : (batches : List WriteOut) → has_uncommitted batches ≡ false
    → AllByRecursion (λ w. has_committed w ≡ true) batches
each_committed [] none = tt
each_committed (w ∷ newer) none = let parts = committed_parts w newer none in (parts.0, each_committed newer parts.1)

pub first_stage : (slots : ℕ) (batch : Batch) → 0 < length batch.homes
    → next_stage (begun_of slots batch) ≡ Some (Recording 0)
first_stage slots batch some =
    stage_from (length batch.homes) (descriptor_blocks slots) 0 (Some (Recording 0)) (refl, some)

-- write-outs that aren't busy: each is committed, and a journal is free
pub record IsFree (outs : WriteOutsValue) : Type 0 where
  pub none : has_uncommitted outs.batches ≡ false
  pub fewer : length outs.batches < journals_of outs.geometry.layout

pub not_busy : (outs : WriteOutsValue) → IsSound outs → is_busy outs ≡ false → IsFree outs
not_busy outs sound free =
    let parts =
    or_parts (has_uncommitted outs.batches) (length outs.batches == journals_of outs.geometry.layout) free in
    record {
      none = parts.0;
      fewer = smaller (length outs.batches) (journals_of outs.geometry.layout) sound.few
          (eqb-false (length outs.batches) (journals_of outs.geometry.layout) parts.1);
    }
  where
    smaller : (a b : ℕ) → a ≤ b → (a ≡ b → ⊥) → a < b
    smaller a b le other = omega arith

pub next_is_batch : (outs : WriteOutsValue) (mark : ℕ) (homes : List ℕ)
    → IsSound outs → 0 < mark → mark < 2 ^ 64 → AreHomes outs.geometry homes
    → IsBatch outs.geometry (next_batch outs mark homes)
next_is_batch outs mark homes sound some small are =
    record { there = sound.there; described = record { some_mark = some; small_mark = small; homes = are } }

pub begun_sound : (outs : WriteOutsValue) (mark : ℕ) (homes : List ℕ) → IsSound outs → IsFree outs
    → IsBatch outs.geometry (next_batch outs mark homes) → AllByRecursion (λ w. w.batch.mark < mark) outs.batches
    → IsSound (begun outs mark homes)
begun_sound outs mark homes sound free is_batch below =
    let batch = next_batch outs mark homes in
    let first = begun_of outs.geometry.slots batch in
    let begins = first_stage outs.geometry.slots batch is_batch.described.homes.some in
    record {
      geometry = sound.geometry;
      there = following_there outs.geometry.layout outs.next sound.there;
      few = omega (arith, free.fewer, length-append outs.batches (first ∷ []));
      each = all-append (IsWriteOut outs.geometry) outs.batches (first ∷ []) sound.each
          (record { batch = is_batch; described = refl; going = some_stage begins }, tt);
      ordered = order-push outs.batches first sound.ordered
          (all_both {P = λ (w : WriteOut). (w.batch.mark < mark) × (has_committed w ≡ true)}
          {Q = λ (w : WriteOut). w.batch.journal ≢ outs.next} {R = λ (w : WriteOut). IsOlder w first}
          (λ w facts apart. record {
            marks = facts.0;
            journals = apart;
            committed = facts.1;
            waits = λ e. absurd (both_ways (has_committed first) (committed-at first (Recording 0) begins) e);
          }) outs.batches
          (all_both {P = λ (w : WriteOut). w.batch.mark < mark} {Q = λ (w : WriteOut). has_committed w ≡ true}
          {R = λ (w : WriteOut). (w.batch.mark < mark) × (has_committed w ≡ true)}
          (λ w lt is. (lt, is)) outs.batches below (each_committed outs.batches free.none))
          (turn_free outs.geometry.layout outs.next outs.batches sound.turn free.fewer));
      spaced = λ shares. spaced-push outs.batches first
          (λ e. false_true (sym (at-is is_recorded first (Recording 0) begins) ∙ e)) (sound.spaced shares);
      turn = turn-push outs.geometry.layout outs.next outs.batches first refl sound.turn;
    }
