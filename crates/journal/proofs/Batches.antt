-- The write-outs under way: the newest that isn't committed, or the oldest, and those whose gates are open.
use Rattle.std.proofs.Common.{◌≡◌, ◌⊎◌, inl, inr, true, false, not, ◌||◌, List, []}
use Rattle.std.proofs.Common.{◌∷◌, ◌++◌, cond, drop, map, Bool, Option, Some, refl, ap, ◌∙◌, subst, arith}
use Rattle.std.specs.List.{AllByRecursion, Contains}
use Rattle.std.specs.Option.{option_map_or}
use Rattle.std.proofs.lemmas.Bool.{cond-true, cond-false, both_ways, or_parts, or_right}
use Rattle.std.proofs.lemmas.Bool.{or_cases, not-true, not_from_false, cases_Bool, cond_both}
use Rattle.std.proofs.lemmas.List.Elements.{Contains-append_cases, Contains-append_right, Contains-push_cases}
use Rattle.journal.specs.declared.stage.Stage.{Stage}
use Rattle.journal.specs.declared.flushed.Flushed.{Flushed}
use Rattle.journal.specs.declared.flushed.Flushed.TheVariants.{Going, Committed, Done, Device, Broken}
use Rattle.journal.specs.Stage.{is_committed, may_share}
use Rattle.journal.specs.WriteOut.{WriteOut, next_stage, has_committed, advanced_of}
use Rattle.journal.specs.WriteOuts.{has_uncommitted, is_at, gives_way, joined, moved, current, advanced}
use Rattle.journal.specs.WriteOuts.{batches_after}
use Rattle.journal.specs.inside.Sound.{IsOlder, AreInOrder}
use Rattle.journal.proofs.Alls.{all_back}

-- ---- the newest, where it isn't committed

-- the newest of these isn't committed
pub record HasNewest (batches : List WriteOut) : Type 0 where
  pub others : List WriteOut
  pub newest : WriteOut
  pub are : batches ≡ others ++ newest ∷ []
  pub uncommitted : has_committed newest ≡ false
  pub older : AllByRecursion (λ w. IsOlder w newest) others

pub newest_of : (batches : List WriteOut) → AreInOrder batches → has_uncommitted batches ≡ true → HasNewest batches
newest_of [] ordered has = absurd (both_ways false refl has)
newest_of (w ∷ []) ordered has = record {
  others = [];
  newest = w;
  are = refl;
  uncommitted = elim (or_cases (not (has_committed w)) false has) [
    | inl e ↦ not-true (has_committed w) e
    | inr e ↦ absurd (both_ways false refl e)
  ];
  older = tt;
}
newest_of (w ∷ x ∷ newer) ordered has =
    let later : has_uncommitted (x ∷ newer) ≡ true =
    elim (or_cases (not (has_committed w)) (has_uncommitted (x ∷ newer)) has) [
      | inl e ↦ absurd (both_ways (has_committed w) (not-true (has_committed w) e) ordered.0.0.committed)
      | inr e ↦ e
    ] in
    let n = newest_of (x ∷ newer) ordered.1 later in
    record {
      others = w ∷ n.others;
      newest = n.newest;
      are = ap (λ (l : List WriteOut). w ∷ l) n.are;
      uncommitted = n.uncommitted;
      older = (
        (all_back (IsOlder w) n.others (n.newest ∷ []) (subst (AllByRecursion (IsOlder w)) n.are ordered.0)).0,
        n.older,
      );
    }

pub has_uncommitted-newest : (others : List WriteOut) (newest : WriteOut) → has_committed newest ≡ false
    → has_uncommitted (others ++ newest ∷ []) ≡ true
has_uncommitted-newest [] newest e = ap (λ b. not b || false) e
has_uncommitted-newest (w ∷ others) newest e =
    or_right (not (has_committed w)) (has_uncommitted (others ++ newest ∷ [])) (has_uncommitted-newest others newest e)

pub current-newest : (others : List WriteOut) (newest : WriteOut) → has_committed newest ≡ false
    → current (others ++ newest ∷ []) ≡ Some newest
current-newest [] newest e = refl
current-newest (w ∷ others) newest e =
    cond-true (has_uncommitted (others ++ newest ∷ []))
    (current (others ++ newest ∷ [])) (Some w) (has_uncommitted-newest others newest e)
    ∙ current-newest others newest e

pub advanced-newest : (others : List WriteOut) (newest : WriteOut) → has_committed newest ≡ false
    → advanced (others ++ newest ∷ []) ≡ others ++ advanced_of newest ∷ []
advanced-newest [] newest e = refl
advanced-newest (w ∷ others) newest e =
    cond-true (has_uncommitted (others ++ newest ∷ [])) (w ∷ advanced (others ++ newest ∷ []))
    (advanced_of w ∷ (others ++ newest ∷ [])) (has_uncommitted-newest others newest e)
    ∙ ap (λ (l : List WriteOut). w ∷ l) (advanced-newest others newest e)

-- ---- the oldest, where all are committed

pub committed_parts : (w : WriteOut) (newer : List WriteOut) → has_uncommitted (w ∷ newer) ≡ false
    → (has_committed w ≡ true) × (has_uncommitted newer ≡ false)
committed_parts w newer none =
    let parts = or_parts (not (has_committed w)) (has_uncommitted newer) none in (
      elim (cases_Bool (has_committed w)) [
        | inl e ↦ e
        | inr e ↦ absurd (both_ways (not (has_committed w)) parts.0 (not_from_false (has_committed w) e))
      ],
      parts.1,
    )

pub current-oldest : (w : WriteOut) (newer : List WriteOut) → has_uncommitted newer ≡ false
    → current (w ∷ newer) ≡ Some w
current-oldest w newer none = cond-false (has_uncommitted newer) (current newer) (Some w) none

pub advanced-oldest : (w : WriteOut) (newer : List WriteOut) → has_uncommitted newer ≡ false
    → advanced (w ∷ newer) ≡ advanced_of w ∷ newer
advanced-oldest w newer none = cond-false (has_uncommitted newer) (w ∷ advanced newer) (advanced_of w ∷ newer) none

pub committed-at : (w : WriteOut) (stage : Stage) → next_stage w ≡ Some stage → has_committed w ≡ is_committed stage
committed-at w stage e = ap (λ (o : Option Stage). option_map_or is_committed o true) e

pub at-is : (has : Stage → Bool) (w : WriteOut) (stage : Stage) → next_stage w ≡ Some stage → is_at has w ≡ has stage
at-is has w stage e = ap (λ (o : Option Stage). option_map_or has o false) e

-- the one whose step comes next without shared syncs is the newest of these, where that isn't committed
pub current-later : (older : List WriteOut) (w : WriteOut) (newer : List WriteOut) → has_uncommitted newer ≡ true
    → current (older ++ w ∷ newer) ≡ current newer
current-later [] w newer has = cond-true (has_uncommitted newer) (current newer) (Some w) has
current-later (x ∷ older) w newer has =
    cond-true (has_uncommitted (older ++ w ∷ newer)) (current (older ++ w ∷ newer)) (Some x)
    (uncommitted_later older w newer has)
    ∙ current-later older w newer has
  where
    uncommitted_later : (older : List WriteOut) (w : WriteOut) (newer : List WriteOut) → has_uncommitted newer ≡ true
        → has_uncommitted (older ++ w ∷ newer) ≡ true
    uncommitted_later [] w newer has = or_right (not (has_committed w)) (has_uncommitted newer) has
    uncommitted_later (x ∷ older) w newer has =
        or_right (not (has_committed x)) (has_uncommitted (older ++ w ∷ newer)) (uncommitted_later older w newer has)

-- ---- a step makes no batch

-- one of these has the batch
abbrev WasThere : List WriteOut → WriteOut → Type 0
WasThere batches w = (before : WriteOut) × Contains batches before × (before.batch ≡ w.batch)

met : {X : Type 0} (x : X) (xs : List X) (y : X) → Contains (x ∷ xs) y → (x ≡ y) ⊎ Contains xs y
met x xs y there = elim (Contains-append_cases (x ∷ []) xs y there) [
  | inl here ↦ elim (Contains-push_cases [] x y here) [ inl none ↦ absurd (omega (arith, none.1)) | inr e ↦ inl e ]
  | inr rest ↦ inr rest
]

was_later : (x : WriteOut) (newer : List WriteOut) (w : WriteOut) → WasThere newer w → WasThere (x ∷ newer) w
was_later x newer w before = (before.0, Contains-append_right (x ∷ []) newer before.0 before.1, before.2)

all_stay : (batches : List WriteOut) (w : WriteOut) → Contains (map advanced_of batches) w → WasThere batches w
all_stay [] w there = absurd (omega (arith, there.1))
all_stay (x ∷ newer) w there = elim (met (advanced_of x) (map advanced_of newer) w there) [
  | inl e ↦ (x, (0, omega arith, refl), ap (λ (y : WriteOut). y.batch) e)
  | inr rest ↦ was_later x newer w (all_stay newer w rest)
]

joined_stay : (shares : Bool) (x : WriteOut) (newer : List WriteOut) (w : WriteOut) → Contains (joined shares x newer) w
    → WasThere newer w
joined_stay shares x newer w =
    cond_both shares (cond (is_at may_share x) (map advanced_of newer) newer) newer
    (λ (l : List WriteOut). Contains l w → WasThere newer w)
    (λ e. cond_both (is_at may_share x) (map advanced_of newer) newer
    (λ (l : List WriteOut). Contains l w → WasThere newer w)
    (λ all there. all_stay newer w there) (λ none there. (w, there, refl)))
    (λ e there. (w, there, refl))

batch_stays : (shares : Bool) (batches : List WriteOut) (w : WriteOut) → Contains (moved shares batches) w
    → WasThere batches w
batch_stays shares [] w there = absurd (omega (arith, there.1))
batch_stays shares (x ∷ newer) w there = elim (cases_Bool (gives_way shares x newer)) [
  | inl later ↦ elim (met x (moved shares newer) w (subst (λ (l : List WriteOut). Contains l w)
      (cond-true (gives_way shares x newer) (x ∷ moved shares newer) (advanced_of x ∷ joined shares x newer) later)
      there)) [
        | inl e ↦ (x, (0, omega arith, refl), ap (λ (y : WriteOut). y.batch) e)
        | inr rest ↦ was_later x newer w (batch_stays shares newer w rest)
      ]
  | inr none ↦ elim (met (advanced_of x) (joined shares x newer) w (subst (λ (l : List WriteOut). Contains l w)
      (cond-false (gives_way shares x newer) (x ∷ moved shares newer) (advanced_of x ∷ joined shares x newer) none)
      there)) [
        | inl e ↦ (x, (0, omega arith, refl), ap (λ (y : WriteOut). y.batch) e)
        | inr rest ↦ was_later x newer w (joined_stay shares x newer w rest)
      ]
]

rest_stays : (shares : Bool) (batches : List WriteOut) (w : WriteOut) (l : List WriteOut)
    → (Contains l w → WasThere batches w) → Contains (drop 1 l) w → WasThere batches w
rest_stays shares batches w [] all there = all there
rest_stays shares batches w (x ∷ l) all there = all (Contains-append_right (x ∷ []) l w there)

pub batch_before : (shares : Bool) (answer : Flushed) (batches : List WriteOut) (w : WriteOut)
    → Contains (batches_after shares answer batches) w
    → (before : WriteOut) × Contains batches before × (before.batch ≡ w.batch)
batch_before shares Going batches w there = batch_stays shares batches w there
batch_before shares (Committed mark) batches w there = batch_stays shares batches w there
batch_before shares (Done mark) batches w there =
    rest_stays shares batches w (moved shares batches) (batch_stays shares batches w) there
batch_before shares Device batches w there = (w, there, refl)
batch_before shares Broken batches w there = (w, there, refl)
