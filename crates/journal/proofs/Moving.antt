-- Whose step comes next: the newest goes on, or one among others, or all of them share a sync.
use Rattle.std.proofs.Common.{◌≡◌, inl, inr, Bool, true, false, not, ◌||◌, ◌&&◌, cond, List, []}
use Rattle.std.proofs.Common.{◌∷◌, ◌++◌, map, Option, Some, None, refl, sym, ap, ◌∙◌, subst}
use Rattle.std.specs.Prelude.{IsSome}
use Rattle.std.specs.List.{AllByRecursion, list_any}
use Rattle.std.specs.Option.{option_map_or}
use Rattle.std.proofs.lemmas.Bool.{both_ways, cases_Bool, cond_both, cond-true, cond-false, or_left, or_right, or_from}
use Rattle.std.proofs.lemmas.Bool.{or_parts, or_cases, and_from, and_left, and_right, not_from_true, not_from_false}
use Rattle.volume_codec.specs.Layout.{GeometryValue}
use Rattle.journal.specs.declared.stage.Stage.{Stage}
use Rattle.journal.specs.declared.stage.Stage.TheVariants.{Recording, Describing, SyncingRecords, Opening}
use Rattle.journal.specs.declared.stage.Stage.TheVariants.{Committing, Applying, SyncingHomes, Closing, Finishing}
use Rattle.journal.specs.Stage.{is_committed, has_writes, may_share, is_ahead}
use Rattle.journal.specs.WriteOut.{WriteOut, next_stage, has_committed, advanced_of}
use Rattle.journal.specs.WriteOuts.{has_uncommitted, is_at, gives_way, moving, joined, moved}
use Rattle.journal.specs.inside.Sound.{IsWriteOut, IsOlder, AreInOrder, IsSpaced, AreSpaced}
use Rattle.journal.specs.inside.Tied.{is_applying, is_applied, is_recorded}
use Rattle.journal.proofs.Alls.{all_map, all-append, all_back}
use Rattle.journal.proofs.Batches.{HasNewest, newest_of, current-newest, current-oldest, advanced-newest}
use Rattle.journal.proofs.Batches.{advanced-oldest, committed_parts, committed-at, at-is}
use Rattle.journal.proofs.Tying.{false_true, late_lacks, stage_of}
use Rattle.journal.proofs.Sounding.{IsOneOf, each_committed}

-- ---- some of them have this

module _ (has : WriteOut → Bool) where
  none_has : (batches : List WriteOut) → list_any has batches ≡ false
      → AllByRecursion (λ w. has w ≡ false) batches
  none_has [] none = tt
  none_has (w ∷ newer) none =
      let parts = or_parts (has w) (list_any has newer) none in
      (parts.0, none_has newer parts.1)

  has_none : (batches : List WriteOut) → AllByRecursion (λ w. has w ≡ false) batches → list_any has batches ≡ false
  has_none [] all = refl
  has_none (w ∷ newer) all = or_from (has w) (list_any has newer) all.0 (has_none newer all.1)

  one_has : (older : List WriteOut) (w : WriteOut) (newer : List WriteOut) → has w ≡ true
      → list_any has (older ++ w ∷ newer) ≡ true
  one_has [] w newer is = or_left (has w) (list_any has newer) is
  one_has (x ∷ older) w newer is =
      or_right (has x) (list_any has (older ++ w ∷ newer)) (one_has older w newer is)

  -- the oldest that has it
  record HasFirst (batches : List WriteOut) : Type 0 where
    older : List WriteOut
    it : WriteOut
    newer : List WriteOut
    are : batches ≡ older ++ it ∷ newer
    before : AllByRecursion (λ w. has w ≡ false) older
    is : has it ≡ true

  first_of : (batches : List WriteOut) → list_any has batches ≡ true → HasFirst batches
  first_of [] some = false_true some
  first_of (w ∷ newer) some = elim (cases_Bool (has w)) [
    | inl is ↦ record { older = []; it = w; newer = newer; are = refl; before = tt; is = is }
    | inr not ↦ (let later : list_any has newer ≡ true = elim (or_cases (has w) (list_any has newer) some) [
      | inl is ↦ absurd (both_ways (has w) not is)
      | inr is ↦ is
    ] in
        let first = first_of newer later in
        record {
          older = w ∷ first.older;
          it = first.it;
          newer = first.newer;
          are = ap (λ (l : List WriteOut). w ∷ l) first.are;
          before = (not, first.before);
          is = first.is;
        })
  ]

-- ---- where syncs are shared

abbrev IsMoved : Bool → List WriteOut → WriteOut → List WriteOut → Type 0
IsMoved shares batches w after = (moving shares batches ≡ Some w) × (moved shares batches ≡ after)

steps_first : (shares : Bool) (w : WriteOut) (newer after : List WriteOut) → gives_way shares w newer ≡ false
    → joined shares w newer ≡ after → IsMoved shares (w ∷ newer) w (advanced_of w ∷ after)
steps_first shares w newer after first e = (
  cond-false (gives_way shares w newer) (moving shares newer) (Some w) first,
  cond-false (gives_way shares w newer) (w ∷ moved shares newer) (advanced_of w ∷ joined shares w newer) first
      ∙ ap (λ (l : List WriteOut). advanced_of w ∷ l) e,
)

steps_later : (shares : Bool) (x : WriteOut) (newer : List WriteOut) (w : WriteOut) (after : List WriteOut)
    → gives_way shares x newer ≡ true → IsMoved shares newer w after → IsMoved shares (x ∷ newer) w (x ∷ after)
steps_later shares x newer w after later rest = (
  cond-true (gives_way shares x newer) (moving shares newer) (Some x) later ∙ rest.0,
  cond-true (gives_way shares x newer) (x ∷ moved shares newer) (advanced_of x ∷ joined shares x newer) later
      ∙ ap (λ (l : List WriteOut). x ∷ l) rest.1,
)

-- one that is alone
pub lone_moves : (shares : Bool) (w : WriteOut)
    → (moving shares (w ∷ []) ≡ Some w) × (moved shares (w ∷ []) ≡ advanced_of w ∷ [])
lone_moves shares w = steps_first shares w [] []
    (cond_both shares (false || (not (is_at has_writes w) && false)) false (λ b. b ≡ false)
    (λ e. and_right (not (is_at has_writes w)) false refl) (λ e. refl))
    (cond_both shares (cond (is_at may_share w) [] []) [] (λ (l : List WriteOut). l ≡ [])
    (λ e. cond_both (is_at may_share w) [] [] (λ (l : List WriteOut). l ≡ []) (λ e. refl) (λ e. refl)) (λ e. refl))

ahead_moves : (others : List WriteOut) (w : WriteOut) → is_at is_ahead w ≡ true
    → IsMoved true (others ++ w ∷ []) w (others ++ advanced_of w ∷ [])
ahead_moves [] w ahead = steps_first true w [] [] (and_right (not (is_at has_writes w)) false refl)
    (cond_both (is_at may_share w) [] [] (λ (l : List WriteOut). l ≡ []) (λ e. refl) (λ e. refl))
ahead_moves (x ∷ others) w ahead = steps_later true x (others ++ w ∷ []) w (others ++ advanced_of w ∷ [])
    (or_left (list_any (is_at is_ahead) (others ++ w ∷ []))
    (not (is_at has_writes x) && list_any (is_at has_writes) (others ++ w ∷ []))
    (one_has (is_at is_ahead) others w [] ahead))
    (ahead_moves others w ahead)

writer_moves : (older : List WriteOut) (w : WriteOut) (newer : List WriteOut)
    → AllByRecursion (λ x. is_at has_writes x ≡ false) older → is_at has_writes w ≡ true
    → is_at may_share w ≡ false → list_any (is_at is_ahead) newer ≡ false
    → IsMoved true (older ++ w ∷ newer) w (older ++ advanced_of w ∷ newer)
writer_moves [] w newer before writes alone none = steps_first true w newer newer
    (or_from (list_any (is_at is_ahead) newer) (not (is_at has_writes w) && list_any (is_at has_writes) newer) none
    (and_left (not (is_at has_writes w)) (list_any (is_at has_writes) newer)
    (not_from_true (is_at has_writes w) writes)))
    (cond-false (is_at may_share w) (map advanced_of newer) newer alone)
writer_moves (x ∷ older) w newer before writes alone none =
    steps_later true x (older ++ w ∷ newer) w (older ++ advanced_of w ∷ newer)
    (or_right (list_any (is_at is_ahead) (older ++ w ∷ newer))
    (not (is_at has_writes x) && list_any (is_at has_writes) (older ++ w ∷ newer))
    (and_from (not (is_at has_writes x)) (list_any (is_at has_writes) (older ++ w ∷ newer))
    (not_from_false (is_at has_writes x) before.0)
    (one_has (is_at has_writes) older w newer writes)))
    (writer_moves older w newer before.1 writes alone none)

all_move : (w : WriteOut) (newer : List WriteOut) → is_at may_share w ≡ true
    → list_any (is_at is_ahead) newer ≡ false → list_any (is_at has_writes) newer ≡ false
    → IsMoved true (w ∷ newer) w (map advanced_of (w ∷ newer))
all_move w newer joins none_ahead none_writes = steps_first true w newer (map advanced_of newer)
    (or_from (list_any (is_at is_ahead) newer) (not (is_at has_writes w) && list_any (is_at has_writes) newer)
    none_ahead (and_right (not (is_at has_writes w)) (list_any (is_at has_writes) newer) none_writes))
    (cond-true (is_at may_share w) (map advanced_of newer) newer joins)

-- ---- stages

pub not_ahead : (w : WriteOut) → has_committed w ≡ true → is_at is_ahead w ≡ false
not_ahead = late_lacks is_ahead (λ i. refl) refl refl refl

-- one that writes, and isn't ahead
record IsWriter (s : Stage) : Type 0 where
  late : is_committed s ≡ true
  alone : may_share s ≡ false
  recorded : is_recorded s ≡ true

writer : (s : Stage) → has_writes s ≡ true → is_ahead s ≡ false → IsWriter s
writer (Recording i) writes behind = false_true (sym behind)
writer (Describing i) writes behind = false_true (sym behind)
writer SyncingRecords writes behind = false_true writes
writer Opening writes behind = false_true (sym behind)
writer Committing writes behind = false_true writes
writer (Applying i) writes behind = record { late = refl; alone = refl; recorded = refl }
writer SyncingHomes writes behind = false_true writes
writer Closing writes behind = record { late = refl; alone = refl; recorded = refl }
writer Finishing writes behind = false_true writes

-- one that does neither
data IsSyncing : Stage → Type 0 where
  RecordsNext : IsSyncing SyncingRecords
  HomesNext : IsSyncing SyncingHomes
  EndNext : IsSyncing Finishing

syncing : (s : Stage) → has_writes s ≡ false → is_ahead s ≡ false → IsSyncing s
syncing (Recording i) none behind = false_true (sym none)
syncing (Describing i) none behind = false_true (sym none)
syncing SyncingRecords none behind = RecordsNext
syncing Opening none behind = false_true (sym none)
syncing Committing none behind = false_true (sym behind)
syncing (Applying i) none behind = false_true (sym none)
syncing SyncingHomes none behind = HomesNext
syncing Closing none behind = false_true (sym none)
syncing Finishing none behind = EndNext

joint : (s : Stage) → IsSyncing s → may_share s ≡ true
joint s RecordsNext = refl
joint s HomesNext = refl
joint s EndNext = refl

-- by these
pub lone_at_end : (others : List WriteOut) (w : WriteOut) → is_at is_ahead w ≡ true
    → (moving true (others ++ w ∷ []) ≡ Some w) × (moved true (others ++ w ∷ []) ≡ others ++ advanced_of w ∷ [])
lone_at_end others w ahead = ahead_moves others w ahead

pub lone_writer : (older : List WriteOut) (w : WriteOut) (newer : List WriteOut) (s : Stage) → next_stage w ≡ Some s
    → AllByRecursion (λ x. is_at has_writes x ≡ false) older → is_at has_writes w ≡ true
    → is_at is_ahead w ≡ false → list_any (is_at is_ahead) newer ≡ false
    → (moving true (older ++ w ∷ newer) ≡ Some w) × (moved true (older ++ w ∷ newer) ≡ older ++ advanced_of w ∷ newer)
lone_writer older w newer s at before writes behind none =
    let kind = writer s (sym (at-is has_writes w s at) ∙ writes) (sym (at-is is_ahead w s at) ∙ behind) in
    writer_moves older w newer before writes (at-is may_share w s at ∙ kind.alone) none

pub joins_at : (w : WriteOut) (s : Stage) → next_stage w ≡ Some s → is_at has_writes w ≡ false
    → is_at is_ahead w ≡ false → is_at may_share w ≡ true
joins_at w s at none behind = at-is may_share w s at
    ∙ joint s (syncing s (sym (at-is has_writes w s at) ∙ none) (sym (at-is is_ahead w s at) ∙ behind))

pub joint_all : (w : WriteOut) (newer : List WriteOut) → is_at may_share w ≡ true
    → list_any (is_at is_ahead) newer ≡ false → list_any (is_at has_writes) newer ≡ false
    → (moving true (w ∷ newer) ≡ Some w) × (moved true (w ∷ newer) ≡ map advanced_of (w ∷ newer))
joint_all w newer joins none_ahead none_writes = all_move w newer joins none_ahead none_writes

pub writer_of : (older : List WriteOut) (w : WriteOut) (newer : List WriteOut)
    → list_any (is_at has_writes) older ≡ false → is_at has_writes w ≡ true
    → list_any (is_at is_ahead) (w ∷ newer) ≡ false
    → (moving true (older ++ w ∷ newer) ≡ Some w) × (moved true (older ++ w ∷ newer) ≡ older ++ advanced_of w ∷ newer)
writer_of older w newer before writes behind =
    let parts = or_parts (is_at is_ahead w) (list_any (is_at is_ahead) newer) behind in
    by (next_stage w) refl writes parts.0 parts.1
  where
    by : (o : Option Stage) → next_stage w ≡ o → is_at has_writes w ≡ true → is_at is_ahead w ≡ false
        → list_any (is_at is_ahead) newer ≡ false
        → (moving true (older ++ w ∷ newer) ≡ Some w)
        × (moved true (older ++ w ∷ newer) ≡ older ++ advanced_of w ∷ newer)
    by None at writes early none = false_true
        (sym (ap (λ (o : Option Stage). option_map_or has_writes o false) at) ∙ writes)
    by (Some s) at writes early none =
        lone_writer older w newer s at (none_has (is_at has_writes) older before) writes early none

pub all_of_them : (w : WriteOut) (newer : List WriteOut) → IsSome (next_stage w)
    → list_any (is_at is_ahead) (w ∷ newer) ≡ false → list_any (is_at has_writes) (w ∷ newer) ≡ false
    → (moving true (w ∷ newer) ≡ Some w) × (moved true (w ∷ newer) ≡ map advanced_of (w ∷ newer))
all_of_them w newer going behind none =
    let s = stage_of w going in
    let ahead_none = or_parts (is_at is_ahead w) (list_any (is_at is_ahead) newer) behind in
    let writes_none = or_parts (is_at has_writes w) (list_any (is_at has_writes) newer) none in
    joint_all w newer (joins_at w s.0 s.1 writes_none.0 ahead_none.0) ahead_none.1 writes_none.1

-- ---- write-outs of which none writes and none is ahead

-- one whose homes are to be synced, or one whose records are, or both
pub data AreSyncing : List WriteOut → Type 0 where
  None_syncs : AreSyncing []
  Homes_syncs : (h : WriteOut) → next_stage h ≡ Some SyncingHomes → AreSyncing (h ∷ [])
  Records_syncs : (r : WriteOut) → next_stage r ≡ Some SyncingRecords → AreSyncing (r ∷ [])
  Both_sync : (h r : WriteOut) → next_stage h ≡ Some SyncingHomes → next_stage r ≡ Some SyncingRecords
      → AreSyncing (h ∷ r ∷ [])

-- with one before them that ends, or without
pub data AreShared : List WriteOut → Type 0 where
  Ending : (e : WriteOut) (rest : List WriteOut) → next_stage e ≡ Some Finishing → AreSyncing rest
      → AreShared (e ∷ rest)
  Going_on : (w : WriteOut) (rest : List WriteOut) → AreSyncing (w ∷ rest) → AreShared (w ∷ rest)

some_same : {a b : Stage} → Some a ≡ Some b → a ≡ b
some_same e = cc

abbrev IsQuiet : WriteOut → Type 0
IsQuiet w = (s : Stage) × (next_stage w ≡ Some s) × IsSyncing s

-- what follows one that isn't applied yet is at the sync of its records
after_unsure : (w x : WriteOut) → IsOlder w x → is_at is_applied w ≡ false → IsQuiet x
    → next_stage x ≡ Some SyncingRecords
after_unsure w x old unsure (s, at, is) = by s at is
  where
    late : (t : Stage) → next_stage x ≡ Some t → is_committed t ≡ true → (t ≡ Applying 0 → ⊥) → ⊥
    late t here is other = elim (old.waits (committed-at x t here ∙ is)) [
      | inl first ↦ other (some_same (sym here ∙ first))
      | inr applied ↦ absurd (both_ways (is_at is_applied w) unsure applied.1)
    ]

    by : (t : Stage) → next_stage x ≡ Some t → IsSyncing t → next_stage x ≡ Some SyncingRecords
    by t here RecordsNext = here
    by t here HomesNext = absurd (late SyncingHomes here refl (λ e. cc))
    by t here EndNext = absurd (late Finishing here refl (λ e. cc))

-- nothing follows one that isn't committed
none_after : (x : WriteOut) (newer : List WriteOut) → AllByRecursion (IsOlder x) newer → has_committed x ≡ false
    → newer ≡ []
none_after x [] olds early = refl
none_after x (y ∷ newer) olds early = absurd (both_ways (has_committed x) early olds.0.committed)

syncing_of : (w : WriteOut) (newer : List WriteOut) → AreInOrder (w ∷ newer)
    → AllByRecursion IsQuiet (w ∷ newer) → (next_stage w ≡ Some Finishing → ⊥) → AreSyncing (w ∷ newer)
syncing_of w newer ordered quiet not_last = by quiet.0.0 quiet.0.1 quiet.0.2
  where
    alone : (l : List WriteOut) → l ≡ [] → AreSyncing (w ∷ []) → AreSyncing (w ∷ l)
    alone l none is = subst (λ (k : List WriteOut). AreSyncing (w ∷ k)) (sym none) is

    followed : (l : List WriteOut) → next_stage w ≡ Some SyncingHomes → AreInOrder (w ∷ l)
        → AllByRecursion IsQuiet l → AreSyncing (w ∷ l)
    followed [] here ordered quiet = Homes_syncs w here
    followed (x ∷ more) here ordered quiet =
        let at = after_unsure w x ordered.0.0 (at-is is_applied w SyncingHomes here) quiet.0 in
        subst (λ (k : List WriteOut). AreSyncing (w ∷ x ∷ k))
        (sym (none_after x more ordered.1.0 (committed-at x SyncingRecords at)))
        (Both_sync w x here at)

    by : (t : Stage) → next_stage w ≡ Some t → IsSyncing t → AreSyncing (w ∷ newer)
    by t here RecordsNext =
        alone newer (none_after w newer ordered.0 (committed-at w SyncingRecords here)) (Records_syncs w here)
    by t here HomesNext = followed newer here ordered quiet.1
    by t here EndNext = absurd (not_last here)

shared_of : (w : WriteOut) (newer : List WriteOut) → AreInOrder (w ∷ newer) → AllByRecursion IsQuiet (w ∷ newer)
    → AreShared (w ∷ newer)
shared_of w newer ordered quiet = by quiet.0.0 quiet.0.1 quiet.0.2
  where
    rest : (l : List WriteOut) → AllByRecursion (IsOlder w) l → AreInOrder l → AllByRecursion IsQuiet l → AreSyncing l
    rest [] olds ordered quiet = None_syncs
    rest (x ∷ more) olds ordered quiet = syncing_of x more ordered quiet (λ here.
        elim (olds.0.waits (committed-at x Finishing here)) [
          | inl first ↦ never (some_same (sym here ∙ first))
          | inr applied ↦ false_true (sym (at-is is_applying x Finishing here)
              ∙ applied.0)
        ])
      where
        never : Finishing ≡ Applying 0 → ⊥
        never e = cc

    other : (t : Stage) → next_stage w ≡ Some t → (t ≡ Finishing → ⊥) → next_stage w ≡ Some Finishing → ⊥
    other t here apart last = apart (some_same (sym here ∙ last))

    by : (t : Stage) → next_stage w ≡ Some t → IsSyncing t → AreShared (w ∷ newer)
    by t here RecordsNext = Going_on w newer (syncing_of w newer ordered quiet (other SyncingRecords here (λ e. cc)))
    by t here HomesNext = Going_on w newer (syncing_of w newer ordered quiet (other SyncingHomes here (λ e. cc)))
    by t here EndNext = Ending w newer here (rest newer ordered.0 ordered.1 quiet.1)

-- ---- how the next step goes on

-- the newest moves, which isn't committed
pub record NewestMoves (shares : Bool) (batches : List WriteOut) : Type 0 where
  pub others : List WriteOut
  pub newest : WriteOut
  pub stage : Stage
  pub are : batches ≡ others ++ newest ∷ []
  pub at : next_stage newest ≡ Some stage
  pub early : is_committed stage ≡ false
  pub ahead : shares ≡ true → is_ahead stage ≡ true
  pub older : AllByRecursion (λ w. IsOlder w newest) others
  pub mover : moving shares batches ≡ Some newest
  pub after : moved shares batches ≡ others ++ advanced_of newest ∷ []

-- one among others moves, which is committed
pub record OneMoves (shares : Bool) (batches : List WriteOut) : Type 0 where
  pub older : List WriteOut
  pub it : WriteOut
  pub newer : List WriteOut
  pub stage : Stage
  pub are : batches ≡ older ++ it ∷ newer
  pub is : IsOneOf older it stage
  pub writes : shares ≡ true → has_writes stage ≡ true
  pub mover : moving shares batches ≡ Some it
  pub after : moved shares batches ≡ older ++ advanced_of it ∷ newer

-- all move by one sync, which they share
pub record AllMove (shares : Bool) (batches : List WriteOut) : Type 0 where
  pub shared : shares ≡ true
  pub are_shared : AreShared batches
  pub after : moved shares batches ≡ map advanced_of batches
  pub oldest : WriteOut
  pub newer : List WriteOut
  pub are : batches ≡ oldest ∷ newer
  pub stage : Stage
  pub at : next_stage oldest ≡ Some stage
  pub syncs : may_share stage ≡ true
  pub mover : moving shares batches ≡ Some oldest

pub data Moves (shares : Bool) (batches : List WriteOut) : Type 0 where
  By_newest : NewestMoves shares batches → Moves shares batches
  By_one : OneMoves shares batches → Moves shares batches
  By_all : AllMove shares batches → Moves shares batches

module _ (g : GeometryValue) where
  -- the newest, which isn't committed
  by_newest : (shares : Bool) (batches : List WriteOut) → AllByRecursion (IsWriteOut g) batches
      → (n : HasNewest batches) → (shares ≡ true → is_at is_ahead n.newest ≡ true)
      → moving shares (n.others ++ n.newest ∷ []) ≡ Some n.newest
      → moved shares (n.others ++ n.newest ∷ []) ≡ n.others ++ advanced_of n.newest ∷ [] → Moves shares batches
  by_newest shares batches each n ahead mover after =
      let own = (all_back (IsWriteOut g) n.others (n.newest ∷ [])
      (subst (AllByRecursion (IsWriteOut g)) n.are each)).0 in
      let s = stage_of n.newest own.going in
      By_newest (record {
        others = n.others;
        newest = n.newest;
        stage = s.0;
        are = n.are;
        at = s.1;
        early = sym (committed-at n.newest s.0 s.1) ∙ n.uncommitted;
        ahead = λ e. sym (at-is is_ahead n.newest s.0 s.1) ∙ ahead e;
        older = n.older;
        mover = ap (moving shares) n.are ∙ mover;
        after = ap (moved shares) n.are ∙ after;
      })

  -- where no sync is shared
  moves_alone : (batches : List WriteOut) → (batches ≡ [] → ⊥) → AllByRecursion (IsWriteOut g) batches
      → AreInOrder batches → Moves false batches
  moves_alone [] some each ordered = absurd (some refl)
  moves_alone (w ∷ newer) some each ordered = elim (cases_Bool (has_uncommitted (w ∷ newer))) [
    | inl has ↦
        (let n = newest_of (w ∷ newer) ordered has in
        by_newest false (w ∷ newer) each n (λ e. false_true e) (current-newest n.others n.newest n.uncommitted)
        (advanced-newest n.others n.newest n.uncommitted))
    | inr none ↦
        (let parts = committed_parts w newer none in
        let s = stage_of w each.0.going in
        By_one (record {
          older = [];
          it = w;
          newer = newer;
          stage = s.0;
          are = refl;
          is = record {
            at = s.1;
            late = sym (committed-at w s.0 s.1) ∙ parts.0;
            sure = tt;
            placed = inr refl;
          };
          writes = λ e. false_true e;
          mover = current-oldest w newer parts.1;
          after = advanced-oldest w newer parts.1;
        }))
  ]

  -- where none is ahead
  sure_older : (older : List WriteOut) (w : WriteOut) (newer : List WriteOut) → is_at is_recorded w ≡ true
      → AreSpaced (older ++ w ∷ newer) → AllByRecursion (λ x. is_at is_applied x ≡ true) older
  sure_older [] w newer recorded spaced = tt
  sure_older (x ∷ older) w newer recorded spaced = (
    (all_back (IsSpaced x) older (w ∷ newer) spaced.0).0 recorded,
    sure_older older w newer recorded spaced.1,
  )

  quiet_of : (batches : List WriteOut) → AllByRecursion (IsWriteOut g) batches
      → AllByRecursion (λ w. is_at is_ahead w ≡ false) batches
      → AllByRecursion (λ w. is_at has_writes w ≡ false) batches → AllByRecursion IsQuiet batches
  quiet_of [] each behind none = tt
  quiet_of (w ∷ newer) each behind none =
      let s = stage_of w each.0.going in (
        (
          s.0,
          s.1,
          syncing s.0 (sym (at-is has_writes w s.0 s.1) ∙ none.0) (sym (at-is is_ahead w s.0 s.1) ∙ behind.0),
        ),
        quiet_of newer each.1 behind.1 none.1,
      )

  moves_behind : (batches : List WriteOut) → (batches ≡ [] → ⊥) → AllByRecursion (IsWriteOut g) batches
      → AreInOrder batches → AreSpaced batches → AllByRecursion (λ w. is_at is_ahead w ≡ false) batches
      → Moves true batches
  moves_behind [] some each ordered spaced behind = absurd (some refl)
  moves_behind (w ∷ newer) some each ordered spaced behind =
      elim (cases_Bool (list_any (is_at has_writes) (w ∷ newer))) [
        | inl writes ↦
            (let f = first_of (is_at has_writes) (w ∷ newer) writes in
            let there = all_back (IsWriteOut g) f.older (f.it ∷ f.newer)
            (subst (AllByRecursion (IsWriteOut g)) f.are each) in
            let back = all_back (λ x. is_at is_ahead x ≡ false) f.older (f.it ∷ f.newer)
            (subst (AllByRecursion (λ x. is_at is_ahead x ≡ false)) f.are behind) in
            let s = stage_of f.it there.0.going in
            let writes_it : has_writes s.0 ≡ true = sym (at-is has_writes f.it s.0 s.1) ∙ f.is in
            let kind = writer s.0 writes_it (sym (at-is is_ahead f.it s.0 s.1) ∙ back.0) in
            let moves = writer_moves f.older f.it f.newer f.before f.is (at-is may_share f.it s.0 s.1 ∙ kind.alone)
            (has_none (is_at is_ahead) f.newer back.1) in
            By_one (record {
              older = f.older;
              it = f.it;
              newer = f.newer;
              stage = s.0;
              are = f.are;
              is = record {
                at = s.1;
                late = kind.late;
                sure = sure_older f.older f.it f.newer (at-is is_recorded f.it s.0 s.1 ∙ kind.recorded)
                    (subst AreSpaced f.are spaced);
                placed = inl writes_it;
              };
              writes = λ e. writes_it;
              mover = ap (moving true) f.are ∙ moves.0;
              after = ap (moved true) f.are ∙ moves.1;
            }))
        | inr none ↦
            (let quiet = quiet_of (w ∷ newer) each behind (none_has (is_at has_writes) (w ∷ newer) none) in
            let moves = all_move w newer (at-is may_share w quiet.0.0 quiet.0.1 ∙ joint quiet.0.0 quiet.0.2)
            (has_none (is_at is_ahead) newer behind.1)
            (or_parts (is_at has_writes w) (list_any (is_at has_writes) newer) none).1 in
            By_all (record {
              shared = refl;
              are_shared = shared_of w newer ordered quiet;
              after = moves.1;
              oldest = w;
              newer = newer;
              are = refl;
              stage = quiet.0.0;
              at = quiet.0.1;
              syncs = joint quiet.0.0 quiet.0.2;
              mover = moves.0;
            }))
      ]

  moves_shared : (batches : List WriteOut) → (batches ≡ [] → ⊥) → AllByRecursion (IsWriteOut g) batches
      → AreInOrder batches → AreSpaced batches → Moves true batches
  moves_shared batches some each ordered spaced = elim (cases_Bool (has_uncommitted batches)) [
    | inr none ↦ moves_behind batches some each ordered spaced
        (all_map {P = λ w. has_committed w ≡ true} {Q = λ w. is_at is_ahead w ≡ false} not_ahead batches
        (each_committed batches none))
    | inl has ↦
        (let n = newest_of batches ordered has in
        elim (cases_Bool (is_at is_ahead n.newest)) [
          | inl ahead ↦
              (let moves = ahead_moves n.others n.newest ahead in
              by_newest true batches each n (λ e. ahead) moves.0 moves.1)
          | inr behind ↦ moves_behind batches some each ordered spaced
              (subst (AllByRecursion (λ w. is_at is_ahead w ≡ false)) (sym n.are)
              (all-append (λ w. is_at is_ahead w ≡ false) n.others (n.newest ∷ [])
              (all_map {P = λ w. IsOlder w n.newest} {Q = λ w. is_at is_ahead w ≡ false}
              (λ w old. not_ahead w old.committed) n.others n.older)
              (behind, tt)))
        ])
  ]

  pub moves_of : (shares : Bool) (batches : List WriteOut) → (batches ≡ [] → ⊥) → AllByRecursion (IsWriteOut g) batches
      → AreInOrder batches → (shares ≡ true → AreSpaced batches) → Moves shares batches
  moves_of true batches some each ordered spaced = moves_shared batches some each ordered (spaced refl)
  moves_of false batches some each ordered spaced = moves_alone batches some each ordered
