-- Write-outs by the stages of their next steps, and their order.
use Rattle.std.proofs.Common.{◌≡◌, ◌≢◌, ℕ, ◌<◌, ◌⊎◌, inl, inr, Bool, true, false, not, ◌||◌, List}
use Rattle.std.proofs.Common.{[], ◌∷◌, ◌++◌, Option, Some, None, refl, sym, ap, ◌∙◌, subst}
use Rattle.std.specs.Prelude.{IsSome}
use Rattle.std.specs.List.{AllByRecursion}
use Rattle.std.specs.Option.{option_map_or}
use Rattle.std.proofs.lemmas.Bool.{both_ways}
use Rattle.volume_codec.specs.Layout.{GeometryValue}
use Rattle.journal.specs.declared.stage.Stage.{Stage}
use Rattle.journal.specs.declared.stage.Stage.TheVariants.{Recording, Describing, SyncingRecords, Opening}
use Rattle.journal.specs.declared.stage.Stage.TheVariants.{Committing, Applying, SyncingHomes, Closing, Finishing}
use Rattle.journal.specs.Stage.{is_committed, has_writes, may_share}
use Rattle.journal.specs.WriteOut.{WriteOut, IsBatch, next_stage, has_committed}
use Rattle.journal.specs.WriteOuts.{has_uncommitted, is_at}
use Rattle.journal.specs.inside.Sound.{IsWriteOut, IsOlder, AreInOrder}
use Rattle.journal.specs.inside.Tied.{Progress, progress_of, progress_in, is_applying, is_applied, is_under_way}
use Rattle.journal.proofs.Alls.{IsIn, all_map, all_in}
use Rattle.journal.proofs.Batches.{committed-at, at-is}

pub false_true : {A : Type 0} → false ≡ true → A
false_true e = absurd (both_ways false refl e)

-- what holds of each stage of a committed batch, and once it is done
pub late_stage : (P : Stage → Type 0) → ((i : ℕ) → P (Applying i)) → P SyncingHomes → P Closing → P Finishing
    → (s : Stage) → is_committed s ≡ true → P s
late_stage P applying syncing closing finishing (Recording i) late = false_true late
late_stage P applying syncing closing finishing (Describing i) late = false_true late
late_stage P applying syncing closing finishing SyncingRecords late = false_true late
late_stage P applying syncing closing finishing Opening late = false_true late
late_stage P applying syncing closing finishing Committing late = false_true late
late_stage P applying syncing closing finishing (Applying i) late = applying i
late_stage P applying syncing closing finishing SyncingHomes late = syncing
late_stage P applying syncing closing finishing Closing late = closing
late_stage P applying syncing closing finishing Finishing late = finishing

pub late_next : (P : Option Stage → Type 0) → P None → ((i : ℕ) → P (Some (Applying i))) → P (Some SyncingHomes)
    → P (Some Closing) → P (Some Finishing) → (w : WriteOut) → has_committed w ≡ true → P (next_stage w)
late_next P none applying syncing closing finishing w late = by (next_stage w) late
  where
    by : (o : Option Stage) → option_map_or is_committed o true ≡ true → P o
    by None late = none
    by (Some s) late = late_stage (λ s. P (Some s)) applying syncing closing finishing s late

-- what no stage of a committed batch has
pub late_lacks : (has : Stage → Bool) → ((i : ℕ) → has (Applying i) ≡ false) → has SyncingHomes ≡ false
    → has Closing ≡ false → has Finishing ≡ false → (w : WriteOut) → has_committed w ≡ true → is_at has w ≡ false
late_lacks has applying syncing closing finishing w late =
    late_next (λ o. option_map_or has o false ≡ false) refl applying syncing closing finishing w late

-- what holds of each stage of a committed batch whose step writes
pub late_writer : (P : Stage → Type 0) → ((i : ℕ) → P (Applying i)) → P Closing → (s : Stage) → is_committed s ≡ true
    → has_writes s ≡ true → P s
late_writer P applying closing = late_stage (λ s. has_writes s ≡ true → P s) (λ i writes. applying i)
    (λ writes. false_true writes) (λ writes. closing) (λ writes. false_true writes)

-- what holds of each stage whose sync may serve other write-outs
pub shared_stage : (P : Stage → Type 0) → P SyncingRecords → P SyncingHomes → P Finishing → (s : Stage)
    → may_share s ≡ true → P s
shared_stage P records homes finishing (Recording i) shares = false_true shares
shared_stage P records homes finishing (Describing i) shares = false_true shares
shared_stage P records homes finishing SyncingRecords shares = records
shared_stage P records homes finishing Opening shares = false_true shares
shared_stage P records homes finishing Committing shares = false_true shares
shared_stage P records homes finishing (Applying i) shares = false_true shares
shared_stage P records homes finishing SyncingHomes shares = homes
shared_stage P records homes finishing Closing shares = false_true shares
shared_stage P records homes finishing Finishing shares = finishing

pub shared_next : (P : Option Stage → Type 0) → P (Some SyncingRecords) → P (Some SyncingHomes)
    → P (Some Finishing) → (w : WriteOut) → is_at may_share w ≡ true → P (next_stage w)
shared_next P records homes finishing w shares = by (next_stage w) shares
  where
    by : (o : Option Stage) → option_map_or may_share o false ≡ true → P o
    by None shares = false_true shares
    by (Some s) shares = shared_stage (λ s. P (Some s)) records homes finishing s shares

-- the stage of a write-out that isn't done
pub stage_of : (w : WriteOut) → IsSome (next_stage w) → (stage : Stage) × (next_stage w ≡ Some stage)
stage_of w going = by (next_stage w) refl going
  where
    by : (o : Option Stage) → next_stage w ≡ o → IsSome o → (stage : Stage) × (next_stage w ≡ Some stage)
    by None e h = false_true h
    by (Some stage) e h = (stage, e)

-- ---- order

-- The write-out of one batch is before that of another: it is committed, and the other one, if it is committed, waits
-- with its application, or is applied while the home blocks of this one are sure.
pub record IsBefore (older newer : Progress) : Type 0 where
  pub marks : older.batch.mark < newer.batch.mark
  pub journals : older.batch.journal ≢ newer.batch.journal
  pub committed : is_committed older.stage ≡ true
  pub waits : is_committed newer.stage ≡ true
      → (newer.stage ≡ Applying 0) ⊎ ((is_applying newer.stage ≡ true) × (is_applied older.stage ≡ true))

abbrev pub AreOrdered : List Progress → Type 0
AreOrdered [] = Unit {0}
AreOrdered (p ∷ newer) = AllByRecursion (IsBefore p) newer × AreOrdered newer

-- batches of a volume, in order
pub record AreGoing (g : GeometryValue) (progress : List Progress) : Type 0 where
  pub each : AllByRecursion (λ (p : Progress). IsBatch g p.batch) progress
  pub ordered : AreOrdered progress

abbrev pub at_stage : WriteOut → Stage → Progress
at_stage w stage = record { batch = w.batch; stage = stage }

pub progress-oldest : (w : WriteOut) (newer : List WriteOut) (stage : Stage) → next_stage w ≡ Some stage
    → progress_in (w ∷ newer) ≡ at_stage w stage ∷ progress_in newer
progress-oldest w newer stage at =
    ap (λ (o : Option Stage). option_map_or (λ (s : Stage). at_stage w s ∷ []) o [] ++ progress_in newer) at

pub progress-middle : (older : List WriteOut) (w : WriteOut) (newer : List WriteOut) (stage : Stage)
    → next_stage w ≡ Some stage
    → progress_in (older ++ w ∷ newer) ≡ progress_in older ++ at_stage w stage ∷ progress_in newer
progress-middle [] w newer stage at = progress-oldest w newer stage at
progress-middle (x ∷ older) w newer stage at =
    ap (λ (l : List Progress). progress_of x ++ l) (progress-middle older w newer stage at) ∙ by (next_stage x)
  where
    by : (o : Option Stage)
        → option_map_or (λ (s : Stage). at_stage x s ∷ []) o []
        ++ (progress_in older ++ at_stage w stage ∷ progress_in newer)
        ≡ (option_map_or (λ (s : Stage). at_stage x s ∷ []) o [] ++ progress_in older)
        ++ at_stage w stage ∷ progress_in newer
    by None = refl
    by (Some s) = refl

pub progress-newest : (older : List WriteOut) (w : WriteOut) (stage : Stage) → next_stage w ≡ Some stage
    → progress_in (older ++ w ∷ []) ≡ progress_in older ++ at_stage w stage ∷ []
progress-newest older w stage at = progress-middle older w [] stage at

-- what each write-out has at the stage of its next step
pub progress_all : (P : Progress → Type 0) (batches : List WriteOut)
    → AllByRecursion (λ (w : WriteOut). (s : Stage) → next_stage w ≡ Some s → P (at_stage w s)) batches
    → AllByRecursion P (progress_in batches)
progress_all P [] each = tt
progress_all P (w ∷ newer) each = by (next_stage w) each.0 (progress_all P newer each.1)
  where
    by : (o : Option Stage) → ((s : Stage) → o ≡ Some s → P (at_stage w s)) → AllByRecursion P (progress_in newer)
        → AllByRecursion P (option_map_or (λ (s : Stage). at_stage w s ∷ []) o [] ++ progress_in newer)
    by None own rest = rest
    by (Some s) own rest = (own s refl, rest)

before_of : (w x : WriteOut) (s t : Stage) → next_stage w ≡ Some s → next_stage x ≡ Some t → IsOlder w x
    → IsBefore (at_stage w s) (at_stage x t)
before_of w x s t at_w at_x is = record {
  marks = is.marks;
  journals = is.journals;
  committed = sym (committed-at w s at_w) ∙ is.committed;
  waits = λ late. elim (is.waits (committed-at x t at_x ∙ late)) [
    | inl first ↦ inl (same_stage (sym at_x ∙ first))
    | inr applied ↦ inr (
      sym (at-is is_applying x t at_x) ∙ applied.0,
      sym (at-is is_applied w s at_w) ∙ applied.1,
    )
  ];
}
  where
    same_stage : {a b : Stage} → Some a ≡ Some b → a ≡ b
    same_stage e = cc

pub going_of : (g : GeometryValue) (batches : List WriteOut) → AllByRecursion (IsWriteOut g) batches
    → AreInOrder batches → AreGoing g (progress_in batches)
going_of g [] each ordered = record { each = tt; ordered = tt }
going_of g (w ∷ newer) each ordered =
    let s = stage_of w each.0.going in
    let rest = going_of g newer each.1 ordered.1 in
    let later = progress_all (IsBefore (at_stage w s.0)) newer
    (all_map {P = IsOlder w}
    {Q = λ (x : WriteOut). (t : Stage) → next_stage x ≡ Some t → IsBefore (at_stage w s.0) (at_stage x t)}
    (λ x is t at. before_of w x s.0 t s.1 at is) newer ordered.0) in
    subst (AreGoing g) (sym (progress-oldest w newer s.0 s.1))
    (record { each = (each.0.batch, rest.each); ordered = (later, rest.ordered) })

-- whether a batch isn't committed
pub under_way-is : (g : GeometryValue) (batches : List WriteOut) → AllByRecursion (IsWriteOut g) batches
    → is_under_way (progress_in batches) ≡ has_uncommitted batches
under_way-is g [] each = refl
under_way-is g (w ∷ newer) each =
    let s = stage_of w each.0.going in
    ap is_under_way (progress-oldest w newer s.0 s.1)
    ∙ ap (λ b. not b || is_under_way (progress_in newer)) (sym (committed-at w s.0 s.1))
    ∙ ap (λ b. not (has_committed w) || b) (under_way-is g newer each.1)

-- ---- one of them

-- a journal belongs to one write-out
pub one_stage : (progress : List Progress) (p : Progress) → AreOrdered progress → IsIn p progress
    → AllByRecursion (λ (q : Progress). q.batch.journal ≡ p.batch.journal → q.stage ≡ p.stage) progress
one_stage [] p ordered there = absurd there
one_stage (q ∷ newer) p ordered (inl is) = (
  λ e. ap (λ (x : Progress). x.stage) is,
  all_map {P = IsBefore q} {Q = λ (r : Progress). r.batch.journal ≡ p.batch.journal → r.stage ≡ p.stage}
      (λ r before e. absurd (before.journals (ap (λ (x : Progress). x.batch.journal) is ∙ sym e))) newer ordered.0,
)
one_stage (q ∷ newer) p ordered (inr later) =
    (λ e. absurd ((all_in (IsBefore q) newer p ordered.0 later).journals e), one_stage newer p ordered.1 later)

-- no other one is newer than one that isn't committed
pub last_of : (progress : List Progress) (p : Progress) → AreOrdered progress → is_committed p.stage ≡ false
    → IsIn p progress → AllByRecursion (λ (q : Progress). (q ≡ p) ⊎ IsBefore q p) progress
last_of [] p ordered early there = absurd there
last_of (q ∷ newer) p ordered early (inl is) = (inl is, none newer ordered.0)
  where
    none : (rest : List Progress) → AllByRecursion (IsBefore q) rest
        → AllByRecursion (λ (r : Progress). (r ≡ p) ⊎ IsBefore r p) rest
    none [] after = tt
    none (r ∷ rest) after =
        absurd (both_ways (is_committed p.stage) early
        (ap (λ (x : Progress). is_committed x.stage) (sym is) ∙ after.0.committed))
last_of (q ∷ newer) p ordered early (inr later) =
    (inr (all_in (IsBefore q) newer p ordered.0 later), last_of newer p ordered.1 early later)

-- the oldest is committed where another one follows, and none that follows is at its last step
pub not_finishing : (p : Progress) (newer : List Progress) → AllByRecursion (IsBefore p) newer
    → AllByRecursion (λ (q : Progress). q.stage ≢ Finishing) newer
not_finishing p newer after = all_map {P = IsBefore p} {Q = λ (q : Progress). q.stage ≢ Finishing}
    (λ q before e. elim (before.waits (ap is_committed e)) [
      | inl first ↦ other (sym e ∙ first)
      | inr applied ↦ false_true (sym (ap is_applying e) ∙ applied.0)
    ]) newer after
  where
    other : Finishing ≡ Applying 0 → ⊥
    other e = cc
