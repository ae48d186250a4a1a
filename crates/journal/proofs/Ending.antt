-- Once no batch follows, the write-outs make two syncs more at most, up to the end of the last one.
use Rattle.std.proofs.Common.{◌≡◌, ℕ, ◌+◌, ◌≤◌, inl, inr, Bool, true, false, not, ◌==◌}
use Rattle.std.proofs.Common.{List, [], ◌∷◌, ◌++◌, length, map, Option, Some, None, refl, sym, ap, ◌∙◌, subst, arith}
use Rattle.std.specs.List.{AllByRecursion}
use Rattle.std.specs.Option.{option_map_or}
use Rattle.std.proofs.lemmas.Bool.{cond_both, cond-false, or_from, not_from_true}
use Rattle.volume_codec.specs.Layout.{GeometryValue, IsGeometry}
use Rattle.journal.specs.declared.stage.Stage.{Stage}
use Rattle.journal.specs.declared.stage.Stage.TheVariants.{Recording, Describing, SyncingRecords, Opening}
use Rattle.journal.specs.declared.stage.Stage.TheVariants.{Committing, Applying, SyncingHomes, Closing, Finishing}
use Rattle.journal.specs.declared.flushed.Flushed.{Flushed}
use Rattle.journal.specs.Stage.{is_committed, has_writes}
use Rattle.journal.specs.Work.{Nothing}
use Rattle.journal.specs.WriteOut.{WriteOut, next_stage, has_committed, advanced_of, work_of}
use Rattle.journal.specs.WriteOuts.{WriteOutsValue, has_uncommitted, shares_syncs}
use Rattle.journal.specs.WriteOuts.{outs_moving, next_work, next_answer, outs_after}
use Rattle.journal.specs.Commits.{syncs_by, HaveCommitted, HaveGoneOn, NotYet, OneMore}
use Rattle.journal.specs.inside.Sound.{AreSound, IsWriteOut, IsSound}
use Rattle.journal.proofs.Alls.{all_back, all_replaced}
use Rattle.journal.proofs.Stages.{next_in}
use Rattle.journal.proofs.Batches.{committed-at}
use Rattle.journal.proofs.Tying.{false_true, late_writer}
use Rattle.journal.proofs.Sounding.{next_from, each_committed}
use Rattle.journal.proofs.Moving.{AreSyncing, None_syncs, Homes_syncs, Records_syncs, Both_sync}
use Rattle.journal.proofs.Moving.{Moves, By_newest, By_one, By_all, moves_of}
use Rattle.journal.proofs.Answering.{work_in, answer_in, after_in, work_is, answer_is}
use Rattle.journal.proofs.Answering.{late_answer, shared_after, outs_after-is, step_sound}
use Rattle.journal.proofs.Counting.{one_writes, shared_adds, counted}

-- how many syncs one makes from this stage on, whose batch is committed
abbrev syncs_from : Stage → ℕ
syncs_from Closing = 1
syncs_from Finishing = 1
syncs_from stage = 2

abbrev own_left : WriteOut → ℕ
own_left w = option_map_or syncs_from (next_stage w) 0

-- how many are left where all batches are committed: as many as the newest makes, whose syncs serve the others
abbrev syncs_left : List WriteOut → ℕ
syncs_left [] = 0
syncs_left (w ∷ []) = own_left w
syncs_left (w ∷ x ∷ newer) = syncs_left (x ∷ newer)

left_at : (w : WriteOut) (s : Stage) → next_stage w ≡ Some s → own_left w ≡ syncs_from s
left_at w s at = ap (λ o. option_map_or syncs_from o 0) at

few_left : (batches : List WriteOut) → syncs_left batches ≤ 2
few_left [] = omega arith
few_left (w ∷ []) = by (next_stage w)
  where
    by : (o : Option Stage) → option_map_or syncs_from o 0 ≤ 2
    by None = omega arith
    by (Some (Recording i)) = omega arith
    by (Some (Describing i)) = omega arith
    by (Some SyncingRecords) = omega arith
    by (Some Opening) = omega arith
    by (Some Committing) = omega arith
    by (Some (Applying i)) = omega arith
    by (Some SyncingHomes) = omega arith
    by (Some Closing) = omega arith
    by (Some Finishing) = omega arith
few_left (w ∷ x ∷ newer) = few_left (x ∷ newer)

left_same : (older : List WriteOut) (w x : WriteOut) (newer : List WriteOut) → own_left w ≡ own_left x
    → syncs_left (older ++ w ∷ newer) ≡ syncs_left (older ++ x ∷ newer)
left_same [] w x [] same = same
left_same [] w x (y ∷ newer) same = refl
left_same (y ∷ []) w x newer same = left_same [] w x newer same
left_same (y ∷ z ∷ older) w x newer same = left_same (z ∷ older) w x newer same

all_committed : (batches : List WriteOut) → AllByRecursion (λ w. has_committed w ≡ true) batches
    → has_uncommitted batches ≡ false
all_committed [] all = refl
all_committed (w ∷ newer) all =
    or_from (not (has_committed w)) (has_uncommitted newer) (not_from_true (has_committed w) all.0)
    (all_committed newer all.1)

-- one that writes has as many left after it, and stays committed
goes_on : (g : GeometryValue) (w : WriteOut) (s : Stage) → is_committed s ≡ true → has_writes s ≡ true
    → (syncs_from s ≡ syncs_from (next_in g.slots w.batch s)) × (is_committed (next_in g.slots w.batch s) ≡ true)
goes_on g w = late_writer _
    (λ i. (
      cond_both (i + 1 == length w.batch.homes) SyncingHomes (Applying (i + 1)) (λ t. 2 ≡ syncs_from t) (λ e. refl)
          (λ e. refl),
      cond_both (i + 1 == length w.batch.homes) SyncingHomes (Applying (i + 1)) (λ t. is_committed t ≡ true) (λ e. refl)
          (λ e. refl),
    ))
    (refl, refl)

module _ (g : GeometryValue) (next : ℕ) (shared : shares_syncs g.layout ≡ true) where
  abbrev sharing : Bool
  sharing = shares_syncs g.layout

  abbrev after : List WriteOut → List WriteOut
  after batches = after_in sharing (answer_in sharing batches) batches

  -- a step makes as many syncs as fewer are left after it
  record Ends (batches : List WriteOut) : Type 0 where
    none : has_uncommitted (after batches) ≡ false
    count : syncs_by (work_in g [] batches) + syncs_left (after batches) ≡ syncs_left batches

  closes : (h : WriteOut) → IsWriteOut g h → next_stage h ≡ Some SyncingHomes
      → next_stage (advanced_of h) ≡ Some Closing
  closes h own at = next_from g h SyncingHomes own at (λ e. cc)

  -- those that share a sync, each of which is committed
  syncing_ends : (l : List WriteOut) → AreSyncing l → AllByRecursion (IsWriteOut g) l → has_uncommitted l ≡ false
      → (l ≡ [] → ⊥) → (has_uncommitted (map advanced_of l) ≡ false)
      × (1 + syncs_left (map advanced_of l) ≡ syncs_left l) × (syncs_left l ≡ 2)
  syncing_ends l None_syncs each none some = absurd (some refl)
  syncing_ends l (Homes_syncs h at) each none some =
      let later = closes h each.0 at in (
        all_committed (advanced_of h ∷ []) (committed-at (advanced_of h) Closing later, tt),
        ap (λ n. 1 + n) (left_at (advanced_of h) Closing later) ∙ sym (left_at h SyncingHomes at),
        left_at h SyncingHomes at,
      )
  syncing_ends l (Records_syncs r at) each none some =
      false_true (sym (committed-at r SyncingRecords at) ∙ (each_committed (r ∷ []) none).0)
  syncing_ends l (Both_sync h r at_h at_r) each none some =
      false_true (sym (committed-at r SyncingRecords at_r) ∙ (each_committed (h ∷ r ∷ []) none).1.0)

  step_ends : (batches : List WriteOut) → (batches ≡ [] → ⊥) → has_uncommitted batches ≡ false
      → AreSound g next batches → Ends batches
  step_ends batches some none sound = by (moves_of g sharing batches some sound.each sound.ordered sound.spaced)
    where
      late : AllByRecursion (λ w. has_committed w ≡ true) batches
      late = each_committed batches none

      by : Moves sharing batches → Ends batches
      by (By_newest n) =
          let committed = (all_back (λ w. has_committed w ≡ true) n.others (n.newest ∷ [])
          (subst (AllByRecursion (λ w. has_committed w ≡ true)) n.are late)).0 in
          false_true (sym n.early ∙ sym (committed-at n.newest n.stage n.at) ∙ committed)
      by (By_one o) =
          let own = (all_back (IsWriteOut g) o.older (o.it ∷ o.newer)
          (subst (AllByRecursion (IsWriteOut g)) o.are sound.each)).0 in
          let facts = one_writes g next shared o.it.batch.mark o.it o.stage o.is.late (o.writes shared) in
          let goes = goes_on g o.it o.stage o.is.late (o.writes shared) in
          let at = next_from g o.it o.stage own o.is.at facts.4 in
          let is : after batches ≡ o.older ++ advanced_of o.it ∷ o.newer =
          ap (λ (a : Flushed). after_in sharing a batches) (answer_is sharing batches o.it o.stage o.mover o.is.at)
          ∙ late_answer sharing o.it.batch.mark o.stage batches o.is.late facts.4 ∙ o.after in
          let same : own_left o.it ≡ own_left (advanced_of o.it) =
          left_at o.it o.stage o.is.at ∙ goes.0
          ∙ sym (left_at (advanced_of o.it) (next_in g.slots o.it.batch o.stage) at) in
          record {
            none = ap has_uncommitted is ∙ all_committed (o.older ++ advanced_of o.it ∷ o.newer)
                (all_replaced (λ w. has_committed w ≡ true) o.older o.it (advanced_of o.it) o.newer
                (λ e. committed-at (advanced_of o.it) (next_in g.slots o.it.batch o.stage) at ∙ goes.1)
                (subst (AllByRecursion (λ w. has_committed w ≡ true)) o.are late));
            count =
                let works : syncs_by (work_in g [] batches) ≡ 0 =
                ap syncs_by (work_is g [] batches o.it o.stage o.mover o.is.at) ∙ facts.0 in
                let lefts : syncs_left (after batches) ≡ syncs_left batches =
                ap syncs_left is ∙ sym (left_same o.older o.it (advanced_of o.it) o.newer same)
                ∙ sym (ap syncs_left o.are) in
                omega (arith, works, lefts);
          }
      by (By_all a) =
          let works : syncs_by (work_in g [] batches) ≡ 1 =
          ap syncs_by (work_is g [] batches a.oldest a.stage a.mover a.at)
          ∙ (shared_adds g next shared a.oldest.batch.mark a.oldest a.stage a.syncs).0 in
          elim (shared_after sharing batches a) [
            | inl ends ↦ (let each = subst (AllByRecursion (IsWriteOut g)) ends.2 sound.each in
                let rest = subst (AllByRecursion (λ w. has_committed w ≡ true)) ends.2 late in
                let counts = oldest_leaves ends.0 ends.1 ends.4 each.1 ends.3 (all_committed ends.1 rest.1) in
                let lefts : 1 + syncs_left (after batches) ≡ syncs_left batches =
                ap (λ l. 1 + syncs_left l) ends.5 ∙ counts.1 ∙ sym (ap syncs_left ends.2) in
                record {
                  none = ap has_uncommitted ends.5 ∙ counts.0;
                  count = omega (arith, works, lefts);
                })
            | inr goes ↦ (let counts = syncing_ends batches goes.0 sound.each none some in
                let lefts : 1 + syncs_left (after batches) ≡ syncs_left batches =
                ap (λ l. 1 + syncs_left l) goes.1 ∙ counts.1 in
                record {
                  none = ap has_uncommitted goes.1 ∙ counts.0;
                  count = omega (arith, works, lefts);
                })
          ]
        where
          oldest_leaves : (e : WriteOut) (rest : List WriteOut) → AreSyncing rest → AllByRecursion (IsWriteOut g) rest
              → next_stage e ≡ Some Finishing → has_uncommitted rest ≡ false
              → (has_uncommitted (map advanced_of rest) ≡ false)
              × (1 + syncs_left (map advanced_of rest) ≡ syncs_left (e ∷ rest))
          oldest_leaves e [] is each at none = (refl, sym (left_at e Finishing at))
          oldest_leaves e (w ∷ rest) is each at none =
              let counts = syncing_ends (w ∷ rest) is each none (λ is. cc) in (counts.0, counts.1)

-- ---- over a run

record IsEnding (g : GeometryValue) (start outs : WriteOutsValue) (syncs : ℕ) : Type 0 where
  geometry : outs.geometry ≡ g
  whole : outs.broken ≡ false
  sound : IsSound outs
  none : has_uncommitted outs.batches ≡ false
  count : syncs + syncs_left outs.batches ≡ syncs_left start.batches

ending : (g : GeometryValue) → shares_syncs g.layout ≡ true → (start : WriteOutsValue) → IsEnding g start start 0
    → {outs : WriteOutsValue} {syncs : ℕ} → HaveGoneOn start outs syncs → IsEnding g start outs syncs
ending g shared start begins NotYet = begins
ending g shared start begins (OneMore mid syncs some run) =
    let before = ending g shared start begins run in
    let shares : shares_syncs mid.geometry.layout ≡ true =
    ap (λ (x : GeometryValue). shares_syncs x.layout) before.geometry ∙ shared in
    let ends = step_ends mid.geometry mid.next shares mid.batches some before.none before.sound in
    let e = outs_after-is mid before.sound before.whole some in
    let works : syncs_by (next_work mid []) ≡ syncs_by (work_in mid.geometry [] mid.batches) =
    ap syncs_by (cond-false mid.broken Nothing (option_map_or (work_of mid.geometry []) (outs_moving mid) Nothing)
    before.whole) in
    let lefts : syncs_left (outs_after mid (next_answer mid)).batches
    ≡ syncs_left (after_in (shares_syncs mid.geometry.layout)
    (answer_in (shares_syncs mid.geometry.layout) mid.batches) mid.batches) =
    ap (λ (o : WriteOutsValue). syncs_left o.batches) e in
    let one = ends.count in
    let all = before.count in
    record {
      geometry = ap (λ (o : WriteOutsValue). o.geometry) e ∙ before.geometry;
      whole = ap (λ (o : WriteOutsValue). o.broken) e ∙ before.whole;
      sound = step_sound mid before.sound before.whole some;
      none = ap (λ (o : WriteOutsValue). has_uncommitted o.batches) e ∙ ends.none;
      count = omega (arith, all, one, works, lefts);
    }

pub two_more_syncs : (g : GeometryValue) (outs ended : WriteOutsValue) (commits syncs more : ℕ) → IsGeometry g
    → shares_syncs g.layout ≡ true → HaveCommitted g outs commits syncs → has_uncommitted outs.batches ≡ false
    → HaveGoneOn outs ended more → more ≤ 2
two_more_syncs g outs ended commits syncs more is_geometry shared run none goes =
    let is = counted g is_geometry shared run in
    let begins : IsEnding g outs outs 0 = record {
      geometry = is.geometry;
      whole = is.whole;
      sound = is.sound;
      none = none;
      count = omega arith;
    } in
    let all = (ending g shared outs begins goes).count in
    let few = few_left outs.batches in
    omega (arith, all, few)
