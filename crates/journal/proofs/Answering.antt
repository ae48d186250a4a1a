-- What the next step of the write-outs answers, and which write-outs there are after it.
use Rattle.std.proofs.Common.{◌≡◌, ℕ, ◌⊎◌, inl, inr, Bool, true, false, not, List, [], ◌∷◌, ◌++◌}
use Rattle.std.proofs.Common.{drop, map}
use Rattle.std.proofs.Common.{get_or, Option, Some, None, refl, sym, ap, ◌∙◌, subst, arith, length-append}
use Rattle.std.specs.List.{AllByRecursion}
use Rattle.std.specs.Option.{option_map, option_map_or, option_and_then}
use Rattle.std.proofs.lemmas.Bool.{cond-false, or_from, not_from_true}
use Rattle.volume_codec.specs.Layout.{GeometryValue}
use Rattle.journal.specs.declared.stage.Stage.{Stage}
use Rattle.journal.specs.declared.stage.Stage.TheVariants.{Recording, Describing, SyncingRecords, Opening}
use Rattle.journal.specs.declared.stage.Stage.TheVariants.{Committing, Applying, SyncingHomes, Closing, Finishing}
use Rattle.journal.specs.declared.flushed.Flushed.{Flushed}
use Rattle.journal.specs.declared.flushed.Flushed.TheVariants.{Going, Committed, Done, Device, Broken}
use Rattle.journal.specs.Stage.{is_committed, has_writes, answer_at}
use Rattle.journal.specs.Work.{Work, Nothing, work_at}
use Rattle.journal.specs.WriteOut.{WriteOut, next_stage, has_committed, advanced_of}
use Rattle.journal.specs.WriteOut.{next_home, record_at, work_of, answer_of}
use Rattle.journal.specs.WriteOuts.{WriteOutsValue, has_uncommitted, shares_syncs, is_at, moving, moved, current}
use Rattle.journal.specs.WriteOuts.{outs_moving, next_answer, outs_after}
use Rattle.journal.specs.inside.Sound.{IsWriteOut, IsOlder, IsSpaced, AreSpaced, AreSound, IsSound}
use Rattle.journal.specs.inside.Tied.{is_applied}
use Rattle.journal.proofs.Alls.{all_back, all_replaced}
use Rattle.journal.proofs.Batches.{current-oldest, committed_parts, at-is}
use Rattle.journal.proofs.Tying.{false_true, stage_of}
use Rattle.journal.proofs.Leaving.{is_last}
use Rattle.journal.proofs.Sounding.{next_from, early_next, late_next, newest_order, newest_each, newest_spaced}
use Rattle.journal.proofs.Sounding.{IsOneOf, one_order, one_each, one_spaced, turn_one, turn_rest}
use Rattle.journal.proofs.Moving.{AreSyncing, None_syncs, Homes_syncs, Records_syncs, Both_sync, AreShared, Ending}
use Rattle.journal.proofs.Moving.{Going_on, AllMove, Moves, By_newest, By_one, By_all, moves_of}

-- ---- over the list of write-outs

-- the stage of the next step
abbrev pub stage_in : List WriteOut → Option Stage
stage_in batches = option_and_then next_stage (current batches)

-- where all are committed
pub stage_committed : (batches : List WriteOut) → has_uncommitted batches ≡ false
    → option_map_or is_committed (stage_in batches) true ≡ true
stage_committed [] none = refl
stage_committed (w ∷ newer) none =
    let parts = committed_parts w newer none in
    ap (λ (o : Option WriteOut). option_map_or is_committed (option_and_then next_stage o) true)
    (current-oldest w newer parts.1)
    ∙ parts.0

pub current_committed : (batches : List WriteOut) (x : WriteOut)
    → has_uncommitted batches ≡ false → current batches ≡ Some x
    → has_committed x ≡ true
current_committed [] x none e = cc
current_committed (w ∷ newer) x none e =
    let parts = committed_parts w newer none in
    let same : Some w ≡ Some x = sym (current-oldest w newer parts.1) ∙ e in
    subst (λ (y : WriteOut). has_committed y ≡ true) (some_same same) parts.0
  where
    some_same : {x y : WriteOut} → Some x ≡ Some y → x ≡ y
    some_same e = cc

-- what the next step asks for
abbrev pub work_in : GeometryValue → List ℕ → List WriteOut → Work
work_in g bytes batches = option_map_or (work_of g bytes) (moving (shares_syncs g.layout) batches) Nothing

abbrev pub answer_in : Bool → List WriteOut → Flushed
answer_in shares batches = option_map_or answer_of (moving shares batches) Broken

abbrev pub after_in : Bool → Flushed → List WriteOut → List WriteOut
after_in shares (Done mark) batches = drop 1 (moved shares batches)
after_in shares answer batches = moved shares batches

-- the record that the next step is given is New
abbrev pub IsNewRecord : Bool → (ℕ → List ℕ) → List ℕ → List WriteOut → Type 0
IsNewRecord shares new bytes batches =
    (home : ℕ) → option_and_then next_home (moving shares batches) ≡ Some home → bytes ≡ new home

pub work_is : (g : GeometryValue) (bytes : List ℕ) (batches : List WriteOut) (w : WriteOut) (stage : Stage)
    → moving (shares_syncs g.layout) batches ≡ Some w → next_stage w ≡ Some stage
    → work_in g bytes batches ≡ work_at g w.batch bytes stage
work_is g bytes batches w stage is at =
    ap (λ (o : Option WriteOut). option_map_or (work_of g bytes) o Nothing) is
    ∙ ap (λ (o : Option Stage). option_map_or (work_at g w.batch bytes) o Nothing) at

pub answer_is : (shares : Bool) (batches : List WriteOut) (w : WriteOut) (stage : Stage)
    → moving shares batches ≡ Some w → next_stage w ≡ Some stage
    → answer_in shares batches ≡ answer_at w.batch.mark stage
answer_is shares batches w stage is at =
    ap (λ (o : Option WriteOut). option_map_or answer_of o Broken) is
    ∙ ap (λ (o : Option Stage). option_map_or (answer_at w.batch.mark) o Broken) at

pub stage_in-is : (batches : List WriteOut) (w : WriteOut) (stage : Stage)
    → current batches ≡ Some w → next_stage w ≡ Some stage
    → stage_in batches ≡ Some stage
stage_in-is batches w stage is at = ap (option_and_then next_stage) is ∙ at

pub home_is : (shares : Bool) (batches : List WriteOut) (w : WriteOut) (i : ℕ)
    → moving shares batches ≡ Some w → next_stage w ≡ Some (Recording i)
    → option_and_then next_home (moving shares batches) ≡ Some (get_or w.batch.homes i 0)
home_is shares batches w i is at =
    ap (option_and_then next_home) is
    ∙ ap (λ (o : Option Stage). option_map (λ k. get_or w.batch.homes k 0) (option_and_then record_at o)) at

-- a committed batch's step that isn't the last doesn't end its write-out
pub early_answer : (shares : Bool) (mark : ℕ) (stage : Stage) (batches : List WriteOut) → is_committed stage ≡ false
    → after_in shares (answer_at mark stage) batches ≡ moved shares batches
early_answer shares mark (Recording i) batches e = refl
early_answer shares mark (Describing i) batches e = refl
early_answer shares mark SyncingRecords batches e = refl
early_answer shares mark Opening batches e = refl
early_answer shares mark Committing batches e = refl
early_answer shares mark (Applying i) batches e = false_true (sym e)
early_answer shares mark SyncingHomes batches e = false_true (sym e)
early_answer shares mark Closing batches e = false_true (sym e)
early_answer shares mark Finishing batches e = false_true (sym e)

pub late_answer : (shares : Bool) (mark : ℕ) (stage : Stage) (batches : List WriteOut)
    → is_committed stage ≡ true → (stage ≡ Finishing → ⊥)
    → after_in shares (answer_at mark stage) batches ≡ moved shares batches
late_answer shares mark (Recording i) batches e not_last = refl
late_answer shares mark (Describing i) batches e not_last = refl
late_answer shares mark SyncingRecords batches e not_last = refl
late_answer shares mark Opening batches e not_last = refl
late_answer shares mark Committing batches e not_last = refl
late_answer shares mark (Applying i) batches e not_last = refl
late_answer shares mark SyncingHomes batches e not_last = refl
late_answer shares mark Closing batches e not_last = refl
late_answer shares mark Finishing batches e not_last = absurd (not_last refl)

pub older_committed : (others : List WriteOut) (w : WriteOut) → AllByRecursion (λ x. IsOlder x w) others
    → has_uncommitted others ≡ false
older_committed [] w older = refl
older_committed (x ∷ others) w older = or_from (not (has_committed x)) (has_uncommitted others)
    (not_from_true (has_committed x) older.0.committed) (older_committed others w older.1)

-- the answers of a stage
fine_at : (mark : ℕ) (stage : Stage) → (answer_at mark stage ≡ Device → ⊥) × (answer_at mark stage ≡ Broken → ⊥)
fine_at mark (Recording i) = (λ e. cc, λ e. cc)
fine_at mark (Describing i) = (λ e. cc, λ e. cc)
fine_at mark SyncingRecords = (λ e. cc, λ e. cc)
fine_at mark Opening = (λ e. cc, λ e. cc)
fine_at mark Committing = (λ e. cc, λ e. cc)
fine_at mark (Applying i) = (λ e. cc, λ e. cc)
fine_at mark SyncingHomes = (λ e. cc, λ e. cc)
fine_at mark Closing = (λ e. cc, λ e. cc)
fine_at mark Finishing = (λ e. cc, λ e. cc)

-- ---- a step of one of them

module _ (g : GeometryValue) (next : ℕ) where
  -- of the newest, which isn't committed
  newest_sound : (others : List WriteOut) (w : WriteOut) (stage : Stage) → next_stage w ≡ Some stage
      → is_committed stage ≡ false → AllByRecursion (λ x. IsOlder x w) others
      → (shares_syncs g.layout ≡ true → AreSpaced (others ++ advanced_of w ∷ []))
      → AreSound g next (others ++ w ∷ []) → AreSound g next (others ++ advanced_of w ∷ [])
  newest_sound others w stage at early older spaced sound =
      let own = (all_back (IsWriteOut g) others (w ∷ []) sound.each).0 in
      let following = early_next g w stage own at early in
      record {
        geometry = sound.geometry;
        there = sound.there;
        few = omega (arith, sound.few, length-append others (w ∷ []), length-append others (advanced_of w ∷ []));
        each = newest_each g others w following sound.each;
        ordered = newest_order others w following sound.ordered older;
        spaced = spaced;
        turn = turn_one g.layout next others w (advanced_of w) [] refl sound.turn;
      }

  -- of one that is committed
  one_sound : (older : List WriteOut) (w : WriteOut) (newer : List WriteOut) (stage : Stage) → IsOneOf older w stage
      → (stage ≡ Finishing → ⊥)
      → (shares_syncs g.layout ≡ true → AreSpaced (older ++ w ∷ newer) → AreSpaced (older ++ advanced_of w ∷ newer))
      → AreSound g next (older ++ w ∷ newer) → AreSound g next (older ++ advanced_of w ∷ newer)
  one_sound older w newer stage is not_last spaced sound =
      let own = (all_back (IsWriteOut g) older (w ∷ newer) sound.each).0 in
      let following = late_next g w stage own is.at is.late not_last in
      record {
        geometry = sound.geometry;
        there = sound.there;
        few = omega (arith, sound.few, length-append older (w ∷ newer), length-append older (advanced_of w ∷ newer));
        each = one_each g older w newer stage is following sound.each;
        ordered = one_order g older w newer stage is following own not_last sound.ordered;
        spaced = λ e. spaced e (sound.spaced e);
        turn = turn_one g.layout next older w (advanced_of w) newer refl sound.turn;
      }

  pub one_goes : (older : List WriteOut) (w : WriteOut) (newer : List WriteOut) (stage : Stage) → IsOneOf older w stage
      → (stage ≡ Finishing → ⊥)
      → AreSound g next (older ++ w ∷ newer) → AreSound g next (older ++ advanced_of w ∷ newer)
  one_goes older w newer stage is not_last sound =
      let own = (all_back (IsWriteOut g) older (w ∷ newer) sound.each).0 in
      let following = late_next g w stage own is.at is.late not_last in
      one_sound older w newer stage is not_last (λ e. one_spaced g older w newer stage is following) sound

  pub oldest_ends : (w : WriteOut) (newer : List WriteOut) → AreSound g next (w ∷ newer) → AreSound g next newer
  oldest_ends w newer sound = record {
    geometry = sound.geometry;
    there = sound.there;
    few = omega (arith, sound.few);
    each = sound.each.1;
    ordered = sound.ordered.1;
    spaced = λ e. (sound.spaced e).1;
    turn = turn_rest g.layout next w newer sound.turn;
  }

  -- of each, one after the other, at the sync of home blocks and that of records
  pub homes_one : (h : WriteOut) → next_stage h ≡ Some SyncingHomes → IsOneOf [] h SyncingHomes
  homes_one h at = record { at = at; late = refl; sure = tt; placed = inr refl }

  pub homes_sound : (h : WriteOut) (newer : List WriteOut) → next_stage h ≡ Some SyncingHomes
      → AreSound g next (h ∷ newer) → AreSound g next (advanced_of h ∷ newer)
  homes_sound h newer at sound =
      one_goes [] h newer SyncingHomes (homes_one h at) (λ e. cc) sound

  pub closing_next : (h : WriteOut) → IsWriteOut g h → next_stage h ≡ Some SyncingHomes
      → is_at is_applied (advanced_of h) ≡ true
  closing_next h own at = at-is is_applied (advanced_of h) Closing (next_from g h SyncingHomes own at (λ e. cc))

  pub records_sound : (others : List WriteOut) (r : WriteOut) → next_stage r ≡ Some SyncingRecords
      → AllByRecursion (λ x. IsOlder x r) others → AllByRecursion (λ x. is_at is_applied x ≡ true) others
      → AreSound g next (others ++ r ∷ []) → AreSound g next (others ++ advanced_of r ∷ [])
  records_sound others r at older sure sound =
      newest_sound others r SyncingRecords at refl older (λ e. spaced others sure (sound.spaced e)) sound
    where
      spaced : (l : List WriteOut) → AllByRecursion (λ x. is_at is_applied x ≡ true) l → AreSpaced (l ++ r ∷ [])
          → AreSpaced (l ++ advanced_of r ∷ [])
      spaced [] sure spaced_l = (tt, tt)
      spaced (x ∷ l) sure spaced_l = (
        all_replaced (IsSpaced x) l r (advanced_of r) [] (λ is e. sure.0) spaced_l.0,
        spaced l sure.1 spaced_l.1,
      )

  pub syncing_sound : (l : List WriteOut) → AreSyncing l → AreSound g next l → AreSound g next (map advanced_of l)
  syncing_sound l None_syncs sound = sound
  syncing_sound l (Homes_syncs h at) sound = homes_sound h [] at sound
  syncing_sound l (Records_syncs r at) sound = records_sound [] r at tt tt sound
  syncing_sound l (Both_sync h r at_h at_r) sound =
      let first = homes_sound h (r ∷ []) at_h sound in
      records_sound (advanced_of h ∷ []) r at_r (first.ordered.0.0, tt) (closing_next h sound.each.0 at_h, tt) first

-- ---- after the next step, where its device calls succeed

pub record IsAfter (g : GeometryValue) (next : ℕ) (batches : List WriteOut) : Type 0 where
  pub sound : AreSound g next
      (after_in (shares_syncs g.layout) (answer_in (shares_syncs g.layout) batches) batches)
  pub no_device : answer_in (shares_syncs g.layout) batches ≡ Device → ⊥
  pub not_broken : answer_in (shares_syncs g.layout) batches ≡ Broken → ⊥

-- the last step is one of the oldest
pub ends_oldest : (older : List WriteOut) (w : WriteOut) (stage : Stage) → IsOneOf older w stage → stage ≡ Finishing
    → older ≡ []
ends_oldest older w stage is last = elim is.placed [
  | inl writes ↦ false_true (sym (ap has_writes last) ∙ writes)
  | inr none ↦ none
]

-- a shared sync ends the oldest, or nothing
pub shared_after : (shares : Bool) (batches : List WriteOut) → AllMove shares batches
    → ((e : WriteOut) × (rest : List WriteOut) × (batches ≡ e ∷ rest) × (next_stage e ≡ Some Finishing)
    × AreSyncing rest × (after_in shares (answer_in shares batches) batches ≡ map advanced_of rest))
    ⊎ (AreSyncing batches × (after_in shares (answer_in shares batches) batches ≡ map advanced_of batches))
shared_after shares batches all = by batches all.are_shared all.after all.are all.mover
  where
    same_first : {x y : WriteOut} {xs ys : List WriteOut} → (x ∷ xs) ≡ (y ∷ ys) → x ≡ y
    same_first e = cc

    goes : (w : WriteOut) (rest : List WriteOut) (stage : Stage) → next_stage w ≡ Some stage
        → answer_at w.batch.mark stage ≡ Going
        → moved shares (w ∷ rest) ≡ map advanced_of (w ∷ rest) → moving shares (w ∷ rest) ≡ Some w
        → after_in shares (answer_in shares (w ∷ rest)) (w ∷ rest) ≡ map advanced_of (w ∷ rest)
    goes w rest stage at going after mover =
        ap (λ (a : Flushed). after_in shares a (w ∷ rest)) (answer_is shares (w ∷ rest) w stage mover at ∙ going)
        ∙ after

    by : (l : List WriteOut) → AreShared l → moved shares l ≡ map advanced_of l → l ≡ all.oldest ∷ all.newer
        → moving shares l ≡ Some all.oldest
        → ((e : WriteOut) × (rest : List WriteOut) × (l ≡ e ∷ rest) × (next_stage e ≡ Some Finishing)
        × AreSyncing rest × (after_in shares (answer_in shares l) l ≡ map advanced_of rest))
        ⊎ (AreSyncing l × (after_in shares (answer_in shares l) l ≡ map advanced_of l))
    by l (Ending e rest at is) after are mover = inl (
      e,
      rest,
      refl,
      at,
      is,
      ap (λ (a : Flushed). after_in shares a (e ∷ rest))
          (answer_is shares (e ∷ rest) e Finishing (mover ∙ ap Some (sym (same_first are))) at)
          ∙ ap (drop 1) after,
    )
    by l (Going_on w rest is) after are mover =
        inr (is, first w rest is after (mover ∙ ap Some (sym (same_first are))))
      where
        first : (x : WriteOut) (more : List WriteOut) → AreSyncing (x ∷ more)
            → moved shares (x ∷ more) ≡ map advanced_of (x ∷ more) → moving shares (x ∷ more) ≡ Some x
            → after_in shares (answer_in shares (x ∷ more)) (x ∷ more) ≡ map advanced_of (x ∷ more)
        first x more (Homes_syncs h at) = goes x more SyncingHomes at refl
        first x more (Records_syncs r at) = goes x more SyncingRecords at refl
        first x more (Both_sync h r at_h at_r) = goes x more SyncingHomes at_h refl

module _ (g : GeometryValue) (next : ℕ) where
  abbrev shares : Bool
  shares = shares_syncs g.layout

  fine : (batches : List WriteOut) (w : WriteOut) (stage : Stage) → moving shares batches ≡ Some w
      → next_stage w ≡ Some stage → AreSound g next (after_in shares (answer_in shares batches) batches)
      → IsAfter g next batches
  fine batches w stage is at sound = record {
    sound = sound;
    no_device = λ e. (fine_at w.batch.mark stage).0 (sym (answer_is shares batches w stage is at) ∙ e);
    not_broken = λ e. (fine_at w.batch.mark stage).1 (sym (answer_is shares batches w stage is at) ∙ e);
  }

  pub sound_after : (batches : List WriteOut) → (batches ≡ [] → ⊥) → AreSound g next batches → IsAfter g next batches
  sound_after batches some sound = by (moves_of g shares batches some sound.each sound.ordered sound.spaced)
    where
      by : Moves shares batches → IsAfter g next batches
      by (By_newest n) =
          let before = subst (AreSound g next) n.are sound in
          let own = (all_back (IsWriteOut g) n.others (n.newest ∷ []) before.each).0 in
          fine batches n.newest n.stage n.mover n.at
          (subst (AreSound g next)
          (sym (ap (λ (a : Flushed). after_in shares a batches)
          (answer_is shares batches n.newest n.stage n.mover n.at)
          ∙ early_answer shares n.newest.batch.mark n.stage batches n.early ∙ n.after))
          (newest_sound g next n.others n.newest n.stage n.at n.early n.older
          (λ e. newest_spaced g n.others n.newest n.stage own n.at (n.ahead e) (before.spaced e)) before))
      by (By_one o) =
          let before = subst (AreSound g next) o.are sound in
          let answered = ap (λ (a : Flushed). after_in shares a batches)
          (answer_is shares batches o.it o.stage o.mover o.is.at) in
          fine batches o.it o.stage o.mover o.is.at
          (elim (is_last o.stage) [
            | inl last ↦
                (let none = ends_oldest o.older o.it o.stage o.is last in
                let rest : after_in shares (answer_in shares batches) batches ≡ o.newer =
                answered ∙ ap (λ (t : Stage). after_in shares (answer_at o.it.batch.mark t) batches) last
                ∙ ap (drop 1) (o.after ∙ ap (λ (l : List WriteOut). l ++ advanced_of o.it ∷ o.newer) none) in
                subst (AreSound g next) (sym rest)
                (oldest_ends g next o.it o.newer
                (subst (λ (l : List WriteOut). AreSound g next (l ++ o.it ∷ o.newer)) none before)))
            | inr not_last ↦ subst (AreSound g next)
                (sym (answered ∙ late_answer shares o.it.batch.mark o.stage batches o.is.late not_last ∙ o.after))
                (one_goes g next o.older o.it o.newer o.stage o.is not_last before)
          ])
      by (By_all a) =
          let own : IsWriteOut g a.oldest = (subst (AllByRecursion (IsWriteOut g)) a.are sound.each).0 in
          let s = stage_of a.oldest own.going in
          fine batches a.oldest s.0 a.mover s.1
          (elim (shared_after shares batches a) [
            | inl ends ↦ subst (AreSound g next) (sym ends.5)
                (syncing_sound g next ends.1 ends.4
                (oldest_ends g next ends.0 ends.1 (subst (AreSound g next) ends.2 sound)))
            | inr goes ↦ subst (AreSound g next) (sym goes.1) (syncing_sound g next batches goes.0 sound)
          ])

-- the value after a step whose device calls succeed
after_same : (outs : WriteOutsValue) (answer : Flushed) → (answer ≡ Device → ⊥) → (answer ≡ Broken → ⊥)
    → outs_after outs answer
    ≡ record outs { batches = after_in (shares_syncs outs.geometry.layout) answer outs.batches }
after_same outs Going no_device not_broken = refl
after_same outs (Committed mark) no_device not_broken = refl
after_same outs (Done mark) no_device not_broken = refl
after_same outs Device no_device not_broken = absurd (no_device refl)
after_same outs Broken no_device not_broken = absurd (not_broken refl)

module _ (outs : WriteOutsValue) (sound : IsSound outs) (whole : outs.broken ≡ false)
    (some : outs.batches ≡ [] → ⊥) where
  abbrev sharing : Bool
  sharing = shares_syncs outs.geometry.layout

  pub answer_same : next_answer outs ≡ answer_in sharing outs.batches
  answer_same = cond-false outs.broken Broken (option_map_or answer_of (outs_moving outs) Broken) whole

  pub outs_after-is : outs_after outs (next_answer outs)
      ≡ record outs { batches = after_in sharing (answer_in sharing outs.batches) outs.batches }
  outs_after-is =
      let after = sound_after outs.geometry outs.next outs.batches some sound in
      ap (outs_after outs) answer_same
      ∙ after_same outs (answer_in sharing outs.batches) after.no_device after.not_broken

  pub step_sound : IsSound (outs_after outs (next_answer outs))
  step_sound =
      subst IsSound (sym outs_after-is) (sound_after outs.geometry outs.next outs.batches some sound).sound

-- a step that ends a write-out is one of a committed batch
pub done_committed : (w : WriteOut) (mark : ℕ) → answer_of w ≡ Done mark → has_committed w ≡ true
done_committed w mark e = by (next_stage w) e
  where
    by : (o : Option Stage) → option_map_or (answer_at w.batch.mark) o Broken ≡ Done mark
        → option_map_or is_committed o true ≡ true
    by None e = refl
    by (Some (Recording i)) e = cc
    by (Some (Describing i)) e = cc
    by (Some SyncingRecords) e = cc
    by (Some Opening) e = cc
    by (Some Committing) e = cc
    by (Some (Applying i)) e = refl
    by (Some SyncingHomes) e = refl
    by (Some Closing) e = refl
    by (Some Finishing) e = refl
