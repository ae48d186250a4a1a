-- Commits that follow one another make two syncs each, and a journal is always free for the next one.
use Rattle.std.proofs.Common.{◌≡◌, ℕ, ◌+◌, ◌*◌, ◌≤◌, inl, inr, Bool, true, false, not, ◌||◌, cond, ◌==◌}
use Rattle.std.proofs.Common.{List, [], ◌∷◌, ◌++◌, length, map, Option, Some, None, refl, sym, ap, ◌∙◌, subst}
use Rattle.std.proofs.Common.{arith}
use Rattle.std.specs.List.{AllByRecursion, list_any}
use Rattle.std.specs.Option.{option_map_or}
use Rattle.std.proofs.lemmas.Bool.{both_ways, cond_both, cond-false, or_from, eqb-true, ne_eqb}
use Rattle.std.proofs.lemmas.Bool.{not_from_true, or_left, or_right}
use Rattle.volume_codec.specs.Layout.{GeometryValue, IsGeometry, journals_of}
use Rattle.volume_codec.proofs.Layouts.{few_journals}
use Rattle.journal.specs.declared.stage.Stage.{Stage}
use Rattle.journal.specs.declared.stage.Stage.TheVariants.{Recording, Describing, SyncingRecords, Opening}
use Rattle.journal.specs.declared.stage.Stage.TheVariants.{Committing, Applying, SyncingHomes, Closing, Finishing}
use Rattle.journal.specs.declared.flushed.Flushed.{Flushed}
use Rattle.journal.specs.Stage.{is_committed, has_writes, may_share, is_ahead, answer_at}
use Rattle.journal.specs.Work.{Work, Nothing, work_at}
use Rattle.journal.specs.WriteOut.{WriteOut, next_stage, has_committed, advanced_of}
use Rattle.journal.specs.WriteOuts.{WriteOutsValue, none_of, has_uncommitted, shares_syncs, is_at, moved}
use Rattle.journal.specs.WriteOuts.{outs_moving, next_work, next_answer, outs_after, is_busy, begun}
use Rattle.journal.specs.Commits.{commits_by, syncs_by, HaveCommitted, NoneYet, OneBegun, OneStepped}
use Rattle.journal.specs.inside.Sound.{AreSound, IsWriteOut, IsOlder, AreInOrder, AreSpaced, IsSound}
use Rattle.journal.specs.inside.Tied.{is_applying, is_applied, is_recorded}
use Rattle.journal.proofs.Alls.{all_map, all_back}
use Rattle.journal.proofs.Stages.{next_in}
use Rattle.journal.proofs.Batches.{committed-at, at-is}
use Rattle.journal.proofs.Tying.{false_true, late_stage, late_lacks, late_writer, shared_stage, stage_of}
use Rattle.journal.proofs.Sounding.{next_from, each_committed, not_busy, next_is_batch, begun_sound, sound_without}
use Rattle.journal.proofs.Moving.{AreSyncing, None_syncs, Homes_syncs, Records_syncs, Both_sync}
use Rattle.journal.proofs.Moving.{Moves, By_newest, By_one, By_all, moves_of}
use Rattle.journal.proofs.Answering.{work_in, answer_in, after_in, work_is, answer_is, early_answer}
use Rattle.journal.proofs.Answering.{late_answer, shared_after, answer_same, outs_after-is}
use Rattle.journal.proofs.Answering.{step_sound}

-- ---- one sync of two is made

-- at these stages the records are synced, and the batch isn't committed yet
abbrev is_between : Stage → Bool
is_between Opening = true
is_between Committing = true
is_between stage = false

abbrev owed : List WriteOut → ℕ
owed batches = cond (list_any (is_at is_between) batches) 1 0

late_owes_none : (w : WriteOut) → has_committed w ≡ true → is_at is_between w ≡ false
late_owes_none = late_lacks is_between (λ i. refl) refl refl refl

any_newest : (others : List WriteOut) (w : WriteOut) → AllByRecursion (λ x. has_committed x ≡ true) others
    → list_any (is_at is_between) (others ++ w ∷ []) ≡ is_at is_between w
any_newest [] w late = or_false (is_at is_between w)
  where
    or_false : (b : Bool) → (b || false) ≡ b
    or_false true = refl
    or_false false = refl
any_newest (x ∷ others) w late =
    ap (λ b. b || list_any (is_at is_between) (others ++ w ∷ [])) (late_owes_none x late.0)
    ∙ any_newest others w late.1

any_same : (older : List WriteOut) (w x : WriteOut) (newer : List WriteOut)
    → is_at is_between w ≡ is_at is_between x
    → list_any (is_at is_between) (older ++ w ∷ newer) ≡ list_any (is_at is_between) (older ++ x ∷ newer)
any_same [] w x newer same = ap (λ b. b || list_any (is_at is_between) newer) same
any_same (y ∷ older) w x newer same = ap (λ b. is_at is_between y || b) (any_same older w x newer same)

module _ (g : GeometryValue) (next : ℕ) (shared : shares_syncs g.layout ≡ true) where
  abbrev sharing : Bool
  sharing = shares_syncs g.layout

  -- what a step of these adds
  abbrev IsEven : List WriteOut → Type 0
  IsEven batches =
      syncs_by (work_in g [] batches) + owed batches
      ≡ 2 * commits_by (answer_in sharing batches) + owed (after_in sharing (answer_in sharing batches) batches)

  even_as : (batches after : List WriteOut) (work : Work) (answer : Flushed) (before later : Bool)
      → work_in g [] batches ≡ work → answer_in sharing batches ≡ answer
      → after_in sharing (answer_in sharing batches) batches ≡ after
      → list_any (is_at is_between) batches ≡ before → list_any (is_at is_between) after ≡ later
      → syncs_by work + cond before 1 0 ≡ 2 * commits_by answer + cond later 1 0 → IsEven batches
  even_as batches after work answer before later works answers afters befores laters even =
      (λ i. syncs_by (works i) + cond (befores i) 1 0)
      ∙ even
      ∙ sym (λ i. 2 * commits_by (answers i) + cond (((ap (list_any (is_at is_between)) afters) ∙ laters) i) 1 0)

  -- of the newest
  newest_even : (mark : ℕ) (w : WriteOut) (s : Stage) → is_committed s ≡ false → is_ahead s ≡ true
      → syncs_by (work_at g w.batch [] s) + cond (is_between s) 1 0
      ≡ 2 * commits_by (answer_at mark s) + cond (is_between (next_in g.slots w.batch s)) 1 0
  newest_even mark w (Recording i) early ahead = cond_both (i + 1 == length w.batch.homes) (Describing 0)
      (Recording (i + 1)) (λ t. ◌≡◌ {A = ℕ} (0 + 0) (2 * 0 + cond (is_between t) 1 0)) (λ e. refl) (λ e. refl)
  newest_even mark w (Describing i) early ahead =
      cond_both (i + 1 == Rattle.volume_codec.specs.Layout.descriptor_blocks g.slots) SyncingRecords
      (Describing (i + 1)) (λ t. ◌≡◌ {A = ℕ} (0 + 0) (2 * 0 + cond (is_between t) 1 0)) (λ e. refl) (λ e. refl)
  newest_even mark w SyncingRecords early ahead = false_true ahead
  newest_even mark w Opening early ahead = refl
  newest_even mark w Committing early ahead = refl
  newest_even mark w (Applying i) early ahead = false_true ahead
  newest_even mark w SyncingHomes early ahead = false_true ahead
  newest_even mark w Closing early ahead = false_true ahead
  newest_even mark w Finishing early ahead = false_true ahead

  -- of one that is committed
  pub one_writes : (mark : ℕ) (w : WriteOut) (s : Stage) → is_committed s ≡ true → has_writes s ≡ true
      → (syncs_by (work_at g w.batch [] s) ≡ 0) × (commits_by (answer_at mark s) ≡ 0)
      × (is_between s ≡ false) × (is_between (next_in g.slots w.batch s) ≡ false) × (s ≡ Finishing → ⊥)
  one_writes mark w = late_writer _
      (λ i. (
        refl,
        refl,
        refl,
        cond_both (i + 1 == length w.batch.homes) SyncingHomes (Applying (i + 1)) (λ t. is_between t ≡ false)
            (λ e. refl) (λ e. refl),
        λ e. cc,
      ))
      (refl, refl, refl, refl, λ e. cc)

  -- of all
  pub shared_adds : (mark : ℕ) (w : WriteOut) (s : Stage) → may_share s ≡ true
      → (syncs_by (work_at g w.batch [] s) ≡ 1) × (commits_by (answer_at mark s) ≡ 0)
  shared_adds mark w = shared_stage _ (refl, refl) (refl, refl) (refl, refl)

  opens_next : (r : WriteOut) → IsWriteOut g r → next_stage r ≡ Some SyncingRecords
      → is_at is_between (advanced_of r) ≡ true
  opens_next r own at = at-is is_between (advanced_of r) Opening (next_from g r SyncingRecords own at (λ e. cc))

  closes_next : (h : WriteOut) → IsWriteOut g h → next_stage h ≡ Some SyncingHomes
      → is_at is_between (advanced_of h) ≡ false
  closes_next h own at = at-is is_between (advanced_of h) Closing (next_from g h SyncingHomes own at (λ e. cc))

  syncing_adds : (l : List WriteOut) → AreSyncing l → AllByRecursion (IsWriteOut g) l → has_uncommitted l ≡ true
      → (list_any (is_at is_between) l ≡ false) × (list_any (is_at is_between) (map advanced_of l) ≡ true)
  syncing_adds l None_syncs each has = false_true has
  syncing_adds l (Homes_syncs h at) each has = absurd (both_ways (has_uncommitted (h ∷ []))
      (or_from (not (has_committed h)) false
      (not_from_true (has_committed h) (committed-at h SyncingHomes at)) refl) has)
  syncing_adds l (Records_syncs r at) each has = (
    or_from (is_at is_between r) false (at-is is_between r SyncingRecords at) refl,
    or_left (is_at is_between (advanced_of r)) false (opens_next r each.0 at),
  )
  syncing_adds l (Both_sync h r at_h at_r) each has = (
    or_from (is_at is_between h) (is_at is_between r || false) (at-is is_between h SyncingHomes at_h)
        (or_from (is_at is_between r) false (at-is is_between r SyncingRecords at_r) refl),
    or_right (is_at is_between (advanced_of h)) (is_at is_between (advanced_of r) || false)
        (or_left (is_at is_between (advanced_of r)) false (opens_next r each.1.0 at_r)),
  )

  pub step_even : (batches : List WriteOut) → (batches ≡ [] → ⊥) → has_uncommitted batches ≡ true
      → AreSound g next batches → IsEven batches
  step_even batches some has sound = by (moves_of g sharing batches some sound.each sound.ordered sound.spaced)
    where
      by : Moves sharing batches → IsEven batches
      by (By_newest n) =
          let own = (all_back (IsWriteOut g) n.others (n.newest ∷ [])
          (subst (AllByRecursion (IsWriteOut g)) n.are sound.each)).0 in
          let late = all_map {P = λ x. IsOlder x n.newest} {Q = λ x. has_committed x ≡ true} (λ x old. old.committed)
          n.others n.older in
          let answers = answer_is sharing batches n.newest n.stage n.mover n.at in
          even_as batches (n.others ++ advanced_of n.newest ∷ []) (work_at g n.newest.batch [] n.stage)
          (answer_at n.newest.batch.mark n.stage) (is_between n.stage)
          (is_between (next_in g.slots n.newest.batch n.stage))
          (work_is g [] batches n.newest n.stage n.mover n.at) answers
          (ap (λ (a : Flushed). after_in sharing a batches) answers
          ∙ early_answer sharing n.newest.batch.mark n.stage batches n.early ∙ n.after)
          (ap (list_any (is_at is_between)) n.are ∙ any_newest n.others n.newest late
          ∙ at-is is_between n.newest n.stage n.at)
          (any_newest n.others (advanced_of n.newest) late
          ∙ at-is is_between (advanced_of n.newest) (next_in g.slots n.newest.batch n.stage)
          (next_from g n.newest n.stage own n.at
          (λ last. both_ways (is_committed n.stage) n.early (ap is_committed last))))
          (newest_even n.newest.batch.mark n.newest n.stage n.early (n.ahead shared))
      by (By_one o) =
          let own = (all_back (IsWriteOut g) o.older (o.it ∷ o.newer)
          (subst (AllByRecursion (IsWriteOut g)) o.are sound.each)).0 in
          let facts = one_writes o.it.batch.mark o.it o.stage o.is.late (o.writes shared) in
          let answers = answer_is sharing batches o.it o.stage o.mover o.is.at in
          let between = list_any (is_at is_between) batches in
          even_as batches (o.older ++ advanced_of o.it ∷ o.newer) (work_at g o.it.batch [] o.stage)
          (answer_at o.it.batch.mark o.stage) between between
          (work_is g [] batches o.it o.stage o.mover o.is.at) answers
          (ap (λ (a : Flushed). after_in sharing a batches) answers
          ∙ late_answer sharing o.it.batch.mark o.stage batches o.is.late facts.4 ∙ o.after)
          refl
          (sym (any_same o.older o.it (advanced_of o.it) o.newer
          (at-is is_between o.it o.stage o.is.at ∙ facts.2
          ∙ sym (at-is is_between (advanced_of o.it) (next_in g.slots o.it.batch o.stage)
          (next_from g o.it o.stage own o.is.at facts.4) ∙ facts.3)))
          ∙ sym (ap (list_any (is_at is_between)) o.are))
          (let a = facts.0 in let b = facts.1 in omega (arith, a, b))
      by (By_all a) =
          let facts = shared_adds a.oldest.batch.mark a.oldest a.stage a.syncs in
          let answers = answer_is sharing batches a.oldest a.stage a.mover a.at in
          let works = work_is g [] batches a.oldest a.stage a.mover a.at in
          let even : syncs_by (work_at g a.oldest.batch [] a.stage) + 0
          ≡ 2 * commits_by (answer_at a.oldest.batch.mark a.stage) + 1 =
          (let x = facts.0 in let y = facts.1 in omega (arith, x, y)) in
          elim (shared_after sharing batches a) [
            | inl ends ↦
                (let each = subst (AllByRecursion (IsWriteOut g)) ends.2 sound.each in
                let last = committed-at ends.0 Finishing ends.3 in
                let rest : has_uncommitted ends.1 ≡ true =
                sym (ap (λ b. not b || has_uncommitted ends.1) last)
                ∙ sym (ap has_uncommitted ends.2) ∙ has in
                let adds = syncing_adds ends.1 ends.4 each.1 rest in
                even_as batches (map advanced_of ends.1) (work_at g a.oldest.batch [] a.stage)
                (answer_at a.oldest.batch.mark a.stage) false true works answers ends.5
                (ap (list_any (is_at is_between)) ends.2
                ∙ or_from (is_at is_between ends.0) (list_any (is_at is_between) ends.1)
                (at-is is_between ends.0 Finishing ends.3) adds.0) adds.1 even)
            | inr goes ↦
                (let adds = syncing_adds batches goes.0 sound.each has in
                even_as batches (map advanced_of batches) (work_at g a.oldest.batch [] a.stage)
                (answer_at a.oldest.batch.mark a.stage) false true works answers goes.1 adds.0 adds.1 even)
          ]

-- ---- over a run

pub record IsCounted (g : GeometryValue) (outs : WriteOutsValue) (commits syncs : ℕ) : Type 0 where
  pub geometry : outs.geometry ≡ g
  pub whole : outs.broken ≡ false
  pub sound : IsSound outs
  pub count : syncs ≡ 2 * commits + owed outs.batches

none_between : (batches : List WriteOut) → AllByRecursion (λ x. has_committed x ≡ true) batches
    → list_any (is_at is_between) batches ≡ false
none_between [] late = refl
none_between (w ∷ newer) late =
    or_from (is_at is_between w) (list_any (is_at is_between) newer) (late_owes_none w late.0)
    (none_between newer late.1)

pub counted : (g : GeometryValue) → IsGeometry g → shares_syncs g.layout ≡ true
    → {outs : WriteOutsValue} {commits syncs : ℕ} → HaveCommitted g outs commits syncs → IsCounted g outs commits syncs
counted g is_geometry shared NoneYet = record {
  geometry = refl;
  whole = refl;
  sound = sound_without g 0 is_geometry (few_journals g.layout).0;
  count = refl;
}
counted g is_geometry shared (OneBegun outs commits syncs mark homes may run) =
    let before = counted g is_geometry shared run in
    let free = not_busy outs before.sound may.free in
    let is_batch = next_is_batch outs mark homes before.sound may.some_mark may.small_mark may.are_homes in
    let late = each_committed outs.batches free.none in
    let begins = Rattle.journal.proofs.Sounding.first_stage outs.geometry.slots
    (Rattle.journal.specs.WriteOuts.next_batch outs mark homes) is_batch.described.homes.some in
    let first = Rattle.journal.specs.WriteOut.begun_of outs.geometry.slots
    (Rattle.journal.specs.WriteOuts.next_batch outs mark homes) in
    record {
      geometry = before.geometry;
      whole = before.whole;
      sound = begun_sound outs mark homes before.sound free is_batch may.newest;
      count = before.count
          ∙ ap (λ b. 2 * commits + cond b 1 0) (none_between outs.batches late
          ∙ sym (any_newest outs.batches first late ∙ at-is is_between first (Recording 0) begins));
    }
counted g is_geometry shared (OneStepped outs commits syncs has run) =
    let before = counted g is_geometry shared run in
    let some : outs.batches ≡ [] → ⊥ = λ e. both_ways (has_uncommitted outs.batches) (ap has_uncommitted e) has in
    let shares : shares_syncs outs.geometry.layout ≡ true =
    ap (λ (x : GeometryValue). shares_syncs x.layout) before.geometry ∙ shared in
    let even = step_even outs.geometry outs.next shares outs.batches some has before.sound in
    let e = outs_after-is outs before.sound before.whole some in
    let works : syncs_by (next_work outs []) ≡ syncs_by (work_in outs.geometry [] outs.batches) =
    ap syncs_by (cond-false outs.broken Nothing
    (option_map_or (Rattle.journal.specs.WriteOut.work_of outs.geometry []) (outs_moving outs) Nothing) before.whole) in
    let answers : commits_by (next_answer outs)
    ≡ commits_by (answer_in (shares_syncs outs.geometry.layout) outs.batches) =
    ap commits_by (answer_same outs before.sound before.whole some) in
    let afters : owed (outs_after outs (next_answer outs)).batches
    ≡ owed (after_in (shares_syncs outs.geometry.layout)
    (answer_in (shares_syncs outs.geometry.layout) outs.batches) outs.batches) =
    ap (λ (o : WriteOutsValue). owed o.batches) e in
    let count = before.count in
    record {
      geometry = ap (λ (o : WriteOutsValue). o.geometry) e ∙ before.geometry;
      whole = ap (λ (o : WriteOutsValue). o.broken) e ∙ before.whole;
      sound = step_sound outs before.sound before.whole some;
      count = omega (arith, count, even, works, answers, afters);
    }

pub two_syncs : (g : GeometryValue) (outs : WriteOutsValue) (commits syncs : ℕ) → IsGeometry g
    → shares_syncs g.layout ≡ true → HaveCommitted g outs commits syncs → has_uncommitted outs.batches ≡ false
    → syncs ≡ 2 * commits
two_syncs g outs commits syncs is_geometry shared run none =
    let is = counted g is_geometry shared run in
    let nothing : owed outs.batches ≡ 0 =
    ap (λ b. cond b 1 0) (none_between outs.batches (each_committed outs.batches none)) in
    let count = is.count in
    omega (arith, count, nothing)

-- ---- a journal is free

not_both : (o : Option Stage) → option_map_or is_applying o false ≡ true → option_map_or is_applied o false ≡ true → ⊥
not_both None applying applied = both_ways false refl applied
not_both (Some (Recording i)) applying applied = both_ways false refl applied
not_both (Some (Describing i)) applying applied = both_ways false refl applied
not_both (Some SyncingRecords) applying applied = both_ways false refl applied
not_both (Some Opening) applying applied = both_ways false refl applied
not_both (Some Committing) applying applied = both_ways false refl applied
not_both (Some (Applying i)) applying applied = both_ways false refl applied
not_both (Some SyncingHomes) applying applied = both_ways false refl applied
not_both (Some Closing) applying applied = both_ways false refl applying
not_both (Some Finishing) applying applied = both_ways false refl applying

late_recorded : (s : Stage) → is_committed s ≡ true → is_recorded s ≡ true
late_recorded s late = late_stage (λ s. is_recorded s ≡ true) (λ i. refl) refl refl refl s late

two_at_most : (g : GeometryValue) (batches : List WriteOut) → AllByRecursion (IsWriteOut g) batches
    → AreInOrder batches → AreSpaced batches → AllByRecursion (λ w. has_committed w ≡ true) batches
    → length batches ≤ 2
two_at_most g [] each ordered spaced late = omega arith
two_at_most g (a ∷ []) each ordered spaced late = omega arith
two_at_most g (a ∷ b ∷ []) each ordered spaced late = omega arith
two_at_most g (a ∷ b ∷ c ∷ more) each ordered spaced late =
    let s = stage_of c each.1.1.0.going in
    let recorded : is_at is_recorded c ≡ true = at-is is_recorded c s.0 s.1
    ∙ late_recorded s.0 (sym (committed-at c s.0 s.1) ∙ late.1.1.0) in
    let applied : is_at is_applied b ≡ true = spaced.1.0.0 recorded in
    absurd (elim (ordered.0.0.waits late.1.0) [
      | inl first ↦ both_ways false refl (sym (at-is is_applied b (Applying 0) first) ∙ applied)
      | inr sure ↦ not_both (next_stage b) sure.0 applied
    ])

pub always_free : (outs : WriteOutsValue) → IsSound outs → shares_syncs outs.geometry.layout ≡ true
    → has_uncommitted outs.batches ≡ false → (length outs.batches ≤ 2) × (is_busy outs ≡ false)
always_free outs sound shared none =
    let few = two_at_most outs.geometry outs.batches sound.each sound.ordered (sound.spaced shared)
    (each_committed outs.batches none) in
    let four = eqb-true (journals_of outs.geometry.layout) 4 shared in (
      few,
      or_from (has_uncommitted outs.batches) (length outs.batches == journals_of outs.geometry.layout) none
          (ne_eqb (length outs.batches) (journals_of outs.geometry.layout) (λ e. absurd (omega (arith, few, four, e)))),
    )
