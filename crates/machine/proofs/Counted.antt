-- What the write-out of one mark asks of the device in a run, until it is committed and until it is done.
use Rattle.machine.proofs.Names.{ℕ, suc, ◌≡◌, ◌≢◌, ◌+◌, ◌*◌, ◌<◌, ◌≤◌, ◌⊎◌, inl, inr, Bool, true}
use Rattle.machine.proofs.Names.{false, cond, eqb, List, [], ◌∷◌, ◌++◌, length, drop, sum_by, Option, Some, None}
use Rattle.machine.proofs.Names.{refl, sym, ap, ◌∙◌, subst, arith, append_assoc, append-nil, length-append}
use Rattle.machine.proofs.Names.{AllByRecursion, option_map_or, cond-true, cond-false, cases_Bool, both_ways, eq-eqb}
use Rattle.machine.proofs.Names.{sum_by-append, All-weaker, recursion_from_All, Ghosts}
use Rattle.machine.proofs.Names.{File, GeometryValue, Batch, Stage, Committing, Finishing, Flushed, answer_at, Work}
use Rattle.machine.proofs.Names.{Nothing, work_at, calls_of, WriteOut, next_stage, begun_of, advanced_of, work_of}
use Rattle.machine.proofs.Names.{answer_of, calls_in_steps, WriteOutsValue, gives_way, moving, moved, outs_after}
use Rattle.machine.proofs.Names.{is_ahead, has_writes, may_share, is_at, joined, outs_moving, Sync, ne_eqb, or_from}
use Rattle.machine.proofs.Names.{or_left, or_right, or_parts, not, map, list_any, ◌&&◌, Recording, Describing}
use Rattle.machine.proofs.Names.{SyncingRecords, Opening, Applying, SyncingHomes, Closing}
use Rattle.machine.proofs.Names.{next_answer, next_batch, begun, IsAt, stage_is, early_calls, all_calls}
use Rattle.machine.proofs.Names.{Act, Reply, Step, State, Whole, Acts, MarkMade}
use Rattle.machine.proofs.Names.{with_batch, mark_homes, is_page_next, after_record}
use Rattle.machine.proofs.Names.{reply_to, step_work, StepTaken, StepsTaken, listed_work}
use Rattle.machine.proofs.Names.{asked_for, AskFor, IsReached, IsSound, Performed, Moved, Marked, Failed}
use Rattle.volume_codec.specs.Layout.{descriptor_blocks}
use Rattle.journal.specs.declared.flushed.Flushed.TheVariants as flushed
use Rattle.machine.specs.Sums.{stepping}
use Rattle.machine.specs.declared.act.Act.TheVariants as acts
use Rattle.machine.specs.declared.act.Reply.TheVariants as replies
use Rattle.machine.specs.Rules.{next_record}
use Rattle.machine.specs.inside.Moves.{Flushed as Stepped, Resized}
use Rattle.machine.proofs.sound.ByMark.{marked_sound}
use Rattle.machine.proofs.sound.Waiting.{blocks}
use Rattle.machine.proofs.sound.Sharing.{shared, AreStepped, Makes, each_stepped, none_ahead}
use Rattle.machine.proofs.acts.All.{performed}
use Rattle.machine.proofs.sound.Kept.{performed_sound}
use Rattle.machine.proofs.durable.Steps.{GoesOn, step_goes, step_asks}
use Rattle.machine.proofs.refining.Moved.{moves_leave}
use Rattle.machine.proofs.Refinement.{follows}

-- ---- what the answer of a step tells

-- the mark, and how many steps were made before, where a write-out is committed or done by the step
abbrev IsAnswered : WriteOut → Flushed → Type 0
IsAnswered w (flushed.Committed mark) = (w.batch.mark ≡ mark) × (w.steps ≡ blocks w + w.described + 2)
IsAnswered w (flushed.Done mark) = (w.batch.mark ≡ mark) × (w.steps ≡ 2 * blocks w + w.described + 5)
IsAnswered w answer = Unit {0}

-- one piece of work, that makes as many calls whatever the record and the volume are
abbrev IsOneWork : Work → Work → Type 0
IsOneWork work same = (length (listed_work work) ≡ 1) × (sum_by calls_of (listed_work work) ≡ calls_of same)

module _ (w : WriteOut) where
  at_stage : (g h : GeometryValue) (bytes : List ℕ) (o : Option Stage) → IsAt (blocks w) w.described w.steps o
      → IsAnswered w (option_map_or (answer_at w.batch.mark) o flushed.Broken)
      × (GoesOn (option_map_or (answer_at w.batch.mark) o flushed.Broken)
      → IsOneWork (option_map_or (work_at g w.batch bytes) o Nothing) (option_map_or (work_at h w.batch []) o Nothing))
  at_stage g h bytes None at = (tt, λ never. absurd never)
  at_stage g h bytes (Some Committing) at = ((refl, at), λ goes. (refl, refl))
  at_stage g h bytes (Some Finishing) at = ((refl, at), λ goes. (refl, refl))
  at_stage g h bytes (Some stage) at = (tt, λ goes. (refl, refl))

  answered_at : (g : GeometryValue) (answer : Flushed) → answer_of w ≡ answer → IsAnswered w answer
  answered_at g answer is =
      subst (IsAnswered w) is (at_stage g g [] (next_stage w) (stage_is (blocks w) w.described w.steps)).0

  one_work : (g h : GeometryValue) (bytes : List ℕ) → GoesOn (answer_of w)
      → IsOneWork (work_of g bytes w) (work_of h [] w)
  one_work g h bytes = (at_stage g h bytes (next_stage w) (stage_is (blocks w) w.described w.steps)).1

-- a sync that others share
sync_work : (g : GeometryValue) (bytes : List ℕ) (w : WriteOut) → is_at may_share w ≡ true → work_of g bytes w ≡ Sync
sync_work g bytes w shares = by (next_stage w) shares
  where
    by : (o : Option Stage) → option_map_or may_share o false ≡ true
        → option_map_or (work_at g w.batch bytes) o Nothing ≡ Sync
    by None e = absurd (cc)
    by (Some (Recording i)) e = absurd (cc)
    by (Some (Describing i)) e = absurd (cc)
    by (Some SyncingRecords) e = refl
    by (Some Opening) e = absurd (cc)
    by (Some Committing) e = absurd (cc)
    by (Some (Applying i)) e = absurd (cc)
    by (Some SyncingHomes) e = refl
    by (Some Closing) e = absurd (cc)
    by (Some Finishing) e = refl

-- one that shares it writes nothing
sync_silent : (w : WriteOut) → is_at may_share w ≡ true → is_at has_writes w ≡ false
sync_silent w shares = by (next_stage w) shares
  where
    by : (o : Option Stage) → option_map_or may_share o false ≡ true → option_map_or has_writes o false ≡ false
    by None e = refl
    by (Some (Recording i)) e = absurd (cc)
    by (Some (Describing i)) e = absurd (cc)
    by (Some SyncingRecords) e = refl
    by (Some Opening) e = absurd (cc)
    by (Some Committing) e = refl
    by (Some (Applying i)) e = absurd (cc)
    by (Some SyncingHomes) e = refl
    by (Some Closing) e = absurd (cc)
    by (Some Finishing) e = refl

-- a write-out that isn't done, writes nothing and isn't ahead asks for a sync
quiet_work : (g : GeometryValue) (w : WriteOut) → is_at is_ahead w ≡ false → is_at has_writes w ≡ false
    → w.steps < 2 * blocks w + w.described + 6 → work_of g [] w ≡ Sync
quiet_work g w behind silent few =
    by (next_stage w) (stage_is (blocks w) w.described w.steps) behind silent
  where
    by : (o : Option Stage) → IsAt (blocks w) w.described w.steps o → option_map_or is_ahead o false ≡ false
        → option_map_or has_writes o false ≡ false → option_map_or (work_at g w.batch []) o Nothing ≡ Sync
    by None at behind silent = absurd (omega (arith, at, few))
    by (Some (Recording i)) at behind silent = absurd (both_ways true behind refl)
    by (Some (Describing i)) at behind silent = absurd (both_ways true behind refl)
    by (Some SyncingRecords) at behind silent = refl
    by (Some Opening) at behind silent = absurd (both_ways true behind refl)
    by (Some Committing) at behind silent = absurd (both_ways true behind refl)
    by (Some (Applying i)) at behind silent = absurd (both_ways true silent refl)
    by (Some SyncingHomes) at behind silent = refl
    by (Some Closing) at behind silent = absurd (both_ways true silent refl)
    by (Some Finishing) at behind silent = refl

-- ---- the write-out of one mark among others

module _ (n : ℕ) where
  -- none of these is the mark's
  abbrev HasNone : List WriteOut → Type 0
  HasNone batches = AllByRecursion (λ (w : WriteOut). w.batch.mark ≢ n) batches

  abbrev is_of : WriteOut → Bool
  is_of w = eqb w.batch.mark n

  -- whether its write-out makes the next step
  abbrev is_next : Bool → List WriteOut → Bool
  is_next shares batches = list_any is_of (stepping shares batches)

  none_any : (batches : List WriteOut) → HasNone batches → list_any is_of batches ≡ false
  none_any [] none = refl
  none_any (w ∷ newer) none =
      or_from (is_of w) (list_any is_of newer) (ne_eqb w.batch.mark n none.0) (none_any newer none.1)

  none_moving : (shares : Bool) (batches : List WriteOut) → HasNone batches
      → option_map_or is_of (moving shares batches) false ≡ false
  none_moving shares [] none = refl
  none_moving shares (w ∷ newer) none = by (gives_way shares w newer) (none_moving shares newer none.1)
    where
      by : (b : Bool) → option_map_or is_of (moving shares newer) false ≡ false
          → option_map_or is_of (cond b (moving shares newer) (Some w)) false ≡ false
      by true rest = rest
      by false rest = ne_eqb w.batch.mark n none.0

  none_next : (shares : Bool) (batches : List WriteOut) → HasNone batches → is_next shares batches ≡ false
  none_next shares [] none = refl
  none_next shares (w ∷ newer) none = by (gives_way shares w newer) (none_next shares newer none.1)
    where
      others : (a b : Bool) → list_any is_of (cond a (cond b newer []) []) ≡ false
      others true true = none_any newer none.1
      others true false = refl
      others false b = refl

      by : (b : Bool) → is_next shares newer ≡ false → list_any is_of
          (cond b (stepping shares newer) (w ∷ cond shares (cond (is_at may_share w) newer []) [])) ≡ false
      by true rest = rest
      by false rest = or_from (is_of w) (list_any is_of (cond shares (cond (is_at may_share w) newer []) []))
          (ne_eqb w.batch.mark n none.0) (others shares (is_at may_share w))

  none_stepped : (P : WriteOut → Type 0) (xs ys : List WriteOut) → AreStepped P xs ys → HasNone xs → HasNone ys
  none_stepped P [] [] are none = tt
  none_stepped P (x ∷ xs) (y ∷ ys) are none = (one are.0, none_stepped P xs ys are.1 none.1)
    where
      one : ((y ≡ x) ⊎ ((y ≡ advanced_of x) × P x)) → y.batch.mark ≢ n
      one (inl same) = λ e. none.0 (ap (λ (w : WriteOut). w.batch.mark) (sym same) ∙ e)
      one (inr step) = λ e. none.0 (ap (λ (w : WriteOut). w.batch.mark) (sym step.0) ∙ e)
  none_stepped P xs ys are none = absurd are

  none_moved : (shares : Bool) (batches : List WriteOut) → HasNone batches → HasNone (moved shares batches)
  none_moved shares batches none = none_stepped (Makes shares batches) batches (moved shares batches)
      (each_stepped shares batches) none

  none_rest : (batches : List WriteOut) → HasNone batches → HasNone (drop 1 batches)
  none_rest [] none = tt
  none_rest (w ∷ newer) none = none.1

  none_mapped : (batches : List WriteOut) → HasNone batches → HasNone (map advanced_of batches)
  none_mapped [] none = tt
  none_mapped (w ∷ newer) none = (none.0, none_mapped newer none.1)

  none_joined : (shares : Bool) (w : WriteOut) (newer : List WriteOut) → HasNone newer → HasNone (joined shares w newer)
  none_joined shares w newer none = by shares (is_at may_share w)
    where
      by : (a b : Bool) → HasNone (cond a (cond b (map advanced_of newer) newer) newer)
      by true true = none_mapped newer none
      by true false = none
      by false b = none

  none_push : (batches : List WriteOut) (w : WriteOut) → HasNone batches → w.batch.mark ≢ n
      → HasNone (batches ++ w ∷ [])
  none_push [] w none other = (other, tt)
  none_push (x ∷ newer) w none other = (none.0, none_push newer w none.1 other)

module _ (n slots : ℕ) (batch : Batch) (its : batch.mark ≡ n) where
  -- its write-out after so many steps
  abbrev after_steps : ℕ → WriteOut
  after_steps m = record { batch = batch; described = descriptor_blocks slots; steps = m }

  -- it is one of these, and no other is the mark's
  abbrev HasOne : ℕ → List WriteOut → Type 0
  HasOne m [] = ⊥
  HasOne m (w ∷ newer) = ((w ≡ after_steps m) × HasNone n newer) ⊎ ((w.batch.mark ≢ n) × HasOne m newer)

  one_push : (m : ℕ) (batches : List WriteOut) (w : WriteOut) → HasOne m batches → w.batch.mark ≢ n
      → HasOne m (batches ++ w ∷ [])
  one_push m [] w one other = absurd one
  one_push m (x ∷ newer) w (inl one) other = inl (one.0, none_push n newer w one.1 other)
  one_push m (x ∷ newer) w (inr one) other = inr (one.0, one_push m newer w one.1 other)

  one_begun : (batches : List WriteOut) → HasNone n batches → HasOne 0 (batches ++ begun_of slots batch ∷ [])
  one_begun [] none = inl (refl, tt)
  one_begun (x ∷ newer) none = inr (none.0, one_begun newer none.1)

  -- it is among these
  one_any : (m : ℕ) (batches : List WriteOut) → HasOne m batches → list_any (is_of n) batches ≡ true
  one_any m [] one = absurd one
  one_any m (w ∷ newer) (inl one) = or_left (is_of n w) (list_any (is_of n) newer)
      (eq-eqb w.batch.mark n (ap (λ (x : WriteOut). x.batch.mark) one.0 ∙ its))
  one_any m (w ∷ newer) (inr one) = or_right (is_of n w) (list_any (is_of n) newer) (one_any m newer one.1)

  -- it has what none of these has
  one_lacks : (has : WriteOut → Bool) (m : ℕ) (batches : List WriteOut) → HasOne m batches
      → list_any has batches ≡ false → has (after_steps m) ≡ false
  one_lacks has m [] one none = absurd one
  one_lacks has m (w ∷ newer) (inl one) none =
      ap has (sym one.0) ∙ (or_parts (has w) (list_any has newer) none).0
  one_lacks has m (w ∷ newer) (inr one) none =
      one_lacks has m newer one.1 (or_parts (has w) (list_any has newer) none).1

  one_mapped : (m : ℕ) (batches : List WriteOut) → HasOne m batches → HasOne (m + 1) (map advanced_of batches)
  one_mapped m [] one = absurd one
  one_mapped m (w ∷ newer) (inl one) = inl (ap advanced_of one.0, none_mapped n newer one.1)
  one_mapped m (w ∷ newer) (inr one) = inr (one.0, one_mapped m newer one.1)

  -- a step of another is a sync that it shares
  record Joins (m : ℕ) (next : Option WriteOut) (steps after : List WriteOut) : Type 0 where
    w : WriteOut
    mover : next ≡ Some w
    other : w.batch.mark ≢ n
    shares_it : is_at may_share w ≡ true
    behind : is_at is_ahead (after_steps m) ≡ false
    silent : is_at has_writes (after_steps m) ≡ false
    now : list_any (is_of n) steps ≡ true
    one : HasOne (m + 1) after

  -- the next step is of it alone, or it shares it, or it is of others
  abbrev Goes : ℕ → Option WriteOut → List WriteOut → List WriteOut → Type 0
  Goes m next steps after =
      ((next ≡ Some (after_steps m)) × (list_any (is_of n) steps ≡ true) × HasOne (m + 1) after)
      ⊎ (Joins m next steps after
      ⊎ ((option_map_or (is_of n) next false ≡ false) × (list_any (is_of n) steps ≡ false) × HasOne m after))

  joins_or : (shares : Bool) (m : ℕ) (w : WriteOut) (newer : List WriteOut) → gives_way shares w newer ≡ false
      → w.batch.mark ≢ n → HasOne m newer → (share : Bool) → is_at may_share w ≡ share
      → Goes m (Some w) (w ∷ cond shares (cond share newer []) [])
      (advanced_of w ∷ cond shares (cond share (map advanced_of newer) newer) newer)
  joins_or true m w newer first other one true e =
      let writes : list_any (is_at has_writes) newer ≡ false =
      sym (ap (λ b. not b && list_any (is_at has_writes) newer) (sync_silent w e))
      ∙ (or_parts (list_any (is_at is_ahead) newer)
      (not (is_at has_writes w) && list_any (is_at has_writes) newer) first).1 in
      inr (inl (record {
        w = w;
        mover = refl;
        other = other;
        shares_it = e;
        behind = one_lacks (is_at is_ahead) m newer one (none_ahead w newer first);
        silent = one_lacks (is_at has_writes) m newer one writes;
        now = or_right (is_of n w) (list_any (is_of n) newer) (one_any m newer one);
        one = inr (other, one_mapped m newer one);
      }))
  joins_or true m w newer first other one false e = inr (inr (
    ne_eqb w.batch.mark n other,
    or_from (is_of n w) false (ne_eqb w.batch.mark n other) refl,
    inr (other, one),
  ))
  joins_or false m w newer first other one share e = inr (inr (
    ne_eqb w.batch.mark n other,
    or_from (is_of n w) false (ne_eqb w.batch.mark n other) refl,
    inr (other, one),
  ))

  one_moved : (shares : Bool) (m : ℕ) (batches : List WriteOut) → HasOne m batches
      → Goes m (moving shares batches) (stepping shares batches) (moved shares batches)
  one_moved shares m [] one = absurd one
  one_moved shares m (w ∷ newer) one =
      by (gives_way shares w newer) refl one (λ rest. one_moved shares m newer rest)
    where
      by : (b : Bool) → gives_way shares w newer ≡ b → HasOne m (w ∷ newer)
          → (HasOne m newer → Goes m (moving shares newer) (stepping shares newer) (moved shares newer))
          → Goes m (cond b (moving shares newer) (Some w))
          (cond b (stepping shares newer) (w ∷ cond shares (cond (is_at may_share w) newer []) []))
          (cond b (w ∷ moved shares newer) (advanced_of w ∷ joined shares w newer))
      by true e (inl one) later = inr (inr (
        none_moving n shares newer one.1,
        none_next n shares newer one.1,
        inl (one.0, none_moved n shares newer one.1),
      ))
      by true e (inr one) later = elim (later one.1) [
        | inl this ↦ inl (this.0, this.1, inr (one.0, this.2))
        | inr (inl j) ↦ inr (inl (record {
          w = j.w;
          mover = j.mover;
          other = j.other;
          shares_it = j.shares_it;
          behind = j.behind;
          silent = j.silent;
          now = j.now;
          one = inr (one.0, j.one);
        }))
        | inr (inr other) ↦ inr (inr (other.0, other.1, inr (one.0, other.2)))
      ]
      by false e (inl one) later = inl (
        ap Some one.0,
        or_left (is_of n w) (list_any (is_of n) (cond shares (cond (is_at may_share w) newer []) []))
            (eq-eqb w.batch.mark n (ap (λ (x : WriteOut). x.batch.mark) one.0 ∙ its)),
        inl (ap advanced_of one.0, none_joined n shares w newer one.1),
      )
      by false e (inr one) later = joins_or shares m w newer e one.0 one.1 (is_at may_share w) refl

-- ---- what was asked for so far

-- what the next step answers, where no device call has failed
whole_answer : (outs : WriteOutsValue) → GoesOn (next_answer outs)
    → (outs.broken ≡ false) × (next_answer outs ≡ option_map_or answer_of (outs_moving outs) flushed.Broken)
whole_answer outs goes = elim (cases_Bool outs.broken) [
  | inl broken ↦ absurd (subst GoesOn (cond-true outs.broken flushed.Broken
      (option_map_or answer_of (outs_moving outs) flushed.Broken) broken) goes)
  | inr whole ↦ (
    whole,
    cond-false outs.broken flushed.Broken (option_map_or answer_of (outs_moving outs) flushed.Broken) whole,
  )
]

-- the work of a step that goes on with the write-outs
work_now : (s : State) (act : Act) (reply : Reply) → act ≡ acts.Flush → (answer : Flushed) → reply ≡ reply_to answer
    → GoesOn answer → s.write_outs.broken ≡ false
    → step_work s act reply ≡ option_map_or (work_of s.write_outs.geometry (next_record s))
    (outs_moving s.write_outs) Nothing
work_now s act reply act_is answer reply_is goes whole =
    (λ i. step_work s (act_is i) (reply_is i)) ∙ step_asks s answer goes
    ∙ cond-false s.write_outs.broken Nothing
    (option_map_or (work_of s.write_outs.geometry (next_record s)) (outs_moving s.write_outs) Nothing) whole

module _ (n : ℕ) (batch : Batch) (its : batch.mark ≡ n) (g : GeometryValue) where
  -- how many steps it has
  abbrev all : ℕ
  all = 2 * length batch.homes + descriptor_blocks g.slots + 6

  -- so many of them asked for these works
  abbrev HaveAsked : ℕ → List Work → Type 0
  HaveAsked m works = (length works ≡ m) × (sum_by calls_of works ≡ calls_in_steps g batch m)

  -- these batches have its write-out, and its steps so far asked for these works
  record IsUnder (batches : List WriteOut) (works : List Work) : Type 0 where
    m : ℕ
    one : HasOne n g.slots batch its m batches
    asked_so : m ≤ all → HaveAsked m works

  -- the same, or it is done
  abbrev AreTallied : List WriteOut → List Work → Type 0
  AreTallied batches works = HasNone n batches ⊎ IsUnder batches works

  -- what a step asks for it, where it has this work
  abbrev asked : Bool → List WriteOut → Work → List Work
  asked shares batches work = cond (is_next n shares batches) (listed_work work) []

  asked_nothing : (shares : Bool) (batches : List WriteOut) (works : List Work) (work : Work) → work ≡ Nothing
      → works ++ asked shares batches work ≡ works
  asked_nothing shares batches works work none =
      ap (λ w. works ++ asked shares batches w) none ∙ either (is_next n shares batches)
    where
      either : (b : Bool) → works ++ cond b (listed_work Nothing) [] ≡ works
      either true = append-nil works
      either false = append-nil works

  -- a step of it asks for one work more
  one_more : (shares : Bool) (batches : List WriteOut) (works : List Work) (work : Work) (m : ℕ)
      → is_next n shares batches ≡ true → IsOneWork work (work_of g [] (after_steps n g.slots batch its m))
      → HaveAsked m works → HaveAsked (suc m) (works ++ asked shares batches work)
  one_more shares batches works work m next one so =
      subst (λ more. (length (works ++ more) ≡ suc m) × (sum_by calls_of (works ++ more)
      ≡ calls_in_steps g batch (suc m)))
      (sym (cond-true (is_next n shares batches) (listed_work work) [] next)) (
        omega (arith, length-append works (listed_work work), so.0, one.0),
        omega (arith, sum_by-append calls_of works (listed_work work), so.1, one.1),
      )

  -- its own step
  own_more : (shares : Bool) (batches : List WriteOut) (works : List Work) (h : GeometryValue) (bytes : List ℕ)
      → GoesOn (option_map_or answer_of (moving shares batches) flushed.Broken) → (m : ℕ)
      → moving shares batches ≡ Some (after_steps n g.slots batch its m) → is_next n shares batches ≡ true
      → HaveAsked m works
      → HaveAsked (suc m) (works ++ asked shares batches (option_map_or (work_of h bytes) (moving shares batches)
      Nothing))
  own_more shares batches works h bytes goes m mover next so =
      let own = after_steps n g.slots batch its m in
      let one = one_work own h g bytes
      (subst GoesOn (ap (λ (o : Option WriteOut). option_map_or answer_of o flushed.Broken) mover) goes) in
      one_more shares batches works (option_map_or (work_of h bytes) (moving shares batches) Nothing) m next
      (subst (λ (o : Option WriteOut). IsOneWork (option_map_or (work_of h bytes) o Nothing) (work_of g [] own))
      (sym mover) one) so

  -- one that it shares
  shared_more : (shares : Bool) (batches : List WriteOut) (works : List Work) (h : GeometryValue) (bytes : List ℕ)
      → (m : ℕ) → Joins n g.slots batch its m (moving shares batches) (stepping shares batches) (moved shares batches)
      → m < all → HaveAsked m works
      → HaveAsked (suc m) (works ++ asked shares batches (option_map_or (work_of h bytes) (moving shares batches)
      Nothing))
  shared_more shares batches works h bytes m j few so =
      let own = after_steps n g.slots batch its m in
      let work : option_map_or (work_of h bytes) (moving shares batches) Nothing ≡ Sync =
      ap (λ (o : Option WriteOut). option_map_or (work_of h bytes) o Nothing) j.mover
      ∙ sync_work h bytes j.w j.shares_it in
      let own_is : work_of g [] own ≡ Sync = quiet_work g own j.behind j.silent few in
      one_more shares batches works (option_map_or (work_of h bytes) (moving shares batches) Nothing) m j.now
      (subst (λ x. IsOneWork x (work_of g [] own)) (sym work)
      (subst (λ x. IsOneWork Sync x) (sym own_is) (refl, refl))) so

  -- a step of it, or of others
  advances : (shares : Bool) (batches : List WriteOut) (works : List Work) (h : GeometryValue) (bytes : List ℕ)
      → GoesOn (option_map_or answer_of (moving shares batches) flushed.Broken) → AreTallied batches works
      → AreTallied (moved shares batches)
      (works ++ asked shares batches (option_map_or (work_of h bytes) (moving shares batches) Nothing))
  advances shares batches works h bytes goes (inl none) = inl (none_moved n shares batches none)
  advances shares batches works h bytes goes (inr u) =
      let next : u.m + 1 ≡ suc u.m = omega arith in
      elim (one_moved n g.slots batch its shares u.m batches u.one) [
        | inl this ↦ inr (record {
          m = suc u.m;
          one = subst (λ k. HasOne n g.slots batch its k (moved shares batches)) next this.2;
          asked_so = λ few. own_more shares batches works h bytes goes u.m this.0 this.1
              (u.asked_so (omega (arith, few)));
        })
        | inr (inl j) ↦ inr (record {
          m = suc u.m;
          one = subst (λ k. HasOne n g.slots batch its k (moved shares batches)) next j.one;
          asked_so = λ few. shared_more shares batches works h bytes u.m j (omega (arith, few))
              (u.asked_so (omega (arith, few)));
        })
        | inr (inr other) ↦ inr (record {
          m = u.m;
          one = other.2;
          asked_so = λ few. subst (λ more. HaveAsked u.m (works ++ more))
              (sym (cond-false (is_next n shares batches)
              (listed_work (option_map_or (work_of h bytes) (moving shares batches) Nothing)) [] other.1))
              (subst (HaveAsked u.m) (sym (append-nil works)) (u.asked_so few));
        })
      ]

  -- where the oldest is done after it
  rest_tallied : (batches : List WriteOut) (works : List Work) → AreTallied batches works
      → AreTallied (drop 1 batches) works
  rest_tallied batches works (inl none) = inl (none_rest n batches none)
  rest_tallied [] works (inr u) = absurd u.one
  rest_tallied (w ∷ newer) works (inr u) = by u.one
    where
      by : HasOne n g.slots batch its u.m (w ∷ newer) → AreTallied newer works
      by (inl one) = inl one.1
      by (inr one) = inr (record { m = u.m; one = one.1; asked_so = u.asked_so })

  -- ---- one step

  -- a machine that broke goes on with none
  abbrev IsTallied : WriteOutsValue → List Work → Type 0
  IsTallied outs works = (outs.broken ≡ true) ⊎ AreTallied outs.batches works

  module _ (s : State) (works : List Work) where
    marked : (number : ℕ) (homes : List ℕ) → number ≢ n → IsTallied s.write_outs works
        → IsTallied (with_batch s number homes) works
    marked number [] other st = st
    marked number (home ∷ homes) other st = by s.write_outs.broken st
      where
        by : (b : Bool) → IsTallied s.write_outs works
            → IsTallied (cond b s.write_outs (begun s.write_outs number (home ∷ homes))) works
        by true st = st
        by false (inl broken) = inl broken
        by false (inr (inl none)) = inr (inl (none_push n s.write_outs.batches
            (begun_of s.write_outs.geometry.slots (next_batch s.write_outs number (home ∷ homes))) none other))
        by false (inr (inr u)) = inr (inr (record {
          m = u.m;
          one = one_push n g.slots batch its u.m s.write_outs.batches
              (begun_of s.write_outs.geometry.slots (next_batch s.write_outs number (home ∷ homes))) u.one other;
          asked_so = u.asked_so;
        }))

    -- a step of the write-outs that answers so
    stepped : (a : Flushed) → GoesOn a → option_map_or answer_of (outs_moving s.write_outs) flushed.Broken ≡ a
        → IsTallied s.write_outs works
        → IsTallied (outs_after s.write_outs a) (works ++ asked (shared s.write_outs) s.write_outs.batches
        (option_map_or (work_of s.write_outs.geometry (next_record s)) (outs_moving s.write_outs) Nothing))
    stepped flushed.Device goes e st = absurd goes
    stepped flushed.Broken goes e st = absurd goes
    stepped answer goes e (inl broken) = inl broken
    stepped (flushed.Done mark) goes e (inr tallied) =
        let works' = works ++ asked (shared s.write_outs) s.write_outs.batches
        (option_map_or (work_of s.write_outs.geometry (next_record s)) (outs_moving s.write_outs) Nothing) in
        inr (rest_tallied (moved (shared s.write_outs) s.write_outs.batches) works'
        (advances (shared s.write_outs) s.write_outs.batches works s.write_outs.geometry (next_record s)
        (subst GoesOn (sym e) goes) tallied))
    stepped answer goes e (inr tallied) = inr (advances (shared s.write_outs) s.write_outs.batches works
        s.write_outs.geometry (next_record s) (subst GoesOn (sym e) goes) tallied)

  module _ (s : State) (disk : List ℕ) (p : ℕ) (act : Act) (reply : Reply) (new : State) (disk' : List ℕ)
      (sound : IsSound s) where
    -- marks are counted on
    more_marks : Performed s disk p act reply new disk' → n ≤ s.marks → n ≤ new.marks
    more_marks (Moved by) le = omega (arith, le, (moves_leave disk s by.effect new sound by.moves).1)
    more_marks (Marked number act_is reply_is made same_disk) le =
        let same : new.marks ≡ number = ap (λ (x : State). x.marks) made.done in omega (arith, le, same, made.next)
    more_marks (Resized act_is reply_is made same_disk) le =
        let same = ap (λ (x : State). x.marks) made.done in omega (arith, le, same)
    more_marks (Stepped act_is by fine) le =
        let same = ap (λ (x : State). x.marks) by.made.done ∙ either (is_page_next s) in omega (arith, le, same)
      where
        either : (b : Bool) → (cond b (after_record s) s).marks ≡ s.marks
        either true = refl
        either false = refl
    more_marks (Failed act_is reply_is made) le =
        let same = ap (λ (x : State). x.marks) made.done in omega (arith, le, same)

    -- a step that asks for nothing
    idles : (outs : WriteOutsValue) (works : List Work) → new.write_outs ≡ outs → step_work s act reply ≡ Nothing
        → IsTallied outs works → IsTallied new.write_outs (works ++ asked_for n s act reply)
    idles outs works same none st =
        subst (λ o. IsTallied o (works ++ asked_for n s act reply)) (sym same)
        (subst (IsTallied outs) (sym (asked_nothing (shared s.write_outs) s.write_outs.batches works
        (step_work s act reply) none)) st)

    consistent_next : Performed s disk p act reply new disk' → n ≤ s.marks → (works : List Work)
        → IsTallied s.write_outs works
        → IsTallied new.write_outs (works ++ asked_for n s act reply)
    consistent_next (Moved by) le works st =
        idles s.write_outs works (moves_leave disk s by.effect new sound by.moves).0 by.no_work st
    consistent_next (Marked number act_is reply_is made same_disk) le works st =
        idles (with_batch s number (mark_homes s made.pages)) works (ap (λ (x : State). x.write_outs) made.done)
        (λ i. step_work s (act_is i) (reply_is i))
        (marked s works number (mark_homes s made.pages) (λ same. absurd (omega (arith, le, made.next, same))) st)
    consistent_next (Resized act_is reply_is made same_disk) le works st =
        idles s.write_outs works (ap (λ (x : State). x.write_outs) made.done)
        (λ i. step_work s (act_is i) (reply_is i)) st
    consistent_next (Stepped act_is by fine) le works st =
        let goes = step_goes (next_answer s.write_outs) reply by.answered fine in
        let whole = whole_answer s.write_outs goes in
        subst (λ o. IsTallied o (works ++ asked_for n s act reply))
        (sym (ap (λ (x : State). x.write_outs) by.made.done))
        (subst (λ w. IsTallied (outs_after s.write_outs (next_answer s.write_outs)) (works ++ asked
        (shared s.write_outs) s.write_outs.batches
        w)) (sym (work_now s act reply act_is (next_answer s.write_outs) by.answered goes whole.0))
        (stepped s works (next_answer s.write_outs) goes (sym whole.1) st))
    consistent_next (Failed act_is reply_is made) le works st = inl (ap (λ (x : State). x.write_outs.broken) made.done)

  -- ---- runs, with one step more

  module _ {D : Type 0} (disk : Ghosts D) (last new : Whole D) (step : Step) (reply : Reply)
      (here : StepTaken disk last step reply new) where
    -- what a run asks for from these works on
    record Asks (old : Whole D) (steps : List Step) (answers : List Reply) (before : List Work) : Type 0 where
      works : List Work
      asks : AskFor disk n old (steps ++ step ∷ []) (answers ++ reply ∷ []) new
          (works ++ asked_for n last.state step.act reply)
      tallied : IsTallied last.state.write_outs (before ++ works)

    run : (steps : List Step) (answers : List Reply) (old : Whole D) (before : List Work) → IsSound old.state
        → n ≤ old.state.marks → StepsTaken disk old steps answers last
        → IsTallied old.state.write_outs before → Asks old steps answers before
    run [] [] old before sound le taken st = subst (λ (x : Whole D). Asks x [] [] before) taken (record {
      works = [];
      asks = (new, [], here, (refl, refl), sym (append-nil (asked_for n last.state step.act reply)));
      tallied = subst (λ (x : Whole D). IsTallied x.state.write_outs (before ++ [])) (sym taken)
          (subst (IsTallied old.state.write_outs) (sym (append-nil before)) st);
    })
    run (first ∷ steps) (answer ∷ answers) old before sound le (mid, taken, rest) st =
        let by = performed old.state taken.answered.0 first answer mid.state taken.answered.1 sound taken.answered.2 in
        let sound' = performed_sound sound by in
        let its = asked_for n old.state first.act answer in
        let le' =
        more_marks old.state taken.answered.0 first.p first.act answer mid.state taken.answered.1 sound by le in
        let st' = consistent_next old.state taken.answered.0 first.p first.act answer mid.state taken.answered.1
        sound by le before st in
        let later = run steps answers mid (before ++ its) sound' le' rest st' in
        record {
          works = its ++ later.works;
          asks = (
            mid,
            later.works ++ asked_for n last.state step.act reply,
            taken,
            later.asks,
            append_assoc its later.works (asked_for n last.state step.act reply),
          );
          tallied = subst (IsTallied last.state.write_outs) (append_assoc before its later.works) later.tallied;
        }
    run steps answers old before sound le taken st = absurd taken

    -- a last step that answers so, with the mark, is of its write-out
    module _ (answer : Flushed) (goes : GoesOn answer)
        (tallied : (w : WriteOut) → answer_of w ≡ answer → w.batch.mark ≡ n) (works : List Work) where
      abbrev all_works : List Work
      all_works = works ++ asked_for n last.state step.act reply

      abbrev HasEnded : Type 0
      HasEnded = (m : ℕ) × (answer_of (after_steps n g.slots batch its m) ≡ answer) × (length all_works ≡ suc m)
          × (sum_by calls_of all_works ≡ calls_in_steps g batch (suc m))

      is_of_answer : (o : Option WriteOut) → option_map_or answer_of o flushed.Broken ≡ answer
          → option_map_or (is_of n) o false ≡ true
      is_of_answer None e = absurd (subst GoesOn (sym e) goes)
      is_of_answer (Some w) e = eq-eqb w.batch.mark n (tallied w e)

      ends : ((m : ℕ) → answer_of (after_steps n g.slots batch its m) ≡ answer → suc m ≤ all)
          → step.act ≡ acts.Flush → reply ≡ reply_to (next_answer last.state.write_outs)
          → next_answer last.state.write_outs ≡ answer → IsTallied last.state.write_outs works → HasEnded
      ends few act_is reply_is is st =
          let outs = last.state.write_outs in
          let whole = whole_answer outs (subst GoesOn (sym is) goes) in
          let e = sym whole.1 ∙ is in
          let next = is_of_answer (outs_moving outs) e in
          let now = work_now last.state step.act reply act_is (next_answer outs) reply_is
          (subst GoesOn (sym is) goes) whole.0 in
          elim st [
            | inl broken ↦ absurd (both_ways outs.broken whole.0 broken)
            | inr (inl none) ↦ absurd (both_ways (option_map_or (is_of n) (outs_moving outs) false)
                (none_moving n (shared outs) outs.batches none) next)
            | inr (inr u) ↦ elim (one_moved n g.slots batch its (shared outs) u.m outs.batches u.one) [
              | inr (inr other) ↦ absurd (both_ways (option_map_or (is_of n) (outs_moving outs) false) other.0 next)
              | inr (inl j) ↦ absurd (j.other (tallied j.w
                  (ap (λ (o : Option WriteOut). option_map_or answer_of o flushed.Broken) (sym j.mover) ∙ e)))
              | inl this ↦
                  let own = ap (λ (o : Option WriteOut). option_map_or answer_of o flushed.Broken) (sym this.0) ∙ e in
                  let bound = few u.m own in
                  let more = own_more (shared outs) outs.batches works outs.geometry (next_record last.state)
                  (subst GoesOn (sym e) goes) u.m this.0 this.1 (u.asked_so (omega (arith, bound))) in (
                    u.m,
                    own,
                    subst (λ w. length (works ++ asked (shared outs) outs.batches w) ≡ suc u.m) (sym now) more.0,
                    subst (λ w. sum_by calls_of (works ++ asked (shared outs) outs.batches w)
                        ≡ calls_in_steps g batch (suc u.m)) (sym now) more.1,
                  )
            ]
          ]

-- ---- only a step of the write-outs answers so

module _ (s : State) (disk : List ℕ) (p : ℕ) (new : State) (disk' : List ℕ) (number : ℕ) where
  abbrev IsStep : Act → Flushed → Type 0
  IsStep act answer = Acts s disk p act (reply_to answer) new disk'
      → (act ≡ acts.Flush) × (next_answer s.write_outs ≡ answer)

  steps_alone : (act : Act) → IsStep act (flushed.Committed number) × IsStep act (flushed.Done number)
  steps_alone acts.Flush = (λ rule. (refl, rule.answered), λ rule. (refl, rule.answered))
  steps_alone act = (λ rule. absurd rule.0.1, λ rule. absurd rule.0.1)

-- ---- from the mark on

module _ {D : Type 0} (disk : Ghosts D) (files : List File) (start old marked last new : Whole D)
    (earlier steps : List Step) (observed answers : List Reply) (p number : ℕ)
    (mark : MarkMade old.state p number marked.state) (step : Step)
    (on : IsReached disk files start earlier observed old) (taken : StepsTaken disk marked steps answers last) where
  abbrev s : State
  s = old.state

  abbrev its_batch : Batch
  its_batch = next_batch s.write_outs number (mark_homes s mark.pages)

  abbrev g : GeometryValue
  g = s.write_outs.geometry

  sound : IsSound s
  sound = (follows disk files start earlier observed old on).refines.sound

  none_before : HasNone number s.write_outs.batches
  none_before = recursion_from_All (λ (w : WriteOut). w.batch.mark ≢ number) s.write_outs.batches
      (All-weaker (λ (w : WriteOut). (0 < w.batch.mark) × (w.batch.mark ≤ s.marks))
      (λ (w : WriteOut). w.batch.mark ≢ number)
      (λ w is same. absurd (omega (arith, is.1, same, mark.next))) s.write_outs.batches sound.write_outs.marked)

  begins : (homes : List ℕ)
      → IsTallied number (next_batch s.write_outs number homes) refl g (with_batch s number homes) []
  begins [] = inr (inl none_before)
  begins (home ∷ others) = elim s.write_outs.broken as (λ b. s.write_outs.broken ≡ b
      → IsTallied number batch refl g (cond b s.write_outs (begun s.write_outs number homes)) []) [
        | true ↦ λ broken. inl broken
        | false ↦ λ whole. inr (inr (record {
          m = 0;
          one = one_begun number g.slots batch refl s.write_outs.batches none_before;
          asked_so = λ few. (refl, refl);
        }))
      ] refl
    where
      homes : List ℕ
      homes = home ∷ others

      batch : Batch
      batch = next_batch s.write_outs number homes

  -- what was asked for in so many steps, as many calls as these make
  abbrev HasAsked : Reply → ℕ → Type 0
  HasAsked reply count = (works : List Work) × AskFor disk number marked (steps ++ step ∷ []) (answers ++ reply ∷ [])
      new works × (length works ≡ count) × (sum_by calls_of works ≡ calls_in_steps g its_batch count)

  -- a step that answers so is the write-out's step of this number
  counted : (answer : Flushed) (count : ℕ) → GoesOn answer
      → ((w : WriteOut) → answer_of w ≡ answer → w.batch.mark ≡ number)
      → ((m : ℕ) → answer_of (after_steps number g.slots its_batch refl m) ≡ answer → suc m ≡ count)
      → count ≤ all number its_batch refl g
      → ((d d' : List ℕ) → IsStep last.state d step.p new.state d' number step.act answer)
      → StepTaken disk last step (reply_to answer) new → HasAsked (reply_to answer) count
  counted answer count goes tallied at few is_step here =
      let reply = reply_to answer in
      let marks : marked.state.marks ≡ number = ap (λ (x : State). x.marks) mark.done in
      let st = subst (λ o. IsTallied number its_batch refl g o []) (sym (ap (λ (x : State). x.write_outs) mark.done))
      (begins (mark_homes s mark.pages)) in
      let asked = run number its_batch refl g disk last new step reply here steps answers marked []
      (marked_sound s p number marked.state mark sound) (omega (arith, marks)) taken st in
      let flush = is_step here.answered.0 here.answered.1 here.answered.2 in
      let end = ends number its_batch refl g disk last new step reply here answer goes tallied asked.works
      (λ m is. let same = at m is in omega (arith, few, same)) flush.0 (ap reply_to (sym flush.1)) flush.1
      asked.tallied in
      let same = at end.0 end.1 in (
        asked.works ++ asked_for number last.state step.act reply,
        asked.asks,
        end.2 ∙ same,
        end.3 ∙ ap (calls_in_steps g its_batch) same,
      )

  slots_are : descriptor_blocks s.write_outs.geometry.slots ≡ descriptor_blocks s.table.slots
  slots_are = ap (λ (x : GeometryValue). descriptor_blocks x.slots) sound.write_outs.geometry

  pub committed_count : StepTaken disk last step (replies.Committed number) new
      → (works : List Work)
      × AskFor disk number marked (steps ++ step ∷ []) (answers ++ replies.Committed number ∷ []) new works
      × (length works ≡ length (mark_homes s mark.pages) + descriptor_blocks s.table.slots + 3)
      × (sum_by calls_of works ≡ length (mark_homes s mark.pages) + descriptor_blocks s.table.slots + 3)
  committed_count here =
      let answer = flushed.Committed number in
      let count = length its_batch.homes + descriptor_blocks g.slots + 3 in
      let found = counted answer count tt (λ w e. (answered_at w g answer e).0)
      (λ m e. let at = (answered_at (after_steps number g.slots its_batch refl m) g answer e).1 in omega (arith, at))
      (omega arith)
      (λ d d'. (steps_alone last.state d step.p new.state d' number step.act).0) here in
      let steps_are : count ≡ length (mark_homes s mark.pages) + descriptor_blocks s.table.slots + 3 =
      omega (arith, slots_are) in
      (found.0, found.1, found.2 ∙ steps_are, found.3 ∙ early_calls g its_batch count (omega arith) ∙ steps_are)

  pub done_count : StepTaken disk last step (replies.Done number) new
      → (works : List Work)
      × AskFor disk number marked (steps ++ step ∷ []) (answers ++ replies.Done number ∷ []) new works
      × (length works ≡ 2 * length (mark_homes s mark.pages) + descriptor_blocks s.table.slots + 6)
      × (sum_by calls_of works ≡ 3 * length (mark_homes s mark.pages) + descriptor_blocks s.table.slots + 6)
  done_count here =
      let answer = flushed.Done number in
      let count = 2 * length its_batch.homes + descriptor_blocks g.slots + 6 in
      let found = counted answer count tt (λ w e. (answered_at w g answer e).0)
      (λ m e. let at = (answered_at (after_steps number g.slots its_batch refl m) g answer e).1 in omega (arith, at))
      (omega arith)
      (λ d d'. (steps_alone last.state d step.p new.state d' number step.act).1) here in
      let steps_are : count ≡ 2 * length (mark_homes s mark.pages) + descriptor_blocks s.table.slots + 6 =
      omega (arith, slots_are) in
      let calls_are : 3 * length its_batch.homes + descriptor_blocks g.slots + 6
      ≡ 3 * length (mark_homes s mark.pages) + descriptor_blocks s.table.slots + 6 = omega (arith, slots_are) in
      (found.0, found.1, found.2 ∙ steps_are, found.3 ∙ all_calls g its_batch ∙ calls_are)
