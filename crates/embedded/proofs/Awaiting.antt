-- Until a commit is written out, its write-out is the newest one and isn't committed.
use Rattle.std.proofs.Common.{◌≡◌, ◌≢◌, ℕ, ◌+◌, ◌<◌, Bool, true, false, not, if◌then◌else◌}
use Rattle.std.proofs.Common.{List, [], ◌∷◌, ◌++◌, length, drop, map, Option, Some, None, refl, sym, ◌∙◌}
use Rattle.std.proofs.Common.{ap, subst, arith}
use Rattle.std.specs.List.{list_any}
use Rattle.std.specs.Option.{option_map_or}
use Rattle.std.proofs.lemmas.Bool.{false≢true, or_parts}
use Rattle.std.specs.Prelude.{◌||◌, ◌&&◌, ◌==◌}
use Rattle.volume_codec.specs.declared.layout.Layout.{Layout}
use Rattle.volume_codec.specs.declared.layout.Layout.TheVariants.{One, Two, Three, Four}
use Rattle.volume_codec.specs.Layout.{journals_of}
use Rattle.deferred_disk.specs.Deferred.{Deferred}
use Rattle.journal.specs.declared.flushed.Flushed.{Flushed}
use Rattle.journal.specs.declared.flushed.Flushed.TheVariants as flushed
use Rattle.journal.specs.declared.stage.Stage.{Stage}
use Rattle.journal.specs.declared.stage.Stage.TheVariants.{Recording, Describing, SyncingRecords, Opening}
use Rattle.journal.specs.declared.stage.Stage.TheVariants.{Committing, Applying, SyncingHomes, Closing, Finishing}
use Rattle.journal.specs.Stage.{is_committed, is_ahead, has_writes, may_share, answer_at}
use Rattle.journal.specs.WriteOut.{WriteOut, advanced_of, begun_of, next_stage, answer_of, has_committed, broken_after}
use Rattle.journal.specs.WriteOuts.{WriteOutsValue, is_at, gives_way, joined, moving, moved, outs_moving, next_answer}
use Rattle.journal.specs.WriteOuts.{batches_after, shares_syncs, is_busy, next_batch}
use Rattle.journal.proofs.Public.{IsAt, stage_is}
use Rattle.kept_blocks.specs.Blocks.{Blocks, homes_in}
use Rattle.pager.specs.State.{PagerState}
use Rattle.pager.specs.Calls.{after_commit, commit_refusal, committed_with}
use Rattle.pager.proofs.Public.{committed_steps}
use Rattle.embedded.specs.Steps.{MakesStep, Succeeds}
use Rattle.embedded.specs.inside.Awaiting.{EndsAwaiting}
use Rattle.embedded.proofs.Left.{answered}

-- ---- one write-out

few_steps : (w : WriteOut) → w.steps < length w.batch.homes + w.described + 3 → has_committed w ≡ false
few_steps w few = by (has_committed w) refl
  where
    by : (b : Bool) → has_committed w ≡ b → has_committed w ≡ false
    by false is = is
    by true is = absurd (omega (arith, few, committed_steps w is))

-- what answers a step of one that isn't committed: it commits it, or it goes on
pub record Waits (w : WriteOut) : Type 0 where
  pub going : answer_of w ≢ flushed.Committed w.batch.mark
      → (answer_of w ≡ flushed.Going) × (has_committed (advanced_of w) ≡ false)
  pub behind : is_at is_ahead w ≡ false → answer_of w ≢ flushed.Committed w.batch.mark

waits : (w : WriteOut) → has_committed w ≡ false → Waits w
waits w early = by (next_stage w) refl (stage_is (length w.batch.homes) w.described w.steps) early
  where
    ends : (o : Option Stage) → next_stage w ≡ o
        → option_map_or (answer_at w.batch.mark) o flushed.Broken ≡ flushed.Going
        → w.steps + 1 < length w.batch.homes + w.described + 3 → Waits w
    ends o is goes few =
        let answer : answer_of w ≡ flushed.Going =
        ap (λ (s : Option Stage). option_map_or (answer_at w.batch.mark) s flushed.Broken) is ∙ goes in
        record {
          going = λ other. (answer, few_steps (advanced_of w) few);
          behind = λ _ committed. cc;
        }

    by : (o : Option Stage) → next_stage w ≡ o → IsAt (length w.batch.homes) w.described w.steps o
        → option_map_or is_committed o true ≡ false → Waits w
    by None is at e = absurd (cc)
    by (Some (Recording i)) is at e = ends (Some (Recording i)) is refl (omega (arith, at.0, at.1))
    by (Some (Describing i)) is at e = ends (Some (Describing i)) is refl (omega (arith, at.0, at.1))
    by (Some SyncingRecords) is at e = ends (Some SyncingRecords) is refl (omega (arith, at))
    by (Some Opening) is at e = ends (Some Opening) is refl (omega (arith, at))
    by (Some Committing) is at e = record {
      going = λ other. absurd (other
          (ap (λ (s : Option Stage). option_map_or (answer_at w.batch.mark) s flushed.Broken) is));
      behind = λ ahead.
          absurd (false≢true (sym ahead ∙ ap (λ (s : Option Stage). option_map_or is_ahead s false) is));
    }
    by (Some (Applying i)) is at e = absurd (cc)
    by (Some SyncingHomes) is at e = absurd (cc)
    by (Some Closing) is at e = absurd (cc)
    by (Some Finishing) is at e = absurd (cc)

-- ---- all of them

pub added_awaiting : (mark : ℕ) (w : WriteOut) → w.batch.mark ≡ mark → has_committed w ≡ false
    → (batches : List WriteOut) → EndsAwaiting mark (batches ++ w ∷ [])
added_awaiting mark w is early [] = (is, early)
added_awaiting mark w is early (x ∷ []) = (is, early)
added_awaiting mark w is early (x ∷ y ∷ newer) = added_awaiting mark w is early (y ∷ newer)

one_more : (mark : ℕ) (x : WriteOut) (batches : List WriteOut) → EndsAwaiting mark batches
    → EndsAwaiting mark (x ∷ batches)
one_more mark x [] ends = absurd ends
one_more mark x (y ∷ newer) ends = ends

-- a sync that they share commits none
advanced_awaiting : (mark : ℕ) (batches : List WriteOut) → EndsAwaiting mark batches
    → list_any (is_at is_ahead) batches ≡ false → EndsAwaiting mark (map advanced_of batches)
advanced_awaiting mark [] ends none = absurd ends
advanced_awaiting mark (w ∷ []) ends none =
    let it = waits w ends.1 in
    (ends.0, (it.going (it.behind (or_parts (is_at is_ahead w) false none).0)).1)
advanced_awaiting mark (x ∷ y ∷ newer) ends none =
    advanced_awaiting mark (y ∷ newer) ends (or_parts (is_at is_ahead x) (list_any (is_at is_ahead) (y ∷ newer)) none).1

joined_awaiting : (mark : ℕ) (shares : Bool) (x y : WriteOut) (newer : List WriteOut)
    → EndsAwaiting mark (y ∷ newer) → gives_way shares x (y ∷ newer) ≡ false
    → EndsAwaiting mark (joined shares x (y ∷ newer))
joined_awaiting mark false x y newer ends stays = ends
joined_awaiting mark true x y newer ends stays = by (is_at may_share x)
  where
    by : (b : Bool) → EndsAwaiting mark (if b then map advanced_of (y ∷ newer) else y ∷ newer)
    by true = advanced_awaiting mark (y ∷ newer) ends (or_parts (list_any (is_at is_ahead) (y ∷ newer))
        (not (is_at has_writes x) && list_any (is_at has_writes) (y ∷ newer)) stays).0
    by false = ends

-- where they end so, they do after a step, and after one more of which the oldest is done
abbrev StillAwaiting : ℕ → Bool → List WriteOut → Flushed → Type 0
StillAwaiting mark shares batches answer =
    EndsAwaiting mark (moved shares batches)
    × ((done : ℕ) → answer ≡ flushed.Done done → EndsAwaiting mark (drop 1 (moved shares batches)))

alone : (shares : Bool) (w : WriteOut) → (gives_way shares w [] ≡ false) × (joined shares w [] ≡ [])
alone false w = (refl, refl)
alone true w = (by (is_at has_writes w), with (is_at may_share w))
  where
    by : (b : Bool) → (false || (not b && false)) ≡ false
    by true = refl
    by false = refl

    with : (b : Bool) → (if b then map advanced_of [] else []) ≡ []
    with true = refl
    with false = refl

moved_awaiting : (mark : ℕ) (shares : Bool) (batches : List WriteOut) (answer : Flushed) → EndsAwaiting mark batches
    → option_map_or answer_of (moving shares batches) flushed.Broken ≡ answer → answer ≢ flushed.Committed mark
    → StillAwaiting mark shares batches answer
moved_awaiting mark shares [] answer ends is other = absurd ends
moved_awaiting mark shares (w ∷ []) answer ends is other = by (gives_way shares w []) (alone shares w).0 is
  where
    by : (b : Bool) → b ≡ false
        → option_map_or answer_of (if b then None else Some w) flushed.Broken ≡ answer
        → EndsAwaiting mark (if b then w ∷ [] else advanced_of w ∷ joined shares w [])
        × ((done : ℕ) → answer ≡ flushed.Done done
        → EndsAwaiting mark (drop 1 (if b then w ∷ [] else advanced_of w ∷ joined shares w [])))
    by true unlike e = absurd (false≢true (sym unlike))
    by false _ e =
        let goes = (waits w ends.1).going (λ c. other (sym e ∙ c ∙ ap flushed.Committed ends.0)) in (
          subst (λ (l : List WriteOut). EndsAwaiting mark (advanced_of w ∷ l)) (sym (alone shares w).1)
              (ends.0, goes.1),
          λ done finished. absurd (never done (sym goes.0 ∙ e ∙ finished)),
        )
      where
        never : (done : ℕ) → flushed.Going ≡ flushed.Done done → ⊥
        never done same = cc
moved_awaiting mark shares (x ∷ y ∷ newer) answer ends is other =
    by (gives_way shares x (y ∷ newer)) refl is (moved_awaiting mark shares (y ∷ newer) answer ends)
  where
    by : (b : Bool) → gives_way shares x (y ∷ newer) ≡ b
        → option_map_or answer_of (if b then moving shares (y ∷ newer) else Some x) flushed.Broken ≡ answer
        → (option_map_or answer_of (moving shares (y ∷ newer)) flushed.Broken ≡ answer
        → answer ≢ flushed.Committed mark → StillAwaiting mark shares (y ∷ newer) answer)
        → EndsAwaiting mark
        (if b then x ∷ moved shares (y ∷ newer) else advanced_of x ∷ joined shares x (y ∷ newer))
        × ((done : ℕ) → answer ≡ flushed.Done done → EndsAwaiting mark
        (drop 1 (if b then x ∷ moved shares (y ∷ newer) else advanced_of x ∷ joined shares x (y ∷ newer))))
    by true stays e rest =
        let still = (rest e other).0 in (one_more mark x (moved shares (y ∷ newer)) still, λ done finished. still)
    by false stays e rest =
        let still = joined_awaiting mark shares x y newer ends stays in
        (one_more mark (advanced_of x) (joined shares x (y ∷ newer)) still, λ done finished. still)

-- ---- a step

-- a step that succeeds is that of write-outs none of whose calls failed
pub step_whole : (s new : PagerState Deferred) (answer : Flushed) → Succeeds answer → MakesStep s answer new
    → new.write_outs.broken ≡ false
step_whole s new answer succeeds step =
    ap (λ (t : PagerState Deferred). t.write_outs.broken) step.value ∙ by answer succeeds ∙ step.whole
  where
    by : (a : Flushed) → Succeeds a → broken_after a s.write_outs.broken ≡ s.write_outs.broken
    by flushed.Going succeeds = refl
    by (flushed.Committed mark) succeeds = refl
    by (flushed.Done mark) succeeds = refl
    by flushed.Device succeeds = absurd succeeds
    by flushed.Broken succeeds = absurd succeeds

moving_answers : (outs : WriteOutsValue) (answer : Flushed) → outs.broken ≡ false → next_answer outs ≡ answer
    → option_map_or answer_of (outs_moving outs) flushed.Broken ≡ answer
moving_answers outs answer whole is = by outs.broken whole is
  where
    by : (b : Bool) → b ≡ false
        → (if b then flushed.Broken else option_map_or answer_of (outs_moving outs) flushed.Broken) ≡ answer
        → option_map_or answer_of (outs_moving outs) flushed.Broken ≡ answer
    by true unlike e = absurd (false≢true (sym unlike))
    by false _ e = e

pub step_awaiting : (mark : ℕ) (s new : PagerState Deferred) (answer : Flushed) → Succeeds answer
    → answer ≢ flushed.Committed mark → MakesStep s answer new → EndsAwaiting mark s.write_outs.batches
    → EndsAwaiting mark new.write_outs.batches
step_awaiting mark s new answer succeeds other step ends =
    subst (λ (t : PagerState Deferred). EndsAwaiting mark t.write_outs.batches) (sym step.value)
    (by answer succeeds (moved_awaiting mark shares s.write_outs.batches answer ends
    (moving_answers s.write_outs answer step.whole (answered s answer succeeds step.answered)) other))
  where
    shares : Bool
    shares = shares_syncs s.write_outs.geometry.layout

    by : (a : Flushed) → Succeeds a → StillAwaiting mark shares s.write_outs.batches a
        → EndsAwaiting mark (batches_after shares a s.write_outs.batches)
    by flushed.Going succeeds still = still.0
    by (flushed.Committed m) succeeds still = still.0
    by (flushed.Done m) succeeds still = still.1 m refl
    by flushed.Device succeeds still = absurd succeeds
    by flushed.Broken succeeds still = absurd succeeds

-- ---- a beginning

-- a commit of some blocks that began
pub begun_awaiting : (s : PagerState Deferred) → s.staged ≢ []
    → EndsAwaiting (s.marks + 1) (after_commit s).write_outs.batches
begun_awaiting s some = by s.staged some
  where
    by : (blocks : Blocks) → blocks ≢ [] → EndsAwaiting (s.marks + 1) (committed_with s blocks).write_outs.batches
    by [] some = absurd (some refl)
    by (block ∷ blocks) some =
        let w : WriteOut = begun_of s.write_outs.geometry.slots
        (next_batch s.write_outs (s.marks + 1) (homes_in (block ∷ blocks))) in
        added_awaiting (s.marks + 1) w refl (few_steps w (omega arith)) s.write_outs.batches

pub begun_whole : (s : PagerState Deferred) → commit_refusal s ≡ None → (after_commit s).write_outs.broken ≡ false
begun_whole s allowed = same s.staged ∙ by s.write_outs.broken allowed
  where
    same : (blocks : Blocks) → (committed_with s blocks).write_outs.broken ≡ s.write_outs.broken
    same [] = refl
    same (block ∷ blocks) = refl

    by : (b : Bool) → commit_refusal (record s { write_outs = record s.write_outs { broken = b } }) ≡ None → b ≡ false
    by true e = absurd (cc)
    by false e = refl

-- where write-outs are busy there are some
pub busy_some : (s : PagerState Deferred) → is_busy s.write_outs ≡ true → s.write_outs.batches ≢ []
busy_some s busy none = absurd (false≢true (sym (idle s.write_outs none) ∙ busy))
  where
    idle : (outs : WriteOutsValue) → outs.batches ≡ [] → is_busy outs ≡ false
    idle outs e = ap (λ (l : List WriteOut). is_busy (record outs { batches = l })) e ∙ none_of outs.geometry.layout
      where
        none_of : (layout : Layout) → (0 == journals_of layout) ≡ false
        none_of One = refl
        none_of Two = refl
        none_of Three = refl
        none_of Four = refl
