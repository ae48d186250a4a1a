-- Which files are found at a mark that is acknowledged, and which after a crash.
use Rattle.std.proofs.Common.{◌≡◌, ◌⊎◌, inl, inr, ℕ, zero, suc, ◌+◌, ◌-◌, ◌<◌, ◌≤◌, false, if◌then◌else◌}
use Rattle.std.proofs.Common.{List, [], ◌∷◌, ◌++◌, length, take, map, Some, Result, Ok, Err, IfOk, refl}
use Rattle.std.proofs.Common.{sym, ◌∙◌, ap, subst, arith, append_assoc, append-nil, length-append}
use Rattle.std.specs.Prelude.{slice_get, slice_index_or, Contains}
use Rattle.std.proofs.lemmas.Result.{IfOk-weaker}
use Rattle.std.proofs.lemmas.Bool.{cases_order}
use Rattle.std.proofs.lemmas.List.{take-take, take-append-le, length-take-le, length-map, length-replicate}
use Rattle.std.proofs.lemmas.Option.{slice_get_within}
use Rattle.std.proofs.lemmas.List.Elements.{Contains-append_left, Contains-append_right, Contains-push}
use Rattle.device.specs.declared.device.Device.{Ghosts}
use Rattle.volume_codec.specs.Files.{File}
use Rattle.volume_codec.specs.Recovery.{RecoversTo}
use Rattle.machine.specs.declared.act.Reply.{Reply}
use Rattle.machine.specs.declared.act.Reply.TheVariants as replies
use Rattle.machine.specs.declared.act.Shape.{Shape}
use Rattle.machine.specs.declared.act.Step.{Step}
use Rattle.machine.specs.Crashes.{Begins}
use Rattle.history.specs.History.{Event, Mark, Acknowledge, has_unmarked, files_after, IsMarked}
use Rattle.machine.specs.Laws.{observed_at_start}
use Rattle.history.specs.Reading.{ReadsBack}
use Rattle.machine.specs.Reached.{IsReached}
use Rattle.machine.specs.Runs.{StepsTaken}
use Rattle.machine.specs.State.{Whole}
use Rattle.machine.specs.Steps.{observed_first}
use Rattle.machine.specs.Observed.{Observed, observe, observe_all, events_of}
use Rattle.machine.proofs.Public.{taken_then}
use Rattle.engine.specs.Engine.{HasStarted}
use Rattle.engine.proofs.Public.{begins, taken_kept}
use Rattle.crash_table.specs.Marks.{up_to_mark, bytes_at}
use Rattle.crash_table.specs.inside.Kept.{unmarked_after, flush_by, HasCommitted, IsAcknowledged}
use Rattle.crash_table.proofs.Histories.{mark_at, up_to_begins, events_of_mark}
use Rattle.crash_table.proofs.Making.{none_marked}
use Rattle.crash_table.proofs.Histories.{events_of_commit, observe_then, unmarked_observed, nothing_in}

-- ---- results

pub if_ok_always : {X E P : Type 0} (result : Result X E) → P → IfOk result (λ x. P)
if_ok_always (Ok x) p = p
if_ok_always (Err e) p = tt

-- ---- events up to a mark

abbrev up_to : Observed → List Step → List Reply → ℕ → ℕ → List Event
up_to observed steps answers at n = (observe_all observed (take at steps) (take at answers)).history ++ Mark n ∷ []

-- those up to an earlier mark begin those up to a later one
pub no_later : (observed : Observed) (steps : List Step) (answers : List Reply) (early m late n : ℕ) → early ≤ late
    → late < length steps → slice_get answers early ≡ Some (replies.Marked m)
    → slice_get answers late ≡ Some (replies.Marked n)
    → (rest : List Event) × (up_to observed steps answers early m ++ rest ≡ up_to observed steps answers late n)
no_later observed steps answers early m late n order below here there =
    elim (cases_order early late) [
      | inl same ↦ (
          let both : m ≡ n = (let at_late : slice_get answers late
          ≡ Some (replies.Marked m) = ap (slice_get answers) (sym same) ∙ here in cc) in (
            [],
            append-nil (up_to observed steps answers early m) ∙ ap (λ i. up_to observed steps answers i m) same
                ∙ ap (λ k. up_to observed steps answers late k) both,
          ))
      | inr other ↦ elim other [
        | inl less ↦ (
            let cut : length (take late steps) ≡ late = length-take-le late steps (omega (arith, below)) in
            let found = up_to_begins observed (take late steps) (take late answers) early m (omega (arith, less, cut))
            (slice_get_take answers early late less ∙ here) in (
              found.0 ++ Mark n ∷ [],
              sym (append_assoc (up_to observed steps answers early m) found.0 (Mark n ∷ []))
                  ∙ ap (λ (l : List Event). l ++ Mark n ∷ []) (ap
                  (λ (l : List Step). ((observe_all observed l (take early answers)).history ++ Mark m ∷ []) ++ found.0)
                  (sym (take-take early late steps (omega (arith, less))))
                  ∙ ap (λ (l : List Reply).
                  ((observe_all observed (take early (take late steps)) l).history ++ Mark m ∷ [])
                  ++ found.0) (sym (take-take early late answers (omega (arith, less))))
                  ∙ found.1),
            ))
        | inr more ↦ absurd (omega (arith, order, more))
      ]
    ]
  where
    slice_get_take : {X : Type 0} (xs : List X) (i n : ℕ) → i < n → slice_get (take n xs) i ≡ slice_get xs i
    slice_get_take [] i (suc n) less = refl
    slice_get_take (x ∷ xs) zero (suc n) less = refl
    slice_get_take (x ∷ xs) (suc i) (suc n) less = slice_get_take xs i n (omega (arith, less))
    slice_get_take xs i zero less = absurd (omega (arith, less))

-- a durable prefix is empty, or stands at the mark of a step
pub record EndsAtMark (observed : Observed) (steps : List Step) (answers : List Reply)
    (prefix : List Event) : Type 0 where
  pub at : ℕ
  pub n : ℕ
  pub here : slice_get answers at ≡ Some (replies.Marked n)
  pub is : prefix ≡ up_to observed steps answers at n

pub ends_at_mark : (observed : Observed) (steps : List Step) (answers : List Reply) (prefix rest : List Event)
    → observed.history ≡ []
    → prefix ++ rest ≡ (observe_all observed steps answers).history → IsMarked prefix
    → (prefix ≡ []) ⊎ EndsAtMark observed steps answers prefix
ends_at_mark observed steps answers prefix rest none whole (inl empty) = inl empty
ends_at_mark observed steps answers prefix rest none whole (inr (front, n, is)) =
    elim (mark_at observed steps answers front rest n
    (sym (append_assoc front (Mark n ∷ []) rest) ∙ ap (λ l. l ++ rest) (sym is) ∙ whole)) [
      | inl (more, within) ↦ absurd (nothing_in front more (Mark n) (sym none ∙ sym within))
      | inr up ↦ inr (record { at = up.at; n = n; here = up.here; is = is ∙ ap (λ l. l ++ Mark n ∷ []) up.front_is })
    ]

-- ---- what laws of the crates below say

-- bytes recover to one list of files (`volume_codec::one_reading`)
abbrev pub IsOneReading : Type 0
IsOneReading = (bytes : List ℕ) (files others : List File) → RecoversTo bytes files
    → RecoversTo bytes others → files ≡ others

-- what a crash may leave of a machine that a run reached reads back by its history (`Machine::keeps_the_laws`)
abbrev pub ReadsBackLater : {D : Type 0} → Ghosts D → Whole D → Type 0
ReadsBackLater {D} disk now = (files : List File) (start : Whole D) (steps : List Step) (replies : List Reply)
    (c : List ℕ) → IsReached disk files start steps replies now → disk.may_leave now.device c
    → ReadsBack files (observe_all (observed_first files start.state) steps replies).history c

-- ---- a machine that was started over files

module _ {D : Type 0} (disk : Ghosts D) where
  -- the steps that wrote a mark out
  written_out : (old new : Whole D) (p n : ℕ) (c : HasCommitted disk old p n new)
      → StepsTaken disk old (map (λ (r : Reply). flush_by p) c.going ++ flush_by p ∷ [])
      (c.going ++ replies.Committed n ∷ []) new
  written_out old new p n c =
      taken_then disk old c.mid new (map (λ (r : Reply). flush_by p) c.going) c.going (flush_by p ∷ [])
      (replies.Committed n ∷ []) c.earlier.0 (new, c.last, refl)

  pub observed_is : (before : D) (shape : Shape) (start : Whole D) → HasStarted disk before shape start
      → (files : List File) → observed_first files start.state ≡ observed_at_start files shape.cpus
  observed_is before shape start started files =
      ap (λ (w : Whole D). observed_first files w.state) started.booted
      ∙ ap (observed_at_start files) (length-replicate shape.cpus _)

  pub is_reached : IsOneReading → (before : D) (shape : Shape) (start : Whole D)
      → HasStarted disk before shape start → disk.is_honest before → (files : List File)
      → RecoversTo (disk.seen before) files
      → (steps : List Step) (answers : List Reply) (now : Whole D) → StepsTaken disk start steps answers now
      → IsReached disk files start steps answers now
  is_reached one before shape start started honest files recovered steps answers now taken =
      let found = begins disk before shape start started honest in
      record {
        begins = subst (λ fs. Begins disk fs start) (one (disk.seen before) found.0 files found.1 recovered) found.2;
        taken = taken;
      }

  -- the device stays honest while steps are made and a mark is written out
  pub honest_after : (before : D) (shape : Shape) (start : Whole D)
      → HasStarted disk before shape start → disk.is_honest before
      → (steps : List Step) (answers : List Reply) (marked : Whole D) → StepsTaken disk start steps answers marked
      → (p : ℕ) (earlier : List Reply) (n : ℕ) (now : Whole D) → IsAcknowledged disk marked p earlier n now
      → disk.is_honest now.device
  honest_after before shape start started honest steps answers marked made p earlier n now acknowledged =
      by acknowledged
    where
      first : disk.is_honest marked.device
      first = (taken_kept disk start steps answers marked made).0.1
          (begins disk before shape start started honest).2.honest

      by : IsAcknowledged disk marked p earlier n now → disk.is_honest now.device
      by (inl c) = (taken_kept disk marked (map (λ (r : Reply). flush_by p) c.going ++ flush_by p ∷ [])
          (c.going ++ replies.Committed n ∷ []) now (written_out marked now p n c)).0.1 first
      by (inr (down, stays)) = (let P : Whole D → Type 0 = λ w. disk.is_honest w.device in subst P (sym stays) first)

-- ---- the files at a mark that is acknowledged

split_from : {X : Type 0} (xs : List X) (x : X) (i : ℕ) → i < length xs → slice_index_or xs i x ≡ x
    → (front : List X) × (back : List X) × (xs ≡ front ++ x ∷ back)
split_from [] x i less at = absurd (omega (arith, less))
split_from (y ∷ xs) x zero less at = let same : y ≡ x = at in ([], xs, ap (λ h. h ∷ xs) same)
split_from (y ∷ xs) x (suc i) less at = let later = split_from xs x i (omega (arith, less)) at in
    (y ∷ later.0, later.1, ap (λ l. y ∷ l) later.2)

-- A machine was started, made the steps up to a mark whose number none before it had, and wrote it out until it was
-- acknowledged: what its device recovers to then are the files at the mark.
module _ (one : IsOneReading) (files : List File) (shape : Shape)
    (steps : List Step) (answers : List Reply) (at n : ℕ) (below : at < length steps)
    (here : slice_get answers at ≡ Some (replies.Marked n))
    (is_new : (i : ℕ) → slice_get (take at answers) i ≡ Some (replies.Marked n) → ⊥)
    (flushes : List Step) (more : List Reply)
    (unmarked : (i k : ℕ) → slice_get more i ≡ Some (replies.Marked k) → ⊥) where
  abbrev observed : Observed
  observed = observed_at_start files shape.cpus

  abbrev all_steps : List Step
  all_steps = take (suc at) steps ++ flushes

  abbrev all_answers : List Reply
  all_answers = take (suc at) answers ++ more

  abbrev whole : List Event
  whole = (observe_all observed all_steps all_answers).history

  within : at < length answers
  within = slice_get_within answers at (replies.Marked n) here

  steps_long : length (take (suc at) steps) ≡ suc at
  steps_long = length-take-le (suc at) steps (omega (arith, below))

  answers_long : length (take (suc at) answers) ≡ suc at
  answers_long = length-take-le (suc at) answers (omega (arith, within))

  first_steps : (i : ℕ) → i ≤ at → take i all_steps ≡ take i steps
  first_steps i few = take-append-le i (take (suc at) steps) flushes (omega (arith, few, steps_long))
      ∙ take-take i (suc at) steps (omega (arith, few))

  first_answers : (i : ℕ) → i ≤ at → take i all_answers ≡ take i answers
  first_answers i few = take-append-le i (take (suc at) answers) more (omega (arith, few, answers_long))
      ∙ take-take i (suc at) answers (omega (arith, few))

  same_up_to : (i k : ℕ) → i ≤ at → up_to observed all_steps all_answers i k ≡ up_to observed steps answers i k
  same_up_to i k few =
      ap (λ (l : List Step). (observe_all observed l (take i all_answers)).history ++ Mark k ∷ []) (first_steps i few)
      ∙ ap (λ (l : List Reply). (observe_all observed (take i steps) l).history ++ Mark k ∷ []) (first_answers i few)

  -- no step before made this mark
  mark_is_new : Contains (observe_all observed (take at steps) (take at answers)).history (Mark n) → ⊥
  mark_is_new has =
      let split = split_from (observe_all observed (take at steps) (take at answers)).history
      (Mark n) has.0 has.1 has.2 in
      elim (mark_at observed (take at steps) (take at answers) split.0 split.1 n (sym split.2)) [
        | inl (wider, within) ↦ nothing_in split.0 wider (Mark n) (sym within)
        | inr up ↦ is_new up.at up.here
      ]

  pub at_the_mark : Contains whole (Acknowledge n)
      → (seen : List ℕ) (read : ReadsBack files whole seen) (found : List File) → RecoversTo seen found
      → found ≡ files_after files (up_to_mark files shape steps answers at n)
  at_the_mark acked seen read found recovers =
      one seen found (files_after files read.prefix) recovers read.recovers
      ∙ ap (files_after files) (by (ends_at_mark observed all_steps all_answers read.prefix read.durable.rest refl
      read.durable.begins read.durable.marked))
    where
      has : Contains read.prefix (Mark n)
      has = read.durable.acknowledged n acked

      by : (read.prefix ≡ []) ⊎ EndsAtMark observed all_steps all_answers read.prefix
          → read.prefix ≡ up_to observed steps answers at n
      by (inl empty) =
          absurd (let none : Contains [] (Mark n) = subst (λ l. Contains l (Mark n)) empty has in omega (arith, none.1))
      by (inr s) =
          elim (cases_order s.at at) [
            | inl same ↦ (
                let k_is : s.n ≡ n = (let there : slice_get all_answers at
                ≡ Some (replies.Marked s.n) = ap (slice_get all_answers) (sym same) ∙ s.here in
                let given : slice_get all_answers at ≡ Some (replies.Marked n) = get_left (take (suc at) answers) more
                at (omega (arith, answers_long)) ∙ get_take answers at (suc at) (omega arith) ∙ here in cc) in
                s.is ∙ ap (λ i. up_to observed all_steps all_answers i s.n) same ∙ same_up_to at s.n (omega arith)
                ∙ ap (up_to observed steps answers at) k_is)
            | inr other ↦ elim other [
              | inl less ↦ absurd (earlier less)
              | inr later ↦ absurd (unmarked (s.at - suc at) s.n
                  (get_right (take (suc at) answers) more s.at (suc at) answers_long (omega (arith, later)) ∙ s.here))
            ]
          ]
        where
          get_left : {X : Type 0} (xs ys : List X) (i : ℕ) → i < length xs → slice_get (xs ++ ys) i ≡ slice_get xs i
          get_left [] ys i less = absurd (omega (arith, less))
          get_left (x ∷ xs) ys zero less = refl
          get_left (x ∷ xs) ys (suc i) less = get_left xs ys i (omega (arith, less))

          get_take : {X : Type 0} (xs : List X) (i m : ℕ) → i < m → slice_get (take m xs) i ≡ slice_get xs i
          get_take [] i (suc m) less = refl
          get_take (x ∷ xs) zero (suc m) less = refl
          get_take (x ∷ xs) (suc i) (suc m) less = get_take xs i m (omega (arith, less))
          get_take xs i zero less = absurd (omega (arith, less))

          get_right : {X : Type 0} (xs ys : List X) (i m : ℕ) → length xs ≡ m → m ≤ i
              → slice_get ys (i - m) ≡ slice_get (xs ++ ys) i
          get_right [] ys i m long few = ap (slice_get ys) (let e : i - m ≡ i = omega (arith, long) in e)
          get_right (x ∷ xs) ys i zero long few = absurd (let c : suc (length xs) ≡ 0 = long in omega (arith, c))
          get_right (x ∷ xs) ys zero (suc m) long few = absurd (omega (arith, few))
          get_right (x ∷ xs) ys (suc i) (suc m) long few =
              let e : suc i - suc m ≡ i - m = omega arith in
              ap (slice_get ys) e ∙ get_right xs ys i m (omega (arith, long)) (omega (arith, few))

          earlier : s.at < at → ⊥
          earlier less =
              let cut : length (take at steps) ≡ at = length-take-le at steps (omega (arith, below)) in
              let few : s.at ≤ at = omega (arith, less) in
              let there : slice_get (take at answers) s.at ≡ Some (replies.Marked s.n) =
              get_take answers s.at at less ∙ sym (get_take answers s.at (suc at) (omega (arith, less)))
              ∙ sym (get_left (take (suc at) answers) more s.at (omega (arith, less, answers_long))) ∙ s.here in
              let part = up_to_begins observed (take at steps) (take at answers) s.at s.n
              (omega (arith, less, cut)) there in
              let again : (observe_all observed (take s.at (take at steps)) (take s.at (take at answers))).history
              ++ Mark s.n ∷ [] ≡ read.prefix =
              ap (λ (l : List Step). (observe_all observed l (take s.at (take at answers))).history ++ Mark s.n ∷ [])
              (take-take s.at at steps few)
              ∙ ap (λ (l : List Reply). (observe_all observed (take s.at steps) l).history ++ Mark s.n ∷ [])
              (take-take s.at at answers few)
              ∙ sym (same_up_to s.at s.n few) ∙ sym s.is in
              mark_is_new (subst (λ l. Contains l (Mark n)) part.1
              (Contains-append_left _ part.0 (Mark n) (subst (λ l. Contains l (Mark n)) (sym again) has)))

  -- ---- how the mark is acknowledged

  -- the history with the mark
  marked_history : (observe_all observed (take (suc at) steps) (take (suc at) answers)).history
      ≡ (observe_all observed (take at steps) (take at answers)).history ++ Mark n
      ∷ (if has_unmarked (observe_all observed (take at steps) (take at answers)).history then []
      else Acknowledge n ∷ [])
  marked_history = last_of observed steps answers at below here
    where
      last_of : (t : Observed) (ss : List Step) (rs : List Reply) (i : ℕ) → i < length ss
          → slice_get rs i ≡ Some (replies.Marked n)
          → (observe_all t (take (suc i) ss) (take (suc i) rs)).history
          ≡ (observe_all t (take i ss) (take i rs)).history
          ++ Mark n ∷ (if has_unmarked (observe_all t (take i ss) (take i rs)).history then [] else Acknowledge n ∷ [])
      last_of t [] rs i less is = absurd (omega (arith, less))
      last_of t (s ∷ ss) [] i less is = cc
      last_of t (s ∷ ss) (r ∷ rs) zero less is =
          let r_is : r ≡ replies.Marked n = cc in
          ap (λ x. t.history ++ events_of t s.p s.act x) r_is ∙ ap (λ l. t.history ++ l) (events_of_mark t s.p s.act n)
      last_of t (s ∷ ss) (r ∷ rs) (suc i) less is = last_of (observe t s r) ss rs i (omega (arith, less)) is

  -- at once, where no store was answered since the mark before it
  pub acked_at_once : flushes ≡ [] → more ≡ [] → unmarked_after false (take at answers) ≡ false
      → Contains whole (Acknowledge n)
  acked_at_once none_made none_observed down =
      let history = (observe_all observed (take at steps) (take at answers)).history in
      let same_length : length (take at answers) ≡ length (take at steps) =
      length-take-le at answers (omega (arith, within)) ∙ sym (length-take-le at steps (omega (arith, below))) in
      let quiet : has_unmarked history ≡ false =
      unmarked_observed observed (take at steps) (take at answers) false (λ e. e) same_length down in
      let made : (observe_all observed (take (suc at) steps) (take (suc at) answers)).history
      ≡ history ++ Mark n ∷ Acknowledge n ∷ [] =
      marked_history ∙ ap (λ b. history ++ Mark n ∷ (if b then [] else Acknowledge n ∷ [])) quiet in
      let all : whole ≡ history ++ Mark n ∷ Acknowledge n ∷ [] =
      ap (λ (l : List Step). (observe_all observed (take (suc at) steps ++ l) all_answers).history) none_made
      ∙ ap (λ (l : List Reply). (observe_all observed (take (suc at) steps ++ []) (take (suc at) answers ++ l)).history)
      none_observed
      ∙ ap (λ (l : List Step). (observe_all observed l (take (suc at) answers ++ [])).history)
      (append-nil (take (suc at) steps))
      ∙ ap (λ (l : List Reply). (observe_all observed (take (suc at) steps) l).history)
      (append-nil (take (suc at) answers))
      ∙ made in
      subst (λ l. Contains l (Acknowledge n)) (sym all)
      (Contains-append_right history (Mark n ∷ Acknowledge n ∷ []) (Acknowledge n) (1, omega arith, refl))

  -- or by the step that commits it
  pub acked_by_commit : (step : Step) (earlier : List Step) (going : List Reply) → flushes ≡ earlier ++ step ∷ []
      → more ≡ going ++ replies.Committed n ∷ [] → length going ≡ length earlier → Contains whole (Acknowledge n)
  acked_by_commit step earlier going made observed_so same =
      let front_steps = take (suc at) steps ++ earlier in
      let front_answers = take (suc at) answers ++ going in
      let before_it = observe_all observed front_steps front_answers in
      let long : length front_answers ≡ length front_steps =
      length-append (take (suc at) answers) going
      ∙ omega (arith, steps_long, answers_long, same, length-append (take (suc at) steps) earlier) in
      let split_steps : all_steps ≡ front_steps ++ step ∷ [] =
      ap (λ l. take (suc at) steps ++ l) made ∙ sym (append_assoc (take (suc at) steps) earlier (step ∷ [])) in
      let split_answers : all_answers ≡ front_answers ++ replies.Committed n ∷ [] = ap (λ l. take (suc at) answers ++ l)
      observed_so ∙ sym (append_assoc (take (suc at) answers) going (replies.Committed n ∷ [])) in
      let all : whole ≡ before_it.history ++ events_of before_it step.p step.act (replies.Committed n) =
      ap (λ (l : List Step). (observe_all observed l all_answers).history) split_steps
      ∙ ap (λ (l : List Reply). (observe_all observed (front_steps ++ step ∷ []) l).history) split_answers
      ∙ ap (λ (t : Observed). t.history)
      (observe_then observed front_steps front_answers (step ∷ []) (replies.Committed n ∷ []) long) in
      subst (λ l. Contains l (Acknowledge n))
      (sym (all ∙ ap (λ l. before_it.history ++ l) (events_of_commit before_it step.p step.act n)))
      (Contains-push before_it.history (Acknowledge n))

-- ---- the files that are kept of a mark

-- the reply that commits is no mark either
no_mark_more : (going : List Reply) (n : ℕ) → ((i k : ℕ) → slice_get going i ≡ Some (replies.Marked k) → ⊥) → (i k : ℕ)
    → slice_get (going ++ replies.Committed n ∷ []) i ≡ Some (replies.Marked k) → ⊥
no_mark_more [] n none zero k is = cc
no_mark_more [] n none (suc i) k is = cc
no_mark_more (r ∷ going) n none zero k is = none 0 k is
no_mark_more (r ∷ going) n none (suc i) k is = no_mark_more going n (λ j m at. none (suc j) m at) i k is

module _ {D : Type 0} (disk : Ghosts D) (seen_is_left : (device : D) → disk.is_honest device
    → disk.may_leave device (disk.seen device)) (one : IsOneReading)
    (before : D) (shape : Shape) (start : Whole D) (started : HasStarted disk before shape start)
    (honest : disk.is_honest before) (files : List File) (recovered : RecoversTo (disk.seen before) files)
    (steps : List Step) (answers : List Reply) (at n : ℕ) (below : at < length steps)
    (here : slice_get answers at ≡ Some (replies.Marked n))
    (is_new : (i : ℕ) → slice_get (take at answers) i ≡ Some (replies.Marked n) → ⊥)
    (observed : List Reply) (marked now : Whole D) (made : StepsTaken disk start
    (take (length observed) (take (at + 1) steps)) observed marked) (same : observed ≡ take (at + 1) answers)
    (p : ℕ) (acknowledged : IsAcknowledged disk marked p (take at answers) n now) (left : ReadsBackLater disk now) where
  long : length (take (suc at) answers) ≡ suc at
  long = length-take-le (suc at) answers
      (let within = slice_get_within answers at (replies.Marked n) here in omega (arith, within))

  next : at + 1 ≡ suc at
  next = omega arith

  count : length observed ≡ suc at
  count = ap length same ∙ ap (λ (i : ℕ). length (take i answers)) next ∙ long

  first : StepsTaken disk start (take (suc at) steps) (take (suc at) answers) marked
  first =
      subst (λ (l : List Step). StepsTaken disk start l (take (suc at) answers) marked)
      (ap (λ (i : ℕ). take i (take (at + 1) steps)) count ∙ ap (λ (i : ℕ). take (suc at) (take i steps)) next
      ∙ take-take (suc at) (suc at) steps (omega arith))
      (subst (λ (l : List Reply). StepsTaken disk start (take (length observed) (take (at + 1) steps)) l marked)
      (same ∙ ap (λ (i : ℕ). take i answers) next) made)

  honest_now : disk.is_honest now.device
  honest_now = honest_after disk before shape start started honest (take (suc at) steps)
      (take (suc at) answers) marked first p (take at answers) n now acknowledged

  back : (all_steps : List Step) (all_answers : List Reply) → StepsTaken disk start all_steps all_answers now
      → ReadsBack files (observe_all (observed_at_start files shape.cpus) all_steps all_answers).history
      (disk.seen now.device)
  back all_steps all_answers taken =
      let on =
      is_reached disk one before shape start started honest files recovered all_steps all_answers now taken in
      subst (λ (t : Observed). ReadsBack files (observe_all t all_steps all_answers).history (disk.seen now.device))
      (observed_is disk before shape start started files)
      (left files start all_steps all_answers (disk.seen now.device) on (seen_is_left now.device honest_now))

  files_at_mark : (found : List File) → RecoversTo (disk.seen now.device) found
      → found ≡ files_after files (up_to_mark files shape steps answers at n)
  files_at_mark found recovers = by acknowledged
    where
      by : IsAcknowledged disk marked p (take at answers) n now
          → found ≡ files_after files (up_to_mark files shape steps answers at n)
      by (inl c) =
          let earlier = map (λ (r : Reply). flush_by p) c.going in
          let flushes = earlier ++ flush_by p ∷ [] in
          let more = c.going ++ replies.Committed n ∷ [] in
          let taken = taken_then disk start marked now (take (suc at) steps)
          (take (suc at) answers) flushes more first (written_out disk marked now p n c) in
          let none = no_mark_more c.going n (none_marked c.going c.earlier.1) in
          at_the_mark one files shape steps answers at n below here is_new flushes more none
          (acked_by_commit one files shape steps answers at n below here is_new flushes more none
          (flush_by p) earlier c.going refl refl (sym (length-map c.going (λ (r : Reply). flush_by p))))
          (disk.seen now.device)
          (back (take (suc at) steps ++ flushes) (take (suc at) answers ++ more) taken) found recovers
      by (inr (down, stays)) =
          let none : (i k : ℕ) → slice_get [] i ≡ Some (replies.Marked k) → ⊥ = λ i k is. cc in
          let taken = taken_then disk start marked now (take (suc at) steps)
          (take (suc at) answers) [] [] first stays in
          at_the_mark one files shape steps answers at n below here is_new [] [] none
          (acked_at_once one files shape steps answers at n below here is_new [] [] none refl refl down)
          (disk.seen now.device) (back (take (suc at) steps ++ []) (take (suc at) answers ++ []) taken) found recovers

  -- what an opening of the machine's device reads are the files at the mark
  pub kept_at_mark : {X E : Type 0} (contents : X → List (List ℕ)) (device : D) → device ≡ now.device
      → (result : Result X E)
      → (disk.is_honest device → IfOk result (λ read. (found : List File) × RecoversTo (disk.seen device) found
      × (contents read ≡ map (λ (f : File). f.bytes) found)))
      → IfOk result (λ read. contents read ≡ bytes_at files shape steps answers at n)
  kept_at_mark contents device is result opens =
      IfOk-weaker result _ _
      (λ read has. has.2 ∙ ap (map (λ (f : File). f.bytes))
      (files_at_mark has.0 (let P : D → Type 0 = λ d. RecoversTo (disk.seen d) has.0 in subst P is has.1)))
      (opens (let Q : D → Type 0 = disk.is_honest in subst Q (sym is) honest_now))
