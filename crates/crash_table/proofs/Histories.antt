-- Histories of runs, step by step: where their marks come from.
use Rattle.std.proofs.Common.{◌≡◌, ◌⊎◌, inl, inr, ℕ, zero, suc, ◌<◌, Bool, true, false}
use Rattle.std.proofs.Common.{if◌then◌else◌, List, [], ◌∷◌, ◌++◌, length, take, Option, Some}
use Rattle.std.proofs.Common.{None, refl, sym, ◌∙◌, ap, arith, append_assoc, append-nil}
use Rattle.std.specs.Prelude.{slice_get, ◌||◌}
use Rattle.std.specs.List.{fold, list_any}
use Rattle.std.proofs.lemmas.List.Sums.{fold-append}
use Rattle.std.proofs.lemmas.List.Folds.{list_any-append}
use Rattle.mappings.specs.declared.place.Place.{Place}
use Rattle.machine.specs.declared.act.Act.{Act}
use Rattle.machine.specs.declared.act.Act.TheVariants as acts
use Rattle.machine.specs.declared.act.Reply.{Reply}
use Rattle.machine.specs.declared.act.Reply.TheVariants as replies
use Rattle.machine.specs.declared.act.Step.{Step}
use Rattle.history.specs.History.{Event, Mark, Acknowledge, has_unmarked, since_mark, with_event, is_change}
use Rattle.machine.specs.Observed.{Observed, Pending, Resizing, observe, observe_all}
use Rattle.machine.specs.Observed.{events_of, store_at, resized_at, place_observed}
use Rattle.machine.specs.Unmarked.{unmarked_by}
use Rattle.crash_table.specs.inside.Kept.{unmarked_after}

-- ---- lists

-- of two ways to split a list, one splits it no later than the other
pub split_twice : {X : Type 0} (xs ys us vs : List X) → xs ++ ys ≡ us ++ vs
    → ((c : List X) × (us ≡ xs ++ c) × (ys ≡ c ++ vs)) ⊎ ((c : List X) × (xs ≡ us ++ c) × (vs ≡ c ++ ys))
split_twice [] ys us vs same = inl (us, refl, same)
split_twice (x ∷ xs) ys [] vs same = inr (x ∷ xs, refl, sym same)
split_twice (x ∷ xs) ys (u ∷ us) vs same =
    let head : x ≡ u = cc in
    let tail : xs ++ ys ≡ us ++ vs = cc in
    elim (split_twice xs ys us vs tail) [
      | inl (c, is, rest) ↦ inl (c, ap (λ l. u ∷ l) is ∙ ap (λ h. h ∷ (xs ++ c)) (sym head), rest)
      | inr (c, is, rest) ↦ inr (c, ap (λ l. x ∷ l) is ∙ ap (λ h. h ∷ (us ++ c)) head, rest)
    ]

pub nothing_in : {X : Type 0} (front back : List X) (x : X) → [] ≡ front ++ x ∷ back → ⊥
nothing_in [] back x same = cc
nothing_in (y ∷ front) back x same = cc

-- ---- the events of one step

-- what a store adds has no mark
no_mark_in_store : (place : Option Place) (va : ℕ) (bytes : List ℕ) (front back : List Event) (n : ℕ)
    → store_at place va bytes ≡ front ++ Mark n ∷ back → ⊥
no_mark_in_store None va bytes front back n same = nothing_in front back (Mark n) same
no_mark_in_store (Some place) va bytes [] back n same = cc
no_mark_in_store (Some place) va bytes (e ∷ front) back n same = let rest : [] ≡ front ++ Mark n ∷ back = cc in
    nothing_in front back (Mark n) rest

-- nor has what a change of a length adds
no_mark_in_resize : (observed : Observed) (pending : Option Pending) (front back : List Event) (n : ℕ)
    → resized_at observed pending ≡ front ++ Mark n ∷ back → ⊥
no_mark_in_resize observed (Some (Resizing file to)) [] back n same = cc
no_mark_in_resize observed (Some (Resizing file to)) (e ∷ front) back n same =
    let rest : [] ≡ front ++ Mark n ∷ back = cc in nothing_in front back (Mark n) rest
no_mark_in_resize observed pending front back n same = nothing_in front back (Mark n) same

-- what a mark adds has it first
mark_in_mark : (waits : Bool) (m : ℕ) (front back : List Event) (n : ℕ)
    → Mark m ∷ (if waits then [] else Acknowledge m ∷ []) ≡ front ++ Mark n ∷ back → (m ≡ n) × (front ≡ [])
mark_in_mark waits m [] back n same = (cc, refl)
mark_in_mark true m (e ∷ front) back n same = let rest : [] ≡ front ++ Mark n ∷ back = cc in
    absurd (nothing_in front back (Mark n) rest)
mark_in_mark false m (e ∷ []) back n same = let rest : Acknowledge m ∷ [] ≡ Mark n ∷ back = cc in cc
mark_in_mark false m (e ∷ f ∷ front) back n same = let rest : [] ≡ front ++ Mark n ∷ back = cc in
    absurd (nothing_in front back (Mark n) rest)

no_mark_in_acknowledge : (m : ℕ) (front back : List Event) (n : ℕ) → Acknowledge m ∷ [] ≡ front ++ Mark n ∷ back → ⊥
no_mark_in_acknowledge m [] back n same = cc
no_mark_in_acknowledge m (e ∷ front) back n same = let rest : [] ≡ front ++ Mark n ∷ back = cc in
    nothing_in front back (Mark n) rest

-- a mark comes of the reply that reports it, first of what the step adds
pub mark_in_events : (observed : Observed) (p : ℕ) (act : Act) (reply : Reply) (front back : List Event) (n : ℕ)
    → events_of observed p act reply ≡ front ++ Mark n ∷ back → (reply ≡ replies.Marked n) × (front ≡ [])
mark_in_events observed p (acts.Store va bytes) replies.Stored front back n same =
    absurd (no_mark_in_store (place_observed observed p va) va bytes front back n same)
mark_in_events observed p act (replies.Marked m) front back n same =
    let is = mark_in_mark (has_unmarked observed.history) m front back n same in
    (ap replies.Marked is.0, is.1)
mark_in_events observed p act replies.Resized front back n same =
    absurd (no_mark_in_resize observed observed.pending front back n same)
mark_in_events observed p act (replies.Committed m) front back n same =
    absurd (no_mark_in_acknowledge m front back n same)
mark_in_events observed p act reply front back n same = absurd (nothing_in front back (Mark n) same)

-- ---- the marks of a run

-- these events are those of a run up to a mark, and with it: by which step it was made
pub record IsUpToStep (observed : Observed) (steps : List Step) (answers : List Reply)
    (front : List Event) (n : ℕ) : Type 0 where
  pub at : ℕ
  pub here : slice_get answers at ≡ Some (replies.Marked n)
  pub front_is : front ≡ (observe_all observed (take at steps) (take at answers)).history

-- where a mark stands in the history of a run
pub mark_at : (observed : Observed) (steps : List Step) (answers : List Reply) (front back : List Event) (n : ℕ)
    → front ++ Mark n ∷ back ≡ (observe_all observed steps answers).history
    → ((more : List Event) × (front ++ Mark n ∷ more ≡ observed.history)) ⊎ IsUpToStep observed steps answers front n
mark_at observed [] answers front back n same = inl (back, same)
mark_at observed (step ∷ steps) [] front back n same = inl (back, same)
mark_at observed (step ∷ steps) (reply ∷ answers) front back n same =
    elim (mark_at (observe observed step reply) steps answers front back n same) [
      | inl (more, within) ↦ by more
          (split_twice front (Mark n ∷ more) observed.history (events_of observed step.p step.act reply) within)
      | inr later ↦ inr (record { at = suc later.at; here = later.here; front_is = later.front_is })
    ]
  where
    here_is : (reply ≡ replies.Marked n) → front ≡ observed.history
        → IsUpToStep observed (step ∷ steps) (reply ∷ answers) front n
    here_is marked is = record { at = 0; here = ap Some marked; front_is = is }

    by : (more : List Event)
        → ((c : List Event) × (observed.history ≡ front ++ c)
        × (Mark n ∷ more ≡ c ++ events_of observed step.p step.act reply))
        ⊎ ((c : List Event) × (front ≡ observed.history ++ c)
        × (events_of observed step.p step.act reply ≡ c ++ Mark n ∷ more))
        → ((more : List Event) × (front ++ Mark n ∷ more ≡ observed.history))
        ⊎ IsUpToStep observed (step ∷ steps) (reply ∷ answers) front n
    by more (inl ([], is, rest)) =
        inr (here_is (mark_in_events observed step.p step.act reply [] more n (sym rest)).0
        (sym (is ∙ append-nil front)))
    by more (inl (e ∷ c, is, rest)) =
        let first : e ≡ Mark n = cc in
        inl (c, ap (λ h. front ++ h ∷ c) (sym first) ∙ sym is)
    by more (inr (c, is, rest)) =
        let found = mark_in_events observed step.p step.act reply c more n rest in
        inr (here_is found.0 (is ∙ ap (λ l. observed.history ++ l) found.1 ∙ append-nil observed.history))

-- what was observed first stays
pub history_grows : (observed : Observed) (steps : List Step) (answers : List Reply)
    → (more : List Event) × ((observe_all observed steps answers).history ≡ observed.history ++ more)
history_grows observed [] answers = ([], sym (append-nil observed.history))
history_grows observed (step ∷ steps) [] = ([], sym (append-nil observed.history))
history_grows observed (step ∷ steps) (reply ∷ answers) =
    let later = history_grows (observe observed step reply) steps answers in (
      events_of observed step.p step.act reply ++ later.0,
      later.1 ∙ append_assoc observed.history (events_of observed step.p step.act reply) later.0,
    )

-- what a reply that reports a mark adds
pub events_of_mark : (observed : Observed) (p : ℕ) (act : Act) (n : ℕ)
    → events_of observed p act (replies.Marked n)
    ≡ Mark n ∷ (if has_unmarked observed.history then [] else Acknowledge n ∷ [])
events_of_mark observed p (acts.Store va bytes) n = refl
events_of_mark observed p act n = refl

-- and one that reports that a mark is committed
pub events_of_commit : (observed : Observed) (p : ℕ) (act : Act) (n : ℕ)
    → events_of observed p act (replies.Committed n) ≡ Acknowledge n ∷ []
events_of_commit observed p (acts.Store va bytes) n = refl
events_of_commit observed p act n = refl

-- the history up to the mark of a step, and with it, begins the whole one
pub up_to_begins : (observed : Observed) (steps : List Step) (answers : List Reply) (at n : ℕ) → at < length steps
    → slice_get answers at ≡ Some (replies.Marked n)
    → (rest : List Event) × (((observe_all observed (take at steps) (take at answers)).history ++ Mark n ∷ []) ++ rest
    ≡ (observe_all observed steps answers).history)
up_to_begins observed [] answers at n below here = absurd (omega (arith, below))
up_to_begins observed (step ∷ steps) [] at n below here = cc
up_to_begins observed (step ∷ steps) (reply ∷ answers) zero n below here =
    let marked : reply ≡ replies.Marked n = cc in
    let later = history_grows (observe observed step reply) steps answers in
    let tail : List Event = if has_unmarked observed.history then [] else Acknowledge n ∷ [] in
    let events : events_of observed step.p step.act reply ≡ Mark n ∷ tail =
    ap (λ r. events_of observed step.p step.act r) marked ∙ events_of_mark observed step.p step.act n in (
      tail ++ later.0,
      append_assoc observed.history (Mark n ∷ []) (tail ++ later.0)
          ∙ sym (append_assoc observed.history (Mark n ∷ tail) later.0)
          ∙ ap (λ l. (observed.history ++ l) ++ later.0) (sym events)
          ∙ sym later.1,
    )
up_to_begins observed (step ∷ steps) (reply ∷ answers) (suc at) n below here =
    up_to_begins (observe observed step reply) steps answers at n (omega (arith, below)) here

-- a run and a later part of it
pub observe_then : (observed : Observed) (steps : List Step) (answers : List Reply)
    (later : List Step) (more : List Reply)
    → length answers ≡ length steps
    → observe_all observed (steps ++ later) (answers ++ more)
    ≡ observe_all (observe_all observed steps answers) later more
observe_then observed [] [] later more same = refl
observe_then observed (step ∷ steps) (reply ∷ answers) later more same =
    observe_then (observe observed step reply) steps answers later more (omega (arith, same))
observe_then observed [] (reply ∷ answers) later more same =
    absurd (let c : suc (length answers) ≡ 0 = same in omega (arith, c))
observe_then observed (step ∷ steps) [] later more same =
    absurd (let c : 0 ≡ suc (length steps) = same in omega (arith, c))

-- ---- changes that no mark has yet

-- whether a flag is down where events have no change
abbrev FollowsFlag : Bool → List Event → Type 0
FollowsFlag flag events = flag ≡ false → list_any is_change events ≡ false

-- an acknowledgement changes nothing
acknowledged_more : (flag : Bool) (events : List Event) (n : ℕ) → FollowsFlag flag events
    → FollowsFlag flag (events ++ Acknowledge n ∷ [])
acknowledged_more flag events n follows = λ down.
    list_any-append is_change events (Acknowledge n ∷ []) ∙ ap (λ b. b || false) (follows down)

follows_step : (observed : Observed) (p : ℕ) (act : Act) (reply : Reply) (flag : Bool) (before : List Event)
    → FollowsFlag flag before
    → FollowsFlag (unmarked_by flag reply) (fold with_event before (events_of observed p act reply))
follows_step observed p (acts.Store va bytes) replies.Stored flag before follows =
    λ down. absurd (let up : true ≡ false = down in cc)
follows_step observed p act replies.Stored flag before follows = λ down. absurd (let up : true ≡ false = down in cc)
follows_step observed p act replies.Resized flag before follows = λ down. absurd (let up : true ≡ false = down in cc)
follows_step observed p act (replies.Marked n) flag before follows =
    λ down. ap (λ (l : List Event). list_any is_change (fold with_event before l)) (events_of_mark observed p act n)
    ∙ by (has_unmarked observed.history)
  where
    by : (waits : Bool)
        → list_any is_change (fold with_event before (Mark n ∷ (if waits then [] else Acknowledge n ∷ []))) ≡ false
    by true = refl
    by false = refl
follows_step observed p act (replies.Committed n) flag before follows =
    λ down. ap (λ (l : List Event). list_any is_change (fold with_event before l)) (events_of_commit observed p act n)
    ∙ acknowledged_more flag before n follows down
follows_step observed p act reply flag before follows = follows

-- where no store and no change of length was answered since the last mark, the history has none
pub unmarked_observed : (observed : Observed) (steps : List Step) (answers : List Reply) (flag : Bool)
    → FollowsFlag flag (since_mark observed.history) → length answers ≡ length steps
    → unmarked_after flag answers ≡ false → has_unmarked (observe_all observed steps answers).history ≡ false
unmarked_observed observed [] [] flag follows same = follows
unmarked_observed observed (step ∷ steps) (reply ∷ answers) flag follows same =
    let events = events_of observed step.p step.act reply in
    let grown : FollowsFlag (unmarked_by flag reply) (since_mark (observed.history ++ events)) =
    λ down. ap (λ (l : List Event). list_any is_change l) (fold-append with_event [] observed.history events)
    ∙ follows_step observed step.p step.act reply flag (since_mark observed.history) follows down in
    unmarked_observed (observe observed step reply) steps answers (unmarked_by flag reply) grown (omega (arith, same))
unmarked_observed observed [] (reply ∷ answers) flag follows same =
    absurd (let c : suc (length answers) ≡ 0 = same in omega (arith, c))
unmarked_observed observed (step ∷ steps) [] flag follows same =
    absurd (let c : 0 ≡ suc (length steps) = same in omega (arith, c))
