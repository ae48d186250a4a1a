-- A step that lowers no word, and leaves committed at most stalled, keeps the rule.
use Rattle.std.proofs.Common.{◌≡◌, ◌≤◌, ℕ, ◌≢◌, Bool, true, false, List, [], ◌∷◌}
use Rattle.std.proofs.Common.{if◌then◌else◌, nat_eq, refl, sym, subst, ⊎_elim, le_refl, le_trans, set}
use mathlib.Core.Option.{some, some-ne-none}
use lib.ListN.{get_elem?}
use lib.Pointwise.{pointwise, bytes_decides}
use Rattle.crossbeam_utils.specs.Register.{Turns, Forks}
use Rattle.atomic_table.proofs.Lists.{at_set, at_snoc, set_again}
use Rattle.atomic_table.specs.Seated.{TableId}
use Rattle.horizon.specs.Seen.{SeenState}
use Rattle.horizon.specs.declared.rule.View.{View}
use Rattle.horizon.specs.inside.Rule.{NeitherFell, Lifts, seen_after, IsKept, Steps, Reads}

-- a holder of the same words, which has seen no less since, and has raised nothing
abbrev pub HasOnlyLooked : SeenState → TableId → View → Type 0
HasOnlyLooked seen words view =
    (words ≡ seen.cell) × (seen.stalled ≤ view.stalled) × (seen.committed ≤ view.committed)
    × (view.stalled_raised ≡ seen.stalled_raised) × (view.committed_raised ≡ seen.committed_raised)

-- what is seen of a new horizon
abbrev none_yet : View
none_yet = record { stalled = 0; committed = 0; stalled_raised = 0; committed_raised = 0 }

pub begins : IsKept (0 ∷ 0 ∷ []) (none_yet ∷ [])
begins = record {
  ordered = le_refl 0;
  reached = λ pass v at. ⊎_elim (λ (was : get_elem? [] pass ≡ some v). absurd (some-ne-none v (sym was)))
      (λ (is : none_yet ≡ v).
      subst (λ (u : View). NeitherFell u (0 ∷ 0 ∷ [])) is (record { stalled = le_refl 0; committed = le_refl 0 }))
      (at_snoc [] none_yet v pass at);
}

goes_on : (u : View) (x y : List ℕ) → NeitherFell u x → Lifts x y → NeitherFell u y
goes_on u x y a b = record { stalled = le_trans a.stalled b.stalled; committed = le_trans a.committed b.committed }

pub lifted : (pass : ℕ) (v : View) (x y : List ℕ) (views : List View)
    → Lifts x y → IsKept x views → get_elem? views pass ≡ some v
    → IsKept y (set views pass (seen_after v x y)) × Steps v x y (seen_after v x y)
lifted pass v x y views up kept at = (
  record {
    ordered = up.ordered;
    reached = λ j u e. ⊎_elim (λ (t : (j ≡ pass) × (seen_after v x y ≡ u)).
        subst (λ (z : View). NeitherFell z y) t.1 (record { stalled = le_refl _; committed = le_refl _ }))
        (λ (t : (j ≢ pass) × (get_elem? views j ≡ some u)). goes_on u x y (kept.reached j u t.1) up)
        (at_set views pass j (seen_after v x y) u e);
  },
  record { since = kept.reached pass v at; within = up; shown = refl },
)

rests : (x : List ℕ) (views : List View) → IsKept x views → Lifts x x
rests x views kept = record { stalled = le_refl _; committed = le_refl _; ordered = kept.ordered }

pub reads : (pass : ℕ) (v : View) → Turns IsKept pass v (λ x. x) Reads
reads pass v x views kept at =
    let step = lifted pass v x x views (rests x views kept) kept at in
    (seen_after v x x, step.0, (refl, step.1))

pub forks : (pass : ℕ) (v : View) → Forks IsKept pass v v v
forks pass v x views kept at = record {
  ordered = kept.ordered;
  reached = λ j u e.
      ⊎_elim (λ was. kept.reached j u (subst (λ l. get_elem? l j ≡ some u) (set_again views pass v at) was))
      (λ (same : v ≡ u). subst (λ (z : View). NeitherFell z x) same (kept.reached pass v at))
      (at_snoc (set views pass v) v u j e);
}

-- the words after an exchange of those found for others
abbrev exchanged : List ℕ → List ℕ → List ℕ → List ℕ
exchanged found new x = if pointwise nat_eq x found then new else x

exchange_lifts : (found new x : List ℕ) (views : List View) → Lifts found new → IsKept x views
    → Lifts x (exchanged found new x)
exchange_lifts found new x views up kept = go (pointwise nat_eq x found) refl
  where
    go : (b : Bool) → pointwise nat_eq x found ≡ b → Lifts x (if b then new else x)
    go true e = subst (λ (z : List ℕ). Lifts z new) (sym ((bytes_decides x found).0 e)) up
    go false e = rests x views kept

pub raises : (pass : ℕ) (v : View) (found new : List ℕ) → Lifts found new
    → Turns IsKept pass v (λ x. if pointwise nat_eq x found then new else x) Steps
raises pass v found new up x views kept at =
    let step = lifted pass v x (exchanged found new x) views (exchange_lifts found new x views up kept) kept at in
    (seen_after v x (exchanged found new x), step.0, step.1)
