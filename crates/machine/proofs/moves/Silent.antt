-- Moves that tell nothing, and acts of moves.
use Rattle.machine.proofs.Names.{ℕ, ◌≡◌, List, [], ◌∷◌, ◌++◌, refl, sym, ◌∙◌, subst, append-nil, Nothing, Act, Reply}
use Rattle.machine.proofs.Names.{State, Event, step_work, Observed, observe, Effect}
use Rattle.machine.proofs.Names.{Silent, after_effect, after_effects, Move, Moves}
use Rattle.machine.proofs.Names.{Performed, Moved}

abbrev pub AreSilent : List Effect → Type 0
AreSilent [] = Unit {0}
AreSilent (Silent ∷ more) = AreSilent more
AreSilent (effect ∷ more) = ⊥

-- moves that tell nothing
pub record SilentMoves (disk : List ℕ) (s new : State) : Type 0 where
  pub effect : List Effect
  pub silent : AreSilent effect
  pub moves : Moves disk s effect new

pub no_moves : {disk : List ℕ} {s new : State} → new ≡ s → SilentMoves disk s new
no_moves same = record { effect = []; silent = tt; moves = same }

pub one_move : {disk : List ℕ} {s new : State} → Move disk s Silent new → SilentMoves disk s new
one_move {new = new} move = record { effect = Silent ∷ []; silent = tt; moves = (new, move, refl) }

-- moves, and then others
pub joined : (disk : List ℕ) (s mid new : State) (effect more : List Effect) → Moves disk s effect mid
    → Moves disk mid more new → Moves disk s (effect ++ more) new
joined disk s mid new [] more same rest = subst (λ x. Moves disk x more new) same rest
joined disk s mid new (first ∷ effect) more moves rest =
    (moves.0, moves.1, joined disk moves.0 mid new effect more moves.2 rest)

silent_both : (effect more : List Effect) → AreSilent effect → AreSilent more → AreSilent (effect ++ more)
silent_both [] more silent rest = rest
silent_both (Silent ∷ effect) more silent rest = silent_both effect more silent rest
silent_both (first ∷ effect) more silent rest = absurd silent

pub then_silent : {disk : List ℕ} {s mid new : State} → SilentMoves disk s mid → SilentMoves disk mid new
    → SilentMoves disk s new
then_silent {disk} {s} {mid} {new} first rest = record {
  effect = first.effect ++ rest.effect;
  silent = silent_both first.effect rest.effect first.silent rest.silent;
  moves = joined disk s mid new first.effect rest.effect first.moves rest.moves;
}

silent_after : (observed : Observed) (effect : List Effect) → AreSilent effect
    → after_effects observed effect ≡ observed
silent_after observed [] silent = refl
silent_after observed (Silent ∷ effect) silent = silent_after observed effect silent
silent_after observed (first ∷ effect) silent = absurd silent

-- ---- acts of moves

same_history : (observed : Observed) (history : List Event) → observed.history ≡ history
    → record observed { history = history ++ [] } ≡ observed
same_history observed history same = λ i. record observed { history = (append-nil history ∙ sym same) i }

-- the act is observed so, and adds nothing to the history
abbrev ObservedAs : ℕ → Act → Reply → (Observed → Observed) → Type 0
ObservedAs p act reply after = (observed : Observed)
    → observe observed (record { p = p; act = act }) reply
    ≡ record (after observed) { history = observed.history ++ [] }

module _ {s : State} {disk : List ℕ} {p : ℕ} {act : Act} {reply : Reply} {new : State} {disk' : List ℕ} where
  -- an act of moves by which nothing is stored or marked
  pub moved_all : (effect : List Effect) → Moves disk s effect new
      → ObservedAs p act reply (λ observed. after_effects observed effect)
      → ((observed : Observed) → (after_effects observed effect).history ≡ observed.history)
      → step_work s act reply ≡ Nothing → disk' ≡ disk → Performed s disk p act reply new disk'
  moved_all effect moves observes still work same = Moved (record {
    effect = effect;
    moves = moves;
    observes = λ observed. observes observed
        ∙ same_history (after_effects observed effect) observed.history (still observed);
    no_work = work;
    same_disk = same;
  })

  -- of one move
  pub moved : {effect : Effect} → Move disk s effect new
      → ObservedAs p act reply (λ observed. after_effect observed effect)
      → ((observed : Observed) → (after_effect observed effect).history ≡ observed.history)
      → step_work s act reply ≡ Nothing → disk' ≡ disk → Performed s disk p act reply new disk'
  moved {effect} move = moved_all (effect ∷ []) (new, move, refl)

  -- of moves that tell nothing
  pub silently : SilentMoves disk s new → ObservedAs p act reply (λ observed. observed)
      → step_work s act reply ≡ Nothing → disk' ≡ disk → Performed s disk p act reply new disk'
  silently silent observes work same = Moved (record {
    effect = silent.effect;
    moves = silent.moves;
    observes = λ observed. observes observed ∙ same_history observed observed.history refl
        ∙ sym (silent_after observed silent.effect silent.silent);
    no_work = work;
    same_disk = same;
  })
