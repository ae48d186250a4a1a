-- What a listener hears of a run: its replies, one by one.
use Rattle.std.specs.Prelude.{ℕ, ◌≡◌, ◌⊎◌, Bool, true, false, List, [], ◌∷◌, ◌++◌, length}
use Rattle.machine.specs.declared.act.Reply.{Reply}

-- The listener heard each of these replies, in order, and each time asked to continue. The relation `hears` defines how
-- a reply and the listener's answer change the listener.
abbrev pub HasHeard : {L : Type 0} → (L → Reply → Bool → L → Type 0) → L → List Reply → L → Type 0
HasHeard hears old [] new = new ≡ old
HasHeard {L} hears old (reply ∷ replies) new = (next : L) × hears old reply true next × HasHeard hears next replies new

-- The listener heard each of these replies, and asked to stop after the last.
pub record HasStopped {L : Type 0} (hears : L → Reply → Bool → L → Type 0) (old : L) (replies : List Reply)
    (new : L) : Type 0 where
  pub earlier : List Reply
  pub last : Reply
  pub split : replies ≡ earlier ++ last ∷ []
  pub before : L
  pub heard : HasHeard hears old earlier before
  pub stopped : hears before last false new

-- The listener heard the replies to n steps, or fewer replies if it asked to stop.
abbrev pub HasListened : {L : Type 0} → (L → Reply → Bool → L → Type 0) → ℕ → L → List Reply → L → Type 0
HasListened hears n old replies new =
    (HasHeard hears old replies new × (length replies ≡ n)) ⊎ HasStopped hears old replies new
