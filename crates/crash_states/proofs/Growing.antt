-- Lists of choices and of crash states that grow, and bytes that are written over others.
use Rattle.std.proofs.Common.{◌≡◌, ℕ, ◌+◌, ◌<◌, List, [], ◌∷◌, ◌++◌, length, max, take, drop, get_or}
use Rattle.std.proofs.Common.{sym, ◌∙◌, ap, subst, arith, append-nil}
use Rattle.std.proofs.lemmas.List.{take_all, drop_all, take_more}
use Rattle.std.proofs.lemmas.List.Elements.{Contains-append_left}
use Rattle.std.specs.List.{Contains}
use Rattle.crash_states.specs.declared.row.Found.{Found}
use Rattle.crash_states.specs.Rows.{newest_of}

-- one element more keeps those before it
pub contains_more : {X : Type 0} (old new : List X) (y x : X) → new ≡ old ++ y ∷ [] → Contains old x → Contains new x
contains_more {X} old new y x is has =
    subst (λ (l : List X). Contains l x) (sym is) (Contains-append_left old (y ∷ []) x has)

-- a list that is written over the whole of another
pub written_whole : (n : ℕ) (new old : List ℕ) → length old ≡ n → length new ≡ n
    → take n (new ++ drop (length new) old) ≡ new
written_whole n new old is same =
    ap (λ (l : List ℕ). take n (new ++ l)) (drop_all (length new) old (omega (arith, is, same)))
    ∙ ap (take n) (append-nil new) ∙ take_all n new (omega (arith, same))

-- the newest mark of one state more
newest_push : (xs : List Found) (x : Found) → newest_of (xs ++ x ∷ []) ≡ max (newest_of xs) x.mark
newest_push [] x = omega arith
newest_push (y ∷ ys) x = omega (arith, newest_push ys x)

pub newest_more : (xs : List Found) (i : ℕ) (d : Found) → i < length xs
    → newest_of (take (i + 1) xs) ≡ max (newest_of (take i xs)) (get_or xs i d).mark
newest_more xs i d below = ap newest_of (take_more xs i d below) ∙ newest_push (take i xs) (get_or xs i d)
