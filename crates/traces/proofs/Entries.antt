-- Reading lines one by one.
use Rattle.std.proofs.Common.{◌≡◌, ℕ, ◌+◌, ◌<◌, List, [], ◌∷◌, ◌++◌, length, map}
use Rattle.std.proofs.Common.{take, get_or, Bor, Option, Some, None, sym, ap, ◌∙◌}
use Rattle.std.proofs.lemmas.Option.{slice_get-get_or}
use Rattle.scripts.specs.Arguments.{all_of}
use Rattle.scripts.proofs.AllOf.{all_of_next, all_of_fails}
use Rattle.machine.specs.declared.act.Step.{Step}
use Rattle.traces.specs.Traces.{entry_line}

abbrev this_or : {X : Type 0} → X → Option X → X
this_or x None = x
this_or x (Some y) = y

some_is : {X : Type 0} (x y : X) → Some x ≡ Some y → x ≡ y
some_is x y same = ap (this_or x) same

-- what is there is there, whatever would stand for what isn't
same_there : {X : Type 0} (xs : List X) (i : ℕ) (d : X) → i < length xs → get_or xs i (get_or xs i d) ≡ get_or xs i d
same_there xs i d below = some_is (get_or xs i (get_or xs i d)) (get_or xs i d)
    (sym (slice_get-get_or xs i (get_or xs i d) below) ∙ slice_get-get_or xs i d below)

-- one entry more of lines
pub entry_next : (lines : List (Bor (List ℕ))) (i : ℕ) (d : Bor (List ℕ)) (entries : List (Step × List ℕ))
    (entry : Step × List ℕ) → i < length lines
    → all_of entry_line (map (λ line. line.now) (take i lines)) ≡ Some entries
    → entry_line (get_or lines i d).now ≡ Some entry
    → all_of entry_line (map (λ line. line.now) (take (i + 1) lines)) ≡ Some (entries ++ entry ∷ [])
entry_next lines i d entries entry below before this = all_of_next (λ line. line.now) entry_line lines i
    (get_or lines i d) entries entry below (same_there lines i d below) before (sym this)

-- a line that is no entry
pub entry_fails : (lines : List (Bor (List ℕ))) (i : ℕ) (d : Bor (List ℕ)) → i < length lines
    → entry_line (get_or lines i d).now ≡ None → all_of entry_line (map (λ line. line.now) lines) ≡ None
entry_fails lines i d below this =
    all_of_fails (λ line. line.now) entry_line lines i (get_or lines i d) below (same_there lines i d below) (sym this)
