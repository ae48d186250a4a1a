-- A clause with two cases, where it is known which of them it is.
use Rattle.std.proofs.Common.{◌≡◌, Bool, true, subst, sym}
use Rattle.std.specs.Prelude.{MatchBool}

pub on_true : (b : Bool) (P Q : Type 0) → b ≡ true → P → MatchBool b P Q
on_true b P Q is p = subst (λ c. MatchBool c P Q) (sym is) p
