-- What is read of journals.
use Rattle.std.proofs.Common.{◌≡◌, ℕ, suc, ◌+◌, List, [], ◌∷◌, ◌++◌, length, subst, refl, arith}
use Rattle.volume_codec.specs.Layout.{GeometryValue}
use Rattle.inspection.specs.declared.found.Journal.{Journal}
use Rattle.inspection.specs.Found.{IsJournal, AreFrom}

-- one journal more
pub from_push : {Z : Type 0} (g : GeometryValue) (bytes : List ℕ) (j n : ℕ) (journals : List (Journal Z))
    (journal : Journal Z) → AreFrom g bytes j journals → j + length journals ≡ n → IsJournal g bytes n journal
    → AreFrom g bytes j (journals ++ journal ∷ [])
from_push {Z} g bytes j n [] journal are at is =
    let P : ℕ → Type 0 = λ k. IsJournal {Z = Z} g bytes k journal in
    let same : n ≡ j = omega (arith, at) in
    (subst P same is, tt)
from_push g bytes j n (first ∷ journals) journal are at is =
    (are.0, from_push g bytes (suc j) n journals journal are.1 (omega (arith, at)) is)

pub length_more : {X : Type 0} (xs : List X) (x : X) → length (xs ++ x ∷ []) ≡ length xs + 1
length_more [] x = refl
length_more (y ∷ xs) x = omega (arith, length_more xs x)
