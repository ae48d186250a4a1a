-- Flags and processors that are as at boot.
use Rattle.std.proofs.Common.{ℕ, suc, ◌≡◌, true, false, is_some, List, [], ◌∷◌, length, replicate}
use Rattle.std.proofs.Common.{get_or, Option, Some, None, refl, sym, ap, ◌∙◌, inl, inr, arith}
use Rattle.std.proofs.lemmas.Bool.{cases_eq, false≢true}
use Rattle.std.proofs.lemmas.List.{length-replicate, get_or-replicate}
use Rattle.std.specs.List.{All}
use Rattle.page_table.specs.Bits.{is_set, IsFirstSet}
use Rattle.shootdown.specs.Processors.{first_flags}
use Rattle.shootdown.specs.inside.Flags.{flags_of}
use Rattle.shootdown.proofs.Flags.{length-first_flags, get_or-first_flags, get_or-first_flags_later}
use Rattle.shootdown.proofs.Words.{get_or-flags_of, flags_of-from_each}

-- whether the bits are those flags is known by the first one, and whether another one is set
pub are_first : (words : List ℕ) (found : Option ℕ) → IsFirstSet words 1 4096 found
    → get_or (flags_of words) 0 false ≡ true → is_some found ≡ false
    → flags_of words ≡ first_flags
are_first words None none here unset =
    flags_of-from_each words first_flags length-first_flags (λ k below. elim (cases_eq k 0) [
      | inl first ↦ ap (is_set words) first
          ∙ sym (get_or-flags_of words 0 (omega arith))
          ∙ here
          ∙ sym (ap (λ n. get_or first_flags n false) first ∙ get_or-first_flags)
      | inr later ↦ none k (omega arith) below ∙ sym (get_or-first_flags_later k later)
    ])
are_first words (Some place) found here unset = absurd (cc)

pub first_alone : (words : List ℕ) (found : Option ℕ) → IsFirstSet words 1 4096 found → flags_of words ≡ first_flags
    → is_some found ≡ false
first_alone words None none same = refl
first_alone words (Some place) found same =
    absurd (false≢true (sym (get_or-first_flags_later place (let low = found.low in omega arith))
    ∙ ap (λ flags. get_or flags place false) (sym same) ∙ get_or-flags_of words place found.high ∙ found.here))

-- the same of each of a list
pub all_replicate : {X : Type 0} (xs : List X) (x : X) → All (λ y. y ≡ x) xs → xs ≡ replicate (length xs) x
all_replicate [] x all = refl
all_replicate (y ∷ ys) x all =
    let here : y ≡ x = all 0 x (omega arith) in
    let rest = all_replicate ys x (λ k d within. all (suc k) d (omega (arith, within))) in
    λ i. here i ∷ rest i

pub replicate_all : {X : Type 0} (n : ℕ) (x : X) → All (λ y. y ≡ x) (replicate n x)
replicate_all n x = λ k d within. get_or-replicate n k x d (omega (arith, within, length-replicate n x))
