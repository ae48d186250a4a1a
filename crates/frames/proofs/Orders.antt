-- The order of pages by their home blocks.
use Rattle.std.proofs.Common.{◌≡◌, ◌≢◌, ◌⊎◌, true, Some, sym, inl, inr, ⊎_elim, arith}
use Rattle.std.proofs.lemmas.Bool.{cases_lt, cases_eq}
use Rattle.std.proofs.lemmas.Bool.Decides.{nat_tests}
use Rattle.page_entry.specs.declared.numbers.FilePage.{FilePage}
use Rattle.frames.specs.Frames.{IsBefore}
use Rattle.frames.specs.inside.Pages.{comes_before}

-- no page comes before itself
pub IsBefore-irreflexive : (a : FilePage) → IsBefore a a → ⊥
IsBefore-irreflexive a (inl less) = absurd (omega arith)
IsBefore-irreflexive a (inr later) = absurd (omega (arith, later.1))

-- what comes before a page comes before all later ones
pub IsBefore-trans : (a b c : FilePage) → IsBefore a b → IsBefore b c → IsBefore a c
IsBefore-trans a b c (inl ab) (inl bc) = inl (omega arith)
IsBefore-trans a b c (inl ab) (inr bc) = inl (omega (arith, bc.0))
IsBefore-trans a b c (inr ab) (inl bc) = inl (omega (arith, ab.0))
IsBefore-trans a b c (inr ab) (inr bc) = inr (omega (arith, ab.0, bc.0), omega (arith, ab.1, bc.1))

-- of two pages one comes before the other
pub IsBefore-total : (a b : FilePage) → a ≢ b → IsBefore a b ⊎ IsBefore b a
IsBefore-total a b differs =
    ⊎_elim
    (λ less. inl (inl less))
    (λ le. ⊎_elim
    (λ same. ⊎_elim
    (λ below. inl (inr (same, below)))
    (λ from. ⊎_elim
    (λ one. absurd (differs (λ i. record { file = same i; page = one i })))
    (λ other. inr (inr (sym same, omega arith)))
    (cases_eq a.page b.page))
    (cases_lt a.page b.page))
    (λ other. inr (inl (omega arith)))
    (cases_eq a.file b.file))
    (cases_lt a.file b.file)

-- what the comparison of two pages computes
pub IsBefore-comes_before : (a b : FilePage) → comes_before (Some a) b ≡ true → IsBefore a b
IsBefore-comes_before a b e =
    ⊎_elim
    (λ less. inl less)
    (λ le. inr (grind (arith, nat_tests), grind (arith, nat_tests)))
    (cases_lt a.file b.file)

pub comes_before-IsBefore : (a b : FilePage) → IsBefore a b → comes_before (Some a) b ≡ true
comes_before-IsBefore a b (inl less) = grind (arith, nat_tests)
comes_before-IsBefore a b (inr later) = let same = later.0 in let less = later.1 in grind (arith, nat_tests)
