-- The entries of a processor are compared with what it was answered, one after the other.
use Rattle.std.proofs.Common.{◌≡◌, ◌≢◌, ℕ, ◌+◌, ◌==◌, ◌<◌, ◌≤◌, Bool, true, false, List, [], ◌∷◌, length, drop, map}
use Rattle.std.proofs.Common.{get_or, cond, refl, sym, ap, ◌∙◌, arith}
use Rattle.std.proofs.lemmas.Bool.{false≢true}
use Rattle.std.proofs.lemmas.Bool.Decides.{nat_tests}
use Rattle.std.proofs.lemmas.List.{at_drop_more, drop_more, drop_all, length-drop}
use Rattle.std.specs.Prelude.{filter, ◌↔◌}
use Rattle.machine.specs.declared.act.Act.{Act}
use Rattle.machine.specs.declared.act.Reply.{Reply}
use Rattle.service.specs.declared.entry.Entry.{Entry}
use Rattle.service.specs.Trace.{of_processor}

abbrev answer : Entry → Act × Reply
answer e = (e.step.act, e.reply)

-- the entries from one on, whose processor is this one or not
from_here : (p : ℕ) (trace : List Entry) (i : ℕ) (e : Entry) (b : Bool) → i < length trace → e ≡ get_or trace i e
    → (e.step.p == p) ≡ b
    → of_processor p (drop i trace)
    ≡ map answer (cond b (e ∷ filter (λ (x : Entry). x.step.p == p) (drop (i + 1) trace))
    (filter (λ (x : Entry). x.step.p == p) (drop (i + 1) trace)))
from_here p trace i e b within is same =
    let rest : List Entry = drop (i + 1) trace in
    let kept : List Entry = filter (λ (x : Entry). x.step.p == p) rest in
    at_drop_more (λ l. of_processor p l) trace i e within
    ∙ ap (λ (x : Entry). of_processor p (x ∷ rest)) (sym is)
    ∙ ap (λ (t : Bool). map answer (cond t (e ∷ kept) kept)) same

-- what is left of the entries is what is left of the answers, exactly if all entries are all answers
abbrev pub AreLeft : ℕ → List Entry → List (Act × Reply) → ℕ → ℕ → Type 0
AreLeft p trace answered i met = (of_processor p (drop i trace) ≡ drop met answered)
    ↔ (of_processor p trace ≡ answered)

heads : {X : Type 0} (x y : X) (xs ys : List X) → (x ∷ xs) ≡ (y ∷ ys) → x ≡ y
heads x y xs ys same = ap (λ l. get_or l 0 x) same

tails : {X : Type 0} (x y : X) (xs ys : List X) → (x ∷ xs) ≡ (y ∷ ys) → xs ≡ ys
tails x y xs ys same = ap (λ l. drop 1 l) same

longer : {X : Type 0} (x : X) (xs ys : List X) → (x ∷ xs) ≡ ys → ys ≡ [] → ⊥
longer x xs ys same none = let counted = ap (λ l. length l) (same ∙ none) in omega (arith, counted)

pub other_entry : (p : ℕ) (trace : List Entry) (answered : List (Act × Reply)) (i met : ℕ) (e : Entry)
    → i < length trace → e ≡ get_or trace i e → (e.step.p == p) ≡ false → AreLeft p trace answered i met
    → AreLeft p trace answered (i + 1) met
other_entry p trace answered i met e within is other left =
    let here = from_here p trace i e false within is other in
    (λ same. left.0 (here ∙ same), λ all. sym here ∙ left.1 all)

pub its_entry : (p : ℕ) (trace : List Entry) (answered : List (Act × Reply)) (i met : ℕ) (e : Entry) (a : Act × Reply)
    → i < length trace → e ≡ get_or trace i e → (e.step.p == p) ≡ true
    → met < length answered → a ≡ get_or answered met a → a ≡ answer e
    → AreLeft p trace answered i met → AreLeft p trace answered (i + 1) (met + 1)
its_entry p trace answered i met e a within is same some a_is answers left =
    let here = from_here p trace i e true within is same in
    let next : drop met answered ≡ answer e ∷ drop (met + 1) answered =
    drop_more answered met a some ∙ ap (λ (x : Act × Reply). x ∷ drop (met + 1) answered) (sym a_is ∙ answers) in (
      λ so. left.0 (here ∙ ap (λ (l : List (Act × Reply)). answer e ∷ l) so ∙ sym next),
      λ all. tails (answer e) (answer e) (of_processor p (drop (i + 1) trace)) (drop (met + 1) answered)
          (sym here ∙ left.1 all ∙ next),
    )

-- an entry that isn't the next answer
pub another_answer : (p : ℕ) (trace : List Entry) (answered : List (Act × Reply)) (i met : ℕ) (e : Entry)
    (a : Act × Reply) → i < length trace → e ≡ get_or trace i e → (e.step.p == p) ≡ true
    → met < length answered → a ≡ get_or answered met a → (a ≡ answer e → ⊥)
    → AreLeft p trace answered i met → of_processor p trace ≡ answered → ⊥
another_answer p trace answered i met e a within is same some a_is differs left all =
    let here = from_here p trace i e true within is same in
    let rest : List (Act × Reply) = drop (met + 1) answered in
    let next : drop met answered ≡ a ∷ rest =
    drop_more answered met a some ∙ ap (λ (x : Act × Reply). x ∷ rest) (sym a_is) in
    differs (sym (heads (answer e) a (of_processor p (drop (i + 1) trace)) rest (sym here ∙ left.1 all ∙ next)))

-- an entry after all answers
pub one_too_many : (p : ℕ) (trace : List Entry) (answered : List (Act × Reply)) (i met : ℕ) (e : Entry)
    → i < length trace → e ≡ get_or trace i e → (e.step.p == p) ≡ true → length answered ≤ met
    → AreLeft p trace answered i met → of_processor p trace ≡ answered → ⊥
one_too_many p trace answered i met e within is same none left all =
    let here = from_here p trace i e true within is same in
    longer (answer e) (of_processor p (drop (i + 1) trace)) (drop met answered) (sym here ∙ left.1 all)
    (drop_all met answered none)

-- after all entries
pub at_the_end : (p : ℕ) (trace : List Entry) (answered : List (Act × Reply)) (i met : ℕ)
    → length trace ≤ i → length answered ≤ met → AreLeft p trace answered i met → of_processor p trace ≡ answered
at_the_end p trace answered i met last none left =
    left.0 (ap (λ (l : List Entry). of_processor p l) (drop_all i trace last) ∙ sym (drop_all met answered none))

pub one_too_few : (p : ℕ) (trace : List Entry) (answered : List (Act × Reply)) (i met : ℕ)
    → length trace ≤ i → met < length answered → AreLeft p trace answered i met → of_processor p trace ≡ answered → ⊥
one_too_few p trace answered i met last some left all =
    let none : drop met answered ≡ [] =
    sym (left.1 all) ∙ ap (λ (l : List Entry). of_processor p l) (drop_all i trace last) in
    let counted = ap (λ (l : List (Act × Reply)). length l) none in
    omega (arith, counted, some, length-drop met answered)

-- whether all entries are all answers, after all entries
pub decided : (p : ℕ) (trace : List Entry) (answered : List (Act × Reply)) (i met : ℕ)
    → length trace ≤ i → met ≤ length answered → AreLeft p trace answered i met
    → ((met == length answered) ≡ true) ↔ (of_processor p trace ≡ answered)
decided p trace answered i met last most left = by (met == length answered) refl
  where
    by : (b : Bool) → (met == length answered) ≡ b → (b ≡ true) ↔ (of_processor p trace ≡ answered)
    by true same =
        let eq : met ≡ length answered = grind (arith, nat_tests) in
        (λ _. at_the_end p trace answered i met last (omega (arith, eq)) left, λ _. refl)
    by false differs =
        let ne : met ≢ length answered = grind (arith, nat_tests) in (
          λ no. absurd (false≢true no),
          λ all. absurd (one_too_few p trace answered i met last (omega (arith, ne, most)) left all),
        )
