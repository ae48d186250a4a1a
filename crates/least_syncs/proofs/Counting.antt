-- Commits by one sync each are told apart by the places that they write.
use Rattle.std.proofs.Common.{◌≡◌, ◌<◌, ◌≤◌, ◌⊎◌, inl, inr, ⊎_elim, ℕ, zero, suc, ◌+◌, ◌*◌, ◌^◌, Bool, true, false}
use Rattle.std.proofs.Common.{List, [], ◌∷◌, ◌++◌, length, refl, sym, ◌∙◌, subst, arith, eqb, eqb-true, ne_eqb, pow-suc}
use Rattle.std.proofs.lemmas.Bool.{cases_lt}
use Rattle.std.proofs.lemmas.Bool.Decides.{nat_tests}
use Rattle.std.proofs.lemmas.Map.Steps.{length-le_from_distinct_below}
use Rattle.std.specs.Prelude.{◌≢◌, ◌&&◌, ◌||◌, nat_le, nat_lt, if◌then◌else◌}
use Rattle.std.specs.List.{list_any, AllByRecursion, IsDistinct}
use Rattle.device.specs.Memory.{DiskChange, Recorded, is_unsynced, seen_of}
use Rattle.device.specs.Memory.DiskChange.{write, sync}
use Rattle.least_syncs.specs.Commit.{AreWithin, AreByOneSync, HasMade, before_sync, is_open}
use Rattle.least_syncs.proofs.Early.{within_early, within_past, length_content}
use Rattle.least_syncs.proofs.Alike.{fits, same_places, two_syncs}

-- the first n answers as a number in base two
abbrev code : (ℕ → Bool) → ℕ → ℕ
code p zero = 0
code p (suc n) = 2 * code p n + (if p n then 1 else 0)

digit : (b : Bool) → (if b then 1 else 0) ≤ 1
digit true = omega arith
digit false = omega arith

code_below : (p : ℕ → Bool) (n : ℕ) → code p n < 2 ^ n
code_below p zero = omega arith
code_below p (suc n) = omega (arith, code_below p n, digit (p n), pow-suc 2 n)

digits : (a b : Bool) (x y : ℕ) → 2 * x + (if a then 1 else 0) ≡ 2 * y + (if b then 1 else 0) → (a ≡ b) × (x ≡ y)
digits true true x y same = (refl, omega (arith, same))
digits false false x y same = (refl, omega (arith, same))
digits true false x y same = absurd (omega (arith, same))
digits false true x y same = absurd (omega (arith, same))

code_tells : (p q : ℕ → Bool) (n : ℕ) → code p n ≡ code q n → (i : ℕ) → i < n → p i ≡ q i
code_tells p q zero same i lt = absurd (omega (arith, lt))
code_tells p q (suc n) same i lt =
    let last = digits (p n) (q n) (code p n) (code q n) same in
    ⊎_elim
    (λ (less : i < n). code_tells p q n last.1 i less)
    (λ (past : n ≤ i).
    let is : n ≡ i = omega (arith, lt, past) in
    subst (λ k. p k ≡ q k) is last.0)
    (cases_lt i n)

-- the first n of these numbers, the last one first
abbrev listed : (ℕ → ℕ) → ℕ → List ℕ
listed f zero = []
listed f (suc n) = f n ∷ listed f n

length-listed : (f : ℕ → ℕ) (n : ℕ) → length (listed f n) ≡ n
length-listed f zero = refl
length-listed f (suc n) = omega (arith, length-listed f n)

others : (f : ℕ → ℕ) (x n : ℕ) → ((j : ℕ) → j < n → x ≢ f j) → AllByRecursion (λ y. eqb x y ≡ false) (listed f n)
others f x zero apart = tt
others f x (suc n) apart = (ne_eqb x (f n) (apart n (omega arith)), others f x n (λ j lt. apart j (omega (arith, lt))))

distinct : (f : ℕ → ℕ) (n : ℕ) → ((i j : ℕ) → i < n → j < i → f i ≢ f j) → IsDistinct eqb (listed f n)
unfolding IsDistinct
distinct f zero apart = tt
distinct f (suc n) apart = (
  others f (f n) n (λ j lt. apart n j (omega arith) lt),
  distinct f n (λ i j lt before. apart i j (omega (arith, lt)) before),
)

found : {P : Type 0} (here rest : Bool) → (here ≡ true → P) → (here || rest) ≡ true → P ⊎ (rest ≡ true)
found true rest holds is = inl (holds refl)
found false rest holds is = inr is

below : (f : ℕ → ℕ) (n m q : ℕ) → ((i : ℕ) → f i < m) → list_any (eqb q) (listed f n) ≡ true → q < m
below f zero m q all is = cc is
below f (suc n) m q all is = ⊎_elim
    (λ (here : q ≡ f n). omega (arith, here, all n))
    (λ there. below f n m q all there)
    (found (eqb q (f n)) (list_any (eqb q) (listed f n)) (λ e. eqb-true q (f n) e) is)

-- numbers below m of which no two are equal are at most m
no_more : (f : ℕ → ℕ) (n m : ℕ) → ((i : ℕ) → f i < m) → ((i j : ℕ) → i < n → j < i → f i ≢ f j) → n ≤ m
no_more f n m all apart =
    omega (
      arith,
      length-listed f n,
      length-le_from_distinct_below (listed f n) m (distinct f n apart) (λ q is. below f n m q all is),
    )

outside : (at k i n : ℕ) (before : Bool) → at + k ≤ n → n ≤ i → ((nat_le at i && nat_lt i (at + k)) || before) ≡ before
outside at k i n before fits past = grind (arith, nat_tests)

unwritten_past : (n : ℕ) (changes : List DiskChange) (i : ℕ) → AreWithin n changes → n ≤ i
    → is_unsynced changes i ≡ false
unwritten_past n [] i within past = refl
unwritten_past n (write at bytes ∷ older) i within past =
    outside at (length bytes) i n (is_unsynced older i) within.0 past ∙ unwritten_past n older i within.1 past
unwritten_past n (sync ∷ older) i within past = refl

-- no place past the end is unsynced
not_past : (begun : Recorded) (calls : List DiskChange) (ended : Recorded) (i : ℕ)
    → HasMade begun calls ended → length begun.first ≤ i
    → is_open begun calls i ≡ false
not_past begun calls ended i made past =
    unwritten_past (length begun.first) (before_sync calls ++ begun.changes) i
    (within_early (length begun.first) calls begun.changes (fits begun calls ended made)) past

pub few_contents : {C : Type 0} (recovers : List ℕ → C → Type 0) (old : C) (begun : Recorded)
    (n : ℕ) (new : ℕ → C) (calls : ℕ → List DiskChange) (ended : ℕ → Recorded)
    → AreByOneSync recovers old begun n new calls ended
    → n ≤ 2 ^ length (seen_of begun)
few_contents recovers old begun n new calls ended are = ⊎_elim
    (λ (some : 0 < n).
    let size = length begun.first in
    let within = within_past size (calls 0) begun.changes (fits begun (calls 0) (ended 0) (are.each 0 some).made) in
    let long = length_content begun.first begun.changes within in
    let f = λ (i : ℕ). code (is_open begun (calls i)) size in
    subst (λ k. n ≤ 2 ^ k) (sym long)
    (no_more f n (2 ^ size) (λ i. code_below (is_open begun (calls i)) size) (λ i j lt before same.
    let one = are.each j (omega (arith, lt, before)) in
    let two = are.each i lt in
    let places = λ (k : ℕ). ⊎_elim
    (λ (inside : k < size). sym (code_tells (is_open begun (calls i)) (is_open begun (calls j)) size same k inside))
    (λ (past : size ≤ k).
    not_past begun (calls j) (ended j) k one.made past ∙ sym (not_past begun (calls i) (ended i) k two.made past))
    (cases_lt k size) in
    let enough = two_syncs recovers old (new j) (new i) begun (ended j) (ended i) (calls j) (calls i) one two
    (same_places begun (calls j) (calls i) (ended i) two.made places) (are.apart i lt).0
    ((are.apart i lt).1 j before) in
    omega (arith, enough, are.few i lt))))
    (λ (none : n ≤ 0). omega (arith, none))
    (cases_lt 0 n)
