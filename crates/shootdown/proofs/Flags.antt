-- The flags of a processor, one for each PCID: what stays of them when some are cleared.
use Rattle.std.proofs.Common.{◌≡◌, ◌≢◌, ℕ, zero, suc, ◌+◌, ◌<◌, Bool, true, false, ◌&&◌, eqb}
use Rattle.std.proofs.Common.{List, [], ◌∷◌, length, get_or, set, replicate, refl, sym, ap, ◌∙◌}
use Rattle.std.proofs.Common.{inl, inr, arith, add-zero, get_or-set_same, get_or-set_other}
use Rattle.std.proofs.lemmas.Bool.{cases_lt}
use Rattle.std.proofs.lemmas.Bool.Decides.{nat_tests}
use Rattle.std.proofs.lemmas.List.{length-set, length-replicate, get_or-replicate, get_or_past, ext_get_or}
use Rattle.shootdown.specs.Processors.{flags_kept, first_flags, pcids}

pub length-flags_kept : (passes : ℕ → Bool) (i : ℕ) (flags : List Bool)
    → length (flags_kept passes i flags) ≡ length flags
length-flags_kept passes i [] = refl
length-flags_kept passes i (flag ∷ flags) = ap suc (length-flags_kept passes (i + 1) flags)

from_next : (i k : ℕ) → i + 1 + k ≡ i + suc k
from_next i k = omega arith

-- a flag stays where its PCID passes
pub get_or-flags_kept_from : (passes : ℕ → Bool) (i : ℕ) (flags : List Bool) (k : ℕ)
    → get_or (flags_kept passes i flags) k false ≡ (get_or flags k false && passes (i + k))
get_or-flags_kept_from passes i [] k = refl
get_or-flags_kept_from passes i (flag ∷ flags) zero = ap (λ n. flag && passes n) (sym (add-zero i))
get_or-flags_kept_from passes i (flag ∷ flags) (suc k) =
    get_or-flags_kept_from passes (i + 1) flags k ∙ ap (λ n. get_or flags k false && passes n) (from_next i k)

pub get_or-flags_kept : (passes : ℕ → Bool) (flags : List Bool) (k : ℕ)
    → get_or (flags_kept passes 0 flags) k false ≡ (get_or flags k false && passes k)
get_or-flags_kept passes flags k =
    get_or-flags_kept_from passes 0 flags k
    ∙ ap (λ n. get_or flags k false && passes n) (omega arith)

-- flags that are so at each PCID are those that stay
pub flags_kept-from_each : (passes : ℕ → Bool) (flags new : List Bool) → length new ≡ length flags
    → ((k : ℕ) → k < length flags → get_or new k false ≡ (get_or flags k false && passes k))
    → new ≡ flags_kept passes 0 flags
flags_kept-from_each passes flags new same each =
    ext_get_or false new (flags_kept passes 0 flags) (same ∙ sym (length-flags_kept passes 0 flags))
    (λ k within. each k (omega (arith, same)) ∙ sym (get_or-flags_kept passes flags k))

and_true : (b : Bool) → (b && true) ≡ b
and_true true = refl
and_true false = refl

and_false : (b : Bool) → (b && false) ≡ false
and_false true = refl
and_false false = refl

and_and : (a b c : Bool) → ((a && b) && c) ≡ (a && (b && c))
and_and true b c = refl
and_and false b c = refl

-- all flags stay where each PCID passes
pub flags_kept_all : (passes : ℕ → Bool) (flags : List Bool) → ((k : ℕ) → k < length flags → passes k ≡ true)
    → flags ≡ flags_kept passes 0 flags
flags_kept_all passes flags all = flags_kept-from_each passes flags flags refl
    (λ k within. sym (ap (λ b. get_or flags k false && b) (all k within) ∙ and_true (get_or flags k false)))

-- what stays of what stays
pub flags_kept-flags_kept : (p q : ℕ → Bool) (flags : List Bool)
    → flags_kept q 0 (flags_kept p 0 flags) ≡ flags_kept (λ k. p k && q k) 0 flags
flags_kept-flags_kept p q flags =
    flags_kept-from_each (λ k. p k && q k) flags (flags_kept q 0 (flags_kept p 0 flags))
    (length-flags_kept q 0 (flags_kept p 0 flags) ∙ length-flags_kept p 0 flags)
    (λ k within. get_or-flags_kept q (flags_kept p 0 flags) k ∙ ap (λ b. b && q k) (get_or-flags_kept p flags k)
    ∙ and_and (get_or flags k false) (p k) (q k))

-- the flag of one PCID is cleared
pub set-flags_kept : (passes : ℕ → Bool) (flags : List Bool) (pcid : ℕ)
    → pcid < length flags → passes pcid ≡ false → ((k : ℕ) → k ≢ pcid → passes k ≡ true)
    → set flags pcid false ≡ flags_kept passes 0 flags
set-flags_kept passes flags pcid within cleared others =
    flags_kept-from_each passes flags (set flags pcid false) (length-set flags pcid false)
    (λ k below. at k (eqb k pcid) refl)
  where
    at : (k : ℕ) (b : Bool) → eqb k pcid ≡ b
        → get_or (set flags pcid false) k false ≡ (get_or flags k false && passes k)
    at k true here =
        let same : k ≡ pcid = grind (arith, nat_tests) in
        ap (λ n. get_or (set flags pcid false) n false) same ∙ get_or-set_same flags pcid false false within
        ∙ sym (ap (λ n. get_or flags k false && passes n) same ∙ ap (λ b. get_or flags k false && b) cleared
        ∙ and_false (get_or flags k false))
    at k false here =
        let other : k ≢ pcid = grind (arith, nat_tests) in
        get_or-set_other flags pcid k false false other
        ∙ sym (ap (λ b. get_or flags k false && b) (others k other) ∙ and_true (get_or flags k false))

-- all flags are cleared but that of one PCID: it was set, or not
pub cleared-set : (flags : List Bool) (pcid : ℕ) → pcid < length flags → get_or flags pcid false ≡ true
    → set (replicate (length flags) false) pcid true ≡ flags_kept (λ k. eqb k pcid) 0 flags
cleared-set flags pcid within was =
    flags_kept-from_each (λ k. eqb k pcid) flags (set (replicate (length flags) false) pcid true)
    (length-set (replicate (length flags) false) pcid true ∙ length-replicate (length flags) false)
    (λ k below. at k below (eqb k pcid) refl)
  where
    at : (k : ℕ) → k < length flags → (b : Bool) → eqb k pcid ≡ b
        → get_or (set (replicate (length flags) false) pcid true) k false ≡ (get_or flags k false && eqb k pcid)
    at k below true here =
        let same : k ≡ pcid = grind (arith, nat_tests) in
        ap (λ n. get_or (set (replicate (length flags) false) pcid true) n false) same
        ∙ get_or-set_same (replicate (length flags) false) pcid true false
        (omega (arith, length-replicate (length flags) false))
        ∙ sym (ap (λ b. get_or flags k false && b) here ∙ and_true (get_or flags k false)
        ∙ ap (λ n. get_or flags n false) same ∙ was)
    at k below false here =
        let other : k ≢ pcid = grind (arith, nat_tests) in
        get_or-set_other (replicate (length flags) false) pcid k true false other
        ∙ get_or-replicate (length flags) k false false below
        ∙ sym (ap (λ b. get_or flags k false && b) here ∙ and_false (get_or flags k false))

pub cleared-clear : (flags : List Bool) (pcid : ℕ) → get_or flags pcid false ≡ false
    → replicate (length flags) false ≡ flags_kept (λ k. eqb k pcid) 0 flags
cleared-clear flags pcid was =
    flags_kept-from_each (λ k. eqb k pcid) flags (replicate (length flags) false)
    (length-replicate (length flags) false)
    (λ k below. get_or-replicate (length flags) k false false below ∙ at k (eqb k pcid) refl)
  where
    at : (k : ℕ) (b : Bool) → eqb k pcid ≡ b → false ≡ (get_or flags k false && eqb k pcid)
    at k true here =
        let same : k ≡ pcid = grind (arith, nat_tests) in
        sym (ap (λ b. b && eqb k pcid) (ap (λ n. get_or flags n false) same ∙ was))
    at k false here = sym (ap (λ b. get_or flags k false && b) here ∙ and_false (get_or flags k false))

-- at boot a processor may cache entries of PCID 0, and of no other
pub get_or-first_flags : get_or first_flags 0 false ≡ true
unfolding first_flags
get_or-first_flags = refl

pub length-first_flags : length first_flags ≡ pcids
unfolding first_flags
length-first_flags = length-set (replicate pcids false) 0 true ∙ length-replicate pcids false

pub get_or-first_flags_later : (k : ℕ) → k ≢ 0 → get_or first_flags k false ≡ false
unfolding first_flags
get_or-first_flags_later k later =
    get_or-set_other (replicate pcids false) 0 k true false later
    ∙ elim (cases_lt k pcids) [
      | inl below ↦ get_or-replicate pcids k false false below
      | inr past ↦ get_or_past (replicate pcids false) k false (omega (arith, length-replicate pcids false))
    ]
