-- Each processor by its number: what a loop over processors has made so far, and what it makes of all.
use Rattle.std.proofs.Common.{◌≡◌, ◌≢◌, ℕ, zero, suc, ◌+◌, ◌<◌, ◌≤◌, ◌⊎◌, inl, inr, ◌-◌, List, [], ◌∷◌, ◌++◌, length}
use Rattle.std.proofs.Common.{map, get_or, set, refl, sym, ap, ◌∙◌, arith, get_or-set_same, get_or-set_other}
use Rattle.std.specs.List.{range_with_len}
use Rattle.std.proofs.lemmas.Bool.{cases_eq}
use Rattle.std.proofs.lemmas.List.{get_or_default, same_lists}
use Rattle.std.proofs.lemmas.List.FromFn.{map-range_with_len_more}
use Rattle.pcid_tlb.specs.declared.Invpcid.TheVariants.{IndividualAddress}
use Rattle.shootdown.specs.Processors.{Processor}
use Rattle.shootdown.specs.inside.Notifying.{each_from}

pub length-each_from : (f : ℕ → Processor → Processor) (i : ℕ) (xs : List Processor)
    → length (each_from f i xs) ≡ length xs
length-each_from f i [] = refl
length-each_from f i (x ∷ xs) = ap suc (length-each_from f (i + 1) xs)

from_next : (i k : ℕ) → i + 1 + k ≡ i + suc k
from_next i k = omega arith

pub get_or-each_from : (f : ℕ → Processor → Processor) (i : ℕ) (xs : List Processor) (k : ℕ) (d e : Processor)
    → k < length xs
    → get_or (each_from f i xs) k d ≡ f (i + k) (get_or xs k e)
get_or-each_from f i [] k d e within = absurd (omega arith)
get_or-each_from f i (x ∷ xs) zero d e within = let same : i ≡ i + 0 = omega arith in ap (λ n. f n x) same
get_or-each_from f i (x ∷ xs) (suc k) d e within =
    get_or-each_from f (i + 1) xs k d e (omega arith)
    ∙ ap (λ n. f n (get_or xs k e)) (from_next i k)

-- the processors below i are what f makes of them, and those from there on are as they were
pub record IsMadeUpTo (f : ℕ → Processor → Processor) (i : ℕ) (old new : List Processor) : Type 0 where
  pub below : (k : ℕ) (d : Processor) → k < i → get_or new k d ≡ f k (get_or old k d)
  pub rest : (k : ℕ) (d : Processor) → i ≤ k → get_or new k d ≡ get_or old k d

pub made_none : (f : ℕ → Processor → Processor) (xs : List Processor) → IsMadeUpTo f 0 xs xs
made_none f xs = record { below = λ k d less. absurd (omega arith); rest = λ k d le. refl }

pub made_more : (f : ℕ → Processor → Processor) (i : ℕ) (old new : List Processor) (x : Processor)
    → i < length old → length new ≡ length old → x ≡ get_or new i x → IsMadeUpTo f i old new
    → IsMadeUpTo f (i + 1) old (set new i (f i x))
made_more f i old new x within same read made = record {
  below = λ k d less. go k d less (cases_eq k i);
  rest = λ k d le. let other : k ≢ i = λ here. absurd (omega arith) in
      get_or-set_other new i k (f i x) d other ∙ made.rest k d (omega arith);
}
  where
    go : (k : ℕ) (d : Processor) → k < i + 1 → (k ≡ i) ⊎ (k ≡ i → ⊥)
        → get_or (set new i (f i x)) k d ≡ f k (get_or old k d)
    go k d less (inl here) =
        ap (λ n. get_or (set new i (f i x)) n d) here ∙ get_or-set_same new i (f i x) d (omega (arith, same))
        ∙ ap (f i) (read ∙ made.rest i x (omega arith) ∙ get_or_default old i x d within)
        ∙ sym (ap (λ n. f n (get_or old n d)) here)
    go k d less (inr other) =
        get_or-set_other new i k (f i x) d other
        ∙ made.below k d (let apart = other in omega arith)

pub made_all : (f : ℕ → Processor → Processor) (i : ℕ) (old new : List Processor)
    → length new ≡ length old → length old ≤ i → IsMadeUpTo f i old new
    → new ≡ each_from f 0 old
made_all f i old new same all made =
    same_lists new (each_from f 0 old) (same ∙ sym (length-each_from f 0 old)) (λ k d within.
    let below : k < length old = omega (arith, same) in
    made.below k d (omega arith)
    ∙ sym (get_or-each_from f 0 old k d d below ∙ ap (λ n. f n (get_or old k d)) (omega arith)))

-- the invalidations of one page more
pub addresses_more : (pcid first page : ℕ) → first ≤ page
    → map (IndividualAddress pcid) (range_with_len first (page - first)) ++ IndividualAddress pcid page ∷ []
    ≡ map (IndividualAddress pcid) (range_with_len first (page + 1 - first))
addresses_more pcid first page le =
    let n = page - first in
    let next : page + 1 - first ≡ n + 1 = omega arith in
    sym (map-range_with_len_more (IndividualAddress pcid) first n page (omega arith))
    ∙ ap (λ count. map (IndividualAddress pcid) (range_with_len first count)) (sym next)
