-- What is cached after a fill or an invalidation, and that each leaves a TLB.
use Rattle.std.proofs.Common.{◌≡◌, ◌<◌, ◌≤◌, ℕ, zero, suc, Bool, true, false, not, cond, ltb, List, [], ◌∷◌, ◌++◌}
use Rattle.std.proofs.Common.{length, get_or, take, drop, Some, refl, subst, arith, All}
use Rattle.std.specs.List.{filter, find, remove, AllPairs}
use Rattle.std.proofs.lemmas.Bool.{eq-eqb}
use Rattle.std.proofs.lemmas.Bool.Decides.{nat_tests}
use Rattle.std.proofs.lemmas.List.{length-append, length-drop, length-take}
use Rattle.std.proofs.lemmas.List.Elements.{All-append, All-drop, All-take, All-filter, filter_passes}
use Rattle.std.proofs.lemmas.List.Kept.{AllPairs-cons, AllPairs-filter}
use Rattle.std.proofs.lemmas.List.Sums.{count_by-le-length, length-filter}
use Rattle.pcid_tlb.specs.declared.CachedEntry.{CachedEntry}
use Rattle.pcid_tlb.specs.Tlb.{TlbState, is_of, cached, keep_entries, without_page}
use Rattle.pcid_tlb.specs.Tlb.{cr3_loaded, with_room, filled, evicted, AreApart, IsTlb}

-- an element leaves
pub All-remove : {X : Type 0} (P : X → Type 0) (xs : List X) (k : ℕ) → All P xs → All P (remove xs k)
All-remove P xs k all = All-append P (take k xs) (drop (suc k) xs) (All-take P k xs all) (All-drop P (suc k) xs all)

module _ {X : Type 0} (R : X → X → Type 0) where
  AllPairs-tail : (x : X) (xs : List X) → AllPairs R (x ∷ xs) → AllPairs R xs
  AllPairs-tail x xs pairs = λ i j d below within. pairs (suc i) (suc j) d (omega arith) (omega arith)

  All-head_apart : (x : X) (xs : List X) → AllPairs R (x ∷ xs) → All (R x) xs
  All-head_apart x xs pairs = λ k d within. pairs 0 (suc k) d (omega arith) (omega arith)

  AllPairs-push : (xs : List X) (x : X) → AllPairs R xs → All (λ y. R y x) xs → AllPairs R (xs ++ x ∷ [])
  AllPairs-push [] x pairs apart = λ i j d below within. absurd (omega arith)
  AllPairs-push (y ∷ ys) x pairs apart =
      AllPairs-cons R y (ys ++ x ∷ [])
      (All-append (R y) ys (x ∷ []) (All-head_apart y ys pairs) (one (R y) x (apart 0 y (omega arith))))
      (AllPairs-push ys x (AllPairs-tail y ys pairs) (λ k d within. apart (suc k) d (omega arith)))
    where
      one : (P : X → Type 0) (x : X) → P x → All P (x ∷ [])
      one P x holds zero d within = holds
      one P x holds (suc k) d within = absurd (omega arith)

  AllPairs-drop : (n : ℕ) (xs : List X) → AllPairs R xs → AllPairs R (drop n xs)
  AllPairs-drop zero xs pairs = pairs
  AllPairs-drop (suc n) [] pairs = pairs
  AllPairs-drop (suc n) (x ∷ xs) pairs = AllPairs-drop n xs (AllPairs-tail x xs pairs)

  AllPairs-remove : (xs : List X) (k : ℕ) → AllPairs R xs → AllPairs R (remove xs k)
  AllPairs-remove [] k pairs = empty k
    where
      empty : (k : ℕ) → AllPairs R (remove [] k)
      empty zero = λ i j d below within. absurd (omega arith)
      empty (suc k) = λ i j d below within. absurd (omega arith)
  AllPairs-remove (x ∷ xs) zero pairs = AllPairs-tail x xs pairs
  AllPairs-remove (x ∷ xs) (suc k) pairs =
      AllPairs-cons R x (remove xs k) (All-remove (R x) xs k (All-head_apart x xs pairs))
      (AllPairs-remove xs k (AllPairs-tail x xs pairs))

length-remove-le : {X : Type 0} (xs : List X) (k : ℕ) → length (remove xs k) ≤ length xs
length-remove-le xs k =
    omega (arith, length-append (take k xs) (drop (suc k) xs), length-take k xs, length-drop (suc k) xs)

length-filter-le : {X : Type 0} (p : X → Bool) (xs : List X) → length (filter p xs) ≤ length xs
length-filter-le p xs = omega (arith, length-filter p xs, count_by-le-length p xs)

-- what holds of each entry holds of those that an invalidation leaves
pub All-kept : (P : CachedEntry → Type 0) (test : CachedEntry → Bool) (t : TlbState) → All P t.entries
    → All P (keep_entries test t).entries
All-kept P test t all = All-filter test P t.entries all

pub All-cr3_loaded : (P : CachedEntry → Type 0) (t : TlbState) (pcid : ℕ) (keep : Bool) → All P t.entries
    → All P (cr3_loaded t pcid keep).entries
All-cr3_loaded P t pcid true all = all
All-cr3_loaded P t pcid false all = All-filter _ P t.entries all

pub All-evicted : (P : CachedEntry → Type 0) (t : TlbState) (slot : ℕ) → All P t.entries
    → All P (evicted t slot).entries
All-evicted P t slot all = All-remove P t.entries slot all

All-with_room : (P : CachedEntry → Type 0) (capacity : ℕ) (entries : List CachedEntry) → All P entries
    → All P (with_room capacity entries)
All-with_room P capacity entries all = by_test (ltb (length entries) capacity)
  where
    by_test : (b : Bool) → All P (cond b entries (drop 1 entries))
    by_test true = all
    by_test false = All-drop P 1 entries all

-- what holds of each entry and of a new one holds of each after its fill
pub All-filled : (P : CachedEntry → Type 0) (t : TlbState) (e : CachedEntry) → All P t.entries → P e
    → All P (filled t e).entries
All-filled P t e all here =
    let kept = filter (λ x. not (is_of e.pcid e.page x)) t.entries in
    All-append P (with_room t.capacity kept) (e ∷ [])
    (All-with_room P t.capacity kept (All-filter _ P t.entries all)) (one here)
  where
    one : P e → All P (e ∷ [])
    one holds zero d within = holds
    one holds (suc k) d within = absurd (omega arith)

-- fewer entries are a TLB
pub IsTlb-keep_entries : (test : CachedEntry → Bool) (t : TlbState) → IsTlb t → IsTlb (keep_entries test t)
IsTlb-keep_entries test t is = record {
  roomy = is.roomy;
  bounded = omega (arith, is.bounded, length-filter-le test t.entries);
  distinct = AllPairs-filter AreApart test t.entries is.distinct;
}

pub IsTlb-evicted : (t : TlbState) (slot : ℕ) → IsTlb t → IsTlb (evicted t slot)
IsTlb-evicted t slot is = record {
  roomy = is.roomy;
  bounded = omega (arith, is.bounded, length-remove-le t.entries slot);
  distinct = AllPairs-remove AreApart t.entries slot is.distinct;
}

pub IsTlb-cr3_loaded : (t : TlbState) (pcid : ℕ) (keep : Bool) → IsTlb t → IsTlb (cr3_loaded t pcid keep)
IsTlb-cr3_loaded t pcid true is = is
IsTlb-cr3_loaded t pcid false is = IsTlb-keep_entries _ t is

-- an entry that is not of a page of a PCID is apart from one that is
AreApart-not_is_of : (x e : CachedEntry) → not (is_of e.pcid e.page x) ≡ true → AreApart x e
AreApart-not_is_of x e other pcid page =
    let here : is_of e.pcid e.page x ≡ true = rw (eq-eqb x.pcid e.pcid pcid, eq-eqb x.page e.page page) in
    let wrong : not true ≡ true = rw here at other in
    cc

-- what is left without a page of a PCID is apart from an entry of it
pub apart-without_page : (t : TlbState) (e : CachedEntry)
    → All (λ x. AreApart x e) (without_page t e.pcid e.page).entries
apart-without_page t e =
    let test : CachedEntry → Bool = λ x. not (is_of e.pcid e.page x) in
    λ k d within. AreApart-not_is_of (get_or (filter test t.entries) k d) e (filter_passes test t.entries k d within)

-- an entry that is apart from all others is added where it fits
pub IsTlb-push : (capacity : ℕ) (entries new : List CachedEntry) (e : CachedEntry)
    → IsTlb (record { capacity = capacity; entries = entries })
    → All (λ x. AreApart x e) entries → length entries < capacity → new ≡ entries ++ e ∷ []
    → IsTlb (record { capacity = capacity; entries = new })
IsTlb-push capacity entries new e is apart fits same = rw same (record {
  roomy = is.roomy;
  bounded = omega (arith, length-append entries (e ∷ []));
  distinct = AllPairs-push AreApart entries e is.distinct apart;
})

with_room-fits : (capacity : ℕ) (entries : List CachedEntry) → 0 < capacity → length entries ≤ capacity
    → length (with_room capacity entries) < capacity
with_room-fits capacity entries roomy bounded = grind (arith, nat_tests, length-drop {A = CachedEntry})

AllPairs-with_room : (capacity : ℕ) (entries : List CachedEntry) → AllPairs AreApart entries
    → AllPairs AreApart (with_room capacity entries)
AllPairs-with_room capacity entries pairs = by_test (ltb (length entries) capacity)
  where
    by_test : (b : Bool) → AllPairs AreApart (cond b entries (drop 1 entries))
    by_test true = pairs
    by_test false = AllPairs-drop AreApart 1 entries pairs

pub IsTlb-filled : (t : TlbState) (e : CachedEntry) → IsTlb t → IsTlb (filled t e)
IsTlb-filled t e is =
    let test : CachedEntry → Bool = λ x. not (is_of e.pcid e.page x) in
    let kept = filter test t.entries in
    let left = IsTlb-keep_entries test t is in
    let roomed : IsTlb (record { capacity = t.capacity; entries = with_room t.capacity kept }) = record {
      roomy = is.roomy;
      bounded = omega (arith, with_room-fits t.capacity kept is.roomy left.bounded);
      distinct = AllPairs-with_room t.capacity kept left.distinct;
    } in
    IsTlb-push t.capacity (with_room t.capacity kept) _ e roomed
    (All-with_room (λ x. AreApart x e) t.capacity kept (apart-without_page t e))
    (with_room-fits t.capacity kept is.roomy left.bounded) refl

-- what is found passes the test, and has what every element has
found_passes : {X : Type 0} (p : X → Bool) (P : X → Type 0) (xs : List X) (y : X) → All P xs → find p xs ≡ Some y
    → (p y ≡ true) × P y
found_passes p P [] y all found = absurd (cc)
found_passes {X} p P (x ∷ xs) y all found =
    go (p x) refl found (λ f. found_passes p P xs y (λ k d within. all (suc k) d (omega arith)) f)
  where
    go : (here : Bool) → p x ≡ here → cond here (Some x) (find p xs) ≡ Some y
        → (find p xs ≡ Some y → (p y ≡ true) × P y)
        → (p y ≡ true) × P y
    go true passes f later = let same : x ≡ y = cc in (rw (← same) passes, subst P same (all 0 x (omega arith)))
    go false fails f later = later f

is_of-parts : (pcid page : ℕ) (e : CachedEntry) → is_of pcid page e ≡ true → (e.pcid ≡ pcid) × (e.page ≡ page)
is_of-parts pcid page e here = (grind (arith, nat_tests), grind (arith, nat_tests))

-- a cached entry is of its page and PCID, and has what every entry has
pub cached-All : (P : CachedEntry → Type 0) (t : TlbState) (pcid page : ℕ) (e : CachedEntry)
    → All P t.entries → cached t pcid page ≡ Some e
    → (e.pcid ≡ pcid) × (e.page ≡ page) × P e
cached-All P t pcid page e all found =
    let both = found_passes (is_of pcid page) P t.entries e all found in
    let parts = is_of-parts pcid page e both.0 in
    (parts.0, parts.1, both.1)
