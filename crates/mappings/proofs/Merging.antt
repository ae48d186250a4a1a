-- What a list of mappings is where each two of which the second goes on where the first ends are made one.
use Rattle.std.proofs.Common.{◌≡◌, ℕ, zero, suc, ◌+◌, ◌-◌, ◌<◌, ◌≤◌, Bool, true, false}
use Rattle.std.proofs.Common.{cond, ◌&&◌, ◌==◌, List, [], ◌∷◌, ◌++◌, length, get_or, min}
use Rattle.std.proofs.Common.{take, drop, Some, refl, sym, ap, ◌∙◌, subst, inl, inr, arith}
use Rattle.std.proofs.lemmas.Bool.{cases_lt, false≢true}
use Rattle.std.proofs.lemmas.Bool.Decides.{nat_tests}
use Rattle.std.specs.List.{remove_range}
use Rattle.std.specs.Prelude.{Vec}
use Rattle.std.specs.Vec.{with_items}
use Rattle.std.proofs.lemmas.List.{append_assoc, with_items_is, length-append}
use Rattle.std.proofs.lemmas.List.{length-drop, length-take-le, take-append-le}
use borrow.Rule.Slice.PartMut.{put_mid, Post-is}
use Rattle.mappings.specs.declared.place.Rights.{Rights}
use Rattle.mappings.specs.declared.place.Rights.TheVariants.{Read, ReadWrite}
use Rattle.mappings.specs.declared.mapping.Mapping.{Mapping}
use Rattle.mappings.specs.Places.{same_rights}
use Rattle.mappings.specs.inside.Listed.{covers, place_in, places_of, joins, Beside, IsMerged, IsMapping, IsOrdered}
use Rattle.mappings.specs.inside.Edits.{joined, merged_onto, merged}
use Rattle.mappings.proofs.Lists.{lookup}
use Rattle.mappings.proofs.Changes.{same_places}

-- what a test says of two mappings
pub record Joins (m n : Mapping) : Type 0 where
  pub meet : m.end ≡ n.first
  pub file : m.place.file ≡ n.place.file
  pub page : m.place.page + (m.end - m.first) ≡ n.place.page
  pub rights : m.place.rights ≡ n.place.rights
  pub access : m.place.access ≡ n.place.access

pub same_rights-is : (a b : Rights) → same_rights a b ≡ true → a ≡ b
same_rights-is Read Read e = refl
same_rights-is Read ReadWrite e = absurd (false≢true e)
same_rights-is ReadWrite Read e = absurd (false≢true e)
same_rights-is ReadWrite ReadWrite e = refl

both : (a b : Bool) → (a && b) ≡ true → (a ≡ true) × (b ≡ true)
both true b e = (refl, e)
both false b e = absurd (false≢true e)

pub Joins-from_test : (m n : Mapping) → joins m n ≡ true → Joins m n
Joins-from_test m n e =
    let rights = same_rights m.place.rights n.place.rights in
    let access = same_rights m.place.access n.place.access in
    let page = m.place.page + (m.end - m.first) == n.place.page in
    let file = m.place.file == n.place.file in
    let a = both (m.end == n.first) (file && (page && (rights && access))) e in
    let b = both file (page && (rights && access)) a.1 in
    let c = both page (rights && access) b.1 in
    let d = both rights access c.1 in
    let at = a.0 in let of = b.0 in let further = c.0 in
    record {
      meet = grind (arith, nat_tests);
      file = grind (arith, nat_tests);
      page = grind (arith, nat_tests);
      rights = same_rights-is _ _ d.0;
      access = same_rights-is _ _ d.1;
    }

-- a page of the second is mapped by both together as by itself
place_in-joined : (m n : Mapping) (q : ℕ) → m.first < m.end → Joins m n → n.first ≤ q → place_in m q ≡ place_in n q
place_in-joined m n q few j le =
    let page : m.place.page + (q - m.first) ≡ n.place.page + (q - n.first) = omega (arith, j.meet, j.page) in
    λ i. record { file = j.file i; page = page i; rights = j.rights i; access = j.access i }

IsMapping-joined : (m n : Mapping) → IsMapping m → IsMapping n → Joins m n → IsMapping (joined m n)
IsMapping-joined m n a b j = record {
  has_pages = omega (arith, a.has_pages, b.has_pages, j.meet);
  below_end = b.below_end;
  in_file = omega (arith, a.has_pages, b.has_pages, b.in_file, j.meet, j.page);
}

-- both together go on as the second does
joins-joined : (m n t : Mapping) → m.first < m.end → n.first < n.end → Joins m n → joins (joined m n) t ≡ joins n t
joins-joined m n t few some j =
    let page : m.place.page + (n.end - m.first) ≡ n.place.page + (n.end - n.first) = omega (arith, j.meet, j.page) in
    λ i. n.end == t.first && (j.file i == t.place.file
    && (page i == t.place.page && (same_rights (j.rights i) t.place.rights && same_rights (j.access i) t.place.access)))

lookup-joined : (q : ℕ) (m n : Mapping) (ms : List Mapping) → m.first < m.end → n.first < n.end → Joins m n
    → lookup q (joined m n ∷ ms) ≡ lookup q (m ∷ n ∷ ms)
lookup-joined q m n ms few some j =
    let meet = j.meet in
    elim (cases_lt q m.end) [
      | inl below ↦
          let missed : covers n q ≡ false = grind (arith, nat_tests) in
          let same : covers (joined m n) q ≡ covers m q = grind (arith, nat_tests) in
          rw (missed, same) refl
      | inr above ↦
          let missed : covers m q ≡ false = grind (arith, nat_tests) in
          let same : covers (joined m n) q ≡ covers n q = grind (arith, nat_tests) in
          rw (missed, same)
          (ap (λ p. cond (covers n q) (Some p) (lookup q ms)) (place_in-joined m n q few j (omega arith)))
    ]

-- mappings that go on are in order when they are one
together : (low : ℕ) (m n : Mapping) (ms : List Mapping) → IsOrdered low (m ∷ n ∷ ms) → Joins m n
    → IsOrdered low (joined m n ∷ ms)
together low m n ms o j = (o.0, IsMapping-joined m n o.1 o.2.1 j, o.2.2)

pub lookup-merged_onto : (q low : ℕ) (m : Mapping) (ms : List Mapping) → IsOrdered low (m ∷ ms)
    → lookup q (merged_onto m ms) ≡ lookup q (m ∷ ms)
lookup-merged_onto q low m [] o = refl
lookup-merged_onto q low m (n ∷ ms) o =
    elim (joins m n) as (λ b.
    joins m n ≡ b → lookup q (cond b (merged_onto (joined m n) ms) (m ∷ merged_onto n ms)) ≡ lookup q (m ∷ n ∷ ms)) [
      | true ↦ λ e.
          let j = Joins-from_test m n e in
          lookup-merged_onto q low (joined m n) ms (together low m n ms o j)
          ∙ lookup-joined q m n ms o.1.has_pages o.2.1.has_pages j
      | false ↦ λ e. ap (λ p. cond (covers m q) (Some (place_in m q)) p) (lookup-merged_onto q m.end n ms o.2)
    ] refl

pub IsOrdered-merged_onto : (low : ℕ) (m : Mapping) (ms : List Mapping) → IsOrdered low (m ∷ ms)
    → IsOrdered low (merged_onto m ms)
IsOrdered-merged_onto low m [] o = o
IsOrdered-merged_onto low m (n ∷ ms) o =
    elim (joins m n)
    as (λ b. joins m n ≡ b → IsOrdered low (cond b (merged_onto (joined m n) ms) (m ∷ merged_onto n ms))) [
      | true ↦ λ e. IsOrdered-merged_onto low (joined m n) ms (together low m n ms o (Joins-from_test m n e))
      | false ↦ λ e. (o.0, o.1, IsOrdered-merged_onto m.end n ms o.2)
    ] refl

abbrev IsApart : Mapping → Mapping → Type 0
IsApart before next = joins before next ≡ false

Beside-merged_onto : (x m : Mapping) (ms : List Mapping) → joins x m ≡ false → Beside IsApart x (merged_onto m ms)
Beside-merged_onto x m [] apart = apart
Beside-merged_onto x m (n ∷ ms) apart =
    elim (joins m n) as (λ b. Beside IsApart x (cond b (merged_onto (joined m n) ms) (m ∷ merged_onto n ms))) [
      | true ↦ Beside-merged_onto x (joined m n) ms apart
      | false ↦ apart
    ]

pub IsMerged-merged_onto : (m : Mapping) (ms : List Mapping) → IsMerged (merged_onto m ms)
IsMerged-merged_onto m [] = (tt, tt)
IsMerged-merged_onto m (n ∷ ms) =
    elim (joins m n) as (λ b. joins m n ≡ b → IsMerged (cond b (merged_onto (joined m n) ms) (m ∷ merged_onto n ms))) [
      | true ↦ λ e. IsMerged-merged_onto (joined m n) ms
      | false ↦ λ e. (Beside-merged_onto m n ms e, IsMerged-merged_onto n ms)
    ] refl

-- the same of whole lists
pub places_of-merged : (low : ℕ) (ms : List Mapping) → IsOrdered low ms → places_of (merged ms) ≡ places_of ms
places_of-merged low [] o = refl
places_of-merged low (m ∷ ms) o = same_places (merged_onto m ms) (m ∷ ms) (λ q. lookup-merged_onto q low m ms o)

pub IsOrdered-merged : (low : ℕ) (ms : List Mapping) → IsOrdered low ms → IsOrdered low (merged ms)
IsOrdered-merged low [] o = tt
IsOrdered-merged low (m ∷ ms) o = IsOrdered-merged_onto low m ms o

pub IsMerged-merged : (ms : List Mapping) → IsMerged (merged ms)
IsMerged-merged [] = tt
IsMerged-merged (m ∷ ms) = IsMerged-merged_onto m ms

-- a list that goes on nowhere stays
merged_onto-merged : (m : Mapping) (ms : List Mapping) → IsMerged (m ∷ ms) → merged_onto m ms ≡ m ∷ ms
merged_onto-merged m [] is = refl
merged_onto-merged m (n ∷ ms) is = rw is.0 (ap (λ l. m ∷ l) (merged_onto-merged n ms is.1))

-- its first mappings stay where they go on nowhere
merged-front : (a : ℕ) (ms : List Mapping) → IsMerged (take (suc a) ms) → merged ms ≡ take a ms ++ merged (drop a ms)
merged-front zero ms is = refl
merged-front (suc a) [] is = refl
merged-front (suc zero) (m ∷ []) is = refl
merged-front (suc (suc a)) (m ∷ []) is = refl
merged-front (suc a) (m ∷ n ∷ ms) is = rw is.0 (ap (λ l. m ∷ l) (merged-front a (n ∷ ms) is.1))

-- its last mappings stay where they go on nowhere
merged_onto-back : (low k : ℕ) (m : Mapping) (ms : List Mapping)
    → IsOrdered low (m ∷ ms) → k ≤ length ms → IsMerged (drop k (m ∷ ms))
    → merged_onto m ms ≡ merged_onto m (take k ms) ++ drop k ms
merged_onto-back low zero m ms o h is = merged_onto-merged m ms is
merged_onto-back low (suc k) m [] o h is = absurd (omega arith)
merged_onto-back low (suc k) m (n ∷ ms) o h is =
    elim (joins m n) as (λ b. joins m n ≡ b → cond b (merged_onto (joined m n) ms) (m ∷ merged_onto n ms)
    ≡ cond b (merged_onto (joined m n) (take k ms)) (m ∷ merged_onto n (take k ms)) ++ drop k ms) [
      | true ↦ λ e.
          let j = Joins-from_test m n e in
          merged_onto-back low k (joined m n) ms (together low m n ms o j) (omega arith) (replaced k ms j is)
      | false ↦ λ e. ap (λ l. m ∷ l) (merged_onto-back m.end k n ms o.2 (omega arith) is)
    ] refl
  where
    beside : (ms : List Mapping) → Joins m n → Beside IsApart n ms → Beside IsApart (joined m n) ms
    beside [] j apart = tt
    beside (t ∷ ms) j apart = joins-joined m n t o.1.has_pages o.2.1.has_pages j ∙ apart

    replaced : (k : ℕ) (ms : List Mapping) → Joins m n → IsMerged (drop k (n ∷ ms))
        → IsMerged (drop k (joined m n ∷ ms))
    replaced zero ms j is = (beside ms j is.0, is.1)
    replaced (suc k) ms j is = is

-- a list with one mapping at most goes on nowhere
IsMerged-last : (n : ℕ) (ms : List Mapping) → length ms ≤ suc n → IsMerged (drop n ms)
IsMerged-last zero [] h = tt
IsMerged-last zero (m ∷ []) h = (tt, tt)
IsMerged-last zero (m ∷ n ∷ ms) h = absurd (omega arith)
IsMerged-last (suc n) [] h = tt
IsMerged-last (suc n) (m ∷ ms) h = IsMerged-last n ms (omega arith)

merged-back : (low a k c : ℕ) (ms : List Mapping) → IsOrdered low ms → a + k ≡ c → c < length ms → IsMerged (drop c ms)
    → merged (drop a ms) ≡ merged (take (suc k) (drop a ms)) ++ drop (suc c) ms
merged-back low zero k c [] o same h is = absurd (omega arith)
merged-back low zero k c (m ∷ ms) o same h is =
    let e : c ≡ k = omega arith in
    merged_onto-back low k m ms o (omega arith) (subst (λ c. IsMerged (drop c (m ∷ ms))) e is)
    ∙ ap (λ c. merged_onto m (take k ms) ++ drop c ms) (sym e)
merged-back low (suc a) k zero ms o same h is = absurd (omega arith)
merged-back low (suc a) k (suc c) [] o same h is = absurd (omega arith)
merged-back low (suc a) k (suc c) (m ∷ ms) o same h is = merged-back m.end a k c ms o.2 (omega arith) (omega arith) is

take-none : {A : Type 0} (n : ℕ) → take {A = A} n [] ≡ []
take-none zero = refl
take-none (suc n) = refl

drop-none : {A : Type 0} (n : ℕ) → drop {A = A} n [] ≡ []
drop-none zero = refl
drop-none (suc n) = refl

-- only the mappings at some places and their neighbours can go on
pub merged-around : (from to a b : ℕ) (ms : List Mapping) → IsOrdered 0 ms → from ≤ to → to ≤ length ms
    → IsMerged (take from ms) → IsMerged (drop to ms) → a ≡ from - 1 → b ≡ min (to + 1) (length ms)
    → merged ms ≡ take a ms ++ (merged (take (b - a) (drop a ms)) ++ drop b ms)
merged-around from to a b [] o forward within front back ea eb = sym (rw (
  take-none {A = Mapping} a,
  drop-none {A = Mapping} a,
  drop-none {A = Mapping} b,
  take-none {A = Mapping} (b - a),
) refl)
merged-around from to a b (m ∷ ms) o forward within front back ea eb =
    let list = m ∷ ms in
    let k = b - a - 1 in
    let c = b - 1 in
    let first : IsMerged (take (suc a) list) = elim (cases_lt 0 from) [
      | inl some ↦ subst (λ n. IsMerged (take n list)) {x = from} {y = suc a} (omega arith) front
      | inr none ↦ subst (λ n. IsMerged (take n list)) {x = 1} {y = suc a} (omega arith) (tt, tt)
    ] in
    let last : IsMerged (drop c list) = elim (cases_lt to (length list)) [
      | inl inside ↦ subst (λ n. IsMerged (drop n list)) {x = to} {y = c} (omega arith) back
      | inr whole ↦ IsMerged-last c list (omega arith)
    ] in
    merged-front a list first
    ∙ ap (λ l. take a list ++ l) (merged-back 0 a k c list o (omega arith) (omega arith) last)
    ∙ ap (λ n. take a list ++ (merged (take n (drop a list)) ++ drop (suc c) list)) {x = suc k}
    {y = b - a} (omega arith)
    ∙ ap (λ n. take a list ++ (merged (take (b - a) (drop a list)) ++ drop n list)) {x = suc c} {y = b} (omega arith)

-- the mappings of an old list up to a place are merged: the first ones of the list, and the last one of them, to which
-- more may be added
pub record MergesTo (old list : List Mapping) (last : Mapping) (kept index : ℕ) : Type 0 where
  pub less : kept < index
  pub within : index ≤ length old
  pub size : length list ≡ length old
  pub rest : (k : ℕ) (d : Mapping) → index ≤ k → get_or list k d ≡ get_or old k d
  pub so_far : take kept list ++ merged_onto last (drop index old) ≡ merged old
  pub ordered : IsOrdered 0 (last ∷ drop index old)

take-append-more : {X : Type 0} (xs ys : List X) (n k : ℕ) → n ≡ length xs + k → take n (xs ++ ys) ≡ xs ++ take k ys
take-append-more [] ys n k e = ap (λ n. take n ys) {x = n} {y = k} (omega arith)
take-append-more (x ∷ xs) ys zero k e = absurd (omega arith)
take-append-more (x ∷ xs) ys (suc n) k e = ap (λ zs. x ∷ zs) (take-append-more xs ys n k (omega arith))

pub drop-append-more : {X : Type 0} (xs ys : List X) (n k : ℕ) → n ≡ length xs + k → drop n (xs ++ ys) ≡ drop k ys
drop-append-more [] ys n k e = ap (λ n. drop n ys) {x = n} {y = k} (omega arith)
drop-append-more (x ∷ xs) ys zero k e = absurd (omega arith)
drop-append-more (x ∷ xs) ys (suc n) k e = drop-append-more xs ys n k (omega arith)

-- a part that was written, and its end removed
pub remove_range-put_mid : {X : Type 0} (xs new : List X) (a b kept : ℕ)
    → a ≤ b → b ≤ length xs → length new ≡ b - a → kept ≤ length new
    → remove_range (put_mid a (b - a) xs new) (a + kept) b ≡ take a xs ++ (take kept new ++ drop b xs)
remove_range-put_mid xs new a b kept le within size few =
    let front : length (take a xs) ≡ a = length-take-le a xs (omega arith) in
    let back = drop b xs in
    rw (Post-is a b xs le) (
    (λ i. first front i ++ last front i) ∙ append_assoc (take a xs) (take kept new) back)
  where
    first : length (take a xs) ≡ a → take (a + kept) (take a xs ++ (new ++ drop b xs)) ≡ take a xs ++ take kept new
    first front =
        take-append-more (take a xs) (new ++ drop b xs) (a + kept) kept (omega arith)
        ∙ ap (λ l. take a xs ++ l) (take-append-le kept new (drop b xs) few)

    last : length (take a xs) ≡ a → drop b (take a xs ++ (new ++ drop b xs)) ≡ drop b xs
    last front =
        drop-append-more (take a xs) (new ++ drop b xs) b (b - a) (omega arith)
        ∙ drop-append-more new (drop b xs) (b - a) 0 (omega arith)

pub length-written : {X : Type 0} (xs new : List X) (a b : ℕ) → a ≤ b → b ≤ length xs → length new ≡ b - a
    → length (put_mid a (b - a) xs new) ≡ length xs
length-written xs new a b le within size =
    rw (Post-is a b xs le) (omega (
      arith,
      length-append (take a xs) (new ++ drop b xs),
      length-append new (drop b xs),
      length-take-le a xs (omega arith),
      length-drop b xs,
    ))

-- the mappings around some places merged in their place
pub merged-written : {Z : Type 0} (list : Vec Mapping Z) (now new : List Mapping) (from to a b kept : ℕ)
    → now ≡ list.items → IsOrdered 0 list.items → from ≤ to → to ≤ length list.items → IsMerged (take from list.items)
    → IsMerged (drop to list.items) → a ≡ from - 1 → b ≡ min (to + 1) (length list.items)
    → length new ≡ b - a → kept ≤ length new → take kept new ≡ merged (take (b - a) (drop a now))
    → remove_range (with_items list (put_mid a (b - a) now new)).items (a + kept) b ≡ merged list.items
merged-written list now new from to a b kept is o forward within front back ea eb size few done =
    let le : a ≤ b = omega arith in
    let inside : b ≤ length now = omega (arith, ap length is) in
    let items = with_items_is list (put_mid a (b - a) now new)
    (length-written now new a b le inside size ∙ ap length is ∙ sym list.ok.0) in
    ap (λ (l : List Mapping). remove_range l (a + kept) b) items
    ∙ remove_range-put_mid now new a b kept le inside size few
    ∙ (λ i. take a (is i) ++ (done i ++ drop b (is i)))
    ∙ ap (λ (l : List Mapping). take a list.items ++ (merged (take (b - a) (drop a l)) ++ drop b list.items)) is
    ∙ sym (merged-around from to a b list.items o forward within front back ea eb)
