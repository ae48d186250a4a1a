-- The tree of an index, and what is found in it.
use Rattle.std.proofs.Common.{◌≡◌, ◌≢◌, ℕ, zero, suc, ◌==◌, Bool, true, false, List, [], ◌∷◌}
use Rattle.std.proofs.Common.{cond, eqb, ltb, inl, inr, refl, sym, ap, subst, ◌∙◌, arith}
use Rattle.std.specs.Prelude.{Result, Ok, Err, OnOk, OnErr, nat_lt, if◌then◌else◌}
use Rattle.std.specs.Prelude.{Option, Some, None, unwrap_or, is_some}
use Rattle.std.specs.List.{Contains, AllByRecursion}
use Rattle.std.specs.List.Sorted.{IsStrictlySortedBy}
use Rattle.std.specs.Map.Calls.{RetainsPairs}
use Rattle.std.specs.Map.{lookup}
use Rattle.std.specs.Ordering.{nat_cmp, match_ordering}
use Rattle.std.specs.declared.cmp.Ordering.{Ordering}
use Rattle.std.specs.declared.cmp.Ordering.TheVariants.{Less, Equal, Greater}
use Rattle.std.specs.BTreeMap.{insert_entry, is_at}
use Rattle.std.proofs.lemmas.Bool.{eqb-true, eq-eqb, ne_eqb, cases_eq, cases_Bool, false≢true}
use Rattle.std.proofs.lemmas.Bool.Decides.{nat_tests}
use Rattle.log_home.specs.declared.index.Newest.{Newest}
use Rattle.log_home.specs.Index.{Entries, find_in, indexed_homes, is_from, from_number}

-- ---- to look for a key is to look for its home block

pub at_same : (b k : ℕ) → is_at (nat_cmp b) k ≡ eqb b k
at_same b k = elim (cases_eq b k) [
  | inl same ↦
      (let is : eqb b k ≡ true = eq-eqb b k same in
      let less : ltb b k ≡ false = grind (arith, nat_tests) in
      rw (less, is) refl)
  | inr other ↦
      (let is : eqb b k ≡ false = ne_eqb b k other in
      elim (cases_Bool (ltb b k)) [
        | inl less ↦ rw (less, is) refl
        | inr more ↦ rw (more, is) refl
      ])
]

pub find_is : (es : Entries) (b : ℕ) → unwrap_or (lookup (is_at (nat_cmp b)) es) None ≡ find_in es b
find_is [] b = refl
find_is (e ∷ es) b =
    let rest = find_is es b in
    ap (λ (t : Bool). unwrap_or (cond t (Some e.1) (lookup (is_at (nat_cmp b)) es)) None) (at_same b e.0)
    ∙ (elim (eqb b e.0) as (λ t. unwrap_or (cond t (Some e.1) (lookup (is_at (nat_cmp b)) es)) None
    ≡ cond t e.1 (find_in es b)) [
      | true ↦ refl
      | false ↦ rest
    ])

-- ---- room

pub room_is : (es : Entries) (b : ℕ) → Contains (indexed_homes es) b → is_some (lookup (is_at (nat_cmp b)) es) ≡ true
room_is [] b (k, lt, is) = absurd (omega arith)
room_is (e ∷ es) b (zero, lt, is) =
    ap (λ (t : Bool). is_some (cond t (Some e.1) (lookup (is_at (nat_cmp b)) es)))
    (at_same b e.0 ∙ eq-eqb b e.0 (sym is))
room_is (e ∷ es) b (suc k, lt, is) =
    let rest = room_is es b (k, omega (arith, lt), is) in
    elim (is_at (nat_cmp b) e.0) as (λ t. is_some (cond t (Some e.1) (lookup (is_at (nat_cmp b)) es)) ≡ true) [
      | true ↦ refl
      | false ↦ rest
    ]

pub is_room : (es : Entries) (b : ℕ) → is_some (lookup (is_at (nat_cmp b)) es) ≡ true → Contains (indexed_homes es) b
is_room [] b is = absurd (false≢true is)
is_room (e ∷ es) b is = elim (cases_eq e.0 b) [
  | inl same ↦ (0, omega arith, same)
  | inr apart ↦
      let test : is_at (nat_cmp b) e.0 ≡ false = at_same b e.0 ∙ ne_eqb b e.0 (λ s. apart (sym s)) in
      let rest = is_room es b
      (sym (ap (λ (t : Bool). is_some (cond t (Some e.1) (lookup (is_at (nat_cmp b)) es))) test) ∙ is) in
      (suc rest.0, omega (arith, rest.1), rest.2)
]

-- ---- an entry that is put

put_step : (e : ℕ × Option Newest) (es more : Entries) (k : ℕ) (v : Option Newest) (q : ℕ) (less same : Bool)
    → (same ≡ true → k ≡ e.0) → (same ≡ false → less ≡ false → k ≢ e.0)
    → find_in more q ≡ (if q == k then v else find_in es q)
    → find_in (match_ordering (if less then Less else (if same then Equal else Greater)) ((k, v) ∷ e ∷ es)
    ((e.0, v) ∷ es) (e ∷ more)) q
    ≡ (if q == k then v else find_in (e ∷ es) q)
put_step e es more k v q true same is not rest = refl
put_step e es more k v q false true is not rest =
    let here : k ≡ e.0 = is refl in
    let P : ℕ → Type 0 = λ x. cond (q == x) v (find_in es q) ≡ cond (q == k) v (cond (q == x) e.1 (find_in es q)) in
    subst P here (elim (q == k) as (λ t. cond t v (find_in es q) ≡ cond t v (cond t e.1 (find_in es q))) [
      | true ↦ refl
      | false ↦ refl
    ])
put_step e es more k v q false false is not rest =
    let apart : k ≢ e.0 = not refl refl in
    elim (cases_eq q e.0) [
      | inl same ↦
          let test : (q == e.0) ≡ true = eq-eqb q e.0 same in
          let none : (q == k) ≡ false = ne_eqb q k (λ s. apart (sym s ∙ same)) in
          ap (λ (t : Bool). cond t e.1 (find_in more q)) test
          ∙ sym (ap (λ (t : Bool). cond t v (cond (q == e.0) e.1 (find_in es q))) none
          ∙ ap (λ (t : Bool). cond t e.1 (find_in es q)) test)
      | inr other ↦
          let test : (q == e.0) ≡ false = ne_eqb q e.0 other in
          ap (λ (t : Bool). cond t e.1 (find_in more q)) test ∙ rest
          ∙ sym (ap (λ (t : Bool). cond (q == k) v (cond t e.1 (find_in es q))) test)
    ]

pub find_put : (es : Entries) (k : ℕ) (v : Option Newest) (q : ℕ)
    → find_in (insert_entry nat_cmp es k v) q ≡ (if q == k then v else find_in es q)
find_put [] k v q = refl
find_put (e ∷ es) k v q =
    put_step e es (insert_entry nat_cmp es k v) k v q (ltb k e.0) (eqb k e.0) (eqb-true k e.0)
    (λ other more same. absurd (false≢true (sym other ∙ eq-eqb k e.0 same))) (find_put es k v q)

-- an entry without a record, where none is
pub find_admitted : (es : Entries) (k q : ℕ) → is_some (lookup (is_at (nat_cmp k)) es) ≡ false
    → find_in (insert_entry nat_cmp es k None) q ≡ find_in es q
find_admitted es k q none = find_put es k None q ∙ elim (cases_eq q k) [
  | inl same ↦
      let here : find_in es k ≡ None = sym (find_is es k) ∙ nothing (lookup (is_at (nat_cmp k)) es) none in
      ap (λ (t : Bool). cond t None (find_in es q)) (eq-eqb q k same) ∙ sym (ap (find_in es) same ∙ here)
  | inr other ↦ ap (λ (t : Bool). cond t None (find_in es q)) (ne_eqb q k other)
]
  where
    nothing : (o : Option (Option Newest)) → is_some o ≡ false → unwrap_or o None ≡ None
    nothing None is = refl
    nothing (Some x) is = absurd (false≢true (sym is))

pub room_put : (es new : Entries) (k : ℕ) (v : Option Newest) (b : ℕ)
    → lookup (is_at (nat_cmp b)) new ≡ cond (is_at (nat_cmp k) b) (Some v) (lookup (is_at (nat_cmp b)) es)
    → is_some (lookup (is_at (nat_cmp b)) es) ≡ true → is_some (lookup (is_at (nat_cmp b)) new) ≡ true
room_put es new k v b is had =
    ap is_some is
    ∙ elim (is_at (nat_cmp k) b) as (λ t. is_some (cond t (Some v) (lookup (is_at (nat_cmp b)) es)) ≡ true) [
      | true ↦ refl
      | false ↦ had
    ]

-- a key that is there can be put
pub put_there : {T E X : Type 0} (r : Result T E) (P : Type 0) (o : Option X) → OnOk r P → OnErr r (o ≡ None)
    → is_some o ≡ true → P
put_there (Ok x) P o ok err some = ok
put_there (Err e) P o ok err some = absurd (false≢true (sym (ap is_some err) ∙ some))

-- ---- old entries go

not_less : (x y : ℕ) → nat_cmp x y ≡ Less → x ≢ y
not_less x y less same =
    absurd (false≢true (sym (ap is_less (same_cmp x)) ∙ ap is_less (ap (nat_cmp x) same ∙ less)))
  where
    is_less : Ordering → Bool
    is_less Less = true
    is_less Equal = false
    is_less Greater = false

    same_cmp : (n : ℕ) → nat_cmp n n ≡ Equal
    same_cmp n =
        let is : eqb n n ≡ true = eq-eqb n n refl in
        let less : ltb n n ≡ false = grind (arith, nat_tests) in
        rw (less, is) refl

absent : (x : ℕ) (es : Entries) → AllByRecursion (λ y. nat_cmp x y ≡ Less) (indexed_homes es) → find_in es x ≡ None
absent x [] all = refl
absent x (e ∷ es) all =
    ap (λ (t : Bool). cond t e.1 (find_in es x)) (ne_eqb x e.0 (not_less x e.0 all.0)) ∙ absent x es all.1

sorted_head : (x : ℕ) (xs : List ℕ) → IsStrictlySortedBy nat_cmp (x ∷ xs)
    → AllByRecursion (λ y. nat_cmp x y ≡ Less) xs × IsStrictlySortedBy nat_cmp xs
unfolding IsStrictlySortedBy
sorted_head x xs is = is

from_cond : (below : ℕ) (t : Bool) (v o : Option Newest)
    → from_number below (cond t v o) ≡ cond t (from_number below v) (from_number below o)
from_cond below true v o = refl
from_cond below false v o = refl

dropped : (q k : ℕ) (rest : Entries) (o : Option Newest) → find_in rest q ≡ o → (q ≡ k → find_in rest q ≡ None)
    → find_in rest q ≡ cond (q == k) None o
dropped q k rest o is gone = elim (cases_eq q k) [
  | inl same ↦ gone same ∙ sym (ap (λ (t : Bool). cond t None o) (eq-eqb q k same))
  | inr other ↦ is ∙ sym (ap (λ (t : Bool). cond t None o) (ne_eqb q k other))
]

forgot_step : (below q k : ℕ) (v : Option Newest) (rest : Entries) (o : Option Newest)
    → find_in rest q ≡ o → (q ≡ k → find_in rest q ≡ None)
    → find_in (cond (is_from below v) ((k, v) ∷ rest) rest) q ≡ cond (q == k) (from_number below v) o
forgot_step below q k None rest o is gone = dropped q k rest o is gone
forgot_step below q k (Some n) rest o is gone =
    let none = dropped q k rest o is gone in
    elim (nat_lt n.number below) as (λ t. find_in (cond (cond t false true) ((k, Some n) ∷ rest) rest) q
    ≡ cond (q == k) (cond t None (Some n)) o) [
      | true ↦ none
      | false ↦ ap (λ (x : Option Newest). cond (q == k) (Some n) x) is
    ]

pub find_forgot : {F : Type 0} (T : F → ℕ → Option Newest → Bool → Option Newest → F → Type 0) (below : ℕ) (f : F)
    → ((k : ℕ) (v : Option Newest) (b : Bool) (w : Option Newest) (f' : F) → T f k v b w f'
    → (b ≡ is_from below v) × (w ≡ v) × (f' ≡ f))
    → (es kept : Entries) → IsStrictlySortedBy nat_cmp (indexed_homes es) → RetainsPairs T f es kept → (q : ℕ)
    → find_in kept q ≡ from_number below (find_in es q)
find_forgot T below f each [] kept sorted r q = ap (λ (l : Entries). find_in l q) r
find_forgot T below f each (e ∷ es) kept sorted r q =
    let a = each e.0 e.1 r.0 r.1 r.2 r.4 in
    let parts = sorted_head e.0 (indexed_homes es) sorted in
    let rest : find_in r.3 q ≡ from_number below (find_in es q) =
    find_forgot T below f each es r.3 parts.1 (subst (λ u. RetainsPairs T u es r.3) a.2 r.5) q in
    ap (λ (l : Entries). find_in l q) (r.6 ∙ ap (λ (b : Bool). cond b ((e.0, r.1) ∷ r.3) r.3) a.0)
    ∙ ap (λ (w : Option Newest). find_in (cond (is_from below e.1) ((e.0, w) ∷ r.3) r.3) q) a.1
    ∙ forgot_step below q e.0 e.1 r.3 (from_number below (find_in es q)) rest
    (λ same. rest ∙ ap (from_number below) (ap (find_in es) same ∙ absent e.0 es parts.0))
    ∙ sym (from_cond below (q == e.0) e.1 (find_in es q))
