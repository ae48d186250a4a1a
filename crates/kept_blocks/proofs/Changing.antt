-- Blocks that are put, cut and taken away in numbers.
use Rattle.std.proofs.Common.{◌≡◌, ℕ, zero, suc, ◌+◌, ◌-◌, ◌<◌, ◌≤◌, Bool, true, false, ◌&&◌, ◌||◌, List, [], ◌∷◌}
use Rattle.std.proofs.Common.{length, eqb, ltb, Option, Some, None, refl, ap, sym, ◌∙◌, subst, arith}
use Rattle.std.proofs.Common.{if◌then◌else◌, inl, inr, cond, ◌⊎◌, Result, Ok, Err}
use Rattle.std.specs.Prelude.{is_some, nat_lt, nat_le, OnOk, OnErr}
use Rattle.std.specs.Option.{option_map}
use Rattle.std.proofs.lemmas.Bool.{eq-eqb, ne_eqb, cases_eq, cases_lt, cases_Bool, cond-true, cond-false}
use Rattle.std.proofs.lemmas.Bool.{lt-ltb, le-leb, or_parts, or_left, or_right}
use Rattle.std.proofs.lemmas.Bool.{leb-false, both_ways}
use Rattle.std.proofs.lemmas.Bool.Decides.{nat_tests}
use Rattle.volume_codec.specs.Descriptor.{RiseWithin}
use Rattle.volume_codec.specs.Text.{zeros}
use Rattle.kept_blocks.specs.Blocks.{Blocks, homes_in, bytes_in, with_home, with_zeros, without_run, cut_in, cut_to}
use Rattle.kept_blocks.proofs.Putting.{bytes_put, absent_below, rising_put, length_put}

some_same : {X : Type 0} (x y : X) → Some x ≡ Some y → x ≡ y
some_same x y e = cc

-- ---- order

pub rise_weaker : (low low' high high' : ℕ) (homes : List ℕ) → low' ≤ low → high ≤ high' → RiseWithin low high homes
    → RiseWithin low' high' homes
rise_weaker low low' high high' [] le more rise = tt
rise_weaker low low' high high' (n ∷ ns) le more rise =
    (omega (arith, rise.0), omega (arith, rise.1), rise_weaker (n + 1) (n + 1) high high' ns (omega arith) more rise.2)

-- ---- blocks in order are known by what each home block has

pub same_blocks : (low high : ℕ) (a b : Blocks) → RiseWithin low high (homes_in a) → RiseWithin low high (homes_in b)
    → ((q : ℕ) → bytes_in a q ≡ bytes_in b q) → a ≡ b
same_blocks low high [] [] rise_a rise_b same = refl
same_blocks low high [] (e ∷ b) rise_a rise_b same =
    let there = cond-true (eqb e.0 e.0) (Some e.1) (bytes_in b e.0) (eq-eqb e.0 e.0 refl) in
    let none : None ≡ Some e.1 = same e.0 ∙ there in absurd (cc)
same_blocks low high (d ∷ a) [] rise_a rise_b same =
    let there = cond-true (eqb d.0 d.0) (Some d.1) (bytes_in a d.0) (eq-eqb d.0 d.0 refl) in
    let none : None ≡ Some d.1 = sym (same d.0) ∙ there in absurd (cc)
same_blocks low high (d ∷ a) (e ∷ b) rise_a rise_b same = elim (cases_eq d.0 e.0) [
  | inl home ↦
      (let at_d = cond-true (eqb d.0 d.0) (Some d.1) (bytes_in a d.0) (eq-eqb d.0 d.0 refl) in
      let at_e = cond-true (eqb d.0 e.0) (Some e.1) (bytes_in b d.0) (eq-eqb d.0 e.0 home) in
      let bytes = some_same d.1 e.1 (sym at_d ∙ same d.0 ∙ at_e) in
      let order : RiseWithin (d.0 + 1) high (homes_in b) =
      subst (λ n. RiseWithin (n + 1) high (homes_in b)) (sym home) rise_b.2 in
      let rest = same_blocks (d.0 + 1) high a b rise_a.2 order (λ q. elim (cases_eq q d.0) [
        | inl here ↦ absent_below a (d.0 + 1) high q rise_a.2 (omega (arith, here))
            ∙ sym (absent_below b (d.0 + 1) high q order (omega (arith, here)))
        | inr other ↦ sym (cond-false (eqb q d.0) (Some d.1) (bytes_in a q) (ne_eqb q d.0 other)) ∙ same q
            ∙ cond-false (eqb q e.0) (Some e.1) (bytes_in b q) (ne_eqb q e.0 (λ is. other (is ∙ sym home)))
      ]) in
      (λ i. (home i, bytes i) ∷ rest i))
  | inr other ↦ elim (cases_lt d.0 e.0) [
    | inl less ↦
        (let there = cond-true (eqb d.0 d.0) (Some d.1) (bytes_in a d.0) (eq-eqb d.0 d.0 refl) in
        let not_there = absent_below (e ∷ b) e.0 high d.0 (omega arith, rise_b.1, rise_b.2) less in
        let none : None ≡ Some d.1 = sym not_there ∙ sym (same d.0) ∙ there in absurd (cc))
    | inr more ↦
        (let there = cond-true (eqb e.0 e.0) (Some e.1) (bytes_in b e.0) (eq-eqb e.0 e.0 refl) in
        let not_there = absent_below (d ∷ a) d.0 high e.0 (omega arith, rise_a.1, rise_a.2)
        (omega (arith, more, other)) in
        let none : None ≡ Some e.1 = sym not_there ∙ same e.0 ∙ there in absurd (cc))
  ]
]

-- ---- blocks that are taken away

abbrev pub is_outside : ℕ → ℕ → ℕ → Bool
is_outside low high home = nat_lt home low || nat_le high home

pub outside_below : (low high home : ℕ) → home < low → is_outside low high home ≡ true
outside_below low high home lt = or_left (nat_lt home low) (nat_le high home) (lt-ltb home low lt)

pub outside_above : (low high home : ℕ) → high ≤ home → is_outside low high home ≡ true
outside_above low high home le = or_right (nat_lt home low) (nat_le high home) (le-leb high home le)

pub inside_of : (low high home : ℕ) → low ≤ home → home < high → is_outside low high home ≡ false
inside_of low high home le lt = grind (arith, nat_tests)

outside_is : (low high home : ℕ) → is_outside low high home ≡ false → (low ≤ home) × (home < high)
outside_is low high home e =
    let parts = or_parts (nat_lt home low) (nat_le high home) e in
    (let le : low ≤ home = grind (arith, nat_tests, parts.0) in le, leb-false high home parts.1)

pub bytes_without : (low high : ℕ) (blocks : Blocks) (q : ℕ)
    → bytes_in (without_run blocks low high) q ≡ (if is_outside low high q then bytes_in blocks q else None)
bytes_without low high [] q = elim (cases_Bool (is_outside low high q)) [
  | inl is ↦ sym (cond-true (is_outside low high q) None None is)
  | inr is ↦ sym (cond-false (is_outside low high q) None None is)
]
bytes_without low high (e ∷ es) q = elim (cases_Bool (is_outside low high e.0)) [
  | inl kept ↦ rw kept (elim (cases_eq q e.0) [
    | inl same ↦
        (let is = eq-eqb q e.0 same in
        let outside : is_outside low high q ≡ true = ap (is_outside low high) same ∙ kept in
        rw (is, outside) refl)
    | inr other ↦ (let is = ne_eqb q e.0 other in rw is (bytes_without low high es q))
  ])
  | inr gone ↦ rw gone (elim (cases_eq q e.0) [
    | inl same ↦
        (let outside : is_outside low high q ≡ false = ap (is_outside low high) same ∙ gone in
        bytes_without low high es q
        ∙ cond-false (is_outside low high q) (bytes_in es q) None outside
        ∙ sym (cond-false (is_outside low high q) (bytes_in (e ∷ es) q) None outside))
    | inr other ↦ (let is = ne_eqb q e.0 other in rw is (bytes_without low high es q))
  ])
]

pub rising_without : (a b low high : ℕ) (blocks : Blocks) → RiseWithin low high (homes_in blocks)
    → RiseWithin low high (homes_in (without_run blocks a b))
rising_without a b low high [] rise = tt
rising_without a b low high (e ∷ es) rise =
    let rest = rising_without a b (e.0 + 1) high es rise.2 in
    elim (cases_Bool (is_outside a b e.0)) [
      | inl kept ↦ rw kept (rise.0, rise.1, rest)
      | inr gone ↦ rw gone (rise_weaker (e.0 + 1) low high high (homes_in (without_run es a b)) (omega (arith, rise.0))
          (omega arith) rest)
    ]

pub fewer_without : (a b : ℕ) (blocks : Blocks) → length (without_run blocks a b) ≤ length blocks
fewer_without a b [] = omega arith
fewer_without a b (e ∷ es) = let rest = fewer_without a b es in
    elim (cases_Bool (is_outside a b e.0)) [
      | inl kept ↦ rw kept (omega (arith, rest))
      | inr gone ↦ rw gone (omega (arith, rest))
    ]

-- a block that is put among them goes with them
pub without_put : (low high : ℕ) (blocks : Blocks) (k : ℕ) (v : List ℕ) → low ≤ k → k < high
    → without_run (with_home blocks k v) low high ≡ without_run blocks low high
without_put low high [] k v le lt = let inside = inside_of low high k le lt in rw inside refl
without_put low high (e ∷ es) k v le lt =
    let inside = inside_of low high k le lt in
    elim (cases_lt k e.0) [
      | inl less ↦ (let is = lt-ltb k e.0 less in rw (is, inside) refl)
      | inr more ↦
          (let is : ltb k e.0 ≡ false = grind (arith, nat_tests) in
          elim (cases_eq k e.0) [
            | inl same ↦
                (let same_is = eq-eqb k e.0 same in
                let gone : is_outside low high e.0 ≡ false = sym (ap (is_outside low high) same) ∙ inside in
                rw (is, same_is, inside, gone) refl)
            | inr other ↦
                (let other_is = ne_eqb k e.0 other in
                let rest = without_put low high es k v le lt in
                rw (is, other_is) (ap (λ (l : Blocks). cond (is_outside low high e.0) (e ∷ l) l) rest))
          ])
    ]

pub without_zeros : (low high : ℕ) (blocks : Blocks) (home n : ℕ) → low ≤ home → home + n ≤ high
    → without_run (with_zeros blocks home n) low high ≡ without_run blocks low high
without_zeros low high blocks home zero le fits = refl
without_zeros low high blocks home (suc n) le fits =
    without_put low high (with_zeros blocks home n) (home + n) (zeros 4096) (omega arith) (omega arith)
    ∙ without_zeros low high blocks home n le (omega arith)

-- where none of them are there, nothing is taken away
pub without_absent : (low high : ℕ) (blocks : Blocks)
    → ((q : ℕ) → low ≤ q → q < high → bytes_in blocks q ≡ None) → without_run blocks low high ≡ blocks
without_absent low high [] none = refl
without_absent low high (e ∷ es) none = elim (cases_Bool (is_outside low high e.0)) [
  | inl kept ↦ rw kept (ap (λ (l : Blocks). e ∷ l) (without_absent low high es (λ q le lt. later q (none q le lt))))
  | inr gone ↦
      (let is = outside_is low high e.0 gone in
      let there = cond-true (eqb e.0 e.0) (Some e.1) (bytes_in es e.0) (eq-eqb e.0 e.0 refl) in
      let e_none : None ≡ Some e.1 = sym (none e.0 is.0 is.1) ∙ there in absurd (cc))
]
  where
    later : (q : ℕ) → bytes_in (e ∷ es) q ≡ None → bytes_in es q ≡ None
    later q absent = elim (cases_eq q e.0) [
      | inl same ↦
          (let there = cond-true (eqb q e.0) (Some e.1) (bytes_in es q) (eq-eqb q e.0 same) in
          let e_none : None ≡ Some e.1 = sym absent ∙ there in absurd (cc))
      | inr other ↦ sym (cond-false (eqb q e.0) (Some e.1) (bytes_in es q) (ne_eqb q e.0 other)) ∙ absent
    ]

-- ---- zeros

abbrev pub is_among : ℕ → ℕ → ℕ → Bool
is_among home n q = nat_le home q && nat_lt q (home + n)

pub bytes_zeros : (blocks : Blocks) (home n q : ℕ)
    → bytes_in (with_zeros blocks home n) q ≡ (if is_among home n q then Some (zeros 4096) else bytes_in blocks q)
bytes_zeros blocks home zero q =
    let none : is_among home 0 q ≡ false = grind (arith, nat_tests) in
    sym (cond-false (is_among home 0 q) (Some (zeros 4096)) (bytes_in blocks q) none)
bytes_zeros blocks home (suc n) q =
    bytes_put (with_zeros blocks home n) (home + n) (zeros 4096) q
    ∙ elim (cases_eq q (home + n)) [
      | inl same ↦
          (let is = eq-eqb q (home + n) same in
          let among : is_among home (suc n) q ≡ true = grind (arith, nat_tests, same) in
          cond-true (eqb q (home + n)) (Some (zeros 4096)) (bytes_in (with_zeros blocks home n) q) is
          ∙ sym (cond-true (is_among home (suc n) q) (Some (zeros 4096)) (bytes_in blocks q) among))
      | inr other ↦
          (let is = ne_eqb q (home + n) other in
          let among : is_among home (suc n) q ≡ is_among home n q = grind (arith, nat_tests, other) in
          cond-false (eqb q (home + n)) (Some (zeros 4096)) (bytes_in (with_zeros blocks home n) q) is
          ∙ bytes_zeros blocks home n q
          ∙ ap (λ t. if t then Some (zeros 4096) else bytes_in blocks q) (sym among))
    ]

pub rising_zeros : (blocks : Blocks) (low high home n : ℕ) → RiseWithin low high (homes_in blocks) → low ≤ home
    → home + n ≤ high → RiseWithin low high (homes_in (with_zeros blocks home n))
rising_zeros blocks low high home zero rise le fits = rise
rising_zeros blocks low high home (suc n) rise le fits =
    rising_put (with_zeros blocks home n) low high (home + n) (zeros 4096)
    (rising_zeros blocks low high home n rise le (omega arith)) (omega arith) (omega arith)

-- one more block for each of them, where none of them were there
pub length_zeros : (blocks : Blocks) (low high home n : ℕ) → RiseWithin low high (homes_in blocks) → low ≤ home
    → home + n ≤ high → ((q : ℕ) → home ≤ q → q < home + n → bytes_in blocks q ≡ None)
    → length (with_zeros blocks home n) ≡ length blocks + n
length_zeros blocks low high home zero rise le fits none = omega arith
length_zeros blocks low high home (suc n) rise le fits none =
    let rest = length_zeros blocks low high home n rise le (omega arith) (λ q from to. none q from (omega arith)) in
    let out : is_among home n (home + n) ≡ false = grind (arith, nat_tests) in
    let absent : bytes_in (with_zeros blocks home n) (home + n) ≡ None =
    bytes_zeros blocks home n (home + n)
    ∙ cond-false (is_among home n (home + n)) (Some (zeros 4096)) (bytes_in blocks (home + n)) out
    ∙ none (home + n) (omega arith) (omega arith) in
    let size = length_put (with_zeros blocks home n) low high (home + n) (zeros 4096)
    (rising_zeros blocks low high home n rise le (omega arith)) in
    omega (
      arith,
      size ∙ ap (λ o. if is_some o then length (with_zeros blocks home n) else length (with_zeros blocks home n) + 1)
          absent,
      rest,
    )

-- ---- a block that is cut

pub bytes_cut : (blocks : Blocks) (home n q : ℕ)
    → bytes_in (cut_in blocks home n) q
    ≡ option_map (λ (x : List ℕ). if eqb q home then cut_to n x else x) (bytes_in blocks q)
bytes_cut [] home n q = refl
bytes_cut (e ∷ es) home n q = elim (cases_eq q e.0) [
  | inl same ↦
      (let is = eq-eqb q e.0 same in
      rw is (ap (λ k. Some (if eqb k home then cut_to n e.1 else e.1)) (sym same)))
  | inr other ↦ (let is = ne_eqb q e.0 other in rw is (bytes_cut es home n q))
]

pub homes_cut : (blocks : Blocks) (home n : ℕ) → homes_in (cut_in blocks home n) ≡ homes_in blocks
homes_cut [] home n = refl
homes_cut (e ∷ es) home n = ap (λ (l : List ℕ). e.0 ∷ l) (homes_cut es home n)

pub length_cut : (blocks : Blocks) (home n : ℕ) → length (cut_in blocks home n) ≡ length blocks
length_cut [] home n = refl
length_cut (e ∷ es) home n = ap suc (length_cut es home n)

-- ---- what a growth and a shrink put, in another order

module _ (blocks : Blocks) (first high home : ℕ) (text : List ℕ) (rise : RiseWithin first high (homes_in blocks))
    (before : first < home) where
  -- the last page is put first with zeros, as one of those that are added
  pub grown_blocks : (low end : ℕ) (last : List ℕ) → (low ≡ home) ⊎ (low ≡ home + 1) → home < end → end ≤ high
      → with_home (with_home (with_zeros blocks low (end - low)) first text) home last
      ≡ with_home (with_home (with_zeros blocks (home + 1) (end - (home + 1))) home last) first text
  grown_blocks low end last is lt fits =
      same_blocks first high _ _
      (rising_put _ first high home last (rising_put _ first high first text
      (rising_zeros blocks first high low (end - low) rise (omega (arith, from)) (omega (arith, from)))
      (omega arith) (omega arith)) (omega arith) (omega arith))
      (rising_put _ first high first text (rising_put _ first high home last
      (rising_zeros blocks first high (home + 1) (end - (home + 1)) rise (omega arith) (omega arith))
      (omega arith) (omega arith)) (omega arith) (omega arith))
      (λ q.
      bytes_put (with_home (with_zeros blocks low (end - low)) first text) home last q
      ∙ ap (λ o. if eqb q home then Some last else o) (bytes_put (with_zeros blocks low (end - low)) first text q
      ∙ ap (λ o. if eqb q first then Some text else o) (bytes_zeros blocks low (end - low) q))
      ∙ by q
      ∙ sym (bytes_put (with_home (with_zeros blocks (home + 1) (end - (home + 1))) home last) first text q
      ∙ ap (λ o. if eqb q first then Some text else o)
      (bytes_put (with_zeros blocks (home + 1) (end - (home + 1))) home last q
      ∙ ap (λ o. if eqb q home then Some last else o) (bytes_zeros blocks (home + 1) (end - (home + 1)) q))))
    where
      from : (home ≤ low) × (low ≤ home + 1)
      from = elim is [ inl e ↦ (omega (arith, e), omega (arith, e)) | inr e ↦ (omega (arith, e), omega (arith, e)) ]

      by : (q : ℕ) → (if eqb q home then Some last else (if eqb q first then Some text
          else (if is_among low (end - low) q then Some (zeros 4096) else bytes_in blocks q)))
          ≡ (if eqb q first then Some text else (if eqb q home then Some last
          else (if is_among (home + 1) (end - (home + 1)) q then Some (zeros 4096) else bytes_in blocks q)))
      by q = elim (cases_eq q home) [
        | inl here ↦
            (let is_home = eq-eqb q home here in
            let not_first = ne_eqb q first (λ e. omega (arith, here, e)) in
            rw (is_home, not_first) refl)
        | inr other ↦
            (let not_home = ne_eqb q home other in
            let among : is_among low (end - low) q ≡ is_among (home + 1) (end - (home + 1)) q =
            grind (arith, nat_tests, other, from.0, from.1, lt) in
            rw (not_home, among) refl)
      ]

  -- the text of the lengths is put first
  pub shrunk_blocks : (low end n : ℕ) → first < low → first < high
      → cut_in (without_run (with_home blocks first text) low end) home n
      ≡ with_home (cut_in (without_run blocks low end) home n) first text
  shrunk_blocks low end n below fits =
      same_blocks first high _ _
      (subst (RiseWithin first high) (sym (homes_cut (without_run (with_home blocks first text) low end) home n))
      (rising_without low end first high (with_home blocks first text)
      (rising_put blocks first high first text rise (omega arith) fits)))
      (rising_put (cut_in (without_run blocks low end) home n) first high first text
      (subst (RiseWithin first high) (sym (homes_cut (without_run blocks low end) home n))
      (rising_without low end first high blocks rise)) (omega arith) fits)
      (λ q.
      bytes_cut (without_run (with_home blocks first text) low end) home n q
      ∙ ap (option_map (λ (x : List ℕ). if eqb q home then cut_to n x else x))
      (bytes_without low end (with_home blocks first text) q
      ∙ ap (λ o. if is_outside low end q then o else None) (bytes_put blocks first text q))
      ∙ by q
      ∙ ap (λ o. if eqb q first then Some text else o)
      (sym (bytes_cut (without_run blocks low end) home n q
      ∙ ap (option_map (λ (x : List ℕ). if eqb q home then cut_to n x else x)) (bytes_without low end blocks q)))
      ∙ sym (bytes_put (cut_in (without_run blocks low end) home n) first text q))
    where
      by : (q : ℕ) → option_map (λ (x : List ℕ). if eqb q home then cut_to n x else x)
          (if is_outside low end q then (if eqb q first then Some text else bytes_in blocks q) else None)
          ≡ (if eqb q first then Some text else option_map (λ (x : List ℕ). if eqb q home then cut_to n x else x)
          (if is_outside low end q then bytes_in blocks q else None))
      by q = elim (cases_eq q first) [
        | inl here ↦
            (let is_first = eq-eqb q first here in
            let not_home = ne_eqb q home (λ e. omega (arith, here, e)) in
            let outside = outside_below low end q (omega (arith, here, below)) in
            rw (is_first, not_home, outside) refl)
        | inr other ↦ (let not_first = ne_eqb q first other in rw not_first refl)
      ]

-- ---- results

pub err_as : {X E : Type 0} (r : Result X E) (P : Type 0) → P → OnErr r P
err_as (Ok x) P p = tt
err_as (Err e) P p = p

pub on_err : {X E : Type 0} (r : Result X E) (P Q : Type 0) → (P → Q) → OnErr r P → OnErr r Q
on_err (Ok x) P Q f p = tt
on_err (Err e) P Q f p = f p

-- a block that is put where there is one is put
pub put_present : {X E : Type 0} (r : Result X E) (P : Type 0) (o : Option (List ℕ)) → is_some o ≡ true → OnOk r P
    → OnErr r (o ≡ None) → P
put_present (Ok x) P o there ok absent = ok
put_present (Err e) P o there ok absent = absurd (both_ways (is_some o) (ap is_some absent) there)

-- the last page is there once zeros were put
pub present_after : (blocks : Blocks) (home low high first : ℕ) (text : List ℕ) → first < home → home < high
    → (low ≡ home) ⊎ ((low ≡ home + 1) × (is_some (bytes_in blocks home) ≡ true))
    → is_some (bytes_in (with_home (with_zeros blocks low (high - low)) first text) home) ≡ true
present_after blocks home low high first text before lt is =
    ap is_some (bytes_put (with_zeros blocks low (high - low)) first text home
    ∙ cond-false (eqb home first) (Some text) (bytes_in (with_zeros blocks low (high - low)) home)
    (ne_eqb home first (λ e. omega (arith, e, before)))
    ∙ bytes_zeros blocks low (high - low) home) ∙ by is
  where
    by : (low ≡ home) ⊎ ((low ≡ home + 1) × (is_some (bytes_in blocks home) ≡ true))
        → is_some (if is_among low (high - low) home then Some (zeros 4096) else bytes_in blocks home) ≡ true
    by (inl e) = let among : is_among low (high - low) home ≡ true = grind (arith, nat_tests, e, lt) in
        ap is_some (cond-true (is_among low (high - low) home) (Some (zeros 4096)) (bytes_in blocks home) among)
    by (inr (e, there)) = let among : is_among low (high - low) home ≡ false = grind (arith, nat_tests, e) in
        ap is_some (cond-false (is_among low (high - low) home) (Some (zeros 4096)) (bytes_in blocks home) among) ∙
        there

-- ---- options

pub none_of : {X : Type 0} (o : Option X) → is_some o ≡ false → o ≡ None
none_of None e = refl
none_of (Some x) e = absurd (cc)
