-- Blocks that are put once a file's length becomes another, wherever the home blocks of files lie.
use Rattle.std.proofs.Common.{◌≡◌, ◌≢◌, ℕ, ◌+◌, ◌-◌, ◌/◌, ◌%◌, ◌<◌, ◌≤◌, Bool, true, false, List}
use Rattle.std.proofs.Common.{length, get_or, set, Option, Some, None, refl, ap, sym, ◌∙◌, subst, arith, inl, inr}
use Rattle.std.proofs.Common.{eqb, if◌then◌else◌}
use Rattle.std.specs.Prelude.{is_some}
use Rattle.std.specs.Option.{option_map}
use Rattle.std.proofs.lemmas.Bool.{cond-true, cond-false, cases_lt, cases_eq, cases_Bool, eq-eqb, ne_eqb, false≢true}
use Rattle.std.proofs.lemmas.Bool.Decides.{nat_tests}
use Rattle.std.proofs.lemmas.List.{get_or-set_same, get_or-set_other}
use Rattle.volume_codec.specs.Super.{pages_of}
use Rattle.volume_codec.specs.Descriptor.{RiseWithin}
use Rattle.volume_codec.specs.Text.{zeros}
use Rattle.kept_blocks.specs.Blocks.{Blocks, homes_in, bytes_in, with_home, with_zeros, without_run, cut_in, cut_to}
use Rattle.kept_blocks.proofs.Public.{bytes_put, rising_put, length_put, bytes_zeros, rising_zeros, length_zeros}
use Rattle.kept_blocks.proofs.Public.{is_among, bytes_without, rising_without, fewer_without, bytes_cut, homes_cut}
use Rattle.kept_blocks.proofs.Public.{length_cut, is_outside, outside_below, inside_of}

some_mapped : (f : List ℕ → List ℕ) (o : Option (List ℕ)) → is_some (option_map f o) ≡ is_some o
some_mapped f None = refl
some_mapped f (Some x) = refl

none_mapped : (f : List ℕ → List ℕ) (o : Option (List ℕ)) → o ≡ None → option_map f o ≡ None
none_mapped f None e = refl
none_mapped f (Some x) e = absurd (cc)

-- how many blocks are added by n and one more, unless that is there
abbrev pub added_to : Option (List ℕ) → ℕ → ℕ
added_to o n = if is_some o then n else n + 1

pub added_some : (o : Option (List ℕ)) (n : ℕ) → is_some o ≡ true → added_to o n ≡ n
added_some None n is = absurd (cc)
added_some (Some x) n is = refl

pub added_none : (o : Option (List ℕ)) (n : ℕ) → is_some o ≡ false → added_to o n ≡ n + 1
added_none None n is = refl
added_none (Some x) n is = absurd (cc)

added_sum : (o : Option (List ℕ)) (m n : ℕ) → added_to o (m + n) ≡ m + added_to o n
added_sum None m n = omega arith
added_sum (Some x) m n = refl

-- the text of the lengths is put in the first home block
module _ (first : ℕ) (text : List ℕ) (body : Blocks) where
  pub lengths_put : bytes_in (with_home body first text) first ≡ Some text
  lengths_put = bytes_put body first text first
      ∙ cond-true (eqb first first) (Some text) (bytes_in body first) (eq-eqb first first refl)

  pub at_other : (q : ℕ) → first < q → bytes_in (with_home body first text) q ≡ bytes_in body q
  at_other q above = bytes_put body first text q
      ∙ cond-false (eqb q first) (Some text) (bytes_in body q) (ne_eqb q first (λ e. omega (arith, e, above)))

-- Files have these lengths, and the home blocks of each lie from its start on. What is put lies before the ends of
-- files. One file may become as long as this.
pub record MayReach (starts : ℕ → ℕ) (lengths : List ℕ) (file to first end : ℕ) (staged : Blocks) : Type 0 where
  pub one_file : (f i q : ℕ) → f ≢ i → starts f ≤ q → q < starts (f + 1) → starts i ≤ q → q < starts (i + 1) → ⊥
  pub there : file < length lengths
  pub rising : RiseWithin first end (homes_in staged)
  pub ends : (f q : ℕ) → starts f + pages_of (get_or lengths f 0) ≤ q → q < starts (f + 1) → bytes_in staged q ≡ None
  pub low : first < starts file
  pub file_ends : starts file + pages_of to ≤ starts (file + 1)
  pub end_in : starts file + pages_of to ≤ end

module _ {starts : ℕ → ℕ} {lengths : List ℕ} {file to first end : ℕ} {staged : Blocks}
    (may : MayReach starts lengths file to first end staged) where
  abbrev from : ℕ
  from = get_or lengths file 0

  long_there : get_or (set lengths file to) file 0 ≡ to
  long_there = get_or-set_same lengths file to 0 may.there

  long_elsewhere : (f : ℕ) → f ≢ file → get_or (set lengths file to) f 0 ≡ get_or lengths f 0
  long_elsewhere f other = get_or-set_other lengths file f to 0 other

  -- ---- a growth, where the file ended in this home block, or before it

  module _ (grows : from < to) (home : ℕ) (at : home ≡ starts file + from / 4096) where
    abbrev many : ℕ
    many = pages_of to - (from / 4096 + 1)

    abbrev filled : Blocks
    filled = with_zeros staged (home + 1) many

    abbrev grown : List ℕ → Blocks
    grown last = with_home filled home (cut_to (from % 4096) last)

    pub none_behind : (q : ℕ) → home < q → q < starts file + pages_of to → bytes_in staged q ≡ None
    none_behind q above below = may.ends file q (omega (arith, above, at)) (omega (arith, below, may.file_ends))

    before : first < home
    before = omega (arith, may.low, at)

    behind_in : home + 1 + many ≤ end
    behind_in = omega (arith, may.end_in, grows, at)

    rising_filled : RiseWithin first end (homes_in filled)
    rising_filled = rising_zeros staged first end (home + 1) many may.rising (omega (arith, before)) behind_in

    pub rises_grown : (last : List ℕ) → RiseWithin first end (homes_in (grown last))
    rises_grown last = rising_put filled first end home (cut_to (from % 4096) last) rising_filled
        (omega (arith, before)) (omega (arith, behind_in))

    last_same : bytes_in filled home ≡ bytes_in staged home
    last_same = bytes_zeros staged (home + 1) many home
        ∙ cond-false (is_among (home + 1) many home) (Some (zeros 4096)) (bytes_in staged home)
        (let out : is_among (home + 1) many home ≡ false = grind (arith, nat_tests) in out)

    pub first_same : (last : List ℕ) → bytes_in (grown last) first ≡ bytes_in staged first
    first_same last = bytes_put filled home (cut_to (from % 4096) last) first
        ∙ cond-false (eqb first home) (Some (cut_to (from % 4096) last)) (bytes_in filled first)
        (ne_eqb first home (λ e. omega (arith, e, before)))
        ∙ bytes_zeros staged (home + 1) many first
        ∙ cond-false (is_among (home + 1) many first) (Some (zeros 4096)) (bytes_in staged first)
        (let below : first < home + 1 = omega (arith, before) in
        let out : is_among (home + 1) many first ≡ false = grind (arith, nat_tests, below) in out)

    -- how many blocks are put then
    pub count_grown : (last : List ℕ) → length (grown last) ≡ length staged + added_to (bytes_in staged home) many
    count_grown last =
        let zero_blocks = length_zeros staged first end (home + 1) many may.rising (omega (arith, before)) behind_in
        (λ q above below. none_behind q (omega (arith, above)) (omega (arith, below, grows, at))) in
        length_put filled first end home (cut_to (from % 4096) last) rising_filled
        ∙ ap (λ (o : Option (List ℕ)). added_to o (length filled)) last_same
        ∙ ap (added_to (bytes_in staged home)) zero_blocks ∙ added_sum (bytes_in staged home) (length staged) many

    pub ends_grown : (last : List ℕ) (f q : ℕ) → starts f + pages_of (get_or (set lengths file to) f 0) ≤ q
        → q < starts (f + 1) → bytes_in (grown last) q ≡ None
    ends_grown last f q past next =
        let out : home ≤ q → q < starts file + pages_of to → ⊥ = λ from_home high. elim (cases_eq f file) [
          | inl same ↦ absurd (let size = ap (λ i. get_or (set lengths file to) i 0) same ∙ long_there in
              let start = ap starts same in omega (arith, past, high, size, start))
          | inr other ↦ may.one_file f file q other (omega (arith, past)) next (omega (arith, from_home, at))
              (omega (arith, high, may.file_ends))
        ] in
        let absent : bytes_in staged q ≡ None = elim (cases_eq f file) [
          | inl same ↦ may.ends f q (let size = ap (λ i. get_or (set lengths file to) i 0) same ∙ long_there in
              let was = ap (λ i. get_or lengths i 0) same in omega (arith, past, size, was, grows)) next
          | inr other ↦ may.ends f q (let size = long_elsewhere f other in omega (arith, past, size)) next
        ] in
        let not_last : q ≢ home = λ e. out (omega (arith, e)) (omega (arith, e, grows, at)) in
        let not_among : is_among (home + 1) many q ≡ false = elim (cases_Bool (is_among (home + 1) many q)) [
          | inl is ↦ absurd (let above : home + 1 ≤ q = grind (arith, nat_tests, is) in
              let high : q < home + 1 + many = grind (arith, nat_tests, is) in
              out (omega (arith, above)) (omega (arith, high, grows, at)))
          | inr not ↦ not
        ] in
        bytes_put filled home (cut_to (from % 4096) last) q
        ∙ cond-false (eqb q home) (Some (cut_to (from % 4096) last)) (bytes_in filled q) (ne_eqb q home not_last)
        ∙ bytes_zeros staged (home + 1) many q
        ∙ cond-false (is_among (home + 1) many q) (Some (zeros 4096)) (bytes_in staged q) not_among ∙ absent

  -- ---- a shrink, where the file ends in this home block then

  module _ (shrinks : to < from) (home : ℕ) where
    abbrev low_end : ℕ
    low_end = starts file + pages_of to

    abbrev high_end : ℕ
    high_end = starts file + pages_of from

    abbrev kept : Blocks
    kept = without_run staged low_end high_end

    abbrev shrunk : Blocks
    shrunk = cut_in kept home (to % 4096)

    abbrev at_end : ℕ → List ℕ → List ℕ
    at_end q x = if eqb q home then cut_to (to % 4096) x else x

    bytes_shrunk : (q : ℕ) → bytes_in shrunk q
        ≡ option_map (at_end q) (if is_outside low_end high_end q then bytes_in staged q else None)
    bytes_shrunk q = bytes_cut kept home (to % 4096) q
        ∙ ap (option_map (at_end q)) (bytes_without low_end high_end staged q)

    pub rises_shrunk : RiseWithin first end (homes_in shrunk)
    rises_shrunk = subst (RiseWithin first end) (sym (homes_cut kept home (to % 4096)))
        (rising_without low_end high_end first end staged may.rising)

    pub first_there : is_some (bytes_in shrunk first) ≡ is_some (bytes_in staged first)
    first_there = ap is_some (bytes_shrunk first)
        ∙ some_mapped (at_end first) (if is_outside low_end high_end first then bytes_in staged first else None)
        ∙ ap is_some (cond-true (is_outside low_end high_end first) (bytes_in staged first) None
        (outside_below low_end high_end first (omega (arith, may.low))))

    pub count_shrunk : length shrunk ≤ length staged
    count_shrunk = omega (arith, length_cut kept home (to % 4096), fewer_without low_end high_end staged)

    pub ends_shrunk : (f q : ℕ) → starts f + pages_of (get_or (set lengths file to) f 0) ≤ q → q < starts (f + 1)
        → bytes_in shrunk q ≡ None
    ends_shrunk f q past next = bytes_shrunk q
        ∙ none_mapped (at_end q) (if is_outside low_end high_end q then bytes_in staged q else None)
        (elim (cases_Bool (is_outside low_end high_end q)) [
          | inr gone ↦ cond-false (is_outside low_end high_end q) (bytes_in staged q) None gone
          | inl outside ↦ cond-true (is_outside low_end high_end q) (bytes_in staged q) None outside
              ∙ elim (cases_eq f file) [
                | inr other ↦ may.ends f q (let size = long_elsewhere f other in omega (arith, past, size)) next
                | inl same ↦ may.ends f q (let size = ap (λ i. get_or (set lengths file to) i 0) same ∙ long_there in
                    let was = ap (λ i. get_or lengths i 0) same in
                    let start = ap starts same in
                    let high : high_end ≤ q = elim (cases_lt q high_end) [
                      | inl inner ↦ absurd (false≢true (sym (inside_of low_end high_end q
                          (omega (arith, past, size, start)) inner) ∙ outside))
                      | inr over ↦ omega (arith, over)
                    ] in omega (arith, high, was, start)) next
              ]
        ])
