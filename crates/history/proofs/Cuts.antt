-- Pages that are cut, and histories to which a change of a file's length is added.
use Rattle.std.proofs.Common.{◌≡◌, ◌≢◌, ℕ, ◌+◌, ◌-◌, ◌*◌, ◌/◌, ◌<◌, ◌≤◌, Bool, true, false, ◌&&◌, ◌||◌, eqb, leb, List}
use Rattle.std.proofs.Common.{[], ◌∷◌, ◌++◌, length, take, set, refl, sym, ap, ◌∙◌, inl, inr, arith, append_assoc, ◌⊎◌}
use Rattle.std.proofs.Common.{ltb}
use Rattle.std.specs.Prelude.{min}
use Rattle.std.proofs.lemmas.Bool.{cond-true, cond-false, cond_both, cases_lt, cases_Bool, and_from, and_parts}
use Rattle.std.proofs.lemmas.Bool.{or_left, or_right, or_parts, or_from, eq-eqb, eqb-true, ne_eqb, false≢true, lt-ltb}
use Rattle.std.proofs.lemmas.Bool.{ltb-true, le-leb, leb-true}
use Rattle.std.proofs.lemmas.List.{length-append, length-take, take_all, take_at, replicate-append-replicate}
use Rattle.std.proofs.lemmas.List.{take-replicate}
use Rattle.volume_codec.proofs.Public.{length-padded, length-zeros, take-past}
use Rattle.volume_codec.specs.Text.{padded, zeros}
use Rattle.volume_codec.specs.Super.{pages_of}
use Rattle.history.specs.History.{Event, Memory, after, lengths_after, since_mark, is_touched, is_change_of}
use Rattle.history.specs.History.{with_event, with_length, cut_file, SetLength, Mark, Acknowledge}
use Rattle.history.specs.inside.Contents.{has_resized, is_resize}
use Rattle.std.proofs.lemmas.List.Sums.{fold-append}
use Rattle.std.specs.List.{list_any, Contains}
use Rattle.std.proofs.lemmas.List.Folds.{list_any-append}
use Rattle.history.proofs.Lists.{only_one}
use Rattle.history.proofs.Padding.{nothing_padded}
use Rattle.history.proofs.Histories.{after-append}

-- ---- zeros

zeros_more : (n m : ℕ) → zeros n ++ zeros m ≡ zeros (n + m)
unfolding zeros
zeros_more n m = replicate-append-replicate n m 0

fewer_zeros : (m n : ℕ) → m ≤ n → take m (zeros n) ≡ zeros m
unfolding zeros
fewer_zeros m n le = take-replicate m n 0 le

-- ---- a page that is cut

-- its first n bytes, and zeros where they end
abbrev pub cut : ℕ → List ℕ → List ℕ
cut n bytes = padded 4096 (take n bytes)

pub length-cut : (n : ℕ) (bytes : List ℕ) → length bytes ≤ 4096 → length (cut n bytes) ≡ 4096
length-cut n bytes few = length-padded 4096 (take n bytes) (omega (arith, few, length-take n bytes))

-- a page that ends before the cut stays
pub cut-whole : (n : ℕ) (bytes : List ℕ) → length bytes ≡ 4096 → 4096 ≤ n → cut n bytes ≡ bytes
cut-whole n bytes size past =
    ap (padded 4096) (take_all n bytes (omega (arith, size, past))) ∙ nothing_padded 4096 bytes size

-- of one that begins after it nothing is left
pub cut-none : (n : ℕ) (bytes : List ℕ) → n ≡ 0 → cut n bytes ≡ zeros 4096
cut-none n bytes none = ap (λ k. cut k bytes) none

-- the bytes before the cut stay
pub take-cut : (n : ℕ) (bytes : List ℕ) → length bytes ≡ 4096 → take n (cut n bytes) ≡ take n bytes
take-cut n bytes size = elim (cases_lt n 4096) [
  | inl lt ↦ take_at (take n bytes) (zeros (4096 - length (take n bytes))) n (omega (arith, size, length-take n bytes))
  | inr past ↦ ap (take n) (cut-whole n bytes size past)
]

-- a later cut leaves what an earlier one left
pub cut-later : (a b : ℕ) (bytes : List ℕ) → length bytes ≡ 4096 → a ≤ b → cut b (cut a bytes) ≡ cut a bytes
cut-later a b bytes size le = elim (cases_lt b 4096) [
  | inr past ↦ cut-whole b (cut a bytes) (length-cut a bytes (omega arith)) past
  | inl lt ↦
      let front : List ℕ = take a bytes in
      let is : length front ≡ a = omega (arith, size, length-take a bytes) in
      let split : a + (b - a) ≡ b = omega arith in
      let first : take b (cut a bytes) ≡ front ++ zeros (b - a) =
      sym (ap (λ k. take k (cut a bytes)) split) ∙ take-past front (zeros (4096 - length front)) a (b - a) is
      ∙ ap (λ (z : List ℕ). front ++ z) (fewer_zeros (b - a) (4096 - length front) (omega (arith, is, lt))) in
      let size_now : length (front ++ zeros (b - a)) ≡ b =
      omega (arith, length-append front (zeros (b - a)), length-zeros (b - a), is, le) in
      let rest : (b - a) + (4096 - length (front ++ zeros (b - a))) ≡ 4096 - length front =
      omega (arith, size_now, is, lt, le) in
      ap (padded 4096) first ∙ append_assoc front (zeros (b - a)) (zeros (4096 - length (front ++ zeros (b - a))))
      ∙ ap (λ (z : List ℕ). front ++ z) (zeros_more (b - a) (4096 - length (front ++ zeros (b - a))) ∙ ap zeros rest)
]

-- ---- a file that is cut

pub cut_file-there : (memory : Memory) (file end f page : ℕ) → f ≡ file
    → cut_file memory file end f page ≡ cut (end - 4096 * page) (memory f page)
cut_file-there memory file end f page same =
    cond-true (eqb f file) (cut (end - 4096 * page) (memory f page)) (memory f page) (eq-eqb f file same)

pub cut_file-other : (memory : Memory) (file end f page : ℕ) → f ≢ file
    → cut_file memory file end f page ≡ memory f page
cut_file-other memory file end f page other =
    cond-false (eqb f file) (cut (end - 4096 * page) (memory f page)) (memory f page) (ne_eqb f file other)

pub length-cut_file : (memory : Memory) (file end f page : ℕ) → length (memory f page) ≡ 4096
    → length (cut_file memory file end f page) ≡ 4096
length-cut_file memory file end f page size =
    cond_both (eqb f file) (cut (end - 4096 * page) (memory f page)) (memory f page) (λ (l : List ℕ). length l ≡ 4096)
    (λ e. length-cut (end - 4096 * page) (memory f page) (omega (arith, size))) (λ e. size)

-- ---- the history after it

module _ (history : List Event) (file from to : ℕ) where
  abbrev longer : List Event
  longer = history ++ SetLength file from to ∷ []

  pub after_set_length : (memory : Memory) → after memory longer ≡ cut_file (after memory history) file (min from to)
  after_set_length memory = after-append memory history (SetLength file from to ∷ [])

  pub lengths_set_length : (lengths : List ℕ)
      → lengths_after lengths longer ≡ set (lengths_after lengths history) file to
  lengths_set_length lengths = fold-append with_length lengths history (SetLength file from to ∷ [])

  -- a test of events since the last mark passes where it did, or at this one
  any_now : (test : Event → Bool) → list_any test (since_mark longer)
      ≡ (list_any test (since_mark history) || (test (SetLength file from to) || false))
  any_now test = ap (list_any test) (fold-append with_event [] history (SetLength file from to ∷ []))
      ∙ list_any-append test (since_mark history) (SetLength file from to ∷ [])

  pub resized_set_length : has_resized longer ≡ true
  resized_set_length = any_now is_resize ∙ or_right (has_resized history) true refl

  -- the pages that it touches are those of a growth
  abbrev grows_in : ℕ → ℕ → Bool
  grows_in f page = eqb file f && ltb from to && leb (from / 4096) page && ltb page (pages_of to)

  pub touched_now : (f page : ℕ) → is_touched longer f page ≡ (is_touched history f page || (grows_in f page || false))
  touched_now f page = any_now (is_change_of f page)

  -- each page that was touched is still, and those that the growth has are
  pub touched_still : (f page : ℕ) → is_touched history f page ≡ true → is_touched longer f page ≡ true
  touched_still f page was = touched_now f page ∙ or_left (is_touched history f page) (grows_in f page || false) was

  pub touched_grown : (page : ℕ) → from < to → from / 4096 ≤ page → page < pages_of to
      → is_touched longer file page ≡ true
  touched_grown page grows low high =
      touched_now file page
      ∙ or_right (is_touched history file page) (grows_in file page || false)
      (or_left (grows_in file page) false
      (and_from (eqb file file && ltb from to && leb (from / 4096) page) (ltb page (pages_of to))
      (and_from (eqb file file && ltb from to) (leb (from / 4096) page) (and_from (eqb file file) (ltb from to)
      (eq-eqb file file refl) (lt-ltb from to grows)) (le-leb (from / 4096) page low))
      (lt-ltb page (pages_of to) high)))

  -- a page that isn't touched wasn't, and isn't of the growth
  pub record WasUntouched (f page : ℕ) : Type 0 where
    pub before : is_touched history f page ≡ false
    pub apart : f ≡ file → from < to → from / 4096 ≤ page → page < pages_of to → ⊥

  pub untouched_before : (f page : ℕ) → is_touched longer f page ≡ false → WasUntouched f page
  untouched_before f page none = record {
    before = (or_parts (is_touched history f page) (grows_in f page || false) (sym (touched_now f page) ∙ none)).0;
    apart = λ same grows low high.
        false≢true (sym none ∙ ap (λ k. is_touched longer k page) same ∙ touched_grown page grows low high);
  }

  -- a page that is touched was, or is of the growth
  pub record IsGrown (f page : ℕ) : Type 0 where
    pub file_is : f ≡ file
    pub grows : from < to
    pub low : from / 4096 ≤ page
    pub high : page < pages_of to

  pub touched_cases : (f page : ℕ) → is_touched longer f page ≡ true
      → (is_touched history f page ≡ true) ⊎ IsGrown f page
  touched_cases f page is = elim (cases_Bool (is_touched history f page)) [
    | inl was ↦ inl was
    | inr new ↦ elim (cases_Bool (grows_in f page)) [
      | inl here ↦
          (let a = and_parts (eqb file f && ltb from to && leb (from / 4096) page) (ltb page (pages_of to)) here in
          let b = and_parts (eqb file f && ltb from to) (leb (from / 4096) page) a.0 in
          let c = and_parts (eqb file f) (ltb from to) b.0 in
          inr (record {
            file_is = sym (eqb-true file f c.0);
            grows = ltb-true from to c.1;
            low = leb-true (from / 4096) page b.1;
            high = ltb-true page (pages_of to) a.1;
          }))
      | inr other ↦ absurd (false≢true (sym (or_from (is_touched history f page) (grows_in f page || false) new
          (or_from (grows_in f page) false other refl)) ∙ sym (touched_now f page) ∙ is))
    ]
  ]

  -- it marks and acknowledges nothing
  length_no_mark : (n : ℕ) → SetLength file from to ≡ Mark n → ⊥
  length_no_mark n e = cc

  length_no_acknowledgement : (n : ℕ) → SetLength file from to ≡ Acknowledge n → ⊥
  length_no_acknowledgement n e = cc

  pub length_marks : (n : ℕ) → Contains (SetLength file from to ∷ []) (Mark n) → ⊥
  length_marks n has = length_no_mark n (only_one (SetLength file from to) (Mark n) has)

  pub length_acknowledges : (n : ℕ) → Contains (SetLength file from to ∷ []) (Acknowledge n) → ⊥
  length_acknowledges n has = length_no_acknowledgement n (only_one (SetLength file from to) (Acknowledge n) has)
