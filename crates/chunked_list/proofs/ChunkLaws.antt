-- What a change of one chunk, or of two that follow each other, changes in the list that the chunks make together.
use Rattle.std.proofs.Common.{◌≡◌, ◌≢◌, ◌+◌, ◌*◌, ◌<◌, ◌≤◌, ℕ, zero, suc, List, [], ◌∷◌, ◌++◌, length}
use Rattle.std.proofs.Common.{◌/◌, ◌%◌, ⊎_elim, subst, get_or, set, replicate, refl, sym, ap, ◌∙◌, arith}
use Rattle.std.proofs.lemmas.List.{get_or_append_left, get_or-append_right, append_assoc}
use Rattle.std.proofs.lemmas.List.{get_or-set_same, get_or-set_other, set_comm}
use Rattle.std.proofs.lemmas.List.{get_or_default, length-set, length-append, length-replicate}
use Rattle.std.proofs.lemmas.Bool.{cases_lt, cases_eq}
use Rattle.std.specs.List.{concat, insert, remove}
use Rattle.std.proofs.lemmas.List.Edits.{insert-append_left, insert-append_right, remove-append_left}
use Rattle.std.proofs.lemmas.List.Edits.{remove-append_right, length-insert, length-remove}
use Rattle.chunked_list.specs.inside.Chunks.{IsFilled, HasHole, AreChunks}

-- each chunk before this one is full
abbrev pub AreFullBefore : List (List ℕ) → ℕ → Type 0
AreFullBefore chunks number = (k : ℕ) → k < number → length (get_or chunks k []) ≡ 1024

later_full : (c : List ℕ) (cs : List (List ℕ)) (n : ℕ) → AreFullBefore (c ∷ cs) (suc n) → AreFullBefore cs n
later_full c cs n full k less = full (suc k) (omega (arith, less))

-- the element at a place is that of its chunk
pub get_or-concat : (chunks : List (List ℕ)) (number at d : ℕ) → AreFullBefore chunks number
    → number < length chunks → at < length (get_or chunks number [])
    → get_or (concat chunks) (number * 1024 + at) d ≡ get_or (get_or chunks number []) at d
get_or-concat [] number at d full within below = absurd (omega (arith, within))
get_or-concat (c ∷ cs) zero at d full within below =
    ap (λ m. get_or (c ++ concat cs) m d) (omega arith) ∙ get_or_append_left c (concat cs) d at below
get_or-concat (c ∷ cs) (suc n) at d full within below =
    let size = full 0 (omega arith) in
    get_or-append_right c (concat cs) 1024 (suc n * 1024 + at) d size (omega arith)
    ∙ ap (λ m. get_or (concat cs) m d) (omega arith)
    ∙ get_or-concat cs n at d (later_full c cs n full) (omega (arith, within)) below

-- what is put into one chunk is put into the list
pub insert-concat : (chunks : List (List ℕ)) (number at x : ℕ) → AreFullBefore chunks number
    → number < length chunks → at ≤ length (get_or chunks number [])
    → concat (set chunks number (insert (get_or chunks number []) at x)) ≡ insert (concat chunks) (number * 1024 + at) x
insert-concat [] number at x full within below = absurd (omega (arith, within))
insert-concat (c ∷ cs) zero at x full within below =
    sym (insert-append_left c (concat cs) at x below) ∙ ap (λ m. insert (c ++ concat cs) m x) (omega arith)
insert-concat (c ∷ cs) (suc n) at x full within below =
    let size = full 0 (omega arith) in
    ap (λ rest. c ++ rest) (insert-concat cs n at x (later_full c cs n full) (omega (arith, within)) below)
    ∙ ap (λ m. c ++ insert (concat cs) m x) (omega arith)
    ∙ sym (insert-append_right c (concat cs) 1024 (suc n * 1024 + at) x size (omega arith))

-- what is taken out of one chunk is taken out of the list
pub remove-concat : (chunks : List (List ℕ)) (number at : ℕ) → AreFullBefore chunks number
    → number < length chunks → at < length (get_or chunks number [])
    → concat (set chunks number (remove (get_or chunks number []) at)) ≡ remove (concat chunks) (number * 1024 + at)
remove-concat [] number at full within below = absurd (omega (arith, within))
remove-concat (c ∷ cs) zero at full within below =
    sym (remove-append_left c (concat cs) at below) ∙ ap (λ m. remove (c ++ concat cs) m) (omega arith)
remove-concat (c ∷ cs) (suc n) at full within below =
    let size = full 0 (omega arith) in
    ap (λ rest. c ++ rest) (remove-concat cs n at (later_full c cs n full) (omega (arith, within)) below)
    ∙ ap (λ m. c ++ remove (concat cs) m) (omega arith)
    ∙ sym (remove-append_right c (concat cs) 1024 (suc n * 1024 + at) size (omega arith))

-- two chunks that follow each other are parted elsewhere
pub concat-parted : (chunks : List (List ℕ)) (number : ℕ) (xs ys : List ℕ) → suc number < length chunks
    → xs ++ ys ≡ get_or chunks number [] ++ get_or chunks (suc number) []
    → concat (set (set chunks number xs) (suc number) ys) ≡ concat chunks
concat-parted [] number xs ys within same = absurd (omega (arith, within))
concat-parted (c ∷ []) number xs ys within same = absurd (omega (arith, within))
concat-parted (c ∷ (d ∷ cs)) zero xs ys within same =
    sym (append_assoc xs ys (concat cs)) ∙ ap (λ zs. zs ++ concat cs) same ∙ append_assoc c d (concat cs)
concat-parted (c ∷ (d ∷ cs)) (suc n) xs ys within same =
    ap (λ rest. c ++ rest) (concat-parted (d ∷ cs) n xs ys (omega (arith, within)) same)

pub concat-empty : (n : ℕ) → concat (replicate n []) ≡ []
concat-empty zero = refl
concat-empty (suc n) = concat-empty n

module _ (chunks : List (List ℕ)) (count room : ℕ) (are : AreChunks chunks count room) where
  -- the chunk of a place, and the place in it
  pub chunk_within : (place : ℕ) → place ≤ count → place / 1024 < length chunks
  chunk_within place le = omega (arith, are.few, are.enough)

  pub place_parts : (place : ℕ) → place / 1024 * 1024 + place % 1024 ≡ place
  place_parts place = omega arith

  pub place_within : (place : ℕ) → place < count → place % 1024 < length (get_or chunks (place / 1024) [])
  place_within place less =
      let size = are.filled (place / 1024) in
      ⊎_elim (λ part. omega (arith, size.part part)) (λ full. omega (arith, size.full full))
      (cases_lt count (place / 1024 * 1024 + 1024))

  pub full_before : (number : ℕ) → number * 1024 ≤ count → AreFullBefore chunks number
  full_before number le k less = (are.filled k).full (omega (arith, le, less))

  -- the number at a place
  pub get_or-chunks : (place d : ℕ) → place < count
      → get_or (get_or chunks (place / 1024) []) (place % 1024) d ≡ get_or (concat chunks) place d
  get_or-chunks place d less =
      sym (get_or-concat chunks (place / 1024) (place % 1024) d (full_before (place / 1024) (omega arith))
      (chunk_within place (omega arith)) (place_within place less))
      ∙ ap (λ m. get_or (concat chunks) m d) (place_parts place)

  -- one number may be missing at the end
  pub hole_at_end : HasHole chunks (count + 1) (count / 1024)
  hole_at_end = record {
    here = record {
      full = λ le. omega (arith, (are.filled (count / 1024)).part (omega arith));
      part = λ less. omega (arith, (are.filled (count / 1024)).part (omega arith));
    };
    others = λ number differs. record {
      full = λ le. (are.filled number).full (omega (arith, differs));
      part = λ less. ⊎_elim (λ part. omega (arith, differs, (are.filled number).part part))
          (λ full. absurd (omega (arith, differs))) (cases_lt count (number * 1024 + 1024));
    };
  }

-- no list is empty where each chunk is
pub AreChunks-empty : (n room : ℕ) → room < 1024 * n → AreChunks (replicate n []) 0 room
AreChunks-empty n room enough = record {
  filled = λ number. record {
    full = λ le. absurd (omega (arith, le));
    part = λ less. omega (arith, none n number);
  };
  counted = ap length (concat-empty n);
  few = omega arith;
  enough = omega (arith, enough, length-replicate {A = List ℕ} n []);
}
  where
    none : (n number : ℕ) → length {A = ℕ} (get_or (replicate n []) number []) ≡ 0
    none zero number = refl
    none (suc n) zero = refl
    none (suc n) (suc number) = none n number

-- a number leaves one chunk for the one where one is missing: the hole is where it was
HasHole-step : (chunks : List (List ℕ)) (count from to : ℕ) (fewer more : List ℕ) → from ≢ to
    → from < length chunks → to < length chunks
    → suc (length fewer) ≡ length (get_or chunks to []) → length more ≡ suc (length (get_or chunks from []))
    → HasHole chunks count from → HasHole (set (set chunks to fewer) from more) count to
HasHole-step chunks count from to fewer more differs from_within to_within less grown has =
    let now = set (set chunks to fewer) from more in
    let at_to : get_or now to [] ≡ fewer =
    get_or-set_other (set chunks to fewer) from to more [] (λ same. differs (sym same))
    ∙ get_or-set_same chunks to fewer [] to_within in
    let at_from : get_or now from [] ≡ more =
    get_or-set_same (set chunks to fewer) from more [] (omega (arith, from_within, length-set chunks to fewer)) in
    record {
      here = subst (IsFilled count to) (sym less ∙ ap (λ xs. suc (length xs)) (sym at_to))
          (has.others to (λ same. differs (sym same)));
      others = λ number elsewhere. ⊎_elim
          (λ same. subst (λ n. IsFilled count n (length (get_or now n []))) (sym same)
          (subst (IsFilled count from) (sym grown ∙ ap length (sym at_from)) has.here))
          (λ other. subst (IsFilled count number)
          (ap length (sym (get_or-set_other (set chunks to fewer) from number more [] other
          ∙ get_or-set_other chunks to number fewer [] elsewhere)))
          (has.others number other))
          (cases_eq number from);
    }

-- the last number of a chunk goes to the front of the next one
pub opened : (chunks : List (List ℕ)) (count n m v : ℕ) (read next front more : List ℕ) → m ≡ suc n
    → HasHole chunks count m → m < length chunks
    → read ≡ get_or chunks n read → read ≡ front ++ v ∷ []
    → next ≡ get_or (set chunks n front) m next → more ≡ v ∷ next
    → HasHole (set (set chunks n front) m more) count n
    × (concat (set (set chunks n front) m more) ≡ concat chunks)
opened chunks count n m v read next front more after has within is_read parts is_next grown =
    let was : get_or chunks n [] ≡ front ++ v ∷ [] =
    get_or_default chunks n [] read (omega (arith, within, after)) ∙ sym is_read ∙ parts in
    let beside : next ≡ get_or chunks m [] =
    is_next
    ∙ get_or-set_other chunks n m front next (λ same. absurd (omega (arith, same, after)))
    ∙ get_or_default chunks m next [] within in (
      HasHole-step chunks count m n front more (λ same. absurd (omega (arith, same, after))) within
          (omega (arith, within, after))
          (omega (arith, ap length was, length-append front (v ∷ [])))
          (ap length (grown ∙ ap (λ xs. v ∷ xs) beside)) has,
      ap (λ m. concat (set (set chunks n front) m more)) after
          ∙ concat-parted chunks n front more (omega (arith, within, after))
          (ap (λ xs. front ++ xs) (grown ∙ ap (λ xs. v ∷ xs) beside)
          ∙ sym (append_assoc front (v ∷ []) (get_or chunks m []))
          ∙ ap (λ xs. xs ++ get_or chunks m []) (sym was)
          ∙ ap (λ k. get_or chunks n [] ++ get_or chunks k []) after),
    )

-- the first number of a chunk goes to the end of the one before
pub closed : (chunks : List (List ℕ)) (count n m v : ℕ) (read before rest more : List ℕ) → m ≡ suc n
    → HasHole chunks count n → m < length chunks
    → read ≡ get_or chunks m read → read ≡ v ∷ rest
    → before ≡ get_or (set chunks m rest) n before → more ≡ before ++ v ∷ []
    → HasHole (set (set chunks m rest) n more) count m
    × (concat (set (set chunks m rest) n more) ≡ concat chunks)
closed chunks count n m v read before rest more after has within is_read parts is_before grown =
    let was : get_or chunks m [] ≡ v ∷ rest =
    get_or_default chunks m [] read within ∙ sym is_read ∙ parts in
    let beside : before ≡ get_or chunks n [] =
    is_before
    ∙ get_or-set_other chunks m n rest before (λ same. absurd (omega (arith, same, after)))
    ∙ get_or_default chunks n before [] (omega (arith, within, after)) in (
      HasHole-step chunks count n m rest more (λ same. absurd (omega (arith, same, after)))
          (omega (arith, within, after)) within
          (omega (arith, ap length was))
          (omega (arith, ap length grown, length-append before (v ∷ []), ap length beside)) has,
      ap (λ m. concat (set (set chunks m rest) n more)) after
          ∙ ap concat (set_comm chunks (suc n) n rest more (λ same. absurd (omega (arith, same))))
          ∙ concat-parted chunks n more rest (omega (arith, within, after))
          (ap (λ xs. xs ++ rest) (grown ∙ ap (λ xs. xs ++ v ∷ []) beside)
          ∙ append_assoc (get_or chunks n []) (v ∷ []) rest
          ∙ ap (λ xs. get_or chunks n [] ++ xs) (sym was)
          ∙ ap (λ k. get_or chunks n [] ++ get_or chunks k []) after),
    )

-- a number is put in where one is missing
pub inserted : (chunks : List (List ℕ)) (count room place x : ℕ) (read new : List ℕ)
    → HasHole chunks (count + 1) (place / 1024) → length (concat chunks) ≡ count → place ≤ count → count < room
    → room < 1024 * length chunks → read ≡ get_or chunks (place / 1024) read → new ≡ insert read (place % 1024) x
    → AreChunks (set chunks (place / 1024) new) (count + 1) room
    × (concat (set chunks (place / 1024) new) ≡ insert (concat chunks) place x)
inserted chunks count room place x read new has counted le less enough is_read is_new =
    let k = place / 1024 in
    let within : k < length chunks = omega (arith, le, less, enough) in
    let was : read ≡ get_or chunks k [] = is_read ∙ get_or_default chunks k read [] within in
    let below : place % 1024 ≤ length (get_or chunks k []) =
    ⊎_elim (λ part. omega (arith, le, has.here.part part)) (λ full. omega (arith, le, has.here.full full))
    (cases_lt (count + 1) (k * 1024 + 1024)) in
    let full : AreFullBefore chunks k = λ j before.
    (has.others j (λ same. absurd (omega (arith, same, before)))).full (omega (arith, before, le)) in
    let is : new ≡ insert (get_or chunks k []) (place % 1024) x =
    is_new ∙ ap (λ xs. insert xs (place % 1024) x) was in
    let size : length new ≡ suc (length (get_or chunks k [])) =
    omega (arith, ap length is, length-insert (get_or chunks k []) (place % 1024) x below) in
    let all : concat (set chunks k new) ≡ insert (concat chunks) place x =
    ap (λ xs. concat (set chunks k xs)) is
    ∙ insert-concat chunks k (place % 1024) x full within below
    ∙ ap (λ m. insert (concat chunks) m x) (omega arith) in (
      record {
        filled = λ number. ⊎_elim
            (λ same. subst (λ n. IsFilled (count + 1) n (length (get_or (set chunks k new) n []))) (sym same)
            (subst (IsFilled (count + 1) k)
            (sym size ∙ ap length (sym (get_or-set_same chunks k new [] within))) has.here))
            (λ other. subst (IsFilled (count + 1) number)
            (ap length (sym (get_or-set_other chunks k number new [] other))) (has.others number other))
            (cases_eq number k);
        counted = omega (
          arith,
          ap length all,
          length-insert (concat chunks) place x (omega (arith, le, counted)),
          counted,
        );
        few = omega (arith, less);
        enough = omega (arith, enough, length-set chunks k new);
      },
      all,
    )

-- a number is taken out, and then one is missing in its chunk
pub removed : (chunks : List (List ℕ)) (count room place : ℕ) (read new : List ℕ)
    → AreChunks chunks count room → place < count
    → read ≡ get_or chunks (place / 1024) read → new ≡ remove read (place % 1024)
    → HasHole (set chunks (place / 1024) new) count (place / 1024)
    × (concat (set chunks (place / 1024) new) ≡ remove (concat chunks) place)
removed chunks count room place read new are less is_read is_new =
    let k = place / 1024 in
    let within : k < length chunks = chunk_within chunks count room are place (omega (arith, less)) in
    let was : read ≡ get_or chunks k [] = is_read ∙ get_or_default chunks k read [] within in
    let below = place_within chunks count room are place less in
    let full = full_before chunks count room are k (omega (arith, less)) in
    let is : new ≡ remove (get_or chunks k []) (place % 1024) =
    is_new ∙ ap (λ xs. remove xs (place % 1024)) was in
    let size : suc (length new) ≡ length (get_or chunks k []) =
    omega (arith, ap length is, length-remove (get_or chunks k []) (place % 1024) below) in (
      record {
        here = subst (IsFilled count k)
            (sym size ∙ ap (λ xs. suc (length xs)) (sym (get_or-set_same chunks k new [] within))) (are.filled k);
        others = λ number other. subst (IsFilled count number)
            (ap length (sym (get_or-set_other chunks k number new [] other))) (are.filled number);
      },
      ap (λ xs. concat (set chunks k xs)) is
          ∙ remove-concat chunks k (place % 1024) full within below
          ∙ ap (λ m. remove (concat chunks) m) (omega arith),
    )

-- where one is missing at the end, none is missing for one fewer
pub AreChunks-hole : (chunks : List (List ℕ)) (count room : ℕ) → HasHole chunks (count + 1) (count / 1024)
    → length (concat chunks) ≡ count → count ≤ room → room < 1024 * length chunks → AreChunks chunks count room
AreChunks-hole chunks count room has counted few enough = record {
  filled = λ number. ⊎_elim
      (λ same. record {
        full = λ le. absurd (omega (arith, same, le));
        part = λ less.
            let here = subst (λ n. IsFilled (count + 1) n (suc (length (get_or chunks n [])))) (sym same) has.here in
            ⊎_elim (λ part. omega (arith, same, here.part part)) (λ full. omega (arith, same, here.full full))
            (cases_lt (count + 1) (number * 1024 + 1024));
      })
      (λ other.
      let there = has.others number other in
      record {
        full = λ le. there.full (omega (arith, le));
        part = λ less. ⊎_elim (λ part. omega (arith, other, less, there.part part))
            (λ full. absurd (omega (arith, other, less, full))) (cases_lt (count + 1) (number * 1024 + 1024));
      })
      (cases_eq number (count / 1024));
  counted = counted;
  few = few;
  enough = enough;
}
