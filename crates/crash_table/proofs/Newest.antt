-- The mark whose files are found after a crash.
use Rattle.std.proofs.Common.{◌≡◌, inl, inr, ℕ, zero, suc, ◌+◌, ◌-◌, ◌<◌, ◌≤◌, List, [], ◌∷◌, ◌++◌}
use Rattle.std.proofs.Common.{length, take, map, Some, refl, sym, ◌∙◌, ap, subst, arith, length-append}
use Rattle.std.specs.Prelude.{slice_get, Contains}
use Rattle.std.proofs.lemmas.Bool.{cases_lt, cases_eq}
use Rattle.std.proofs.lemmas.List.{take-take, length-take-le}
use Rattle.std.proofs.lemmas.Option.{slice_get_within}
use Rattle.std.proofs.lemmas.List.Elements.{Contains-append_left, Contains-push_cases}
use Rattle.volume_codec.specs.Files.{File}
use Rattle.volume_codec.specs.Recovery.{RecoversTo}
use Rattle.machine.specs.declared.act.Reply.{Reply}
use Rattle.machine.specs.declared.act.Reply.TheVariants.{Marked}
use Rattle.machine.specs.declared.act.Shape.{Shape}
use Rattle.machine.specs.declared.act.Step.{Step}
use Rattle.history.specs.History.{Event, Mark, files_after, IsDurablePrefix}
use Rattle.machine.specs.Laws.{observed_at_start}
use Rattle.history.specs.Reading.{ReadsBack}
use Rattle.machine.specs.Observed.{observe_all}
use Rattle.crash_table.specs.Crashes.{history_of, IsAtMark}
use Rattle.crash_table.specs.declared.found.MarkFiles.{MarkFiles}
use Rattle.crash_table.specs.Marks.{up_to_mark, bytes_at, contents_of, NoneFrom, IsNewest}
use Rattle.crash_table.specs.inside.Kept.{IsKept, AreKept}
use Rattle.crash_table.proofs.Histories.{up_to_begins}
use Rattle.crash_table.proofs.Marks.{IsOneReading, ends_at_mark, no_later}
use Rattle.crash_table.proofs.Bytes.{same_files}

-- ---- looking for the newest mark

-- one index less
pub none_more : (files : List File) (shape : Shape) (steps : List Step) (replies : List Reply) (bytes : List (List ℕ))
    (at : ℕ) → NoneFrom files shape steps replies bytes (at + 1)
    → ((number : ℕ) → slice_get replies at ≡ Some (Marked number) → bytes ≡ bytes_at files shape steps replies at number
    → ⊥) → NoneFrom files shape steps replies bytes at
none_more files shape steps replies bytes at later here i number from is same =
    elim (cases_eq i at) [
      | inl this ↦ here number (ap (slice_get replies) (sym this) ∙ is)
          (same ∙ ap (λ j. bytes_at files shape steps replies j number) this)
      | inr other ↦ later i number (omega (arith, from, next i at from other)) is same
    ]
  where
    next : (i at : ℕ) → at ≤ i → (i ≡ at → ⊥) → at + 1 ≤ i
    next i at from other = elim (cases_lt at i)
        [ inl less ↦ omega (arith, less) | inr more ↦ absurd (other (omega (arith, from, more))) ]

-- one index less, counted from the end
pub none_before : (files : List File) (shape : Shape) (steps : List Step) (replies : List Reply) (bytes : List (List ℕ))
    (n before : ℕ) → before < n → NoneFrom files shape steps replies bytes (n - before)
    → ((number : ℕ) → slice_get replies (n - 1 - before) ≡ Some (Marked number)
    → bytes ≡ bytes_at files shape steps replies (n - 1 - before) number → ⊥)
    → NoneFrom files shape steps replies bytes (n - (before + 1))
none_before files shape steps replies bytes n before less later here =
    let P : ℕ → Type 0 = λ i. NoneFrom files shape steps replies bytes i in
    let next : n - before ≡ n - 1 - before + 1 = omega (arith, less) in
    let same : n - 1 - before ≡ n - (before + 1) = omega (arith, less) in
    subst P same (none_more files shape steps replies bytes (n - 1 - before) (subst P next later) here)

pub none_at_last : (files : List File) (shape : Shape) (steps : List Step) (replies : List Reply)
    (bytes : List (List ℕ)) (n before : ℕ) → n ≤ before → NoneFrom files shape steps replies bytes (n - before)
    → NoneFrom files shape steps replies bytes 0
none_at_last files shape steps replies bytes n before past none =
    let P : ℕ → Type 0 = λ i. NoneFrom files shape steps replies bytes i in
    let end : n - before ≡ 0 = omega (arith, past) in
    subst P end none

-- the files that are kept of a mark are those of each run with the same replies up to it
get_take : {X : Type 0} (xs : List X) (i m : ℕ) → i < m → slice_get (take m xs) i ≡ slice_get xs i
get_take [] i (suc m) less = refl
get_take (x ∷ xs) zero (suc m) less = refl
get_take (x ∷ xs) (suc i) (suc m) less = get_take xs i m (omega (arith, less))
get_take xs i zero less = absurd (omega (arith, less))

pub kept_alike : {A : Type 0} (files : List File) (shape : Shape) (steps : List Step) (first replies : List Reply)
    (at : ℕ) (kept : MarkFiles A) → take (at + 1) first ≡ take (at + 1) replies → IsKept files shape steps first at kept
    → IsKept files shape steps replies at kept
kept_alike files shape steps first replies at kept same is =
    let here : slice_get replies at ≡ slice_get first at =
    sym (get_take replies at (at + 1) (omega arith)) ∙ ap (λ (l : List Reply). slice_get l at) (sym same)
    ∙ get_take first at (at + 1) (omega arith) in
    let before : take at first ≡ take at replies =
    sym (take-take at (at + 1) first (omega arith)) ∙ ap (take at) same ∙ take-take at (at + 1) replies (omega arith) in
    let B : List Reply → List (List ℕ) =
    λ replied. contents_of (files_after files (history_of files shape (take at steps) replied ++ Mark is.0 ∷ [])) in
    (is.0, here ∙ is.1, is.2, is.3 ∙ ap B before)

-- the mark at this index has these files
pub newest_is : {A : Type 0} (files : List File) (shape : Shape) (steps : List Step) (replies : List Reply)
    (bytes : List (List ℕ)) (at number : ℕ) (kept : MarkFiles A) → IsKept files shape steps replies at kept
    → slice_get replies at ≡ Some (Marked number) → map (λ v. v.items) kept.files.items ≡ bytes
    → NoneFrom files shape steps replies bytes (at + 1) → IsNewest files shape steps replies bytes number
newest_is files shape steps replies bytes at number kept is here same none =
    let one : is.0 ≡ number = (let there : slice_get replies at ≡ Some (Marked is.0) = is.1 in cc) in
    inr (at, here, is.2, sym same ∙ is.3 ∙ ap (bytes_at files shape steps replies at) one, none)

-- and where it hasn't
pub not_here : {A : Type 0} (files : List File) (shape : Shape) (steps : List Step) (replies : List Reply)
    (bytes : List (List ℕ)) (at : ℕ) (kept : MarkFiles A) → IsKept files shape steps replies at kept
    → (map (λ v. v.items) kept.files.items ≡ bytes → ⊥) → (number : ℕ) → slice_get replies at ≡ Some (Marked number)
    → bytes ≡ bytes_at files shape steps replies at number → ⊥
not_here files shape steps replies bytes at kept is other number here same =
    let one : is.0 ≡ number = (let there : slice_get replies at ≡ Some (Marked is.0) = is.1 in cc) in
    other (is.3 ∙ ap (bytes_at files shape steps replies at) one ∙ sym same)

-- one mark more is kept
pub kept_more : {A : Type 0} (files : List File) (shape : Shape) (steps : List Step) (replies : List Reply)
    (marks : List (MarkFiles A)) (mark : MarkFiles A) → AreKept files shape steps replies marks
    → IsKept files shape steps replies mark.step mark
    → AreKept files shape steps replies (marks ++ mark ∷ [])
kept_more {A} files shape steps replies marks mark before this kept has =
    elim (Contains-push_cases marks mark kept has) [
      | inl was ↦ before kept was
      | inr same ↦ (let P : MarkFiles A → Type 0 = λ k. IsKept files shape steps replies k.step k in subst P same this)
    ]

-- ---- what was found

module _ (one : IsOneReading) (files : List File) (shape : Shape) (steps : List Step) (replies : List Reply)
    (long : length replies ≤ length steps) where
  abbrev cut : List Step
  cut = take (length replies) steps

  abbrev whole : List Event
  whole = history_of files shape cut replies

  up_to_cut : (i number : ℕ) → i ≤ length replies
      → (observe_all (observed_at_start files shape.cpus) (take i cut) (take i replies)).history ++ Mark number ∷ []
      ≡ up_to_mark files shape steps replies i number
  up_to_cut i number few =
      ap (λ (l : List Step). (observe_all (observed_at_start files shape.cpus) l (take i replies)).history
      ++ Mark number ∷ []) (take-take i (length replies) steps few)

  abbrev bytes_of_all : List File → List (List ℕ)
  bytes_of_all = map (λ (f : File). f.bytes)

  pub at_mark : (seen : List ℕ) (read : ReadsBack files whole seen) (found : List File) → RecoversTo seen found
      → (number : ℕ) → IsNewest files shape steps replies (bytes_of_all found) number
      → IsAtMark files whole found number
  at_mark seen read found recovers number (inl (zero_is, none)) = record {
    prefix = read.prefix;
    durable = read.durable;
    ends = inl (zero_is, empty read.prefix read.durable same);
    files_are = same;
    newest = λ other durable is. (let nothing = empty other durable is in omega (arith, ap length nothing));
  }
    where
      same : found ≡ files_after files read.prefix
      same = one seen found (files_after files read.prefix) recovers read.recovers

      empty : (p : List Event) → IsDurablePrefix p whole → found ≡ files_after files p → p ≡ []
      empty p durable is =
          elim (ends_at_mark (observed_at_start files shape.cpus) cut replies p durable.rest refl
          durable.begins durable.marked) [
            | inl e ↦ e
            | inr s ↦ (
                let within = slice_get_within replies s.at (Marked s.n) s.here in
                absurd (none s.at s.n (omega arith) s.here (ap bytes_of_all is ∙ ap (λ (e : List Event).
                bytes_of_all (files_after files e)) (s.is ∙ up_to_cut s.at s.n (omega (arith, within))))))
          ]
  at_mark seen read found recovers number (inr (at, here, below, bytes_same, none)) = record {
    prefix = prefix;
    durable = record {
      rest = begins.0;
      begins = ap (λ (l : List Event). l ++ begins.0) (sym (up_to_cut at number (omega (arith, inside)))) ∙ begins.1;
      marked = inr (history_of files shape (take at steps) (take at replies), number, refl);
      acknowledged = λ n acked. (let w = part read.prefix read.durable same in subst (λ (l : List Event).
          Contains l (Mark n)) w.1 (Contains-append_left read.prefix w.0 (Mark n) (read.durable.acknowledged n acked)));
    };
    ends = inr (history_of files shape (take at steps) (take at replies), refl);
    files_are = same ∙ same_files files read.prefix prefix (ap bytes_of_all (sym same) ∙ bytes_same);
    newest = λ other durable is. (let w = part other durable is in
        omega (arith, ap (λ (l : List Event). length l) w.1, length-append other w.0));
  }
    where
      prefix : List Event
      prefix = up_to_mark files shape steps replies at number

      inside : at < length replies
      inside = slice_get_within replies at (Marked number) here

      cut_long : length cut ≡ length replies
      cut_long = length-take-le (length replies) steps long

      begins : (rest : List Event)
          × (((observe_all (observed_at_start files shape.cpus) (take at cut) (take at replies)).history ++ Mark number
          ∷ [])
          ++ rest ≡ whole)
      begins = up_to_begins (observed_at_start files shape.cpus) cut replies at number
          (omega (arith, inside, cut_long)) here

      same : found ≡ files_after files read.prefix
      same = one seen found (files_after files read.prefix) recovers read.recovers

      -- each durable prefix with these files begins this one
      part : (p : List Event) → IsDurablePrefix p whole → found ≡ files_after files p
          → (rest : List Event) × (p ++ rest ≡ prefix)
      part p durable is =
          elim (ends_at_mark (observed_at_start files shape.cpus) cut replies p durable.rest refl
          durable.begins durable.marked) [
            | inl e ↦ (prefix, ap (λ (l : List Event). l ++ prefix) e)
            | inr s ↦ (
                let within = slice_get_within replies s.at (Marked s.n) s.here in
                elim (cases_lt at s.at) [
                  | inl later ↦ absurd (none s.at s.n (omega (arith, later)) s.here
                      (ap bytes_of_all is ∙ ap (λ (e : List Event). bytes_of_all (files_after files e))
                      (s.is ∙ up_to_cut s.at s.n (omega (arith, within)))))
                  | inr early ↦ (
                      let w = no_later (observed_at_start files shape.cpus) cut replies s.at s.n at number early
                      (omega (arith, inside, cut_long)) s.here here in
                      (w.0, ap (λ (l : List Event). l ++ w.0) s.is ∙ w.1 ∙ up_to_cut at number (omega (arith, inside))))
                ])
          ]
