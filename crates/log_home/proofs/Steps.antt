-- Steps that write home blocks.
use Rattle.std.proofs.Common.{◌≡◌, ◌⊎◌, ℕ, suc, ◌+◌, ◌-◌, ◌≤◌, List, [], ◌∷◌, ◌++◌}
use Rattle.std.proofs.Common.{◌==◌, length, take, get_or, inl, inr, refl, sym, ap, subst, ◌∙◌, arith}
use Rattle.std.specs.Prelude.{min, Option, Some, None, Bool, true, false, nat_lt, cond, slice_get}
use Rattle.std.specs.List.{Contains}
use Rattle.std.proofs.lemmas.Bool.{cases_eq, cases_lt, false≢true}
use Rattle.std.proofs.lemmas.Bool.Decides.{nat_tests}
use Rattle.std.proofs.lemmas.Option.{slice_get_read, slice_get_cases}
use Rattle.std.proofs.lemmas.List.{get_or-take, take_all}
use Rattle.std.proofs.Common.{length-take}
use Rattle.volume_codec.specs.Layout.{block_at}
use Rattle.log_codec.specs.Log.{LogValue}
use Rattle.log_codec.specs.Commit.{LogDescriptor}
use Rattle.log_codec.specs.Chain.{IsLogHome, newest_or}
use Rattle.log_commits.specs.declared.behind.OldCommits.{OldCommits}
use Rattle.log_commits.specs.Tail.{TailValue}
use Rattle.log_commits.specs.Homes.{IsLoggedHome, AreWrittenHome}
use Rattle.log_commits.specs.Behind.{HoldsCommits, AreOldest, HasHomes}
use Rattle.log_commits.proofs.Public.{logged_more}
use Rattle.log_home.specs.declared.index.Newest.{Newest}
use Rattle.log_home.specs.Index.{Entries, find_in, indexed_homes, IsIndexOf}
use Rattle.log_home.specs.Work.{AreHome, copy_for, old_copy}
use Rattle.log_home.proofs.Chained.{none_some, newest_block, newest_some, logged_by, young_by, AreNumbered, numbered}

-- the home blocks that are done, and one more
one_more : (homes : List ℕ) (done b : ℕ) → Contains (take (done + 1) homes) b
    → Contains (take done homes) b ⊎ (slice_get homes done ≡ Some b)
one_more homes done b (k, lt, is) =
    let size = length-take (done + 1) homes in
    let there : get_or homes k b ≡ b = sym (get_or-take (done + 1) homes k b (omega (arith, size))) ∙ is in
    elim (cases_lt k done) [
      | inl before ↦ inl (k, omega (arith, size, length-take done homes), get_or-take done homes k b before ∙ there)
      | inr past ↦
          let here : k ≡ done = omega (arith, size) in
          inr (slice_get_read homes (length homes) done b refl (omega (arith, size))
          (sym (ap (λ i. get_or homes i b) (sym here) ∙ there)))
    ]

same_some : {x y : ℕ} → Some x ≡ Some y → x ≡ y
same_some {x} {y} is = ap (λ o. or_this x o) is
  where
    or_this : ℕ → Option ℕ → ℕ
    or_this d None = d
    or_this d (Some k) = k

-- all commits have these home blocks
pub home_in : (entries : Entries) (b : ℕ) (n : Newest) → find_in entries b ≡ Some n → Contains (indexed_homes entries) b
home_in [] b n is = absurd (none_some is)
home_in (entry ∷ entries) b n is = elim (cases_eq entry.0 b) [
  | inl same ↦ (0, omega arith, same)
  | inr apart ↦
      let test : (b == entry.0) ≡ false = grind (arith, nat_tests) in
      let rest = home_in entries b n
      (sym (ap (λ (v : Bool). cond v entry.1 (find_in entries b)) test) ∙ is) in
      (suc rest.0, omega (arith, rest.1), rest.2)
]

module _ (t : TailValue) (contents : ℕ → List ℕ) (second : Bool) (ds younger : List LogDescriptor) (entries : Entries)
    (index : IsIndexOf t.log t.start.position (ds ++ younger) entries) where
  abbrev ring : ℕ
  ring = t.log.ring

  abbrev p : ℕ
  p = t.start.position

  -- the block of the record that is kept has the recovered bytes
  pub record_is : (bytes : List ℕ) → HoldsCommits second t contents (ds ++ younger) bytes → (b : ℕ) → IsLogHome t.log b
      → (n : Newest) → find_in entries b ≡ Some n → contents b ≡ block_at bytes n.block
  record_is bytes holds b home n found =
      let P : List LogDescriptor → Type 0 = λ l. contents b ≡ block_at bytes (newest_or ring b p l b) in
      subst P holds.chain_is (holds.held.contents_are b home)
      ∙ ap (block_at bytes) (newest_block ring None b p (ds ++ younger) b (λ m is. absurd (none_some is)) n
      (sym (index b) ∙ found))

  pub logged_if : (b : ℕ) (n : Newest) → find_in entries b ≡ Some n → IsLoggedHome (ds ++ younger) b
  logged_if b n found = logged_by ring p (ds ++ younger) b n (sym (index b) ∙ found)

  module _ (homes : List ℕ) (done : ℕ) where
    abbrev Done : List ℕ → Type 0
    Done bytes = AreHome t.log contents ds younger (take done homes) bytes

    abbrev DoneMore : List ℕ → Type 0
    DoneMore bytes = AreHome t.log contents ds younger (take (done + 1) homes) bytes

    -- the home block is copied
    pub copied_more : (old new : List ℕ) (home : ℕ) (n : Newest) → HoldsCommits second t contents (ds ++ younger) old
        → slice_get homes done ≡ Some home → find_in entries home ≡ Some n
        → length (block_at old n.block) ≡ 4096 → HasHomes home (block_at old n.block) old new → Done old
        → DoneMore new
    copied_more old new home n holds place found size has before = λ b contained is_home logged.
        let zero_more : home - home ≡ 0 = omega arith in
        let at_home : block_at new home ≡ block_at old n.block =
        has.there home (omega arith) (omega (arith, size)) ∙ ap (block_at (block_at old n.block)) zero_more
        ∙ take_all 4096 (block_at old n.block) (omega (arith, size)) in
        elim (cases_eq home b) [
          | inl same ↦
              let P : ℕ → Type 0 = λ x. IsLogHome t.log x → IsLoggedHome younger x ⊎ (block_at new x ≡ contents x) in
              subst P same (λ here. inr (at_home ∙ sym (record_is old holds home here n found))) is_home
          | inr other ↦ elim (one_more homes done b contained) [
            | inl earlier ↦ elim (before b earlier is_home logged) [
              | inl later ↦ inl later
              | inr there ↦ inr (has.elsewhere b (elim (cases_lt b home) [
                | inl less ↦ inl less
                | inr more ↦ inr (omega (arith, size))
              ]) ∙ there)
            ]
            | inr now ↦ absurd (other (same_some (sym place ∙ now)))
          ]
        ]

    -- no older commit has it, or a younger one
    pub skipped_more : (bytes : List ℕ) (oldest : OldCommits) (home : ℕ)
        → HoldsCommits second t contents (ds ++ younger) bytes → AreOldest t oldest ds
        → slice_get homes done ≡ Some home → old_copy oldest home (find_in entries home) ≡ None → Done bytes
        → DoneMore bytes
    skipped_more bytes oldest home holds are place none before = λ b contained is_home logged.
        elim (one_more homes done b contained) [
          | inl earlier ↦ before b earlier is_home logged
          | inr now ↦
              let same : home ≡ b = same_some (sym place ∙ now) in
              let P : ℕ → Type 0 = λ x. IsLoggedHome ds x → IsLoggedHome younger x in
              inl (subst P same (by_find (find_in entries home) refl none) logged)
        ]
      where
        by_find : (o : Option Newest) → find_in entries home ≡ o → old_copy oldest home o ≡ None
            → IsLoggedHome ds home → IsLoggedHome younger home
        by_find None found gone logged =
            let some = newest_some (ds ++ younger) home (logged_more ds younger home logged) ring None p in
            absurd (none_some (sym found ∙ index home ∙ some.1))
        by_find (Some n) found gone logged =
            let young : t.start.number + length ds ≤ n.number = elim (cases_lt n.number oldest.below) [
              | inl old ↦
                  let test : nat_lt n.number oldest.below ≡ true = grind (arith, nat_tests) in
                  absurd (is_none (sym (ap (λ (v : Bool). cond v (Some (home, n)) None) test) ∙ gone))
              | inr more ↦ omega (arith, are.number)
            ] in
            let Q : List LogDescriptor → Type 0 = λ l.
            AreNumbered t.start.number l in
            young_by ring p t.start.number ds younger home n
            (subst Q holds.chain_is (numbered t.log t.start.epoch p t.start.number ring holds.held.chain bytes
            holds.held.log.commits)) (sym (index home) ∙ found) young
          where
            is_none : {x : ℕ × Newest} → Some x ≡ None → ⊥
            is_none {x} is = absurd (false≢true (sym (ap is_there is)))
              where
                is_there : Option (ℕ × Newest) → Bool
                is_there None = false
                is_there (Some y) = true

    -- the next step copies nothing
    pub skipped_next : (bytes : List ℕ) (oldest : OldCommits) → HoldsCommits second t contents (ds ++ younger) bytes
        → AreOldest t oldest ds → copy_for oldest (slice_get homes done) entries ≡ None → Done bytes
        → AreHome t.log contents ds younger (take (min (done + 1) (length homes)) homes) bytes
    skipped_next bytes oldest holds are none before =
        let P : ℕ → Type 0 = λ n. AreHome t.log contents ds younger (take n homes) bytes in
        let cases = slice_get_cases homes done in
        elim cases.1 [
          | inl here ↦
              let place = here.2 in
              let most : done + 1 ≡ min (done + 1) (length homes) = omega (arith, here.1) in
              subst P most (skipped_more bytes oldest here.0 holds are place
              (sym (ap (λ (o : Option ℕ). copy_for oldest o entries) place) ∙ none) before)
          | inr past ↦
              let Q : List ℕ → Type 0 = λ l. AreHome t.log contents ds younger l bytes in
              let all : take done homes ≡ take (min (done + 1) (length homes)) homes =
              take_all done homes past.0
              ∙ sym (take_all (min (done + 1) (length homes)) homes (omega (arith, past.0))) in
              subst Q all before
        ]

-- what a step that copies finds
is_copy : (x y : ℕ × Newest) → Some x ≡ Some y → x ≡ y
is_copy x y is = ap (λ o. or_this o) is
  where
    or_this : Option (ℕ × Newest) → ℕ × Newest
    or_this None = x
    or_this (Some z) = z

no_copy : (x : ℕ × Newest) → (let o : Option (ℕ × Newest) = None in o) ≡ Some x → ⊥
no_copy x is = absurd (false≢true (ap is_there is))
  where
    is_there : Option (ℕ × Newest) → Bool
    is_there None = false
    is_there (Some y) = true

old_is : (oldest : OldCommits) (h : ℕ) (o : Option Newest) (home : ℕ) (n : Newest)
    → old_copy oldest h o ≡ Some (home, n) → (h ≡ home) × (o ≡ Some n)
old_is oldest h None home n is = absurd (no_copy (home, n) is)
old_is oldest h (Some m) home n is = by_test (nat_lt m.number oldest.below) is
  where
    by_test : (t : Bool) → cond {A = Option (ℕ × Newest)} t (Some (h, m)) None ≡ Some (home, n)
        → (h ≡ home) × (Some m ≡ Some n)
    by_test true same =
        let pair = is_copy (h, m) (home, n) same in
        (ap (λ (x : ℕ × Newest). x.0) pair, ap (λ (x : ℕ × Newest). Some x.1) pair)
    by_test false none = absurd (no_copy (home, n) none)

pub next_is : (oldest : OldCommits) (o : Option ℕ) (entries : Entries) (home : ℕ) (n : Newest)
    → copy_for oldest o entries ≡ Some (home, n) → (o ≡ Some home) × (find_in entries home ≡ Some n)
next_is oldest None entries home n is = absurd (no_copy (home, n) is)
next_is oldest (Some h) entries home n is =
    let both = old_is oldest h (find_in entries h) home n is in
    (ap (λ (x : ℕ). Some x) both.0, ap (find_in entries) (sym both.0) ∙ both.1)

-- once all home blocks of an index are done, those of its commits are written
pub all_home : (g : LogValue) (p : ℕ) (contents : ℕ → List ℕ) (ds younger : List LogDescriptor) (entries : Entries)
    (bytes : List ℕ) → IsIndexOf g p ds entries → AreHome g contents ds younger (indexed_homes entries) bytes
    → AreWrittenHome g contents ds younger bytes
all_home g p contents ds younger entries bytes index home = λ b is_home logged.
    let some = newest_some ds b logged g.ring None p in
    home b (home_in entries b some.0 (index b ∙ some.1)) is_home logged
