-- An index and what is written home, across commits and moves of the start.
use Rattle.std.proofs.Common.{◌≡◌, ℕ, zero, suc, ◌+◌, ◌%◌, ◌<◌, ◌≤◌, ◌==◌, List, [], ◌∷◌, ◌++◌}
use Rattle.std.proofs.Common.{Bool, true, false, cond, length, get_or, inl, inr, refl, sym, ap, subst, ◌∙◌, arith}
use Rattle.std.proofs.Common.{append_assoc}
use Rattle.std.specs.Prelude.{nat_lt, Option, Some, None}
use Rattle.std.proofs.Math.Nat.{mod-add-mod}
use Rattle.std.proofs.lemmas.Bool.Decides.{nat_tests}
use Rattle.log_codec.specs.Log.{LogValue, ring_block, log_descriptor_blocks}
use Rattle.log_codec.specs.Commit.{LogDescriptor}
use Rattle.log_codec.specs.Chain.{records_position, position_after, chain_end}
use Rattle.log_commits.specs.declared.behind.OldCommits.{OldCommits}
use Rattle.log_commits.specs.Tail.{TailValue}
use Rattle.log_commits.specs.Commit.{committed_to, next_logged}
use Rattle.log_commits.specs.Homes.{IsLoggedHome}
use Rattle.log_commits.specs.Behind.{HoldsCommits, AreOldest, IsSameOutside, start_behind}
use Rattle.log_commits.proofs.Public.{block_round, end_is, committed_cases, logged_more, logged_last, high_kept}
use Rattle.log_home.specs.declared.index.Newest.{Newest}
use Rattle.log_home.specs.Index.{Entries, find_in, recorded_or, newest_of_chain, from_number, IsIndexOf}
use Rattle.log_home.specs.Work.{AreHome}
use Rattle.log_home.proofs.Chained.{newest_of_cases, newest_some, newest_number, newest_of_split, newest_of_round}
use Rattle.log_home.proofs.Chained.{none_some, recorded_round, AreNumbered, numbered, numbered_front, numbered_behind}

-- ---- a commit is noted

newest_of_with : (ring : ℕ) (other : Option Newest) (p : ℕ) (ds : List LogDescriptor) (d : LogDescriptor) (b : ℕ)
    → newest_of_chain ring other p (ds ++ d ∷ []) b
    ≡ recorded_or ring (newest_of_chain ring other p ds b) (records_position (chain_end p ds) d) d.number d.homes b
newest_of_with ring other p [] d b = refl
newest_of_with ring other p (e ∷ ds) d b =
    newest_of_with ring (recorded_or ring other (records_position p e) e.number e.homes b) (position_after p e) ds d b

pub index_noted : (g : LogValue) (p position records : ℕ) (chain : List LogDescriptor) (d : LogDescriptor)
    (old new : Entries) → IsIndexOf g p chain old → position ≡ chain_end p chain % g.ring
    → records ≡ (position + log_descriptor_blocks (length d.homes)) % g.ring
    → ((b : ℕ) → find_in new b ≡ recorded_or g.ring (find_in old b) records d.number d.homes b)
    → IsIndexOf g p (chain ++ d ∷ []) new
index_noted g p position records chain d old new index place at noted = λ b.
    let ring : ℕ = g.ring in
    let end : ℕ = chain_end p chain in
    let blocks : ℕ = log_descriptor_blocks (length d.homes) in
    let here : records ≡ (end + blocks) % ring =
    at ∙ ap (λ x. (x + blocks) % ring) place ∙ mod-add-mod end ring blocks in
    noted b
    ∙ ap (λ (o : Option Newest). recorded_or ring o records d.number d.homes b) (index b)
    ∙ recorded_round ring (newest_of_chain ring None p chain b) (end + blocks) records d.number d.homes b (λ k.
    ap (λ x. ring_block ring (x + k)) here ∙ block_round ring (end + blocks) k)
    ∙ sym (newest_of_with ring None p chain d b)

-- ---- old commits are forgotten

recorded_in : (ring : ℕ) (one other : Option Newest) (p number : ℕ) (homes : List ℕ) (b k : ℕ) → k < length homes
    → get_or homes k b ≡ b → recorded_or ring one p number homes b ≡ recorded_or ring other p number homes b
recorded_in ring one other p number [] b k lt is = absurd (omega arith)
recorded_in ring one other p number (home ∷ homes) b zero lt is =
    let test : (b == home) ≡ true = grind (arith, nat_tests) in
    let n : Newest = record { number = number; block = ring_block ring p } in
    ap (λ (t : Bool). cond t (Some n) (recorded_or ring one (p + 1) number homes b)) test
    ∙ sym (ap (λ (t : Bool). cond t (Some n) (recorded_or ring other (p + 1) number homes b)) test)
recorded_in ring one other p number (home ∷ homes) b (suc k) lt is =
    let rest = recorded_in ring one other (p + 1) number homes b k (omega arith) is in
    let n : Newest = record { number = number; block = ring_block ring p } in
    elim (b == home) as (λ t. cond t (Some n) (recorded_or ring one (p + 1) number homes b)
    ≡ cond t (Some n) (recorded_or ring other (p + 1) number homes b)) [
      | true ↦ refl
      | false ↦ rest
    ]

newest_of_in : (ring : ℕ) (one other : Option Newest) (p : ℕ) (ds : List LogDescriptor) (b : ℕ) → IsLoggedHome ds b
    → newest_of_chain ring one p ds b ≡ newest_of_chain ring other p ds b
newest_of_in ring one other p [] b is = absurd is
newest_of_in ring one other p (d ∷ ds) b (inl has) =
    ap (λ (o : Option Newest). newest_of_chain ring o (position_after p d) ds b)
    (recorded_in ring one other (records_position p d) d.number d.homes b has.0 has.1 has.2)
newest_of_in ring one other p (d ∷ ds) b (inr has) =
    newest_of_in ring (recorded_or ring one (records_position p d) d.number d.homes b)
    (recorded_or ring other (records_position p d) d.number d.homes b) (position_after p d) ds b has

old_goes : (below : ℕ) (n : Newest) → n.number < below → from_number below (Some n) ≡ None
old_goes below n lt =
    let test : nat_lt n.number below ≡ true = grind (arith, nat_tests) in
    ap (λ (t : Bool). cond t None (Some n)) test

young_stays : (below : ℕ) (n : Newest) → below ≤ n.number → from_number below (Some n) ≡ Some n
young_stays below n le =
    let test : nat_lt n.number below ≡ false = grind (arith, nat_tests) in
    ap (λ (t : Bool). cond t None (Some n)) test

forgot_numbered : (t : TailValue) (oldest : OldCommits) (ds younger : List LogDescriptor) (old new : Entries)
    → AreNumbered t.start.number (ds ++ younger) → AreOldest t oldest ds
    → IsIndexOf t.log t.start.position (ds ++ younger) old
    → ((b : ℕ) → find_in new b ≡ from_number oldest.below (find_in old b))
    → (let s = start_behind t oldest in IsIndexOf t.log s.position younger new)
forgot_numbered t oldest ds younger old new numbers are index forgot = λ b.
    let ring : ℕ = t.log.ring in
    let p : ℕ = t.start.position in
    let end : ℕ = chain_end p ds in
    let q : ℕ = (p + oldest.blocks) % ring in
    let place : q ≡ end % ring =
    ap (λ n. (p + n) % ring) are.blocks ∙ ap (λ n. n % ring) (sym (end_is p ds)) in
    let round : newest_of_chain ring None q younger b ≡ newest_of_chain ring None end younger b =
    newest_of_round ring None end q younger b (λ k. ap (λ x. ring_block ring (x + k)) place ∙ block_round ring end k) in
    let whole : find_in new b
    ≡ from_number oldest.below (newest_of_chain ring (newest_of_chain ring None p ds b) end younger b) =
    forgot b ∙ ap (from_number oldest.below) (index b ∙ newest_of_split ring None p ds younger b) in
    elim (newest_of_cases younger b) [
      | inl has ↦
          let some = newest_some younger b has ring None end in
          let young : oldest.below ≤ some.0.number = elim (newest_number ring None end (t.start.number + length ds)
          younger b some.0 (numbered_behind t.start.number ds younger numbers) some.1) [
            | inl never ↦ absurd (none_some never)
            | inr within ↦ omega (arith, within.0, are.number)
          ] in
          whole
          ∙ ap (from_number oldest.below)
          (newest_of_in ring (newest_of_chain ring None p ds b) None end younger b has ∙ some.1)
          ∙ young_stays oldest.below some.0 young ∙ sym some.1 ∙ sym round
      | inr none ↦
          whole
          ∙ ap (from_number oldest.below) (none ring (newest_of_chain ring None p ds b) end)
          ∙ by_old ring p b (newest_of_chain ring None p ds b) refl numbers
          ∙ sym (none ring None q)
    ]
  where
    by_old : (ring p b : ℕ) (o : Option Newest) → newest_of_chain ring None p ds b ≡ o
        → AreNumbered t.start.number (ds ++ younger) → from_number oldest.below o ≡ None
    by_old ring p b None is numbers = refl
    by_old ring p b (Some n) is numbers =
        elim (newest_number ring None p t.start.number ds b n (numbered_front t.start.number ds younger numbers) is) [
          | inl never ↦ absurd (none_some never)
          | inr within ↦ old_goes oldest.below n (omega (arith, within.1, are.number))
        ]

-- the commits of a log are numbered
numbered_held : (second : Bool) (t : TailValue) (contents : ℕ → List ℕ) (chain : List LogDescriptor) (bytes : List ℕ)
    → HoldsCommits second t contents chain bytes → AreNumbered t.start.number chain
numbered_held second t contents chain bytes holds =
    let P : List LogDescriptor → Type 0 = λ l. AreNumbered t.start.number l in
    subst P holds.chain_is (numbered t.log t.start.epoch t.start.position t.start.number t.log.ring holds.held.chain
    bytes holds.held.log.commits)

numbered_more : (number : ℕ) (ds : List LogDescriptor) (d : LogDescriptor) → AreNumbered number ds
    → d.number ≡ number + length ds → AreNumbered number (ds ++ d ∷ [])
numbered_more number [] d is next = (omega (arith, next), tt)
numbered_more number (e ∷ ds) d is next = (is.0, numbered_more (number + 1) ds d is.1 (omega (arith, next)))

pub index_forgot : (second : Bool) (t : TailValue) (contents : ℕ → List ℕ) (oldest : OldCommits)
    (ds younger : List LogDescriptor) (bytes : List ℕ) (old new : Entries)
    → HoldsCommits second t contents (ds ++ younger) bytes → AreOldest t oldest ds
    → IsIndexOf t.log t.start.position (ds ++ younger) old
    → ((b : ℕ) → find_in new b ≡ from_number oldest.below (find_in old b))
    → (let s = start_behind t oldest in IsIndexOf t.log s.position younger new)
index_forgot second t contents oldest ds younger bytes old new holds are index forgot =
    forgot_numbered t oldest ds younger old new
    (numbered_held second t contents (ds ++ younger) bytes holds) are index forgot

-- the same, once the next commit is noted
pub index_passed : (second : Bool) (t : TailValue) (contents : ℕ → List ℕ) (oldest : OldCommits)
    (ds younger : List LogDescriptor) (d : LogDescriptor) (bytes : List ℕ) (noted new : Entries)
    → HoldsCommits second t contents (ds ++ younger) bytes → AreOldest t oldest ds → d.number ≡ t.number
    → IsIndexOf t.log t.start.position ((ds ++ younger) ++ d ∷ []) noted
    → ((b : ℕ) → find_in new b ≡ from_number oldest.below (find_in noted b))
    → (let s = start_behind t oldest in IsIndexOf t.log s.position (younger ++ d ∷ []) new)
index_passed second t contents oldest ds younger d bytes noted new holds are next index forgot =
    let chain : (ds ++ younger) ++ d ∷ [] ≡ ds ++ (younger ++ d ∷ []) = append_assoc ds younger (d ∷ []) in
    let P : List LogDescriptor → Type 0 = λ l. AreNumbered t.start.number l in
    let Q : List LogDescriptor → Type 0 = λ l. IsIndexOf t.log t.start.position l noted in
    let count : d.number ≡ t.start.number + length (ds ++ younger) =
    next ∙ holds.held.number_is ∙ ap (λ (l : List LogDescriptor). t.start.number + length l) holds.chain_is in
    forgot_numbered t oldest ds (younger ++ d ∷ []) noted new
    (subst P chain (numbered_more t.start.number (ds ++ younger) d
    (numbered_held second t contents (ds ++ younger) bytes holds) count)) are (subst Q chain index) forgot

-- ---- a commit keeps what is home

pub home_kept : (t : TailValue) (contents : ℕ → List ℕ) (ds younger : List LogDescriptor)
    (done homes records old new : List ℕ) → IsSameOutside t.log old new
    → AreHome t.log contents ds younger done old
    → AreHome t.log (committed_to contents homes records) ds (younger ++ next_logged t homes ∷ []) done new
home_kept t contents ds younger done homes records old new same home = λ b contained is_home logged.
    elim (committed_cases contents homes records b) [
      | inl has ↦ inl (logged_last younger (next_logged t homes) b has)
      | inr kept ↦ elim (home b contained is_home logged) [
        | inl later ↦ inl (logged_more younger (next_logged t homes ∷ []) b later)
        | inr there ↦ inr (high_kept t.log old new b same (omega (arith, is_home.low)) ∙ there ∙ sym kept)
      ]
    ]
