-- A commit keeps what is written home, and a start that is ready to be selected.
use Rattle.std.proofs.Common.{◌≡◌, ◌⊎◌, ℕ, suc, ◌+◌, ◌*◌, ◌≤◌, ◌==◌, List, [], ◌∷◌, ◌++◌, Bool, false, cond}
use Rattle.std.proofs.Common.{take, drop, inl, inr, refl, sym, ap, subst, ◌∙◌, arith, append_assoc}
use Rattle.std.specs.Prelude.{not}
use Rattle.std.specs.List.{Contains}
use Rattle.std.proofs.lemmas.Bool.{cases_eq}
use Rattle.std.proofs.lemmas.Bool.Decides.{nat_tests}
use Rattle.volume_codec.specs.Layout.{block_at}
use Rattle.log_codec.specs.Log.{LogValue}
use Rattle.log_codec.specs.Start.{IsStartBlock, start_block}
use Rattle.log_codec.specs.Commit.{LogDescriptor}
use Rattle.log_commits.specs.declared.behind.OldCommits.{OldCommits}
use Rattle.log_commits.specs.Tail.{TailValue}
use Rattle.log_commits.specs.Commit.{committed_to, next_logged, tail_after}
use Rattle.log_commits.specs.Homes.{IsLoggedHome, AreWrittenHome}
use Rattle.log_commits.specs.Behind.{HoldsCommits, IsReadyToMove, IsSameOutside, start_behind}
use Rattle.log_commits.proofs.Places.{same_block}
use Rattle.log_commits.proofs.Kept.{start_most}

-- a home block has a record in a commit, or keeps its contents
pub committed_cases : (contents : ℕ → List ℕ) (homes records : List ℕ) (b : ℕ)
    → Contains homes b ⊎ (committed_to contents homes records b ≡ contents b)
committed_cases contents [] records b = inr refl
committed_cases contents (home ∷ homes) records b = elim (cases_eq home b) [
  | inl is ↦ inl (0, omega arith, is)
  | inr apart ↦
      let test : (b == home) ≡ false = grind (arith, nat_tests) in
      elim (committed_cases contents homes (drop 4096 records) b) [
        | inl has ↦ inl (suc has.0, omega (arith, has.1), has.2)
        | inr none ↦ inr (ap (λ (v : Bool). cond v (take 4096 records)
            (committed_to contents homes (drop 4096 records) b)) test ∙ none)
      ]
]

pub logged_more : (ds es : List LogDescriptor) (b : ℕ) → IsLoggedHome ds b → IsLoggedHome (ds ++ es) b
logged_more [] es b is = absurd is
logged_more (d ∷ ds) es b (inl has) = inl has
logged_more (d ∷ ds) es b (inr has) = inr (logged_more ds es b has)

pub logged_last : (ds : List LogDescriptor) (d : LogDescriptor) (b : ℕ) → Contains d.homes b
    → IsLoggedHome (ds ++ d ∷ []) b
logged_last [] d b has = inl has
logged_last (e ∷ ds) d b has = inr (logged_last ds d b has)

pub high_kept : (g : LogValue) (old new : List ℕ) (b : ℕ) → IsSameOutside g old new → 4 + g.ring ≤ b
    → block_at new b ≡ block_at old b
high_kept g old new b same le =
    same_block new old b same.same_length (λ j small. same.places (4096 * b + j) (inr (omega arith)))

pub low_kept : (g : LogValue) (old new : List ℕ) (b : ℕ) → IsSameOutside g old new → b ≤ 3
    → block_at new b ≡ block_at old b
low_kept g old new b same le =
    same_block new old b same.same_length (λ j small. same.places (4096 * b + j) (inl (omega arith)))

pub written_kept : (t : TailValue) (contents : ℕ → List ℕ) (ds younger : List LogDescriptor)
    (homes records old new : List ℕ) → IsSameOutside t.log old new → AreWrittenHome t.log contents ds younger old
    → AreWrittenHome t.log (committed_to contents homes records) ds (younger ++ next_logged t homes ∷ []) new
written_kept t contents ds younger homes records old new same written = λ b home logged.
    elim (committed_cases contents homes records b) [
      | inl has ↦ inl (logged_last younger (next_logged t homes) b has)
      | inr kept ↦ elim (written b home logged) [
        | inl later ↦ inl (logged_more younger (next_logged t homes ∷ []) b later)
        | inr there ↦ inr (high_kept t.log old new b same (omega (arith, home.low)) ∙ there ∙ sym kept)
      ]
    ]

pub ready_kept : (second : Bool) (t : TailValue) (oldest : OldCommits) (contents : ℕ → List ℕ)
    (ds younger : List LogDescriptor) (homes records old new : List ℕ) → IsSameOutside t.log old new
    → IsReadyToMove second t oldest contents ds younger old
    → HoldsCommits second (tail_after t homes) (committed_to contents homes records)
    ((ds ++ younger) ++ next_logged t homes ∷ []) new
    → IsReadyToMove second (tail_after t homes) oldest (committed_to contents homes records) ds
    (younger ++ next_logged t homes ∷ []) new
ready_kept second t oldest contents ds younger homes records old new same ready holds =
    let after : TailValue = tail_after t homes in
    let P : List LogDescriptor → Type 0 =
    λ l. HoldsCommits second after (committed_to contents homes records) l new in
    let Q : List ℕ → Type 0 = λ l. IsStartBlock t.log.ring (start_behind t oldest) l in
    record {
      holds = subst P (append_assoc ds younger (next_logged t homes ∷ [])) holds;
      oldest_are = record { number = ready.oldest_are.number; blocks = ready.oldest_are.blocks };
      start = subst Q (sym (low_kept t.log old new (start_block (not second)) same (start_most (not second))))
          ready.start;
      written = written_kept t contents ds younger homes records old new same ready.written;
    }
