-- The commits that were found, one more at a time.
use Rattle.std.proofs.Common.{◌≡◌, ℕ, ◌+◌, ◌-◌, ◌*◌, ◌≤◌, List, [], ◌∷◌, ◌++◌, length}
use Rattle.std.proofs.Common.{refl, sym, ap, subst, ◌∙◌, arith, append_assoc}
use Rattle.log_codec.specs.Log.{LogValue, IsLog, log_commit_blocks}
use Rattle.log_codec.specs.Commit.{LogDescriptor}
use Rattle.log_codec.specs.Chain.{IsNextCommit, IsChain, position_after, chain_end, chain_blocks}
use Rattle.log_codec.proofs.Public.{goes_on}
use Rattle.log_recovery.specs.declared.found.FoundCommit.{FoundCommit}
use Rattle.log_recovery.specs.Reading.{logged_of, chain_of, ArePlaced}
use Rattle.log_recovery.specs.inside.Commit.{IsPlacedCommit}

pub chain_of-more : {Z : Type 0} (cs : List (FoundCommit Z)) (c : FoundCommit Z)
    → chain_of (cs ++ c ∷ []) ≡ chain_of cs ++ logged_of c ∷ []
chain_of-more [] c = refl
chain_of-more (x ∷ cs) c = ap (λ (l : List LogDescriptor). logged_of x ∷ l) (chain_of-more cs c)

pub chain_end-more : (p : ℕ) (ds : List LogDescriptor) (d : LogDescriptor)
    → chain_end p (ds ++ d ∷ []) ≡ position_after (chain_end p ds) d
chain_end-more p [] d = refl
chain_end-more p (e ∷ ds) d = chain_end-more (position_after p e) ds d

pub chain_blocks-more : (ds : List LogDescriptor) (d : LogDescriptor)
    → chain_blocks (ds ++ d ∷ []) ≡ chain_blocks ds + log_commit_blocks (length d.homes)
chain_blocks-more [] d = omega arith
chain_blocks-more (e ∷ ds) d = omega (arith, chain_blocks-more ds d)

pub placed-more : {Z : Type 0} (g : LogValue) (p number left : ℕ) (cs : List (FoundCommit Z)) (c : FoundCommit Z)
    → ArePlaced g p cs → IsPlacedCommit g (chain_end p (chain_of cs)) number left c → ArePlaced g p (cs ++ c ∷ [])
placed-more g p number left [] c placed is = (is.position, is.head, is.logged, tt)
placed-more g p number left (x ∷ cs) c placed is =
    (placed.0, placed.1, placed.2, placed-more g (position_after p (logged_of x)) number left cs c placed.3 is)

-- what is behind the commits that were found: with any chain that goes on there they are the whole one, and where none
-- does, there is none
pub record ReadsOn (g : LogValue) (epoch p number : ℕ) (ds : List LogDescriptor) (q next left : ℕ) (bytes : List ℕ)
    : Type 0 where
  pub whole : (rest : List LogDescriptor) → IsChain g epoch q next left rest bytes
      → IsChain g epoch p number g.ring (ds ++ rest) bytes
  pub none : ((rest : List LogDescriptor) → IsChain g epoch q next left rest bytes → ⊥) → (all : List LogDescriptor)
      → IsChain g epoch p number g.ring all bytes → ⊥

pub reads_none : (g : LogValue) (epoch p number : ℕ) (bytes : List ℕ)
    → ReadsOn g epoch p number [] p number g.ring bytes
reads_none g epoch p number bytes = record { whole = λ rest is. is; none = λ none. none }

pub reads_more : (g : LogValue) (epoch p number : ℕ) (ds : List LogDescriptor) (q next left : ℕ) (bytes : List ℕ)
    (d : LogDescriptor) → IsLog g → 4096 * g.blocks ≤ length bytes → ReadsOn g epoch p number ds q next left bytes
    → IsNextCommit g epoch q next left d bytes
    → ReadsOn g epoch p number (ds ++ d ∷ []) (position_after q d) (next + 1)
    (left - log_commit_blocks (length d.homes)) bytes
reads_more g epoch p number ds q next left bytes d log long on is = record {
  whole = λ rest chain.
      let P : List LogDescriptor → Type 0 = λ l. IsChain g epoch p number g.ring l bytes in
      subst P (sym (append_assoc ds (d ∷ []) rest)) (on.whole (d ∷ rest) (is, chain));
  none = λ none. on.none (λ rest chain.
      let more = goes_on g epoch q next left d rest bytes log long is chain in none more.0 more.2);
}

-- ---- one commit more was found

module _ {Z : Type 0} (cs : List (FoundCommit Z)) (c : FoundCommit Z) (new : List (FoundCommit Z)) (b : ℕ)
    (is : new ≡ cs ++ c ∷ []) (size : b ≡ log_commit_blocks (length c.homes.items)) where
  chain_is : chain_of new ≡ chain_of cs ++ logged_of c ∷ []
  chain_is = ap (λ (l : List (FoundCommit Z)). chain_of l) is ∙ chain_of-more cs c

  pub end_more : (p q : ℕ) → q ≡ chain_end p (chain_of cs) → q + b ≡ chain_end p (chain_of new)
  end_more p q at =
      let e = ap (chain_end p) chain_is ∙ chain_end-more p (chain_of cs) (logged_of c) in omega (arith, e, at, size)

  pub room_more : (left ring : ℕ) → b ≤ left → chain_blocks (chain_of cs) + left ≡ ring
      → chain_blocks (chain_of new) + (left - b) ≡ ring
  room_more left ring fits all =
      let e = ap chain_blocks chain_is ∙ chain_blocks-more (chain_of cs) (logged_of c) in
      omega (arith, e, fits, all, size)

  pub places_more : (g : LogValue) (p q n left : ℕ) → q ≡ chain_end p (chain_of cs) → ArePlaced g p cs
      → IsPlacedCommit g q n left c → ArePlaced g p new
  places_more g p q n left at placed this =
      let P : ℕ → Type 0 = λ k. IsPlacedCommit g k n left c in
      let Q : List (FoundCommit Z) → Type 0 = λ l. ArePlaced g p l in
      subst Q (sym is) (placed-more g p n left cs c placed (subst P at this))

  pub on_more : (g : LogValue) (epoch p number q next left : ℕ) (bytes now : List ℕ) → IsLog g
      → 4096 * g.blocks ≤ length bytes → now ≡ bytes → ReadsOn g epoch p number (chain_of cs) q next left bytes
      → IsNextCommit g epoch q next left (logged_of c) now
      → ReadsOn g epoch p number (chain_of new) (q + b) (next + 1) (left - b) bytes
  on_more g epoch p number q next left bytes now log long same on this =
      let N : List ℕ → Type 0 = λ l. IsNextCommit g epoch q next left (logged_of c) l in
      let more = reads_more g epoch p number (chain_of cs) q next left bytes (logged_of c) log long on
      (subst N same this) in
      let P : ℕ → Type 0 =
      λ k. ReadsOn g epoch p number (chain_of cs ++ logged_of c ∷ []) (q + k) (next + 1) (left - k) bytes in
      let Q : List LogDescriptor → Type 0 = λ l. ReadsOn g epoch p number l (q + b) (next + 1) (left - b) bytes in
      subst Q (sym chain_is) (subst P (sym size) more)
