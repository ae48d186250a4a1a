-- What contracts see of a pager's fields.
use Rattle.std.proofs.Common.{◌≡◌, ℕ, subst, sym}
use Rattle.pager.specs.State.{PagerState, file_length}
use Rattle.pager.specs.inside.Resizing.{MayHaveLength}
pub use Rattle.pager.specs.inside.Fields.{state_of}

-- a file, of this length now, may have another
pub record IsAsked {D : Type 0} (s : PagerState D) (file from to : ℕ) : Type 0 where
  pub may : MayHaveLength s.table file to
  pub from_is : from ≡ file_length s.lengths file

-- so it is of the fields, where a contract says so of what it sees
pub asked_of : {D : Type 0} (s now : PagerState D) (file from to : ℕ) → s ≡ now → MayHaveLength now.table file to
    → from ≡ file_length now.lengths file → IsAsked s file from to
asked_of s now file from to same may is = subst (λ p. IsAsked p file from to) (sym same) (record {
  may = may;
  from_is = is;
})
