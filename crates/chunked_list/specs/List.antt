-- A list as its callers see it: its numbers in order, and how many numbers it has room for.
use Rattle.std.specs.Prelude.{ℕ, List}

-- the numbers of a list, and how many numbers it has memory for
pub record ListState : Type 0 where
  pub items : List ℕ
  pub room : ℕ
