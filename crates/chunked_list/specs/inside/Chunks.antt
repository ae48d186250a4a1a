-- How a list keeps its numbers in chunks of 1,024. Each chunk is full, except the last that isn't empty.
use Rattle.std.specs.Prelude.{◌≡◌, ◌≢◌, ◌+◌, ◌-◌, ◌*◌, ◌<◌, ◌≤◌, ℕ, suc, List, [], length, slice_index_or}
use Rattle.std.specs.List.{concat}

-- The chunk of this number has the length `size`, if the list contains `count` numbers.
pub record IsFilled (count number size : ℕ) : Type 0 where
  pub full : number * 1024 + 1024 ≤ count → size ≡ 1024
  pub part : count < number * 1024 + 1024 → size ≡ count - number * 1024

-- Each chunk has its length for `count` numbers, except that the chunk `hole` has one number fewer.
pub record HasHole (chunks : List (List ℕ)) (count hole : ℕ) : Type 0 where
  pub here : IsFilled count hole (suc (length (slice_index_or chunks hole [])))
  pub others : (number : ℕ) → number ≢ hole → IsFilled count number (length (slice_index_or chunks number []))

-- The chunks contain `count` numbers, which are at most `room`. There are enough chunks for `room + 1` numbers.
pub record AreChunks (chunks : List (List ℕ)) (count room : ℕ) : Type 0 where
  pub filled : (number : ℕ) → IsFilled count number (length (slice_index_or chunks number []))
  pub counted : length (concat chunks) ≡ count
  pub few : count ≤ room
  pub enough : room < 1024 * length chunks
