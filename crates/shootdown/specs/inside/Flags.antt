-- How a processor keeps its flags: a bit for each PCID.
use Rattle.std.specs.Prelude.{ℕ, Bool, List, map}
use Rattle.std.specs.List.{range_with_len}
use Rattle.page_table.specs.Bits.{is_set}
use Rattle.shootdown.specs.Processors.{pcids}

-- The flags that these bits represent. This is a definition of its own, so that proofs never compute all of them.
unfoldable pub flags_of : List ℕ → List Bool
flags_of words = map (is_set words) (range_with_len 0 pcids)
