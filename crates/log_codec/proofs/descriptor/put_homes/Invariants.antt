use Rattle.std.proofs.Common.{◌≡◌, ℕ, ◌++◌, List, length, take}
use Rattle.std.specs.List.{flat_map}
use Rattle.volume_codec.specs.Text.{number_text, padded}
use Rattle.log_codec.proofs.descriptor.put_homes.Given as goal

abbrev pub invariant-loop-i : goal.invariant-loop-i
invariant-loop-i l =
    (text : List ℕ) → l.fn.block ≡ padded 4096 text → length text ≡ l.at
    → l.block ≡ padded 4096 (text ++ flat_map (number_text 4) (take l.i l.homes))
