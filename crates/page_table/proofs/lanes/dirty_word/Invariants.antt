use Rattle.std.proofs.Common.{◌≡◌, ◌≤◌, ◌%◌, drop}
use lib.Lanes.{mask_l}
use Rattle.page_table.proofs.Masks.{dirties}
use Rattle.page_table.proofs.lanes.dirty_word.Given as goal

-- the lanes from this place on are in the word
abbrev pub invariant-loop-from : goal.invariant-loop-from
invariant-loop-from l =
    record { within : l.from ≤ 64; eighth : l.from % 8 ≡ 0; made : l.word ≡ mask_l (dirties (drop l.from l.entries)) }

abbrev pub decreases-loop-from : goal.decreases-loop-from
decreases-loop-from l = l.from
