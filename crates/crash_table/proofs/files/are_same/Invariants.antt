use Rattle.std.proofs.Common.{◌≡◌, take, map}
use Rattle.crash_table.proofs.files.are_same.Given as goal

abbrev pub invariant-loop-i : goal.invariant-loop-i
invariant-loop-i g l = take l.i (map (λ v. v.items) l.left) ≡ take l.i (map (λ v. v.items) l.right)
