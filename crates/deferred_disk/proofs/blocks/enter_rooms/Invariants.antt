use Rattle.std.proofs.Common.{◌≡◌, ◌≤◌, ◌+◌, length}
use Rattle.std.specs.Prelude.{nat_eq}
use Rattle.std.specs.List.{All}
use Rattle.std.specs.HashMap.{get, spare}
use Rattle.deferred_disk.specs.inside.Blocks.{Enters}
use Rattle.deferred_disk.proofs.blocks.enter_rooms.Given as goal

-- the blocks so far entered, and there are owners and room for the others
abbrev pub invariant-loop-k : goal.invariant-loop-k
invariant-loop-k g l =
    (length l.shares.items + l.k ≡ l.k-end) × All (λ share. share.value ≡ l.run.value) l.shares.items
    × (l.k-end ≤ spare l.rooms + l.k) × (l.k-end ≡ length l.fn.shares.items)
    × Enters (get nat_eq l.fn.rooms) (get nat_eq l.rooms) l.from l.k l.run.value.items
