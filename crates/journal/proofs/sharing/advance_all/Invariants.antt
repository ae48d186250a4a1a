use Rattle.std.proofs.Common.{◌≡◌, length}
use Rattle.std.specs.Vec.{vec_capacity}
use Rattle.journal.proofs.Joined.{advanced_to}
use Rattle.journal.proofs.sharing.advance_all.Given as goal

-- the steps of those before this place are made
abbrev pub invariant-loop-place : goal.invariant-loop-place
invariant-loop-place g l = record {
  items : l.queued.items ≡ advanced_to l.place l.fn.queued.items;
  capacity : vec_capacity l.queued ≡ vec_capacity l.fn.queued;
  all : l.place-end ≡ length l.fn.queued.items;
}
