use Rattle.std.proofs.Common.{◌≡◌, ◌+◌, ◌≤◌, length}
use Rattle.spaces.specs.inside.Slots.{listed_from}
use Rattle.spaces.proofs.pcids.PcidsIterator.next.Given as goal

-- the slots that were passed over have no space
abbrev pub invariant-loop-slot : goal.invariant-loop-slot
invariant-loop-slot g l = record {
  small : l.self-inside.next + length l.self-inside.slots.now ≤ 4096;
  same : listed_from l.self-inside.next l.self-inside.slots.now
      ≡ listed_from l.initial.self-inside.next l.initial.self-inside.slots.now;
}

abbrev pub decreases-loop-slot : goal.decreases-loop-slot
decreases-loop-slot g l = length l.self-inside.slots.now
