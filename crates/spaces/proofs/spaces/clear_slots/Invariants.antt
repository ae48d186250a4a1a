use Rattle.std.proofs.Common.{◌≡◌, ◌++◌, map, take, drop}
use Rattle.std.specs.Option.{option_map}
use Rattle.spaces.specs.inside.Slots.{edited, without_entries}
use Rattle.spaces.proofs.spaces.clear_slots.Given as goal

abbrev pub invariant-loop-slot : goal.invariant-loop-slot
invariant-loop-slot g l = l.slots
    ≡ map (option_map (edited (λ s. without_entries s.places l.page s.entries))) (take l.slot-index l.initial.slots)
    ++ drop l.slot-index l.initial.slots
