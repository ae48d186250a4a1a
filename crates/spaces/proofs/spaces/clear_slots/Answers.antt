use Rattle.std.specs.Option.{option_map}
use Rattle.std.proofs.lemmas.List.Edits.{map_over_more}
use Rattle.spaces.specs.inside.Slots.{edited, without_entries}
use Rattle.spaces.proofs.spaces.clear_slots.Goals as goal

-- one more slot is done
pub loop-slot-preserved : goal.loop-slot-preserved
loop-slot-preserved g c =
    rw (c.clear_slot.ensures, ← c.slot-item.is)
    (map_over_more (option_map (edited (λ s. without_entries s.places c.args.page s.entries))) c.args.slots.now _ _ _
    c.loop-slot-test.true c.loop-slot.invariant c.slot-item.is)
