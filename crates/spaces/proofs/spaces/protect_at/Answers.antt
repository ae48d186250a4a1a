use Rattle.spaces.proofs.Used.{HasUse-at}
use Rattle.spaces.proofs.spaces.protect_at.Goals as goal

pub returns-then-pcid-slots-clause-used : goal.returns-then-pcid-slots-clause-used
returns-then-pcid-slots-clause-used g c = HasUse-at c.args.slots.now c.args.pcid c.protect_slot.new.slot
    c.protect_slot.result c.if-pcid-slots.true c.protect_slot.ensures.used
