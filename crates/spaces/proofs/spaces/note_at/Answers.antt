use Rattle.std.proofs.Common.{◌∙◌}
use Rattle.spaces.proofs.SlotsLemmas.{indexed_slot}
use Rattle.spaces.proofs.spaces.note_at.Goals as goal

pub note_slot-requires : goal.note_slot-requires
note_slot-requires g c = λ s page entry at present. c.requires c.args.pcid page s entry
    (indexed_slot c.args.slots.now c.args.pcid c.index-slots-pcid.result c.if-pcid-slots.true c.index-slots-pcid.is
    ∙ at) present
