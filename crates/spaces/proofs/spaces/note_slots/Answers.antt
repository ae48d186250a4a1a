use Rattle.std.proofs.Common.{refl, arith}
use Rattle.spaces.proofs.Noted.{NotesSlots-none, NotesSlots-more}
use Rattle.spaces.proofs.Used.{NotesSlots-skip, NotesSlots-whole}
use Rattle.spaces.proofs.spaces.note_slots.Goals as goal

pub spaces-init : goal.spaces-init
spaces-init g c = (omega arith, NotesSlots-none c.args.slots.now c.args.notes.now)

pub note_at-requires : goal.note_at-requires
note_at-requires g c = λ pcid page s entry at present. let below = c.requires.below pcid page s entry at present in
    omega (arith, below, c.spaces.auto.notes)

pub spaces-preserved : goal.spaces-preserved
spaces-preserved g c =
    let found = c.in-Some.ensures in
    let high = found.high in (
      omega arith,
      NotesSlots-more c.args.slots.now c.in-Some.pcid _ c.args.notes.now c.spaces.notes c.note_at.new.notes
          (NotesSlots-skip c.args.slots.now c.args.in_use.now c.spaces.next c.in-Some.pcid
          c.args.notes.now c.spaces.notes c.requires.used found.low found.before c.spaces.invariant.1)
          refl c.note_at.ensures,
    )

pub returns : goal.returns
returns g c =
    NotesSlots-whole c.args.slots.now 4096 c.args.notes.now c.spaces.notes c.requires.few
    (NotesSlots-skip c.args.slots.now c.args.in_use.now c.spaces.next 4096 c.args.notes.now c.spaces.notes
    c.requires.used c.spaces.invariant.0 c.in_default.ensures c.spaces.invariant.1)
