use Rattle.machine.proofs.Names.{Unmap, state_in}
use Rattle.machine.proofs.sound.Uses.{has_notes}
use Rattle.machine.proofs.layers.Layers.end_unmap.Goals as goal

pub unmap-requires-clause-prepared : goal.unmap-requires-clause-prepared
unmap-requires-clause-prepared g c =
    c.requires.reserved (record { holder = c.args.p; change = Unmap c.args.pcid c.args.range }) c.requires.held.1

pub unmap-requires-clause-notes : goal.unmap-requires-clause-notes
unmap-requires-clause-notes g c = has_notes (state_in c.args.self.now) c.requires.sound
