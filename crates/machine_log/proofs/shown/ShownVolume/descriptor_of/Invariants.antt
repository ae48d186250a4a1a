use Rattle.machine_log.specs.inside.Closing.{HasTextUpTo}
use Rattle.machine_log.proofs.shown.ShownVolume.descriptor_of.Given as goal

abbrev pub invariant-loop-i : goal.invariant-loop-i
invariant-loop-i g l = HasTextUpTo l.self-inside.blocks l.first l.i l.bytes.items
