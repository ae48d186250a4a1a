use Rattle.std.specs.Prelude.{[]}
use Rattle.deferred_disk.proofs.past.Past.begin.Given as goal

abbrev pub ghost-holding : goal.ghost-holding
ghost-holding g a = (g.content, ([], []))
