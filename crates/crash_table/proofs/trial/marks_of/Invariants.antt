use Rattle.std.proofs.Common.{List}
use Rattle.volume_codec.specs.Files.{File}
use Rattle.volume_codec.specs.Recovery.{RecoversTo}
use Rattle.crash_table.specs.inside.Kept.{AreKept}
use Rattle.crash_table.proofs.trial.marks_of.Given as goal

abbrev pub invariant-loop-at : goal.invariant-loop-at
invariant-loop-at g l = (files : List File) → RecoversTo l.plan.image.now files
    → AreKept files l.plan.shape l.plan.steps.now l.replies l.marks.items
