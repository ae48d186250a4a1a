use Rattle.std.proofs.Common.{◌≤◌, length}
use Rattle.service.proofs.Answering.{AreLeft}
use Rattle.service.proofs.gathering.is_answered.Given as goal

abbrev pub invariant-loop-entry : goal.invariant-loop-entry
invariant-loop-entry l = (l.met ≤ length l.answered) × AreLeft l.p l.trace l.answered l.entry-index l.met
