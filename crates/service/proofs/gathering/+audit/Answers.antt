use Rattle.std.proofs.Common.{arith}
use Rattle.service.proofs.gathering.+audit.Goals as goal

pub give-requires-in-Some-clause-left_backed : goal.give-requires-in-Some-clause-left_backed
give-requires-in-Some-clause-left_backed g t c = λ last. absurd (omega (
  arith,
  last,
  c.audit-in-Some.ensures.parts,
  c.give.ensures.parts_given,
  c.requires.some,
))
