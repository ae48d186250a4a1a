use Rattle.std.proofs.Common.{arith}
use Rattle.driver.proofs.acts.called.Goals as goal

pub returns-then-is_trace_full-clause-called : goal.returns-then-is_trace_full-clause-called
returns-then-is_trace_full-clause-called g c =
    c.call-reply.ensures.full (grind (arith, c.if-is_trace_full.ensures))

pub returns-clause-called : goal.returns-clause-called
returns-clause-called g c = record {
  number = c.call-reply.ensures.number;
  answered = c.call-reply.ensures.answered (λ full. grind (arith, c.if-is_trace_full.ensures));
}
