use Rattle.std.proofs.Common.{inl, inr}
use Rattle.std.proofs.lemmas.Result.{IfErr-weaker}
use Rattle.engine.proofs.Public.{begins}
use Rattle.crash_table.proofs.Marks.{if_ok_always}
use Rattle.crash_table.proofs.Counted.{if_same}
use Rattle.crash_table.proofs.trial.list_on.Goals as goal

pub returns-in-Ok-clause-files : goal.returns-in-Ok-clause-files
returns-in-Ok-clause-files g c =
    let found = begins _ _ _ _ c.in-Ok.ensures.started tt in if_ok_always c.memory_alone.result (found.0, found.1)

pub returns-in-Ok-clause-calls : goal.returns-in-Ok-clause-calls
returns-in-Ok-clause-calls g c =
    if_same c.list_steps.result c.memory_alone.result _ (c.list_steps.ensures _ _ c.in-Ok.ensures.started)
    c.memory_alone.ensures.same

pub returns-in-Ok-clause-refused : goal.returns-in-Ok-clause-refused
returns-in-Ok-clause-refused g c =
    IfErr-weaker c.memory_alone.result _ _ (λ why is. inl is) c.memory_alone.ensures.memory

pub returns-in-Err-clause-refused : goal.returns-in-Err-clause-refused
returns-in-Err-clause-refused g c =
    inr (c.in-Err.refused.0, c.in-Err.refused.1, c.why_refused.ensures, c.in-Err.ensures.refused)
