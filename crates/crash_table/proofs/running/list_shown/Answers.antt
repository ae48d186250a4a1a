use Rattle.std.proofs.Common.{inl, inr}
use Rattle.std.proofs.lemmas.Result.{IfErr-weaker}
use Rattle.crash_table.proofs.Counted.{if_same}
use Rattle.crash_table.proofs.running.list_shown.Goals as goal

pub returns-in-Ok-clause-calls : goal.returns-in-Ok-clause-calls
returns-in-Ok-clause-calls g c = λ before shown.
    if_same c.list_steps.result c.memory_alone.result _
    (c.list_steps.ensures before c.args.shown c.args.shape shown c.in-Ok.ensures.started) c.memory_alone.ensures.same

pub returns-in-Ok-clause-refused : goal.returns-in-Ok-clause-refused
returns-in-Ok-clause-refused g c = λ before shown.
    IfErr-weaker c.memory_alone.result _ _ (λ why is. inl is) c.memory_alone.ensures.memory

pub returns-in-Err-clause-refused : goal.returns-in-Err-clause-refused
returns-in-Err-clause-refused g c = λ before shown.
    let refused = c.in-Err.refused in
    inr (inr (refused.0, c.args.shown, refused.1, c.why_refused.ensures, shown, c.in-Err.ensures.refused))
