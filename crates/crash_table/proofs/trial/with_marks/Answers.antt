use Rattle.std.proofs.Common.{List, subst}
use Rattle.machine.specs.declared.act.Reply.{Reply}
use Rattle.crash_table.specs.inside.Kept.{AreKept}
use Rattle.crash_table.proofs.trial.with_marks.Goals as goal

pub invariant_of-result : goal.invariant_of-result
invariant_of-result g c =
    let found = c.requires.files in
    let plan = c.args.plan.now in
    let P : List Reply → Type 0 = λ l. AreKept found.0 plan.shape plan.steps.now l c.in-Ok.marks.items in (
      record {
        files = found.0;
        before = found.1;
        kept = subst P c.deref.ensures.value (c.in-Ok.ensures found.0 found.1);
      },
      c.requires.calls,
    )
