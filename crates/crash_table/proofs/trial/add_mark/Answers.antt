use Rattle.std.proofs.Common.{List, subst, sym}
use Rattle.crash_table.specs.declared.found.MarkFiles.{MarkFiles}
use Rattle.crash_table.specs.inside.Kept.{IsKept, AreKept}
use Rattle.crash_table.proofs.Newest.{kept_more}
use Rattle.crash_table.proofs.trial.add_mark.Goals as goal

pub returns-in_ok-push : goal.returns-in_ok-push
returns-in_ok-push g c = λ files recovered before.
    let shape = c.args.plan.now.shape in
    let steps = c.args.plan.now.steps.now in
    let replies = c.args.replies.now in
    let mark = c.in_ok-mark.mark in
    let P : List (MarkFiles _) → Type 0 = λ l. AreKept files shape steps replies l in
    subst P (sym c.in_ok-push.ensures.items) (kept_more files shape steps replies c.args.marks.now.items mark before
    (subst (λ i. IsKept files shape steps replies i mark) (sym c.in_ok-mark.ensures.step)
    (c.in_ok-mark.ensures.kept files recovered)))

pub returns-in_default : goal.returns-in_default
returns-in_default g c = λ files recovered before. before
