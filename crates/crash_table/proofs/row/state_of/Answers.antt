use Rattle.std.proofs.Common.{List, ℕ, subst, ◌∙◌}
use Rattle.crash_table.proofs.row.state_of.Goals as goal

pub returns-clause-leaves : goal.returns-clause-leaves
returns-clause-leaves g c =
    let P : List ℕ → Type 0 = λ bytes. g.T.CrashedRun.leaves c.args.trial.now c.args.number bytes c.in_ok-mark.mark in
    subst P (c.deref.ensures.value ∙ c.in_ok-bytes.ensures) c.in_ok-mark.ensures.leaves
