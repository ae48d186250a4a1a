use Rattle.std.proofs.Common.{sym, ◌∙◌, inl, inr, refl}
use Rattle.std.proofs.lemmas.Result.{on_ok_weaker, IfErr-weaker}
use Rattle.crash_table.proofs.make.acknowledge.Goals as goal

pub returns-then-has_unmarked-clause-acknowledged : goal.returns-then-has_unmarked-clause-acknowledged
returns-then-has_unmarked-clause-acknowledged g c =
    on_ok_weaker c.commit.result (λ out. inl out) c.commit.ensures.committed

pub returns-then-has_unmarked-clause-given_up : goal.returns-then-has_unmarked-clause-given_up
returns-then-has_unmarked-clause-given_up g c = IfErr-weaker c.commit.result _ _
    (λ why given_up. (sym c.has_unmarked.ensures ∙ c.if-has_unmarked.true, given_up)) c.commit.ensures.given_up

pub returns-else-has_unmarked-clause-acknowledged : goal.returns-else-has_unmarked-clause-acknowledged
returns-else-has_unmarked-clause-acknowledged g c =
    inr (sym c.has_unmarked.ensures ∙ c.if-has_unmarked.false, refl)
