use Rattle.std.proofs.lemmas.Result.{IfOk-weaker}
use Rattle.inspection.proofs.Looked.{judged}
use Rattle.inspection.proofs.found.inspect.Goals as goal

pub returns-clause-judged : goal.returns-clause-judged
returns-clause-judged g c = λ honest.
    judged _ c.find.result c.kinds_of_bytes.ensures.volume c.kinds_of_bytes.ensures.refused
    (IfOk-weaker c.find.result _ _ (λ found is. (_, is.files)) (c.find.ensures.found honest))
    (c.find.ensures.refused honest)
