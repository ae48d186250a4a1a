use Rattle.log_commits.proofs.Told.{one_held}
use Rattle.log_commits.proofs.laws.one_held.Goals as goal

pub returns : goal.returns
returns c g number contents others bytes b log is other home =
    let one = c.one_log.ensures in
    one_held g number contents others bytes b (λ s t block. one.starts g s t block log)
    (λ long epoch p d e. one.commits g epoch p d e bytes log long) is other home
