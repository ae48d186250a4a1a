use Rattle.log_opening.proofs.Opened.{recovers_cut_off}
use Rattle.log_opening.proofs.laws.cut_off_openings.Goals as goal

pub returns : goal.returns
returns g c = λ log contents n first later is all cut.
    recovers_cut_off g.D.Device log contents
    (λ others bytes b this other home. c.one_log.ensures.contents log contents others bytes b is this other home)
    n first later all cut
