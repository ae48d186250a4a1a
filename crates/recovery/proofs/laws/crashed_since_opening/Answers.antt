use Rattle.recovery.proofs.Reopened.{left_as, tested_as}
use Rattle.recovery.proofs.laws.crashed_since_opening.Goals as goal

pub returns : goal.returns
returns g c =
    let left = left_as g.D.Device g.met.D.Device.seen_is_left g.met.D.Device.now_is_since in
    record {
      left = left;
      tested = λ before after result test honest opens all.
          tested_as test (g.D.Device.may_leave before) (g.D.Device.left_since after (g.D.Device.moment before))
          (λ l. left before after result l honest opens) all;
    }
