use Rattle.recovery.proofs.Reopened.{later_as, finds, tested_as}
use Rattle.recovery.proofs.laws.opened_again.Goals as goal

pub returns : goal.returns
returns g c =
    let as_first = later_as g.D.Device g.met.D.Device.seen_is_left g.met.D.Device.now_is_since in
    record {
      honest = λ n first later honest is. (as_first n first later honest is).honest;
      left = λ n first later l honest is. (as_first n first later honest is).left l;
      tested = λ n first later test honest is. tested_as test (g.D.Device.may_leave first)
          (g.D.Device.may_leave later) (as_first n first later honest is).left;
      finds = λ n first later after result test honest is.
          finds g.D.Device g.met.D.Device.seen_is_left g.met.D.Device.now_is_since first later after result test
          (as_first n first later honest is);
    }
