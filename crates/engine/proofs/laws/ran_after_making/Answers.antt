use Rattle.std.proofs.Common.{◌≡◌, List, subst}
use Rattle.volume_codec.specs.Files.{File}
use Rattle.engine.specs.Survival.{Survives}
use Rattle.engine.proofs.laws.ran_after_making.Goals as goal

pub returns : goal.returns
returns g c = λ n files made before after shape steps replies is later run.
    let finds = c.opened_later.ensures.permanent files n made before is.honest is.synced is.recovers later in
    let honest = c.opened_again.ensures.honest n made before is.honest later in
    let ran = run.survives honest in
    let same : ran.0 ≡ files = c.one_reading.ensures.files (g.D.Device.seen before) ran.0 files ran.1 finds.recovers in
    subst (λ (l : List File). Survives g.D.Device l before run.start steps replies run.last) same ran.2
