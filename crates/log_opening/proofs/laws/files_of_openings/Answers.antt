use Rattle.log_opening.proofs.Volumes.{files_alike, files_opened}
use Rattle.log_opening.proofs.laws.files_of_openings.Goals as goal

pub returns : goal.returns
returns g c = record {
  opened = files_opened g.D.Device;
  crashed = λ table old new files log says alike r. files_alike table old new files c.one_log_super.ensures.one
      (λ others contents b is this home. c.one_log.ensures.contents _ others contents old b log is this home)
      says alike r;
}
