use Rattle.std.specs.Prelude.{length}
use Rattle.service.proofs.gathering.+audit.Given as goal

abbrev pub decreases-audit : goal.decreases-audit
decreases-audit g l = length l.cpus.now
