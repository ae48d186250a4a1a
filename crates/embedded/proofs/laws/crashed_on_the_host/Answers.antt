use Rattle.deferred_disk.specs.Deferred.{as_memory}
use Rattle.device.specs.Memory.{moment_of}
use Rattle.device.proofs.Public.{leaves_weaker}
use Rattle.embedded.proofs.Hosted.{sooner, kept}
use Rattle.embedded.proofs.laws.crashed_on_the_host.Goals as goal

pub returns-clause-left : goal.returns-clause-left
returns-clause-left g c =
    λ files history events mid pager old new done left came gone made behind carried.
    leaves_weaker (carried.time behind)
    (λ list since. (c.what_runs_leave.ensures.since files history events mid pager came gone).each list
    (sooner pager.device (moment_of (as_memory mid.device)) list made since))

pub returns-clause-mark : goal.returns-clause-mark
returns-clause-mark g c = λ files mark pager old new done left reached made behind carried.
    leaves_weaker (returns-clause-left g c files reached.earlier reached.later reached.mid pager old new done left
    reached.came reached.gone made behind carried) (kept files mark pager reached)

pub returns-clause-acknowledged : goal.returns-clause-acknowledged
returns-clause-acknowledged g c = λ pager last due mark old new done left well served behind carried.
    let had = served well in
    let it = had.durable in (
      had.before,
      had.files,
      had.recovered,
      it.0,
      returns-clause-mark g c had.files mark pager old new done left it.0 it.1 behind carried,
    )
