use Rattle.deferred_disk.specs.Deferred.{as_memory}
use Rattle.device.specs.Memory.{moment_of}
use Rattle.device.proofs.Public.{leaves_weaker}
use Rattle.embedded.proofs.Hosted.{sooner}
use Rattle.embedded_log.proofs.Left.{left_served, kept, come_of}
use Rattle.embedded_log.proofs.laws.crashed_on_the_host.Goals as goal

pub returns-clause-left : goal.returns-clause-left
returns-clause-left g c =
    λ files history events mid s old new done left come served made behind carried.
    leaves_weaker (carried.time behind)
    (λ list since. (left_served files history mid come served).each list
    (sooner s.pager.device (moment_of (as_memory mid.pager.device)) list made since))

pub returns-clause-mark : goal.returns-clause-mark
returns-clause-mark g c = λ files mark s old new done left reached made behind carried.
    leaves_weaker (returns-clause-left g c files reached.earlier reached.later reached.mid s old new done left
    (come_of files mark s reached) reached.served made behind carried)
    (λ list back tells. kept files mark s reached list (back tells))

pub returns-clause-acknowledged : goal.returns-clause-acknowledged
returns-clause-acknowledged g c = λ s last due mark old new done left well served behind carried.
    let had = served well in
    let it = had.durable in (
      had.files,
      it.0,
      returns-clause-mark g c had.files mark s old new done left it.0 it.1 behind carried,
    )
