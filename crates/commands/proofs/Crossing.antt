-- A disk that shows a volume with a log may go to another thread, as its device may.
use denote.RattleType.{RattleType}
use denote.Param.Send.{IsSend, owning_send, sendable}
use Rattle.std.proofs.Crossing.{crosses}
use Rattle.std.proofs.MapsCrossing as maps
use Rattle.std.specs.contracts.alloc.Global as Heap
use Rattle.std.specs.contracts.impls.GlobalAllocator.TheImpl.{ghosts}
use Rattle.device.specs.declared.device.Device.{Ghosts}
use Rattle.machine_log.specs.contracts.past.Past as Past
use Rattle.machine_log.specs.contracts.disk.LogDisk as LogDisk

-- what only proofs read of a disk owns nothing
past_send : IsSend Past.the_row
past_send = owning_send Past.the_type tt (λ d. tt) (λ k x w. tt)

pub disk_send : (D : RattleType) (d : Ghosts D.Denot) → IsSend D → IsSend (LogDisk.the_row D Heap.the_row d ghosts)
disk_send D d send = search (past_send, sendable, crosses, maps.crosses) depth 60 fits 100000
