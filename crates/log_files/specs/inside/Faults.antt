-- The refusal that a call returns for a fault of the pager that it could not exclude.
use Rattle.page_entry.specs.declared.refusal.Refusal.{Refusal}
use Rattle.page_entry.specs.declared.refusal.Refusal.TheVariants as refusals
use Rattle.log_store.specs.declared.fault.StoreFault.TheVariants.{OutOfMemory}
use Rattle.log_pager.specs.declared.fault.PagerFault.{PagerFault}
use Rattle.log_pager.specs.declared.fault.PagerFault.TheVariants.{Store}

-- The refusal for this fault: memory was refused, or a device call failed.
abbrev pub refusal_by : PagerFault → Refusal
refusal_by (Store OutOfMemory) = refusals.OutOfMemory
refusal_by other = refusals.Device
