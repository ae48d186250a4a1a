-- The kind of access that each act makes to the memory at the address it names.
use Rattle.machine.specs.declared.act.Access.{Access}
use Rattle.machine.specs.declared.act.Access.TheVariants as accesses
use Rattle.machine.specs.declared.act.Act.{Act}
use Rattle.machine.specs.declared.act.Act.TheVariants.{Load, Store, Fill, Evict}

abbrev pub access_of : Act → Access
access_of (Load va count) = accesses.Load va
access_of (Store va bytes) = accesses.Store va
access_of (Fill page) = accesses.Translation
access_of (Evict slot) = accesses.Translation
access_of act = accesses.Other
