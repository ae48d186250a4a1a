use Rattle.std.proofs.Common.{◌≡◌, map}
use Rattle.pcid_tlb.specs.declared.Invpcid.TheVariants.{IndividualAddress}
use Rattle.shootdown.specs.Processors.{notified_all}
use Rattle.shootdown.proofs.shootdown.notifying.notify_of_entries.Given as goal

-- the processors are notified of the entries that were listed
abbrev pub invariant-loop-pcid : goal.invariant-loop-pcid
invariant-loop-pcid g l =
    l.processors
    ≡ map (λ x. notified_all x (map (λ entry. IndividualAddress entry.0 entry.1) l.yielded)) l.initial.processors
