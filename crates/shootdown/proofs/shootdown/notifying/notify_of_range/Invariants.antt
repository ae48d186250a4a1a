use Rattle.std.proofs.Common.{◌≡◌, ◌-◌, map}
use Rattle.std.specs.List.{range_with_len}
use Rattle.pcid_tlb.specs.declared.Invpcid.TheVariants.{IndividualAddress}
use Rattle.shootdown.specs.Processors.{notified_all}
use Rattle.shootdown.proofs.shootdown.notifying.notify_of_range.Given as goal

-- the processors are notified of the pages below
abbrev pub invariant-loop-page : goal.invariant-loop-page
invariant-loop-page g l =
    l.processors ≡ map (λ x.
    notified_all x (map (IndividualAddress l.pcid) (range_with_len l.fn.range.first (l.page - l.fn.range.first))))
    l.initial.processors
