use Rattle.std.proofs.Common.{◌≡◌, ◌==◌, ◌||◌, not, take}
use Rattle.std.specs.List.{list_any}
use Rattle.pcid_tlb.specs.Tlb.{keep_entries}
use Rattle.shootdown.specs.Processors.{flags_kept, drops_pcid, queue_drops}
use Rattle.shootdown.specs.inside.Flags.{flags_of}
use Rattle.shootdown.proofs.processor.carry_out.Given as goal

-- the invalidations below are carried out
abbrev pub invariant-loop-action : goal.invariant-loop-action
invariant-loop-action g l =
    (l.tlb ≡ keep_entries (λ e. not (queue_drops (take l.action-index l.queue) e.pcid e.page)) l.fn.tlb)
    × (flags_of l.may_cache
    ≡ flags_kept (λ pcid. pcid == l.space || not (list_any (λ a. drops_pcid a pcid) (take l.action-index l.queue))) 0
    (flags_of l.fn.may_cache))
