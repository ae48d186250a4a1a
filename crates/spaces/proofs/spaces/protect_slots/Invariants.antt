use Rattle.std.proofs.Common.{◌-◌}
use Rattle.page_table.specs.Table.{frames_protected}
use Rattle.spaces.proofs.Used.{EditsUpto}
use Rattle.spaces.proofs.spaces.protect_slots.Given as goal

-- the slots so far are protected
abbrev pub invariant-spaces : goal.invariant-spaces
invariant-spaces g l = EditsUpto (λ s. frames_protected s.entries l.noted) l.next l.fn.slots l.slots l.in_use

abbrev pub decreases-spaces : goal.decreases-spaces
decreases-spaces g l = 4096 - l.next
