use Rattle.std.proofs.Common.{subst}
use Rattle.page_table.specs.Bits.{IsFirstSet}
use Rattle.spaces.proofs.Freed.{free_found, free_past}
use Rattle.spaces.proofs.spaces.first_free.Goals as goal

pub returns-in-Some : goal.returns-in-Some
returns-in-Some g c = free_found c.args.slots.now c.args.freed.now c.in-Some.pcid c.requires.freed
    (subst (IsFirstSet c.args.freed.now 0 4096) c.in-Some.is c.first_set.ensures)

pub returns-in-None : goal.returns-in-None
returns-in-None g c = free_past c.args.slots.now c.args.freed.now c.requires.freed c.requires.few
    (subst (IsFirstSet c.args.freed.now 0 4096) c.in-None.is c.first_set.ensures)
