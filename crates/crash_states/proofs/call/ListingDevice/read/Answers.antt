use Rattle.std.proofs.Common.{Result, Ok, ◌≡◌, false, refl, length}
use Rattle.std.specs.Prelude.{not, is_ok}
use Rattle.crash_states.specs.declared.call.Call.{Call}
use Rattle.crash_states.specs.Calls.{ListedDisk, ListsCall, ListsItsCalls, read_call, listed_as}
use Rattle.crash_states.proofs.Listed.{lists_next}
use Rattle.crash_states.proofs.call.ListingDevice.read.Goals.{After-count}
use Rattle.crash_states.proofs.call.ListingDevice.read.Goals as goal

abbrev new : (g : _) (c : After-count g) → ListedDisk
new g c = listed_as c.read-done.new.self c.self.inside.fails_at c.note.new.calls.items c.note.new.refused
    c.count.new.made c.count.new.faults

listed : (g : _) (c : After-count g)
    → ListsCall (read_call c.args.at (length c.args.buffer.now) (not (is_ok c.count.result))) c.args.self.now (new g c)
    × ((new g c).refused ≡ false → ListsItsCalls (new g c))
listed g c =
    let entered : Result (Call g.row.A.Denot) (Unit {0}) = Ok c.call_to_read-call.result in
    lists_next c.note.new.calls (read_call c.args.at (length c.args.buffer.now)) entered (new g c) c.is_due-due.result
    false c.count.result (λ failed. (refl, refl)) refl c.self.view_is c.self.invariant refl c.is_due-due.ensures
    c.count.ensures.result c.count.ensures.made c.count.ensures.faults c.note.ensures.before
    c.call_to_read-call.ensures c.note.ensures.listed tt (λ _. c.read-done.ensures.recorded)

pub invariant_of-self : goal.invariant_of-self
invariant_of-self g c = (listed g c).1

pub returns-clause-listed : goal.returns-clause-listed
returns-clause-listed g c = (listed g c).0
