use Rattle.std.proofs.Common.{Result, Ok, ◌≡◌, false, refl, subst}
use Rattle.std.specs.Prelude.{not, is_ok, OnOk}
use Rattle.device.specs.Device.{Only}
use Rattle.device.specs.Memory.{Recorded, seen_of, may_leave_of}
use Rattle.crash_states.specs.declared.call.Call.{Call}
use Rattle.crash_states.specs.Calls.{ListedDisk, ListsCall, ListsItsCalls, sync_call, listed_as}
use Rattle.crash_states.proofs.Listed.{lists_next, if_done}
use Rattle.crash_states.proofs.call.ListingDevice.sync.Goals.{After-count}
use Rattle.crash_states.proofs.call.ListingDevice.sync.Goals as goal

abbrev new : (g : _) (c : After-count g) → ListedDisk
new g c = listed_as c.sync_unless-is_refused.new.disk c.self.inside.fails_at c.note.new.calls.items
    c.note.new.refused c.count.new.made c.count.new.faults

listed : (g : _) (c : After-count g)
    → ListsCall (sync_call (not (is_ok c.count.result))) c.args.self.now (new g c)
    × ((new g c).refused ≡ false → ListsItsCalls (new g c))
listed g c =
    let entered : Result (Call g.row.A.Denot) (Unit {0}) = Ok c.call_to_sync-call.result in
    lists_next c.note.new.calls sync_call entered (new g c) c.is_due-due.result c.sync_unless-is_refused.result
    c.count.result (λ failed. (refl, (refl, refl, refl))) refl c.self.view_is c.self.invariant refl
    c.is_due-due.ensures c.count.ensures.result c.count.ensures.made c.count.ensures.faults c.note.ensures.before
    c.call_to_sync-call.ensures c.note.ensures.listed tt c.sync_unless-is_refused.ensures.synced

pub invariant_of-self : goal.invariant_of-self
invariant_of-self g c = (listed g c).1

pub returns-clause-listed : goal.returns-clause-listed
returns-clause-listed g c = (listed g c).0

pub returns-clause-durable : goal.returns-clause-durable
returns-clause-durable g c =
    let P : Recorded → Type 0 = λ d. Only (may_leave_of c.sync_unless-is_refused.new.disk) (seen_of d) in
    subst (λ (d : ListedDisk). OnOk c.count.result (P d.inner)) c.self.view_is
    (if_done c.count.result c.is_due-due.result c.sync_unless-is_refused.result c.count.ensures.result
    c.sync_unless-is_refused.ensures.durable)
