use Rattle.std.proofs.Common.{◌≡◌, ◌+◌, ◌≤◌, ◌∙◌, false, refl, sym, ap, subst, length}
use Rattle.std.specs.Prelude.{not, is_ok}
use Rattle.device.specs.Device.{Torn, TornFrom}
use Rattle.device.specs.Memory.{Recorded, seen_of, may_leave_of}
use Rattle.crash_states.specs.Calls.{ListedDisk, ListsCall, ListsItsCalls, write_call, listed_as}
use Rattle.crash_states.proofs.Listed.{lists_next, done_unless, torn_by}
use Rattle.crash_states.proofs.call.ListingDevice.write.Goals.{After-count}
use Rattle.crash_states.proofs.call.ListingDevice.write.Goals as goal

abbrev new : (g : _) (c : After-count g) → ListedDisk
new g c = listed_as c.write.new.self c.self.inside.fails_at c.note.new.calls.items c.note.new.refused
    c.count.new.made c.count.new.faults

listed : (g : _) (c : After-count g)
    → ListsCall (write_call c.args.at c.args.bytes.now (not (is_ok c.count.result))) c.args.self.now (new g c)
    × ((new g c).refused ≡ false → ListsItsCalls (new g c))
listed g c =
    lists_next c.note.new.calls (write_call c.args.at c.args.bytes.now) c.call_to_write-call.result (new g c)
    c.is_due-due.result c.is_err-is_refused.result c.count.result (λ failed. (refl, refl)) refl c.self.view_is
    c.self.invariant refl c.is_due-due.ensures c.count.ensures.result c.count.ensures.made c.count.ensures.faults
    c.note.ensures.before c.call_to_write-call.ensures c.note.ensures.listed c.note.ensures.lost
    (λ accepted. done_unless c.write.result c.write.ensures.recorded (sym c.is_err-is_refused.ensures.value ∙ accepted))

pub invariant_of-self : goal.invariant_of-self
invariant_of-self g c = (listed g c).1

pub returns-clause-listed : goal.returns-clause-listed
returns-clause-listed g c = (listed g c).0

inner_is : (g : _) (c : After-count g) → c.self.inside.inner ≡ c.args.self.now.inner
inner_is g c = ap (λ (d : ListedDisk). d.inner) c.self.view_is

pub returns-clause-torn : goal.returns-clause-torn
returns-clause-torn g c =
    let n = length c.args.bytes.now in
    let P : Recorded → Type 0 = λ d. Torn c.args.at n (seen_of d) (seen_of c.write.new.self) in
    let fits : c.args.at + n ≤ length (seen_of c.self.inside.inner) =
    subst (λ (d : Recorded). c.args.at + n ≤ length (seen_of d)) (sym (inner_is g c)) c.requires in
    subst P (inner_is g c) (torn_by c.write.result c.self.inside.inner c.write.new.self c.args.at c.args.bytes.now fits
    c.write.ensures.written c.write.ensures.refused)

pub returns-clause-keeps : goal.returns-clause-keeps
returns-clause-keeps g c = λ l may.
    c.write.ensures.keeps l (subst (λ (d : Recorded). may_leave_of d l) (sym (inner_is g c)) may)

pub returns-clause-left : goal.returns-clause-left
returns-clause-left g c = λ l may.
    subst (λ (d : Recorded). TornFrom c.args.at (length c.args.bytes.now) (may_leave_of d) l) (inner_is g c)
    (c.write.ensures.left l may)
