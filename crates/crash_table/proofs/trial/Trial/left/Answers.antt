use Rattle.std.proofs.Common.{◌≡◌, List, IfOk, map, ap, sym, subst}
use Rattle.device.specs.Device.{Only}
use Rattle.device.specs.Memory.{Recorded, new_disk, seen_of, may_leave_of}
use Rattle.volume_codec.specs.Recovery.{RecoversTo}
use Rattle.machine.specs.declared.act.Reply.{Reply}
use Rattle.crash_states.specs.Calls.{ListedDisk, device_calls_of, listing}
use Rattle.crash_table.specs.Calls.{listing_memory}
use Rattle.crash_table.specs.Crashes.{HasEnded, IsStopped}
use Rattle.crash_table.specs.Trials.{TrialValue, Leaves}
use Rattle.crash_table.proofs.Left.{only_first, leaves_newest}
use Rattle.crash_table.proofs.trial.Trial.left.Goals as goal

pub returns : goal.returns
returns g c =
    let inside = c.self.inside in
    let plan = inside.plan in
    let shape = plan.shape in
    let steps = plan.steps.now in
    let fails = c.args.fails in
    let choice = c.args.choice.now in
    let after : ListedDisk = c.in_ok-after.after in
    let replies = c.in_ok-after.replies.items in
    let disk : Recorded = c.in_ok-disk.disk in
    let disk_is : c.in_ok-copy.copy ≡ listing (new_disk plan.image.now) fails = c.in_ok-copy.ensures in
    let calls = device_calls_of inside.listed.calls.items in
    let S : List Reply → Type 0 = λ l. IsStopped calls fails steps l choice after disk in
    let E : ListedDisk → Type 0 = λ d. HasEnded listing_memory d shape steps replies after in
    let Q : ListedDisk → Type 0 = λ d. Only (may_leave_of d.inner) (seen_of d.inner) in
    subst (λ (t : TrialValue). IfOk c.newest.result (Leaves t fails choice)) c.self.view_is
    (leaves_newest c.one_reading.ensures.files plan.image.now shape steps inside.listed.replies.items
    inside.marks.items c.self.invariant.0 calls fails choice replies after
    (subst E disk_is c.in_ok-after.ensures.ended)
    (λ files recovered left may. c.in_ok-after.ensures.back tt (subst Q (sym disk_is) (only_first plan.image.now)) files
    (subst (λ (d : ListedDisk). RecoversTo (seen_of d.inner) files) (sym disk_is) recovered) left may)
    disk (subst S c.deref.ensures.value c.in_ok-disk.ensures)
    (map (λ v. v.items) c.in_ok-found.found.items) (c.in_ok-found.ensures tt) c.newest.result
    c.deref-2.result.now c.deref-3.result.now c.deref-4.result.now (map (λ v. v.items) c.deref-5.result.now)
    c.deref-2.ensures.value c.deref-3.ensures.value c.deref-4.ensures.value
    (ap (map (λ v. v.items)) c.deref-5.ensures.value)
    c.newest.ensures)
