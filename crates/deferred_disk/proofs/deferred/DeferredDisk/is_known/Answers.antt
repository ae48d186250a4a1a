use Rattle.std.proofs.Common.{◌≡◌, ◌≤◌, ◌+◌, ◌*◌, length, drop, arith, sym, ◌∙◌, ap, subst}
use Rattle.deferred_disk.specs.Deferred.{Deferred, as_memory, carried_out, oldest_call, made_before, done_by, block_of}
use Rattle.device.specs.Memory.{seen_of, content_after}
use Rattle.device.specs.Work.{TornByWork}
use Rattle.deferred_disk.specs.inside.Waiting.{changes_of}
use Rattle.deferred_disk.proofs.Deferring.{unknown_there}
use Rattle.device.proofs.Public.{length-content_after}
use Rattle.deferred_disk.proofs.Waits.{length-changes_of}
use Rattle.deferred_disk.proofs.deferred.DeferredDisk.is_known.Goals as goal

pub returns-clause-there : goal.returns-clause-there
returns-clause-there g c = λ fits none bytes long torn.
    let disk = c.self.inside in
    let block = c.args.block in
    let first = disk.past.first in
    let changes = disk.past.changes in
    let whole = length-content_after first changes c.self.invariant.0.within in
    let room = subst (λ (d : Deferred). 4096 * block + 4096 ≤ length (seen_of (as_memory d)))
    (sym c.self.view_is) fits in
    let same = subst (λ (d : Deferred). length bytes ≡ length (seen_of (as_memory d))) (sym c.self.view_is) long in
    let before = subst (λ (d : Deferred). TornByWork (done_by (oldest_call d)) (seen_of (carried_out d)) bytes)
    (sym c.self.view_is) torn in
    let counted = subst (λ n. TornByWork (done_by (made_before n changes)) (content_after first (drop n changes)) bytes)
    (sym (length-changes_of disk.log.items)) before in
    unknown_there first changes disk.past.supplied disk.blocks.bytes disk.blocks.flags
    (changes_of disk.log.items) disk.len block bytes c.self.invariant.0 (omega (arith, room, whole))
    (sym c.is_known.ensures ∙ none) (same ∙ whole) counted
    ∙ ap (λ (d : Deferred). block_of (seen_of (as_memory d)) block) c.self.view_is
