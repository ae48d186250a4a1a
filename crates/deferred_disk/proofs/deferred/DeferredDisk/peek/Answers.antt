use Rattle.std.proofs.Common.{◌≤◌, ◌≡◌, ◌+◌, sym, ◌∙◌, ap, subst, length, arith}
use Rattle.std.specs.Prelude.{slice_range}
use Rattle.deferred_disk.specs.Deferred.{Deferred, AreAlike, as_memory}
use Rattle.device.specs.Memory.{seen_of, content_after}
use Rattle.deferred_disk.proofs.Deferring.{agrees_for_read, within_kept}
use Rattle.device.proofs.Public.{length-content_after}
use Rattle.deferred_disk.proofs.deferred.DeferredDisk.peek.Goals as goal

pub read-requires : goal.read-requires
read-requires g c =
    (within_kept (c.args.at + length c.args.buffer.now) c.self.view_is c.self.invariant.0 c.requires).1.0

pub returns-clause-bytes : goal.returns-clause-bytes
returns-clause-bytes g c = λ well none.
    let disk = c.self.inside in
    let n = length c.args.buffer.now in
    let content = content_after disk.past.first disk.past.changes in
    let room : c.args.at + n ≤ length content =
    subst (λ (d : Deferred). c.args.at + n ≤ length (seen_of (as_memory d))) (sym c.self.view_is) c.requires in
    let same : length disk.blocks.bytes ≡ length content = omega (
      arith,
      length-content_after disk.past.first disk.past.changes c.self.invariant.0.within,
      c.self.invariant.0.first_length,
      c.self.invariant.0.bytes_length,
    ) in
    let alike = subst (λ (d : Deferred). AreAlike d.supplied) (sym c.self.view_is) well in
    c.read.ensures.bytes none ∙ agrees_for_read disk.blocks.flags disk.blocks.bytes content c.args.at n
    (c.self.invariant.0.agrees alike) same room (sym c.read.ensures.lacked ∙ none)
    ∙ ap (λ (d : Deferred). slice_range (seen_of (as_memory d)) c.args.at (c.args.at + n)) c.self.view_is
