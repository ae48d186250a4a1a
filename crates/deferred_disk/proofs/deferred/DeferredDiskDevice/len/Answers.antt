use Rattle.std.proofs.Common.{length, sym, ◌∙◌, ap}
use Rattle.deferred_disk.specs.Deferred.{Deferred, as_memory}
use Rattle.device.specs.Memory.{seen_of}
use Rattle.device.proofs.Public.{length-content_after}
use Rattle.deferred_disk.proofs.deferred.DeferredDiskDevice.len.Goals as goal

pub returns : goal.returns
returns g c =
    let past = c.self.inside.past in
    c.self.invariant.0.len_is ∙ sym (length-content_after past.first past.changes c.self.invariant.0.within)
    ∙ ap (λ (d : Deferred). length (seen_of (as_memory d))) c.self.view_is
