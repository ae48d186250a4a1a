use Rattle.deferred_disk.proofs.Deferring.{kept_without_front}
use Rattle.deferred_disk.proofs.deferred.DeferredDisk.carried_out.Goals as goal

pub invariant_of-self : goal.invariant_of-self
invariant_of-self g c =
    let disk = c.self.inside in (
      kept_without_front disk.past.first disk.past.changes disk.past.supplied disk.blocks.bytes disk.blocks.flags
          disk.log.items c.pop_front.new.self.items disk.len c.pop_front.ensures.rest c.self.invariant.0,
      c.self.invariant.1,
    )
