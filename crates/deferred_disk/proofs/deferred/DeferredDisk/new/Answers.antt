use Rattle.std.proofs.Common.{ℕ, ◌*◌, length, sym, ◌∙◌, ap, subst, arith}
use Rattle.deferred_disk.specs.inside.Deferring.{IsKept}
use Rattle.deferred_disk.specs.inside.Waiting.{changes_of}
use Rattle.deferred_disk.proofs.Deferring.{kept_at_start}
use Rattle.deferred_disk.proofs.deferred.DeferredDisk.new.Goals as goal

pub invariant_of-result : goal.invariant_of-result
invariant_of-result g c =
    let past = c.begin.result in
    let blocks = c.new.result in
    let log = changes_of c.new-2.result.items in (
      subst (λ (n : ℕ). IsKept past.first past.changes past.supplied blocks.bytes blocks.flags log (4096 * n))
          (sym c.from.ensures)
          (kept_at_start past.first past.changes past.supplied blocks.bytes blocks.flags log c.args.blocks
          (ap length c.begin.ensures.0 ∙ c.requires.1) c.begin.ensures.1 c.new.ensures.bytes c.new.ensures.flags
          (ap changes_of c.new-2.ensures.items)),
      omega (arith, ap length c.begin.ensures.1),
    )
