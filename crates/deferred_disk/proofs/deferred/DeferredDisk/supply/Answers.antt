use Rattle.std.proofs.Common.{◌≡◌, ◌+◌, ◌*◌, ap, subst, refl, sym, ◌∙◌, arith, length}
use Rattle.deferred_disk.specs.Deferred.{with_known, first_block, end_block}
use Rattle.deferred_disk.specs.inside.Deferring.{AreCounted}
use Rattle.deferred_disk.specs.inside.Waiting.{changes_of}
use Rattle.deferred_disk.proofs.Deferring.{kept_as, kept_with_block, within_kept}
use Rattle.deferred_disk.proofs.deferred.DeferredDisk.supply.Goals as goal

pub invariant_of-self-2 : goal.invariant_of-self-2
invariant_of-self-2 g c =
    let disk = c.self.inside in
    let block = c.args.block in
    let past = c.with_block-self-inside.ensures in
    let fits = (within_kept (4096 * block + 4096) c.self.view_is c.self.invariant.0 c.requires).0 in
    let size : length c.args.bytes.now ≡ 4096 = omega (arith, c.fits-bytes) in
    let from : first_block (4096 * block) ≡ block = omega arith in
    let to : end_block (4096 * block) (length c.args.bytes.now) ≡ block + 1 = omega (arith, size) in
    let flags = c.in_ok-put.ensures.flags ∙ ap (λ n. with_known disk.blocks.flags n
    (end_block (4096 * block) (length c.args.bytes.now))) from ∙ ap (with_known disk.blocks.flags block) to in (
      kept_as past.0 past.1 past.2 c.in_ok-put.ensures.bytes flags refl
          (kept_with_block disk.past.first disk.past.changes disk.past.supplied disk.blocks.bytes disk.blocks.flags
          (changes_of disk.log.items) disk.len block c.args.bytes.now c.self.invariant.0 size fits),
      subst (AreCounted disk.recorded) (sym past.1) c.self.invariant.1,
    )

pub put-requires : goal.put-requires
put-requires g c =
    let room = within_kept (4096 * c.args.block + 4096) c.self.view_is c.self.invariant.0 c.requires in
    omega (arith, room.1.0, c.fits-bytes)
