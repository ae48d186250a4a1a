use Rattle.std.specs.Prelude.{◌+◌, ◌*◌, ◌∷◌, slice_range}
use Rattle.device.specs.Memory.{content_after}
use Rattle.deferred_disk.proofs.Pasts.{only}
use Rattle.deferred_disk.proofs.past.Past.with_block.Given as goal

abbrev pub ghost-holding : goal.ghost-holding
ghost-holding a =
    let before = only a._before.now in (
      before.first,
      (
        before.changes,
        (
          a._bytes.now,
          slice_range (content_after before.first before.changes) (4096 * a._number.now) (4096 * a._number.now + 4096),
        ) ∷ before.supplied,
      ),
    )
