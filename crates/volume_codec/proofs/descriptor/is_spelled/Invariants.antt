use Rattle.std.proofs.Common.{◌≡◌, ℕ, ◌<◌}
use Rattle.volume_codec.specs.Layout.{block_at}
use Rattle.volume_codec.specs.Descriptor.{descriptor_text}
use Rattle.volume_codec.proofs.descriptor.is_spelled.Given as goal

abbrev pub invariant-loop-index : goal.invariant-loop-index
invariant-loop-index l =
    (k : ℕ) → k < l.index
    → block_at l.bytes k ≡ block_at (descriptor_text l.geometry.slots (record { mark = l.mark; homes = l.homes })) k
