use Rattle.std.proofs.Common.{◌≤◌, ◌+◌, length, arith, ap, ◌∙◌, ◌++◌}
use Rattle.volume_codec.proofs.Padding.{room-left, length-pushed, drop-pushed, take-pushed}
use Rattle.volume_codec.proofs.block.BlockWriter.push.Goals as goal

room : (c : goal.After-self-1) → c.self.inside.at + length c.args.bytes.now ≤ 4096
room c = room-left _ _ _ _ c.self.invariant.0 c.self.invariant.1 c.self.view_is c.requires

pub invariant_of-self : goal.invariant_of-self
invariant_of-self c =
    let i = c.self.invariant in
    let n = c.copy_from_slice.ensures.after in (
      room c,
      length-pushed _ _ _ _ _ n (omega arith) (room c) i.1,
      drop-pushed _ _ _ _ _ n (omega arith) (room c) i.1 i.2,
    )

pub returns-clause-value : goal.returns-clause-value
returns-clause-value c =
    take-pushed _ _ _ _ _ c.copy_from_slice.ensures.after (omega arith) (room c) c.self.invariant.1
    ∙ ap (λ r. r ++ c.args.bytes.now) c.self.view_is
