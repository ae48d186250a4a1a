use Rattle.std.proofs.Common.{◌≤◌, ◌+◌, ap, ◌∙◌, ◌++◌}
use Rattle.volume_codec.specs.Text.{zeros}
use Rattle.volume_codec.proofs.Padding.{room-left, drop-skipped, take-skipped}
use Rattle.volume_codec.proofs.block.BlockWriter.skip.Goals as goal

room : (c : goal.After-self-1) → c.self.inside.at + c.args.n ≤ 4096
room c = room-left _ _ _ _ c.self.invariant.0 c.self.invariant.1 c.self.view_is c.requires

pub invariant_of-self : goal.invariant_of-self
invariant_of-self c =
    let i = c.self.invariant in
    (room c, i.1, drop-skipped _ _ c.args.n i.2)

pub returns-clause-value : goal.returns-clause-value
returns-clause-value c =
    take-skipped _ _ c.args.n (room c) c.self.invariant.2
    ∙ ap (λ r. r ++ zeros c.args.n) c.self.view_is
