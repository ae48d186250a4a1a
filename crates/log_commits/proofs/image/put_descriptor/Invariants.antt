use Rattle.std.proofs.Common.{◌≡◌, ◌*◌, ◌++◌, take, drop}
use Rattle.log_codec.specs.Commit.{log_body}
use Rattle.log_commits.proofs.image.put_descriptor.Given as goal

abbrev pub invariant-loop-index : goal.invariant-loop-index
invariant-loop-index l =
    l.room
    ≡ take (4096 * l.index) (l.seal ++ log_body (record { number = l.number; homes = l.homes }))
    ++ drop (4096 * l.index) l.fn.room
