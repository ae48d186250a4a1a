use Rattle.std.proofs.Common.{◌≡◌, ◌-◌, ◌^◌, min, take}
use Rattle.session.specs.Files.{pages_in}
use Rattle.session.proofs.files.Files.pages.Given as goal

abbrev pub invariant-loop-line : goal.invariant-loop-line
invariant-loop-line g l = l.pages ≡ min (pages_in (take l.line-index l.line-items)) (2 ^ 64 - 1)
