use Rattle.std.proofs.Common.{◌-◌, drop, length, arith}
use Rattle.std.proofs.lemmas.List.{take_all, length-drop}
use Rattle.checkpoint.proofs.Searches.{AreRising-drop}
use Rattle.checkpoint.proofs.checkpoint.Checkpoint.frozen.Goals as goal

pub returns-clause-rising : goal.returns-clause-rising
returns-clause-rising g c =
    let pages = c.deref.result.now in
    let n = c.self.inside.released in
    rw (take_all (length pages - n) (drop n pages) (omega (arith, length-drop n pages)))
    (AreRising-drop n pages (rw c.deref.ensures.value c.self.invariant.rising))
