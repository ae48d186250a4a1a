use Rattle.checkpoint.proofs.ReleaseLaws.{AreBacked-release, AreCopiesOfFrozen-release}
use Rattle.checkpoint.proofs.checkpoint.Checkpoint.release.Goals as goal

pub returns-clause-backed : goal.returns-clause-backed
returns-clause-backed g c = λ spaces backed.
    let page = c.take_first-page.result in
    AreBacked-release c.args.frames.now c.free_copy.new.frames c.args.self.now
    c.take_first-page.new.self spaces page c.requires c.take_first-page.ensures.rising
    (c.take_first-page.ensures.first page) c.free_copy.ensures c.take_first-page.ensures.released backed

pub returns-clause-copies : goal.returns-clause-copies
returns-clause-copies g c = λ are.
    let page = c.take_first-page.result in
    AreCopiesOfFrozen-release c.args.frames.now c.free_copy.new.frames c.args.self.now c.take_first-page.new.self page
    c.requires (c.take_first-page.ensures.first page) c.free_copy.ensures c.take_first-page.ensures.released are
