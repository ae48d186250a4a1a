use Rattle.std.proofs.Common.{refl, arith}
use Rattle.checkpoint.proofs.Cuts.{CutsFile-whole, CutsFile-page}
use Rattle.checkpoint.proofs.resizing.cut_file.Goals as goal

pub returns-then-at-gt0 : goal.returns-then-at-gt0
returns-then-at-gt0 g c = CutsFile-page c.args.frames.now c.count-count.ensures.are c.args.file c.args.end _ _
    c.cut_page.new.frames c.requires.before refl refl c.cut_page.ensures

pub returns-else-at-gt0 : goal.returns-else-at-gt0
returns-else-at-gt0 g c = CutsFile-whole c.args.frames.now c.count-count.ensures.are c.args.file c.args.end
    c.requires.before (omega (arith, c.if-at-gt0.false))
