use Rattle.std.proofs.Common.{subst, sym, arith}
use Rattle.checkpoint.specs.inside.Resized.{CutsPage}
use Rattle.checkpoint.proofs.Cuts.{CutsPage-written, rest-zero_page}
use Rattle.checkpoint.proofs.resizing.cut_page.Goals as goal

pub returns-in-Some : goal.returns-in-Some
returns-in-Some g c =
    subst (CutsPage c.args.page c.args.at c.args.frames.now) (sym c.write.ensures)
    (CutsPage-written c.args.frames.now c.find.ensures.are c.args.page c.args.at c.in-Some.frame _
    c.in-Some.ensures.found (omega (arith, c.requires)) (rest-zero_page c.args.at c.zeros.result c.zeros.ensures))
