use Rattle.std.proofs.Common.{arith}
use Rattle.frames.proofs.PageLemmas.{GivesBack-start, GivesBack-step}
use Rattle.frames.proofs.pages.numbers_below.Goals as goal

pub loop-number-preserved : goal.loop-number-preserved
loop-number-preserved g c = GivesBack-step c.args.count c.loop-number.number c.loop-number.invariant (omega arith)
    (omega arith) c.remove.ensures.updates c.remove.ensures.capacity

pub loop-number-init : goal.loop-number-init
loop-number-init g c = GivesBack-start c.args.count
    (omega (arith, c.give_out_all.ensures.capacity, c.in_ok-pages.ensures.capacity)) c.give_out_all.ensures.all

pub remove-requires : goal.remove-requires
remove-requires g c =
    c.loop-number.invariant.rest _ (omega (arith, c.loop-number.invariant.room)) (λ from below. absurd (omega arith))
