use Rattle.std.proofs.Common.{◌≡◌, ℕ, ◌<◌, List, length, get_or, sym, ap, ◌∙◌, arith}
use Rattle.log_opening.proofs.Keeping.{placed_at, lengths_there, lengths_elsewhere}
use Rattle.log_opening.proofs.lengths.newest_lengths.Goals.{then-homes-first, else-homes-first}
use Rattle.log_opening.proofs.lengths.newest_lengths.Goals as goal

pub bounds-homes-0 : goal.bounds-homes-0
bounds-homes-0 g c =
    let found = c.args.found.now in
    let at = placed_at c.args.log.now found.start.position found.commits.items c.index-commit.result.now c.loop-i.i
    c.requires.found.placed (omega (arith, c.loop-i-test.true, c.len-i-end.ensures)) c.index-commit.ensures in
    omega (arith, at.2.size.some, c.deref-homes.ensures.len, ap length c.deref-homes.ensures.value)

pub loop-i-preserved : goal.loop-i-preserved
loop-i-preserved g c =
    let log = c.args.log.now in
    let found = c.args.found.now in
    let cs = found.commits.items in
    let commit = c.index-commit.result.now in
    let i = c.loop-i.i in
    let lt : i < length cs = omega (arith, c.loop-i-test.true, c.len-i-end.ensures) in
    let first = c.first_home-first.ensures in
    let homes : get_or c.deref-homes.result.now 0 0 ≡ get_or commit.homes.items 0 0 =
    ap (λ (l : List ℕ). get_or l 0 0) c.deref-homes.ensures.value in
    elim c.if-homes-first.branch [
      | then-homes-first w ↦ record {
        value = w.block-is ∙ lengths_there log found.start.position cs commit i c.loop-i.block first.log
            c.requires.found.placed lt c.index-commit.ensures c.loop-i.invariant.value w.block_behind-block.result
            (sym homes ∙ w.if-homes-first.true ∙ first.value) w.block_behind-block.ensures.value;
        within = omega (arith, w.block-is, w.block_behind-block.ensures.low, first.log.some_homes);
      }
      | else-homes-first w ↦ record {
        value = w.block-is ∙ lengths_elsewhere log found.start.position cs commit i c.loop-i.block first.log
            c.requires.found.placed lt c.index-commit.ensures c.loop-i.invariant.value
            (λ same. w.if-homes-first.false (homes ∙ same ∙ sym first.value));
        within = omega (arith, w.block-is, c.loop-i.invariant.within);
      }
    ]
