use Rattle.std.proofs.Common.{arith}
use Rattle.pager.proofs.Capacities.{end_within}
use Rattle.pager.proofs.pages.block_after.Goals as goal

pub overflow_cast-result : goal.overflow_cast-result
overflow_cast-result g c =
    let inside = end_within c.args.table.now c.args.file c.args.end c.requires.file c.requires.fits in
    omega (arith, inside, c.block_count-blocks.ensures.fits.few_blocks, c.div_ceil.ensures)

pub overflow_add-result : goal.overflow_add-result
overflow_add-result g c =
    let inside = end_within c.args.table.now c.args.file c.args.end c.requires.file c.requires.fits in
    omega (arith, inside, c.block_count-blocks.ensures.fits.few_blocks, c.first_home.ensures, c.div_ceil.ensures)

pub returns-clause-within : goal.returns-clause-within
returns-clause-within g c =
    let inside = end_within c.args.table.now c.args.file c.args.end c.requires.file c.requires.fits in
    omega (arith, inside, c.first_home.ensures, c.div_ceil.ensures)
