use Rattle.std.proofs.Common.{◌+◌, ◌<◌, arith}
use Rattle.volume_codec.specs.Super.{block_count}
use Rattle.volume_codec.proofs.Public.{first_home_of-next, first_home_of-le}
use Rattle.machine.proofs.code.Parts.{pages-in_file}
use Rattle.machine.proofs.paging.home_block.Goals.{After-first_home}
use Rattle.machine.proofs.paging.home_block.Goals as goal

-- the page's home block is one of the volume
within : (g : _) (c : After-first_home g) → c.first_home.result + c.args.page.page < block_count c.args.table.now
within g c =
    let table = c.args.table.now in
    let file = c.args.page.file in
    omega (
      arith,
      c.first_home.ensures,
      first_home_of-next table file c.requires.file,
      first_home_of-le table (file + 1),
      pages-in_file table.files file c.requires.file,
      c.requires.page,
    )

pub overflow_add-result : goal.overflow_add-result
overflow_add-result g c =
    omega (
      arith,
      within g (goal.at.overflow_add-result g c).After-first_home,
      c.block_count-blocks.ensures.fits.few_blocks,
    )

pub returns-clause-within : goal.returns-clause-within
returns-clause-within g c = within g (goal.at.returns-clause-within g c).After-first_home
