use Rattle.std.proofs.Common.{◌+◌, ◌<◌, arith}
use Rattle.volume_codec.specs.Super.{block_count}
use Rattle.pager.proofs.Capacities.{home_within, before_end}
use Rattle.pager.specs.State.{IsBeforeEnd}
use Rattle.std.proofs.Common.{subst, sym}
use Rattle.pager.proofs.pages.home_block.Goals.{After-first_home}
use Rattle.pager.proofs.pages.home_block.Goals as goal

-- the page's home block is one of the volume
within : (g : _) (c : After-first_home g) → c.first_home.result + c.args.page.page < block_count c.args.table.now
within g c = omega (
  arith,
  c.first_home.ensures,
  home_within c.args.table.now c.args.lengths.now c.requires.lengths c.args.page.file c.args.page.page c.requires.file
      c.requires.page,
)

pub overflow_add-result : goal.overflow_add-result
overflow_add-result g c =
    omega (
      arith,
      within g (goal.at.overflow_add-result g c).After-first_home,
      c.block_count-blocks.ensures.fits.few_blocks,
    )

pub returns-clause-within : goal.returns-clause-within
returns-clause-within g c = within g (goal.at.returns-clause-within g c).After-first_home

pub returns-clause-before : goal.returns-clause-before
returns-clause-before g c =
    let a = (goal.at.returns-clause-before g c).After-first_home in
    subst (λ n. IsBeforeEnd a.args.table.now a.args.lengths.now (n + a.args.page.page)) (sym a.first_home.ensures)
    (before_end a.args.table.now a.args.lengths.now a.requires.lengths a.args.page.file a.args.page.page a.requires.file
    a.requires.page)
