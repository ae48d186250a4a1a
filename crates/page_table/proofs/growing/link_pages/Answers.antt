use Rattle.std.proofs.Common.{◌≡◌, ◌/◌, arith}
use Rattle.page_table.specs.inside.Nodes.{read_by_walk}
use Rattle.page_table.proofs.Trees.{walk-root}
use Rattle.page_table.proofs.Ranges.{middle_room, leaf_room, GrowsPages-linked}
use Rattle.page_table.proofs.growing.link_pages.Goals as goal

pub link_blocks-tops-requires-clause-parents : goal.link_blocks-tops-requires-clause-parents
link_blocks-tops-requires-clause-parents c = λ block low high.
    let root : read_by_walk c.args.words.now 0 (block / 512) ≡ 1 =
    walk-root c.args.words.now (block / 512) (omega (arith, c.requires.small)) in
    omega arith

pub link_blocks-middles-requires-clause-room : goal.link_blocks-middles-requires-clause-room
link_blocks-middles-requires-clause-room c =
    middle_room c.args.start c.args.end c.args.used c.link_blocks-tops.result 0 0 c.args.words.now
    c.link_blocks-tops.new.words c.args.words.now c.args.words.now c.requires.pages c.requires.room
    c.link_blocks-tops.ensures

pub link_blocks-requires-clause-room : goal.link_blocks-requires-clause-room
link_blocks-requires-clause-room c =
    leaf_room c.args.start c.args.end c.args.used c.link_blocks-tops.result c.link_blocks-middles.result 0
    c.args.words.now c.link_blocks-tops.new.words c.link_blocks-middles.new.words c.args.words.now c.requires.pages
    c.requires.room c.link_blocks-tops.ensures c.link_blocks-middles.ensures

pub returns : goal.returns
returns c =
    GrowsPages-linked c.args.start c.args.end c.args.used c.link_blocks-tops.result c.link_blocks-middles.result
    c.link_blocks.result c.args.words.now c.link_blocks-tops.new.words c.link_blocks-middles.new.words
    c.link_blocks.new.words c.requires.pages c.requires.room c.link_blocks-tops.ensures c.link_blocks-middles.ensures
    c.link_blocks.ensures
