use Rattle.std.proofs.Common.{◌≡◌, ◌<◌, ℕ, sym, ◌∙◌, subst, arith}
use Rattle.page_table.specs.inside.Nodes.{read_by_walk}
use Rattle.page_table.proofs.Links.{missing-room, LinksBlocks-kept, LinksBlocks-more}
use Rattle.page_table.proofs.growing.link_blocks.Goals as goal
use Rattle.page_table.proofs.growing.link_blocks.Goals.{then-walk-eq0, else-walk-eq0}

pub link-requires-clause-room : goal.link-requires-clause-room
link-requires-clause-room c =
    let inv = c.loop-block.invariant in
    let none : read_by_walk c.args.words.now c.args.depth c.loop-block.block ≡ 0 =
    sym (inv.same c.args.depth c.loop-block.block
    (omega (arith, c.requires.least)) (λ at low high. absurd (omega arith)))
    ∙ sym c.walk.ensures
    ∙ c.if-walk-eq0.true in
    let room = missing-room c.args.words.now c.args.depth c.args.first c.loop-block.block c.args.end
    c.loop-block.auto.block c.loop-block-test.true none in
    omega (arith, room, inv.count, inv.size, c.requires.room)

pub loop-block-preserved : goal.loop-block-preserved
loop-block-preserved c =
    let inv = c.loop-block.invariant in
    elim c.if-walk-eq0.branch [
      | then-walk-eq0 w ↦
          rw (w.words-is, w.made-is)
          (LinksBlocks-more c.args.depth c.args.first c.loop-block.block c.args.used c.loop-block.made
          c.args.words.now c.loop-block.words w.link.new.words c.loop-block.auto.block c.requires.least inv
          (sym c.walk.ensures ∙ w.if-walk-eq0.true) w.link.ensures)
      | else-walk-eq0 w ↦
          let node : 0 < read_by_walk c.loop-block.words c.args.depth c.loop-block.block =
          subst (λ (n : ℕ). 0 < n) c.walk.ensures (let some = w.if-walk-eq0.false in omega arith) in
          rw (w.words-is, w.made-is) (LinksBlocks-kept c.args.depth c.args.first c.loop-block.block c.args.used
          c.loop-block.made c.args.words.now c.loop-block.words c.loop-block.auto.block c.requires.least inv node)
    ]
