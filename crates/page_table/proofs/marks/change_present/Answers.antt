use Rattle.std.proofs.Common.{◌*◌, ◌^◌, arith}
use Rattle.page_table.specs.inside.Changes.{changed_bits}
use Rattle.page_table.specs.inside.Nodes.{EditsPages}
use Rattle.page_table.specs.inside.Marks.{HasMarks}
use Rattle.page_table.proofs.PageEdits.{IsEntry-changed, changed-zero}
use Rattle.page_table.proofs.MarkedEdits.{EditsMarked-pieces, AreMarked-node, unused_after, changed-marked}
use Rattle.page_table.proofs.Searching.{done-node}
use Rattle.page_table.proofs.marks.change_present.Goals.{In_default}
use Rattle.page_table.proofs.marks.change_present.Goals as goal

pub change_node-requires-clause-entries : goal.change_node-requires-clause-entries
change_node-requires-clause-entries c =
    AreMarked-node (changed_bits c.args.change) c.args.words.now c.args.present.now c.args.in_use.now c.requires.table
    c.requires.marks c.nodes.node c.in-Some.used c.nodes.words c.nodes.invariant c.in-Some.ensures.low

pub nodes-preserved : goal.nodes-preserved
nodes-preserved c = done-node (EditsMarked-pieces (changed_bits c.args.change) c.args.present.now) c.requires.marks
    c.nodes.invariant c.in-Some.ensures c.change_node.ensures

-- no node is left
all_changed : (c : In_default) → EditsPages (changed_bits c.args.change) 0 (2 ^ 36) c.args.words.now c.nodes.words
    × HasMarks c.nodes.words c.args.present.now c.args.in_use.now
all_changed c =
    changed-marked (changed_bits c.args.change) c.args.words.now c.nodes.words c.args.present.now c.args.in_use.now
    (c.nodes.node * 512) (changed-zero c.args.change)
    (IsEntry-changed c.args.change) c.requires.table c.requires.marks c.nodes.invariant
    (unused_after c.args.words.now c.args.present.now c.args.in_use.now c.requires.marks c.nodes.node _
    (omega arith) c.in_default.ensures)
    c.requires.kept

pub returns-clause-edits : goal.returns-clause-edits
returns-clause-edits c = (all_changed (goal.at.returns-clause-edits c).In_default).0

pub returns-clause-marks : goal.returns-clause-marks
returns-clause-marks c = (all_changed (goal.at.returns-clause-marks c).In_default).1
