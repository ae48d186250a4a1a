use Rattle.std.proofs.Common.{◌+◌, ◌*◌, ap, ◌∙◌, arith}
use Rattle.page_entry.specs.Entry.{bits_of}
use Rattle.page_table.specs.inside.Changes.{changed_by, changed_bits}
use Rattle.page_table.proofs.MarkedEdits.{EditsMarked-all, EditsMarked-one, EditsMarked-pieces, IsEntry-next}
use Rattle.page_table.proofs.Searching.{SoFar-next, done-next}
use Rattle.page_table.proofs.marks.change_node.Goals as goal

pub of_bits-requires : goal.of_bits-requires
of_bits-requires c =
    IsEntry-next (changed_bits c.args.change) c.args.present.now (c.args.node * 512) c.entries.place
    ((c.args.node + 1) * 512) c.in-Some.at c.args.words.now c.entries.words c.requires.entries c.entries.invariant.low
    c.entries.invariant.done c.in-Some.ensures

pub entries-preserved : goal.entries-preserved
entries-preserved c =
    let inv = c.entries.invariant in
    let found = c.in-Some.ensures in
    let f = changed_bits c.args.change in
    let one = EditsMarked-one f c.args.present.now c.in-Some.at c.bits.result c.entries.words found.here
    (omega (arith, found.high, c.entries.auto.words, c.requires.node))
    (c.bits.ensures.bits ∙ ap bits_of (c.changed.ensures ∙ ap (changed_by c.args.change) c.of_bits.ensures)) in
    SoFar-next inv found (done-next (EditsMarked-pieces f c.args.present.now) inv.low inv.done found one)

pub returns : goal.returns
returns c =
    let inv = c.entries.invariant in
    EditsMarked-all (changed_bits c.args.change) c.args.present.now (c.args.node * 512) c.entries.place
    ((c.args.node + 1) * 512) c.args.words.now c.entries.words inv.high inv.done c.in_default.ensures
