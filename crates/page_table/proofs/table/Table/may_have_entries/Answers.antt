use Rattle.std.proofs.Common.{length, ap, sym, ◌∙◌, arith}
use Rattle.page_table.specs.Bits.{is_set}
use Rattle.page_table.proofs.MarkedNotes.{none_in_use}
use Rattle.page_table.proofs.table.Table.may_have_entries.Goals as goal

pub has_used-requires-clause-ample : goal.has_used-requires-clause-ample
has_used-requires-clause-ample g c = omega (arith, c.self.invariant.marks.ample, ap length c.deref.ensures.value)

pub returns : goal.returns
returns g c =
    none_in_use c.self.inside.words.items c.self.inside.present.items c.self.inside.in_use.items c.args.self.now
    c.self.invariant.table c.self.invariant.marks c.self.view_is c.has_used.result
    (λ off node within.
    ap (λ l. is_set l node) (sym c.deref.ensures.value) ∙ c.has_used.ensures off node (omega (arith, within)))
