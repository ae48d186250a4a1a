use Rattle.std.proofs.Common.{◌≡◌, ℕ, ◌<◌, ◌/◌, List, sym, subst}
use Rattle.page_table.specs.Table.{put_entry}
use Rattle.page_table.specs.inside.Nodes.{read_by_walk}
use Rattle.page_table.proofs.Tables.{table_of-set, table_of-written, marked_written, leaf_of_grown}
use Rattle.page_table.proofs.table.Table.set.Goals as goal

pub set_page-requires-clause-leaf : goal.set_page-requires-clause-leaf
set_page-requires-clause-leaf g c =
    subst (λ (ws : List ℕ). 0 < read_by_walk ws 3 (c.args.page / 512)) (sym c.deref_mut.ensures.value)
    (leaf_of_grown c.self.inside.words.items c.args.self.now c.args.page c.self.view_is c.requires)

pub returns : goal.returns
returns g c =
    let old = c.deref_mut.result.now in
    let new = c.set_page.new.words in
    table_of-written c.self.inside.words old new c.args.self.now
    (λ t now. now ≡ record t { entries = put_entry t.entries c.args.page c.args.entry })
    c.set_page.ensures.edits.size c.deref_mut.ensures.value c.self.view_is
    (table_of-set c.args.page c.args.entry c.bits.result old new c.bits.ensures.bits c.set_page.ensures.edits)

-- and its marks
pub invariant_of-self : goal.invariant_of-self
invariant_of-self g c =
    marked_written c.self.inside.words c.self.inside.present c.self.inside.in_use
    (c.deref_mut.ensures.value, c.set_page.auto.words) (c.deref_mut-2.ensures.value, c.set_page.auto.present)
    (c.deref_mut-3.ensures.value, c.set_page.auto.in_use) c.set_page.ensures.edits.table c.set_page.ensures.marks
