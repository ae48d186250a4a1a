use Rattle.std.proofs.Common.{ℕ, List, sym, ap, ◌∙◌}
use Rattle.std.specs.FinMap as maps
use Rattle.page_entry.specs.Entry.{entry_of}
use Rattle.page_table.specs.Table.{TableState}
use Rattle.page_table.specs.inside.Nodes.{read_by_walk}
use Rattle.page_table.proofs.View.{get_entry}
use Rattle.page_table.proofs.table.Table.get.Goals as goal

pub returns : goal.returns
returns g c =
    c.of_bits.ensures
    ∙ ap entry_of (c.walk.ensures ∙ ap (λ (ws : List ℕ). read_by_walk ws 4 c.args.page) c.deref.ensures.value)
    ∙ sym (get_entry c.self.inside.words.items c.args.page)
    ∙ ap (λ (t : TableState). maps.get t.entries c.args.page) c.self.view_is
