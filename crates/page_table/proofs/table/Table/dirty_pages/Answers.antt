use Rattle.std.proofs.Common.{ℕ, ◌^◌, List, sym, ap, ◌∙◌}
use Rattle.page_table.specs.Table.{TableState, dirty_in, dirty_among}
use Rattle.page_table.specs.inside.Nodes.{lookup, present_from}
use Rattle.page_table.proofs.View.{entries-table_of}
use Rattle.page_table.proofs.table.Table.dirty_pages.Goals as goal

pub returns : goal.returns
returns g c =
    let range = c.args.range in
    c.new.ensures
    ∙ ap (λ (ws : List ℕ). dirty_among (present_from (lookup ws) 0 (2 ^ 36)) range.start range.end)
    c.deref.ensures.value
    ∙ ap (λ es. dirty_among es range.start range.end) (sym (entries-table_of c.self.inside.words.items))
    ∙ ap (λ (t : TableState). dirty_in t.entries range.start range.end) c.self.view_is
