use Rattle.std.proofs.Common.{◌≡◌, ◌/◌, ℕ, length, sym, ap, ◌∙◌, arith}
use Rattle.page_table.specs.Table.{TableState}
use Rattle.page_table.proofs.Tables.{nodes-table_of}
use Rattle.page_table.proofs.table.Table.nodes.Goals as goal

pub returns : goal.returns
returns g c =
    let count : c.len.result ≡ length c.self.inside.words.items =
    omega (arith, c.len.ensures, c.self.inside.words.ok.0) in
    ap (λ (n : ℕ). n / 512) count
    ∙ sym (nodes-table_of c.self.inside.words.items)
    ∙ ap (λ (t : TableState). t.nodes) c.self.view_is
