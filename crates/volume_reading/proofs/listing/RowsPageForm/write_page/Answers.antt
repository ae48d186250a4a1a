use Rattle.std.proofs.Common.{rules, ◌≡◌, ◌+◌, ◌*◌, ◌<◌, length, min}
use Rattle.volume_reading.proofs.PageText.{row_cut, row_more_at}
use Rattle.volume_reading.proofs.listing.RowsPageForm.write_page.Goals as goal

pub loop-row-preserved : goal.loop-row-preserved
loop-row-preserved g c =
    let contents = g.W.Write.contents in
    let page = c.args.page.now in
    let row = c.loop-row.row in
    let below : 16 * row < length page = search rules in
    let end : c.min-to.result ≡ min (length page) (16 * row + 16) = search rules in
    row_more_at (g.F.Form.row_text c.args.self.now.form.now) (contents c.args.out.now) (contents c.loop-row.out)
    (contents c.show_row.new.out) c.args.at page _ row (row_cut page row c.min-to.result below end)
    c.loop-row.invariant c.in_ok-show_row.ensures
