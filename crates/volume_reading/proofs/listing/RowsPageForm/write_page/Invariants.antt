use Rattle.std.specs.Io.KnownBytes.{Appends}
use Rattle.volume_reading.specs.inside.Pages.{rows_at}
use Rattle.volume_reading.proofs.listing.RowsPageForm.write_page.Given as goal

abbrev pub invariant-loop-row : goal.invariant-loop-row
invariant-loop-row g l =
    Appends (g.W.Write.contents l.initial.out) (g.W.Write.contents l.out)
    (rows_at (g.F.Form.row_text l.self.form.now) l.at l.page l.row)
