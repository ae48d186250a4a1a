use Rattle.std.proofs.Common.{List, ℕ, sym, subst}
use Rattle.std.proofs.lemmas.Result.{on_ok_weaker}
use Rattle.std.specs.Io.KnownBytes.{Appends}
use Rattle.recovery.specs.Volume.{bytes_of}
use Rattle.volume_reading.proofs.Appending.{appends_both}
use Rattle.volume_reading.proofs.FilesFound.{file_at, file_listing_is}
use Rattle.volume_reading.proofs.PageText.{rows_of_all_pages}
use Rattle.volume_reading.proofs.listing.write_file.Goals as goal

pub returns-clause-printed : goal.returns-clause-printed
returns-clause-printed g c = λ honest f at.
    let volume = c.args.volume.now in
    let file = c.args.file in
    let seen = g.D.Device.seen c.args.device.now in
    let contents = g.W.Write.contents in
    let form = c.args.form.now in
    let is = c.requires.found honest in
    let named = sym (c.name-name.ensures.named seen f is at) in
    let long = c.length-bytes.ensures.long seen is in
    let bytes = bytes_of (g.V.FoundFiles.files volume seen) file in
    let row = g.F.Form.row_text form in
    let text = file_listing_is (g.F.Form.head_text form) row f c.name-name.result.now bytes c.length-bytes.result named
    (file_at (g.V.FoundFiles.files volume seen) file f at) long in
    let P : List ℕ → Type 0 = λ text. Appends (contents c.args.out.now) (contents c.write_pages.new.out) text in
    let Q : List ℕ → Type 0 = λ rows. Appends (contents c.write_head.new.out) (contents c.write_pages.new.out) rows in
    on_ok_weaker c.write_pages.result
    (λ pages. subst P text (appends_both (contents c.args.out.now) (contents c.write_head.new.out)
    (contents c.write_pages.new.out) _ _ c.in_default.ensures
    (subst Q (rows_of_all_pages row bytes c.length-bytes.result long) pages)))
    (c.write_pages.ensures.written honest)
