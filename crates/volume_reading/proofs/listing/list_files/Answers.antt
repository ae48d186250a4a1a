use Rattle.std.proofs.Common.{List, ℕ, length, sym, ap, subst, arith}
use Rattle.std.proofs.lemmas.Result.{on_ok_weaker}
use Rattle.recovery.proofs.Public.{read_then}
use Rattle.std.specs.Io.KnownBytes.{Appends}
use Rattle.std.specs.Prelude.{OnOk}
use Rattle.volume_reading.specs.Recovered.{IsRecovered, recovered_files}
use Rattle.volume_reading.specs.Rows.{files_listing}
use Rattle.volume_reading.proofs.FilesFound.{recovers_to}
use Rattle.volume_reading.proofs.listing.list_files.Goals as goal

pub list_found-requires-clause-long : goal.list_found-requires-clause-long
list_found-requires-clause-long g c = omega (arith, c.in-Ok.ensures.long, ap length c.in-Ok.ensures.read.same)

pub list_found-requires-clause-found : goal.list_found-requires-clause-found
list_found-requires-clause-found g c = λ honest.
    let read = c.in-Ok.ensures.read in
    let P : List ℕ → Type 0 = λ bytes. IsRecovered c.in-Ok.volume bytes in
    subst P (sym read.same) (c.in-Ok.ensures.found (read.honest.0 honest))

pub returns-in-Ok-clause-read : goal.returns-in-Ok-clause-read
returns-in-Ok-clause-read g c = read_then c.in-Ok.ensures.read c.list_found.ensures.read

pub returns-in-Ok-clause-printed : goal.returns-in-Ok-clause-printed
returns-in-Ok-clause-printed g c = λ honest.
    let read = c.in-Ok.ensures.read in
    let bytes = g.D.Device.seen c.args.device.now in
    let form = c.args.form.now in
    let P : List ℕ → Type 0 = λ seen. OnOk c.list_found.result (Appends (g.W.Write.contents c.args.out.now)
    (g.W.Write.contents c.list_found.new.out) (files_listing (g.F.Form.head_text form) (g.F.Form.row_text form)
    (recovered_files c.in-Ok.volume seen))) in
    on_ok_weaker c.list_found.result
    (λ appends. (
      recovered_files c.in-Ok.volume bytes,
      recovers_to c.in-Ok.volume bytes (c.in-Ok.ensures.found honest),
      appends,
    ))
    (subst P read.same (c.list_found.ensures.printed (read.honest.1 honest)))
