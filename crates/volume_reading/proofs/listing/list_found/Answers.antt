use Rattle.std.proofs.Common.{ℕ, Err, ◌≡◌, length, sym, ap, subst, ◌∙◌, arith, List, take, slice_get}
use Rattle.std.proofs.lemmas.List.{take_all}
use Rattle.std.proofs.lemmas.Result.{err_from_is_err_and}
use Rattle.std.specs.Io.KnownBytes.{Appends}
use Rattle.volume_codec.specs.Files.{File}
use Rattle.recovery.proofs.FileBytes.{some_at}
use Rattle.recovery.proofs.Public.{read_then}
use Rattle.volume_reading.specs.Faults.{HasListed}
use Rattle.volume_reading.specs.Rows.{files_listing}
use Rattle.volume_reading.proofs.FilesFound.{file_more}
use Rattle.volume_reading.proofs.listing.list_found.Goals as goal

pub write_file-requires-clause-long : goal.write_file-requires-clause-long
write_file-requires-clause-long g c = omega (arith, c.requires.long, ap length c.loop-file.invariant.read.same)

pub write_file-requires-clause-found : goal.write_file-requires-clause-found
write_file-requires-clause-found g c = λ honest.
    let read = c.loop-file.invariant.read in
    let P : List ℕ → Type 0 = λ bytes. g.V.FoundFiles.is_in c.args.volume.now bytes in
    subst P (sym read.same) (c.requires.found (read.honest.0 honest))

pub loop-file-preserved : goal.loop-file-preserved
loop-file-preserved g c =
    let volume = c.args.volume.now in
    let seen = g.D.Device.seen c.args.device.now in
    let before = c.loop-file.invariant in
    let contents = g.W.Write.contents in
    let form = c.args.form.now in
    let i = c.loop-file.file in record {
      read = read_then before.read c.write_file.ensures.read;
      faults = c.in_ok-write_file.ensures.cause ∙ before.faults;
      text = λ honest.
          let files = g.V.FoundFiles.files volume seen in
          let many = c.file_count-file-end.ensures.listed seen (c.requires.found honest) in
          let f = some_at files i (omega (arith, c.loop-file-test.true, many)) in
          let at = ap (λ bytes. slice_get (g.V.FoundFiles.files volume bytes) i) before.read.same ∙ f.1 in
          file_more (g.F.Form.head_text form) (g.F.Form.row_text form) (contents c.args.out.now)
          (contents c.loop-file.out) (contents c.write_file.new.out) files i f.0 f.1 (before.text honest)
          (c.in_ok-write_file.ensures.printed (before.read.honest.1 honest) f.0 at);
    }

pub returns-in_err-write_file-clause-read : goal.returns-in_err-write_file-clause-read
returns-in_err-write_file-clause-read g c = read_then c.loop-file.invariant.read c.write_file.ensures.read

pub returns-in_err-write_file-clause-cause : goal.returns-in_err-write_file-clause-cause
returns-in_err-write_file-clause-cause g c =
    let faults = g.D.Device.faults_met in
    let p = err_from_is_err_and c.from_residual.result c.from_residual.ensures.1 in
    let R : ℕ → Type 0 = λ met. HasListed {X = Unit {0}} met (faults c.write_file.new.device)
    (Err c.in_err-write_file.field-0.0) in
    rw (p.1, p.2) (subst R c.loop-file.invariant.faults c.in_err-write_file.ensures.cause)

pub returns-clause-read : goal.returns-clause-read
returns-clause-read g c = c.loop-file.invariant.read

pub returns-clause-cause : goal.returns-clause-cause
returns-clause-cause g c = c.loop-file.invariant.faults

pub returns-clause-printed : goal.returns-clause-printed
returns-clause-printed g c = λ honest.
    let volume = c.args.volume.now in
    let seen = g.D.Device.seen c.args.device.now in
    let files = g.V.FoundFiles.files volume seen in
    let many = c.file_count-file-end.ensures.listed seen (c.requires.found honest) in
    let all : take c.loop-file.file files ≡ files =
    take_all c.loop-file.file files (omega (arith, c.loop-file-test.false, many)) in
    let P : List File → Type 0 =
    λ fs. Appends (g.W.Write.contents c.args.out.now) (g.W.Write.contents c.loop-file.out)
    (files_listing (g.F.Form.head_text c.args.form.now) (g.F.Form.row_text c.args.form.now) fs) in
    subst P all (c.loop-file.invariant.text honest)
