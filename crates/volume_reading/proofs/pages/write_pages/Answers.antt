use Rattle.std.proofs.Common.{rules, ◌≡◌, ℕ, List, length, sym, ap, subst, ◌∙◌, arith}
use Rattle.std.specs.Io.KnownBytes.{Appends}
use Rattle.page_entry.specs.declared.refusal.Refusal.{Refusal}
use Rattle.page_entry.specs.declared.refusal.Refusal.TheVariants.{Device}
use Rattle.recovery.specs.Counts.{HasCause, Rises}
use Rattle.recovery.specs.Volume.{bytes_of}
use Rattle.recovery.proofs.Public.{read_then}
use Rattle.volume_reading.specs.Reading.{part_of, pages_text, page_count}
use Rattle.volume_reading.proofs.PageText.{page_more}
use Rattle.volume_reading.proofs.pages.write_pages.Goals as goal

pub read_page-requires-clause-long : goal.read_page-requires-clause-long
read_page-requires-clause-long g c = omega (arith, c.requires.long, ap length c.loop-page.invariant.read.same)

pub read_page-requires-clause-found : goal.read_page-requires-clause-found
read_page-requires-clause-found g c = λ honest.
    let read = c.loop-page.invariant.read in
    let P : List ℕ → Type 0 = λ bytes. g.V.FoundFiles.is_in c.args.volume.now bytes in
    subst P (sym read.same) (c.requires.found (read.honest.0 honest))

pub loop-page-preserved : goal.loop-page-preserved
loop-page-preserved g c =
    let old = c.args.device.now in
    let volume = c.args.volume.now in
    let before = c.loop-page.invariant in
    let contents = g.W.Write.contents in
    let file = c.args.file in
    let page = c.loop-page.page in record {
      read = read_then before.read c.in_default.ensures.read;
      faults = c.in_default.ensures.kept.cause ∙ before.faults;
      text = λ honest.
          let bytes = bytes_of (g.V.FoundFiles.files volume (g.D.Device.seen old)) file in
          let is = c.in_default.ensures.page (before.read.honest.1 honest)
          ∙ ap (λ seen. part_of (bytes_of (g.V.FoundFiles.files volume seen) file) page) before.read.same in
          page_more (g.F.PageForm.page_text c.args.form.now) (contents c.args.out.now) (contents c.loop-page.out)
          (contents c.write_page.new.out) bytes page c.read_page.new.part is (before.text honest)
          c.in_default-write_page.ensures;
    }

pub returns-in-Err-clause-read : goal.returns-in-Err-clause-read
returns-in-Err-clause-read g c = read_then c.loop-page.invariant.read c.in-Err.ensures.read

pub returns-in-Err-clause-cause : goal.returns-in-Err-clause-cause
returns-in-Err-clause-cause g c =
    let faults = g.D.Device.faults_met in
    let P : Refusal → Type 0 =
    λ refusal. HasCause (faults c.loop-page.device) (faults c.read_page.new.device) refusal in
    let Q : ℕ → Type 0 = λ met. Rises 1 met (faults c.read_page.new.device) in
    let is : c.in-Err.refusal ≡ Device = c.in-Err.ensures.fault in
    (is, subst Q c.loop-page.invariant.faults (subst P is c.in-Err.ensures.kept.cause))

pub returns-in-Err-write_page-clause-read : goal.returns-in-Err-write_page-clause-read
returns-in-Err-write_page-clause-read g c = read_then c.loop-page.invariant.read c.in_default.ensures.read

pub returns-in-Err-write_page-clause-cause : goal.returns-in-Err-write_page-clause-cause
returns-in-Err-write_page-clause-cause g c = c.in_default.ensures.kept.cause ∙ c.loop-page.invariant.faults

pub returns : goal.returns
returns g c =
    let old = c.args.device.now in
    let contents = g.W.Write.contents in record {
      written = λ honest.
          let bytes = bytes_of (g.V.FoundFiles.files c.args.volume.now (g.D.Device.seen old)) c.args.file in
          let all : c.loop-page.page ≡ page_count c.args.bytes = search rules in
          let P : ℕ → Type 0 = λ pages. Appends (contents c.args.out.now) (contents c.loop-page.out)
          (pages_text (g.F.PageForm.page_text c.args.form.now) bytes pages) in
          subst P all (c.loop-page.invariant.text honest);
      read = c.loop-page.invariant.read;
      cause = c.loop-page.invariant.faults;
    }
