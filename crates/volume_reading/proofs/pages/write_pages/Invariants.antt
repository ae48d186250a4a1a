use Rattle.std.proofs.Common.{◌≡◌}
use Rattle.std.specs.Io.KnownBytes.{Appends}
use Rattle.recovery.specs.Reading.{IsOnlyRead}
use Rattle.recovery.specs.Volume.{bytes_of}
use Rattle.volume_reading.specs.Reading.{pages_text}
use Rattle.volume_reading.proofs.pages.write_pages.Given as goal

abbrev pub invariant-loop-page : goal.invariant-loop-page
invariant-loop-page g l = record {
  read : IsOnlyRead g.D.Device l.initial.device l.device;
  faults : g.D.Device.faults_met l.device ≡ g.D.Device.faults_met l.initial.device;
  text : g.D.Device.is_honest l.initial.device → Appends (g.W.Write.contents l.initial.out) (g.W.Write.contents l.out)
      (pages_text (g.F.PageForm.page_text l.form)
      (bytes_of (g.V.FoundFiles.files l.volume (g.D.Device.seen l.initial.device)) l.file) l.page);
}
