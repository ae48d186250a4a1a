use Rattle.std.proofs.Common.{◌≡◌, take}
use Rattle.std.specs.Io.KnownBytes.{Appends}
use Rattle.recovery.specs.Reading.{IsOnlyRead}
use Rattle.volume_reading.specs.Rows.{files_listing}
use Rattle.volume_reading.proofs.listing.list_found.Given as goal

abbrev pub invariant-loop-file : goal.invariant-loop-file
invariant-loop-file g l = record {
  read : IsOnlyRead g.D.Device l.initial.device l.device;
  faults : g.D.Device.faults_met l.device ≡ g.D.Device.faults_met l.initial.device;
  text : g.D.Device.is_honest l.initial.device → Appends (g.W.Write.contents l.initial.out) (g.W.Write.contents l.out)
      (files_listing (g.F.Form.head_text l.form) (g.F.Form.row_text l.form)
      (take l.file (g.V.FoundFiles.files l.volume (g.D.Device.seen l.initial.device))));
}
