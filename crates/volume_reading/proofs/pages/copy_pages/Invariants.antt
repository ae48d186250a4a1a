use Rattle.std.proofs.Common.{◌≡◌, ◌<◌, ◌*◌, ◌↔◌, ℕ, length, get_or}
use Rattle.recovery.specs.Reading.{IsOnlyRead}
use Rattle.recovery.specs.Volume.{bytes_of}
use Rattle.volume_reading.proofs.pages.copy_pages.Given as goal

abbrev pub invariant-loop-page : goal.invariant-loop-page
invariant-loop-page g l = record {
  read : IsOnlyRead g.D.Device l.initial.device l.device;
  faults : g.D.Device.faults_met l.device ≡ g.D.Device.faults_met l.initial.device;
  honest : g.F.BlockFile.is_honest l.out ↔ g.F.BlockFile.is_honest l.initial.out;
  size : g.F.BlockFile.is_honest l.initial.out
      → length (g.F.BlockFile.seen l.out) ≡ length (g.F.BlockFile.seen l.initial.out);
  each : g.D.Device.is_honest l.initial.device → g.F.BlockFile.is_honest l.initial.out
      → length (g.F.BlockFile.seen l.initial.out) ≡ g.V.FoundFiles.size l.volume l.file
      → (i : ℕ) → i < 4096 * l.page → i < g.V.FoundFiles.size l.volume l.file
      → get_or (g.F.BlockFile.seen l.out) i 0
      ≡ get_or (bytes_of (g.V.FoundFiles.files l.volume (g.D.Device.seen l.initial.device)) l.file) i 0;
}
