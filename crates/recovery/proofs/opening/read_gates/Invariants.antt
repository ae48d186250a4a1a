use Rattle.std.proofs.Common.{◌≡◌, ◌↔◌, ◌<◌, ℕ, true, false, length, slice_index_or}
use Rattle.volume_codec.specs.Recovery.{IsOpen}
use Rattle.recovery.specs.Counts.{Rises}
use Rattle.recovery.specs.Reading.{IsOnlyRead}
use Rattle.recovery.proofs.opening.read_gates.Given as goal

abbrev pub invariant-loop-journal : goal.invariant-loop-journal
invariant-loop-journal g l = record {
  len : length (g.D.Device.seen l.device) ≡ length (g.D.Device.seen l.initial.device);
  whole : length l.gates ≡ 4;
  honest : g.D.Device.is_honest l.device ↔ g.D.Device.is_honest l.initial.device;
  read : IsOnlyRead g.D.Device l.initial.device l.device;
  found : g.D.Device.is_honest l.initial.device → (j : ℕ) → j < l.journal
      → ((slice_index_or l.gates j false ≡ true) ↔ IsOpen (g.D.Device.seen l.initial.device) l.geometry.slots j);
  faults : g.D.Device.faults_met l.device ≡ g.D.Device.faults_met l.initial.device;
  calls : Rises l.journal (g.D.Device.calls_made l.initial.device) (g.D.Device.calls_made l.device);
}
