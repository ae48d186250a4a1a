use Rattle.std.proofs.Common.{◌≡◌, ℕ, List, ap, subst, ◌∙◌}
use Rattle.device.specs.Memory.{Recorded, seen_of}
use Rattle.log_volume.specs.Files.{RecoversToLog}
use Rattle.crash_table.proofs.Shown.{shown_recovers}
use Rattle.crash_table.proofs.twin.Twin.shown_by.Goals as goal

pub invariant_of-result : goal.invariant_of-result
invariant_of-result g c =
    let image = c.args.image.now in
    let found = c.in_ok-files.ensures.read in
    let copy_is : seen_of c.in_ok-copy.copy ≡ image =
    ap (λ (d : Recorded). seen_of d) c.in_ok-copy.ensures in
    let R : List ℕ → Type 0 = λ bytes. RecoversToLog bytes found.0 in
    let recovered = subst R copy_is found.1 in record {
      found = found.0;
      by_log = recovered;
      by_journals = shown_recovers image c.args.disk c.requires found.0 recovered c.into_parts-device.result.1
          c.into_parts-device.result.2 c.bytes.result.now c.in_ok-shown.shown.items c.into_parts-device.ensures.volume
          c.into_parts-device.ensures.table
          (c.bytes.ensures ∙ ap (λ (d : Recorded). seen_of d) c.into_parts-device.ensures.device) c.in_ok-shown.ensures;
      bytes_are = found.2;
    }
