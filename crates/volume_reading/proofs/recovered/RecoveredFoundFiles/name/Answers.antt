use Rattle.std.proofs.Common.{rules, ◌≡◌, slice_get, Some, sym}
use Rattle.volume_codec.specs.Super.{names_in}
use Rattle.volume_reading.proofs.FilesFound.{name_of_file}
use Rattle.volume_reading.proofs.recovered.RecoveredFoundFiles.name.Goals as goal

pub returns : goal.returns
returns g c =
    let volume = c.args.self.now in
    let named : slice_get (names_in volume.table) c.args.file ≡ Some c.name.result.now = search rules in record {
      named = λ bytes f is at. sym (name_of_file volume bytes c.args.file f c.name.result.now is at named);
    }
