use Rattle.std.proofs.Common.{rules, ◌≡◌, slice_get, Some}
use Rattle.volume_codec.specs.Super.{names_in}
use Rattle.log_volume.specs.Super.{table_of}
use Rattle.volume_reading.proofs.LoggedFiles.{name_of_file}
use Rattle.volume_reading.proofs.files.LoggedVolumeFoundFiles.name.Goals as goal

pub returns : goal.returns
returns g c =
    let named : slice_get (names_in (table_of c.args.self.now.table)) c.args.file ≡ Some c.name.result.now =
    search rules in record {
      named = λ bytes f is at. name_of_file c.args.self.now bytes is c.args.file f c.name.result.now at named;
    }
