use Rattle.std.proofs.Common.{rules, ◌≡◌, length, sym, ◌∙◌}
use Rattle.volume_reading.proofs.LoggedFiles.{many_files}
use Rattle.volume_reading.proofs.files.LoggedVolumeFoundFiles.file_count.Goals as goal

pub returns-clause-listed : goal.returns-clause-listed
returns-clause-listed g c = λ bytes is.
    let value : c.file_count.result ≡ length c.args.self.now.table.files = search rules in
    many_files c.args.self.now bytes is ∙ sym value
