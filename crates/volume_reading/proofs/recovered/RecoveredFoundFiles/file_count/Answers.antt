use Rattle.std.proofs.Common.{rules, ◌≡◌, length, sym, ◌∙◌}
use Rattle.volume_reading.proofs.FilesFound.{as_many_files}
use Rattle.volume_reading.proofs.recovered.RecoveredFoundFiles.file_count.Goals as goal

pub returns-clause-listed : goal.returns-clause-listed
returns-clause-listed g c = λ bytes is.
    let volume = c.args.self.now in
    let value : c.file_count.result ≡ length volume.table.files = search rules in
    as_many_files volume bytes is ∙ sym value
