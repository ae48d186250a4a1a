use Rattle.std.proofs.Common.{sym, ◌∙◌}
use Rattle.volume_reading.proofs.FilesFound.{length_of_file}
use Rattle.volume_reading.proofs.recovered.RecoveredFoundFiles.length.Goals as goal

pub returns-clause-long : goal.returns-clause-long
returns-clause-long g c = λ bytes is.
    length_of_file c.args.self.now bytes is c.args.file c.requires.there ∙ sym c.size.ensures
