use Rattle.std.proofs.Common.{sym, ◌∙◌, arith}
use Rattle.volume_reading.proofs.LoggedFiles.{length_of_file}
use Rattle.volume_reading.proofs.files.LoggedVolumeFoundFiles.length.Goals as goal

pub size_of-requires : goal.size_of-requires
size_of-requires g c = omega (arith, c.requires.there, c.requires.sound.lengths.count)

pub returns-clause-long : goal.returns-clause-long
returns-clause-long g c = λ bytes is.
    length_of_file c.args.self.now bytes is c.args.file c.requires.there ∙ sym c.size_of.ensures
