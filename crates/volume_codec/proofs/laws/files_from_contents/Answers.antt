use Rattle.volume_codec.proofs.Lengths.{length-lengths_in, lengths_in-le}
use Rattle.volume_codec.proofs.Recovered.{files_in-same, file_in-at, blocks_from-device, get_or-blocks_from}
use Rattle.volume_codec.proofs.laws.files_from_contents.Goals as goal

pub returns : goal.returns
returns c = record {
  same = files_in-same;
  file = file_in-at;
  lengths = length-lengths_in;
  within = lengths_in-le;
  device = blocks_from-device;
  byte = get_or-blocks_from;
}
