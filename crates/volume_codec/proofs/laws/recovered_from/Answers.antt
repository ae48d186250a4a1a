use Rattle.volume_codec.proofs.Recovered.{recovered_block-at, recovered_block-other}
use Rattle.volume_codec.proofs.Batches.{recovers_front, length-recovered}
use Rattle.volume_codec.proofs.laws.recovered_from.Goals as goal

pub returns : goal.returns
returns c = record {
  record_of_newest = recovered_block-at;
  no_record = recovered_block-other;
  within = recovers_front;
  whole = length-recovered;
}
