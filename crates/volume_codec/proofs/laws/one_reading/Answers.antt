use Rattle.volume_codec.proofs.Functional.{one_table, one_descriptor}
use Rattle.volume_codec.proofs.Lengths.{one_lengths}
use Rattle.volume_codec.proofs.Batches.{one_list, one_contents, one_recovery}
use Rattle.volume_codec.proofs.laws.one_reading.Goals as goal

pub returns : goal.returns
returns c = record {
  tables = one_table;
  descriptors = one_descriptor;
  lengths = one_lengths;
  batches = one_list;
  contents = one_contents;
  files = one_recovery;
}
