use Rattle.std.proofs.Common.{refl}
use Rattle.std.proofs.lemmas.List.{drop_at}
use Rattle.log_codec.specs.Commit.{log_body}
use Rattle.log_codec.proofs.Starts.{one_start_of}
use Rattle.log_codec.proofs.Reading.{one_value}
use Rattle.log_codec.proofs.Chains.{one_sealed, one_log_there, same_contents}
use Rattle.log_codec.proofs.laws.one_log.Goals as goal

pub returns : goal.returns
returns c = record {
  start_back = λ ring s is. record { start = is; spelled = refl };
  descriptor_back = λ g d seal is eight. record { logged = is; spelled = drop_at seal (log_body d) 8 eight };
  starts = λ g s t block log. one_start_of g.ring s t block log.few_ring;
  descriptors = one_value;
  commits = one_sealed;
  logs = one_log_there;
  contents = same_contents;
}
