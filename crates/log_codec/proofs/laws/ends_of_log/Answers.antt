use Rattle.log_codec.proofs.Chains.{goes_on, open_end, digest_end, damaged_chain}
use Rattle.log_codec.proofs.laws.ends_of_log.Goals as goal

pub returns : goal.returns
returns c = record {
  goes_on = goes_on;
  damaged = open_end;
  ended = digest_end;
  no_chain = damaged_chain;
  no_start = λ g bytes none. λ s ds has. none s has.start;
}
