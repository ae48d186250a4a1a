use Rattle.log_codec.proofs.Chains.{ends_behind, chain_fits, start_behind}
use Rattle.log_codec.proofs.laws.room_of_chain.Goals as goal

pub returns : goal.returns
returns c = record { behind = ends_behind; fits = chain_fits; next_start = start_behind }
