use Rattle.log_codec.proofs.Chains.{newest_more, logged_at, logged_other}
use Rattle.log_codec.proofs.laws.recovered_from_log.Goals as goal

pub returns : goal.returns
returns c = record { newest = newest_more; record_of = logged_at; no_record = logged_other }
