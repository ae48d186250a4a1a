use Rattle.std.proofs.Common.{◌≢◌, ℕ, ◌<◌, get_or}
use Rattle.volume_reading.proofs.log_pages.record_or.Given as goal

abbrev pub invariant-loop-k : goal.invariant-loop-k
invariant-loop-k g l = record { others : (i : ℕ) → i < l.k → get_or l.commit.homes.items i 0 ≢ l.home }
