use Rattle.std.proofs.Common.{◌≡◌}
use Rattle.famsync_core.specs.Held.{after_calls_made}
use Rattle.famsync_core.proofs.state.State.carried_out.Given as goal

abbrev pub invariant-loop : goal.invariant-loop
invariant-loop l = l.self ≡ after_calls_made l.counter l.initial.self
