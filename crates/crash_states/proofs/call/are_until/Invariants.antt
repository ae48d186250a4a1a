use Rattle.std.proofs.Common.{◌≡◌, take}
use Rattle.crash_states.specs.Calls.{device_calls_of, calls_until}
use Rattle.crash_states.proofs.call.are_until.Given as goal

abbrev pub invariant-loop-i : goal.invariant-loop-i
invariant-loop-i g l = take l.i (device_calls_of l.made) ≡ take l.i (calls_until (device_calls_of l.calls) l.fails)
