use Rattle.std.proofs.Common.{◌≡◌, ◌+◌, false}
use Rattle.journal.specs.WriteOut.{after_steps, committing_steps}
use Rattle.journal.specs.inside.Finishing.{IsUnderWay}
use Rattle.journal.proofs.finishing.make_steps.Given as goal

abbrev pub invariant-loop-step : goal.invariant-loop-step
invariant-loop-step g l =
    let batch = l.initial.flush.write_out.batch in
    let slots = l.initial.flush.geometry.slots in
    let before = committing_steps slots batch in
    record {
      value : l.flush
          ≡ record l.initial.flush { write_out = after_steps slots batch (before + l._step); broken = false };
      under : IsUnderWay g.D.Device l.initial.flush.geometry batch (before + l._step) l.initial.device l.device;
    }
