use Rattle.std.proofs.Common.{◌≡◌, ◌≤◌, ◌+◌, ◌*◌, min}
use Rattle.device.specs.Device.{written}
use Rattle.device.specs.Failing.{spoilt}
use Rattle.device.specs.inside.Spoiling.{WroteWithin}
use Rattle.device.proofs.failing.spoil.Given as goal

abbrev pub invariant-loop-k : goal.invariant-loop-k
invariant-loop-k g l =
    let device = g.D.Device in
    record {
      wrote : WroteWithin device.seen device.may_leave device.moment device.left_since device.is_honest device.carried
          l.at l.len l.fn.device l.device;
      faults : device.faults_met l.device ≡ device.faults_met l.fn.device;
      spoilt : device.is_honest l.fn.device
          → device.seen l.device ≡ written (device.seen l.fn.device) l.at (spoilt (min (4096 * l.k) l.len));
      pieces : device.calls_made l.device ≤ device.calls_made l.fn.device + l.k;
    }
