use Rattle.std.proofs.Common.{ℕ, ◌≡◌, ◌≢◌, ◌<◌, Some}
use Rattle.std.specs.Prelude.{slice_get}
use Rattle.service.specs.Gathering.{CpuState}
use Rattle.service.proofs.gathering.is_among.Given as goal

abbrev pub invariant-loop-cpu : goal.invariant-loop-cpu
invariant-loop-cpu g l = (i : ℕ) → i < l.cpu-index → (cpu : CpuState) → slice_get l.cpus i ≡ Some cpu
    → cpu.number ≢ l.p
