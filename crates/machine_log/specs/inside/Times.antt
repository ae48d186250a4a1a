-- The laws of a device, for the moments of a disk over a log.
use Rattle.std.specs.Prelude.{◌≡◌, ℕ, ◌≤◌, List, [], ◌∷◌}
use Rattle.std.specs.List.{AllByRecursion}
use Rattle.std.proofs.Common.{refl, arith}
use Rattle.device.specs.Memory.{left_since_of, may_leave_of, moment_of}
use Rattle.device.specs.inside.Laws.{now_is_since_of, since_now_of}
use Rattle.machine_log.specs.Disk.{LogDiskValue, joint_moment, left_at, moment_in}

each_pair : (P : ℕ × ℕ → Type 0) (pairs : List (ℕ × ℕ)) → ((m : ℕ × ℕ) → P m) → AllByRecursion P pairs
each_pair P [] all = tt
each_pair P (m ∷ pairs) all = (all m, each_pair P pairs all)

pub now_is_since : {D : Type 0} (moment : D → ℕ) (disk : LogDiskValue D) (t : ℕ) (w : List ℕ)
    → may_leave_of disk.memory w → left_at moment disk t w
now_is_since moment disk t w left =
    each_pair (λ m. joint_moment m.0 m.1 ≡ t → m.0 ≤ moment_of disk.memory → left_since_of disk.memory m.0 w)
    ((moment_of disk.memory, moment disk.device) ∷ disk.moments)
    (λ m same under. now_is_since_of disk.memory m.0 w under left)

pub since_now : {D : Type 0} (moment : D → ℕ) (disk : LogDiskValue D) (w : List ℕ)
    → left_at moment disk (moment_in moment disk) w → may_leave_of disk.memory w
since_now moment disk w left = since_now_of disk.memory w (left.0 refl (omega arith))
