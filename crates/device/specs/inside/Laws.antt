-- The laws of a device, for a disk in memory.
use Rattle.std.specs.Prelude.{◌≡◌, ℕ, ◌≤◌, List, drop}
use Rattle.std.proofs.Common.{refl, subst, arith}
use Rattle.device.specs.Memory.{Recorded, MayBeLeft, seen_of, may_leave_of, moment_of, left_since_of}

-- A crash may leave the bytes that a read returns.
pub seen_is_left_of : (disk : Recorded) → may_leave_of disk (seen_of disk)
seen_is_left_of disk = record { same_length = refl; synced = λ i same. refl }

-- A crash now is a crash since each moment so far.
pub now_is_since_of : (disk : Recorded) (t : ℕ) (c : List ℕ) → t ≤ moment_of disk → may_leave_of disk c
    → left_since_of disk t c
now_is_since_of disk t c le left = (0, omega arith, omega arith, left)

-- What a crash since the present moment leaves, a crash now may leave.
pub since_now_of : (disk : Recorded) (c : List ℕ) → left_since_of disk (moment_of disk) c → may_leave_of disk c
since_now_of disk c since =
    let none : since.0 ≡ 0 = omega (arith, since.2) in
    subst (λ n. MayBeLeft disk.first (drop n disk.changes) c) none since.3
