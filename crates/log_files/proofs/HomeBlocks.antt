-- Where home blocks lie.
use Rattle.std.proofs.Common.{◌≢◌, ℕ, ◌+◌, ◌-◌, ◌<◌, ◌≤◌, arith}
use Rattle.pager.proofs.Public.{one_file as one_file_of}
use Rattle.log_volume.specs.Super.{LogSuperValue, table_of}
use Rattle.log_files.specs.State.{log_first_home_of}

-- no home block is of two files
pub one_file : (v : LogSuperValue) (f file q : ℕ) → f ≢ file → log_first_home_of v f ≤ q
    → q < log_first_home_of v (f + 1) → log_first_home_of v file ≤ q → q < log_first_home_of v (file + 1) → ⊥
one_file v f file q other low high from to =
    one_file_of (table_of v) f file (q - (v.ring + 1)) other (omega (arith, low)) (omega (arith, low, high))
    (omega (arith, from)) (omega (arith, from, to))
