-- The exit status of the program if a command fails.
use Rattle.std.specs.Prelude.{ℕ}
use Rattle.command_line.specs.Faults.{word_status}
use Rattle.commands.specs.declared.failure.Failure.{Failure}
use Rattle.commands.specs.declared.failure.Failure.TheVariants.{Words, Script, Trace, File, Shape}
use Rattle.commands.specs.declared.failure.Failure.TheVariants.{Step, Entry, Act, Wait, Gather}
use Rattle.commands.specs.declared.failure.Failure.TheVariants.{Crashes, Otherwise, Session, Input, Output, Memory}

-- 1 for a refused script or trace; 2, or 3 for a lack of memory, for a refused command line; 3 for all other failures
abbrev pub status_of : Failure → ℕ
status_of (Words fault) = word_status fault
status_of (Script path cause) = 1
status_of (Trace path cause) = 1
status_of (File cause) = 3
status_of (Shape path cause) = 3
status_of (Step path step) = 3
status_of (Entry path entry) = 3
status_of (Act path entry) = 3
status_of (Wait path) = 3
status_of (Gather path cause) = 3
status_of (Crashes path cause) = 3
status_of (Otherwise path) = 3
status_of (Session path) = 3
status_of (Input cause) = 3
status_of (Output cause) = 3
status_of (Memory cause) = 3
