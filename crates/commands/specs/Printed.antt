-- The printed output of a run, which is a line for each reply, and the first reply that reports a device failure.
use Rattle.std.specs.Prelude.{ℕ, ◌≡◌, ◌⊎◌, ◌+◌, ◌<◌, ◌^◌, Bool, true, false, if◌then◌else◌}
use Rattle.std.specs.Prelude.{List, [], ◌∷◌, ◌++◌, length, take, Option, Some, None, IsSome}
use Rattle.std.specs.List.{flat_map}
use Rattle.std.specs.Io.KnownBytes.{Appends}
use Rattle.machine.specs.declared.act.Reply.{Reply}
use Rattle.machine.specs.declared.act.Step.{Step}
use Rattle.machine.specs.Words.{reply_text}
use Rattle.commands.specs.Replies.{reports_failure}
use Rattle.commands.specs.declared.printer.Printer.{Printer}

-- a reply on a line of its own
abbrev pub line_of : Reply → List ℕ
line_of reply = reply_text reply ++ 10 ∷ []

-- The number of the first reply that reports a failure, or `found` if an earlier reply did. These replies are numbered
-- from `n` + 1.
abbrev pub failure_after : ℕ → Option ℕ → List Reply → Option ℕ
failure_after n found [] = found
failure_after n None (reply ∷ replies) =
    failure_after (n + 1) (if reports_failure reply then Some (n + 1) else None) replies
failure_after n (Some first) (reply ∷ replies) = Some first

-- The reply's line was printed and counted. The number of the first failure is kept.
pub record IsPrinted {W : Type 0} (contents : W → Option (List ℕ)) (old : Printer W) (reply : Reply)
    (new : Printer W) : Type 0 where
  pub line : Appends (contents old.out) (contents new.out) (line_of reply)
  pub counted : old.count + 1 < 2 ^ 64 → new.count ≡ old.count + 1
  pub failure : old.count + 1 < 2 ^ 64 → new.failure ≡ failure_after old.count old.failure (reply ∷ [])
  pub no_fault : new.fault ≡ old.fault

-- A printer received a reply. `true`: it printed the reply, and continues. `false`: its output failed, and it stops.
abbrev pub Prints : {W : Type 0} → (W → Option (List ℕ)) → Printer W → Reply → Bool → Printer W → Type 0
Prints contents old reply true new = IsPrinted contents old reply new
Prints contents old reply false new = IsSome new.fault

-- The lines of these replies were printed, in order.
pub record ArePrinted {W : Type 0} (contents : W → Option (List ℕ)) (old : Printer W) (replies : List Reply)
    (new : Printer W) : Type 0 where
  pub lines : Appends (contents old.out) (contents new.out) (flat_map line_of replies)
  pub failure : old.count + length replies < 2 ^ 64 → new.failure ≡ failure_after old.count old.failure replies
  pub no_fault : new.fault ≡ old.fault

-- The output failed at the line of the last of these replies, after the lines of the others.
pub record HasFailedAtLast {W : Type 0} (contents : W → Option (List ℕ)) (old : Printer W) (replies : List Reply)
    (new : Printer W) : Type 0 where
  pub earlier : List Reply
  pub last : Reply
  pub split : replies ≡ earlier ++ last ∷ []
  pub before : Printer W
  pub printed : ArePrinted contents old earlier before
  pub failed : IsSome new.fault

-- Each reply to `n` steps was printed, or the output failed at the reply to the last step that was made.
abbrev pub ArePrintedOf : {W : Type 0} → (W → Option (List ℕ)) → ℕ → Printer W → List Reply → Printer W → Type 0
ArePrintedOf contents n old replies new =
    (ArePrinted contents old replies new × (length replies ≡ n)) ⊎ HasFailedAtLast contents old replies new

-- A run of these steps was printed. It made the first steps, one for each of its replies, and left the device `after`.
abbrev pub IsPrintedRun : {W D : Type 0} → (W → Option (List ℕ)) → (List Step → List Reply → D → Type 0) → List Step
    → Printer W → Printer W → D → Type 0
IsPrintedRun contents ran steps old new after = (replies : List Reply)
    × ArePrintedOf contents (length steps) old replies new × ran (take (length replies) steps) replies after
