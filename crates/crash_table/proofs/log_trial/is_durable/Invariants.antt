use Rattle.std.proofs.Common.{◌≡◌, ◌<◌, ◌≤◌, ℕ, Some}
use Rattle.std.specs.Prelude.{slice_get}
use Rattle.machine.specs.declared.act.Reply.TheVariants.{Committed}
use Rattle.crash_table.proofs.log_trial.is_durable.Given as goal

abbrev pub invariant-loop-reply : goal.invariant-loop-reply
invariant-loop-reply l =
    (i k : ℕ) → i < l.reply-index → slice_get l.replies i ≡ Some (Committed k) → k ≤ l.number
