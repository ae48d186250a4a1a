use Rattle.std.proofs.Common.{◌≡◌, ◌<◌, ℕ, Some}
use Rattle.std.specs.Prelude.{slice_get}
use Rattle.machine.specs.declared.act.Reply.TheVariants.{Marked}
use Rattle.crash_table.proofs.found.has_mark.Given as goal

abbrev pub invariant-loop-reply : goal.invariant-loop-reply
invariant-loop-reply l = (i : ℕ) → i < l.reply-index → slice_get l.replies i ≡ Some (Marked l.number) → ⊥
