use Rattle.std.proofs.Common.{ℕ, zero, suc, ◌*◌, ◌^◌, ◌%◌, ◌<◌, ◌≤◌, arith}
use Rattle.crash_states.proofs.choice.add_each.Goals as goal

two_at_least : (blocks : ℕ) → 0 < blocks → blocks ≤ 4 → 2 ≤ 1 * 2 ^ blocks % 18446744073709551616
two_at_least zero some few = absurd (omega arith)
two_at_least (suc zero) some few = omega arith
two_at_least (suc (suc zero)) some few = omega arith
two_at_least (suc (suc (suc zero))) some few = omega arith
two_at_least (suc (suc (suc (suc zero)))) some few = omega arith
two_at_least (suc (suc (suc (suc (suc blocks))))) some few = absurd (omega arith)

pub overflow_sub-more-end : goal.overflow_sub-more-end
overflow_sub-more-end g c = two_at_least c.args.blocks c.requires.some c.requires.few
