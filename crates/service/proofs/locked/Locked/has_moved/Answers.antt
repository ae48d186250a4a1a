use Rattle.std.proofs.Common.{inl, inr, ◌≡◌, ◌∙◌, ◌==◌, true, length, sym, arith}
use Rattle.std.proofs.lemmas.Bool.Decides.{nat_tests}
use Rattle.service.proofs.locked.Locked.has_moved.Goals as goal

pub returns-then-progress-seen : goal.returns-then-progress-seen
returns-then-progress-seen g c = λ _. record {
  found = c.self.inside.shared;
  serves = c.self.invariant.1;
  moved = inl (omega (arith, c.if-progress-seen.true, c.progress.ensures));
}

pub returns-else-progress-seen : goal.returns-else-progress-seen
returns-else-progress-seen g c = λ full.
    let shared = c.self.inside.shared in
    let same : (length shared.trace == shared.capacity) ≡ true = sym c.is_full.ensures ∙ full in
    let all : length shared.trace ≡ shared.capacity = grind (arith, nat_tests) in record {
      found = shared;
      serves = c.self.invariant.1;
      moved = inr (all ∙ c.self.invariant.1.capacity_is);
    }
