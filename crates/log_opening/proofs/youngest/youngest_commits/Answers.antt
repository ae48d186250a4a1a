use Rattle.std.proofs.Common.{◌<◌, ℕ, List, length, inl, inr, sym, subst, arith}
use Rattle.std.specs.List.{Contains}
use Rattle.log_recovery.specs.Reading.{chain_of}
use Rattle.log_opening.specs.inside.Places.{HasHomeAt}
use Rattle.log_opening.proofs.Keeping.{home_there}
use Rattle.log_opening.proofs.youngest.youngest_commits.Goals as goal

pub loop-place-preserved : goal.loop-place-preserved
loop-place-preserved g c = record {
  are = λ b k is.
      let cs = c.args.found.now.commits.items in
      let place = c.loop-place.place in
      let lt : place < length cs = omega (arith, c.loop-place-test.true, c.len-place-end.ensures) in
      elim (c.in-Ok.ensures.ok b k is) [
        | inl had ↦ c.loop-place.invariant.are b k had
        | inr now ↦
            let homes = subst (λ (l : List ℕ). Contains l b) c.deref.ensures.value now.1 in
            subst (λ n. HasHomeAt (chain_of cs) n b) (sym now.0)
            (home_there cs c.index.result.now place b lt c.index.ensures homes)
      ];
}
