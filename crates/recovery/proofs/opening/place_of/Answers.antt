use Rattle.std.proofs.Common.{◌≡◌, ◌<◌, ◌+◌, ℕ, suc, subst, arith}
use Rattle.recovery.specs.inside.Reading.{batches_of, IsPlaceOf}
use Rattle.recovery.proofs.FoundJournals.{place_here, place_past, place_end, mark_past}
use Rattle.recovery.proofs.opening.place_of.Goals as goal

pub returns-then-theirs-mark-2-clause-place : goal.returns-then-theirs-mark-2-clause-place
returns-then-theirs-mark-2-clause-place g c =
    let lower : c.other-item.result.descriptor.mark < c.args.mark =
    omega (arith, c.mark-theirs.ensures, c.if-theirs-mark-2.true) in
    let P : ℕ → Type 0 = λ n. IsPlaceOf c.args.mark (batches_of c.args.found.now) n in
    let here : c.loop-other.place + 0 ≡ c.loop-other.place = omega arith in
    subst P here (c.loop-other.invariant.place 0 (place_here c.args.mark c.args.found.now c.loop-other.other-index
    c.other-item.result (omega arith) c.other-item.is lower))

pub loop-other-preserved : goal.loop-other-preserved
loop-other-preserved g c =
    let i = c.loop-other.invariant in
    let higher : c.args.mark < c.other-item.result.descriptor.mark =
    omega (arith, c.mark-theirs.ensures, c.if-theirs-mark.false, c.if-theirs-mark-2.false) in
    record {
      at = omega (arith, i.at);
      place = λ k is.
          let P : ℕ → Type 0 = λ n. IsPlaceOf c.args.mark (batches_of c.args.found.now) n in
          let next : c.loop-other.place + suc k ≡ c.loop-other.place + 1 + k = omega arith in
          subst P next (i.place (suc k) (place_past c.args.mark c.args.found.now c.loop-other.other-index
          c.other-item.result (omega arith) c.other-item.is k higher is));
      mark = λ has. i.mark (mark_past c.args.mark c.args.found.now c.loop-other.other-index c.other-item.result
          (omega arith) c.other-item.is has);
    }

pub returns-clause-place : goal.returns-clause-place
returns-clause-place g c =
    let P : ℕ → Type 0 = λ n. IsPlaceOf c.args.mark (batches_of c.args.found.now) n in
    let here : c.loop-other.place + 0 ≡ c.loop-other.place = omega arith in
    subst P here (c.loop-other.invariant.place 0 (place_end c.args.mark c.args.found.now c.loop-other.other-index
    (omega arith)))
