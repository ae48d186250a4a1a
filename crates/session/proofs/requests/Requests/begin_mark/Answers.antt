use Rattle.std.proofs.Common.{inl, inr, refl, sym, ◌∙◌, ap, arith}
use Rattle.std.proofs.lemmas.Bool.{false≢true}
use Rattle.session.specs.Lengths.{reports_begun}
use Rattle.session.proofs.Carried.{begins_one, carries_begins, carries_first, carries_nothing, carries_one}
use Rattle.session.proofs.Carried.{carries_then}
use Rattle.session.proofs.Commits.{begin_refused, begins_later, refused_later, waits_one, waits_then}
use Rattle.session.proofs.Left.{busy_keeps, waited_fewer}
use Rattle.session.proofs.requests.Requests.begin_mark.Goals as goal

pub loop-msync-init : goal.loop-msync-init
loop-msync-init g c = (carries_nothing g.D.Device _ _ _ tt, refl)

pub returns-then-not-is_busy-clause-begins : goal.returns-then-not-is_busy-clause-begins
returns-then-not-is_busy-clause-begins g c = λ is.
    carries_begins g.D.Device _ _ _ _ _ _ _ _ _ (begins_later c.args.p _ is) _ _ c.loop-msync.invariant.0
    (begins_one g.D.Device _ _ _ _ _ _ _ _ c.has_phases.ensures is c.make-begun.ensures.makes refl (refl, refl))

pub returns-then-not-is_busy-clause-refuses : goal.returns-then-not-is_busy-clause-refuses
returns-then-not-is_busy-clause-refuses g c = λ vain.
    let refused = begin_refused g.D.Device _ _ _ _ c.args.p _ c.make-begun.ensures.makes vain in
    carries_then g.D.Device _ _ _ _ _ _ _ _ _ (refused_later c.args.p _) c.loop-msync.invariant.0
    (carries_one g.D.Device _ _ _ _ _ _ _ c.make-begun.ensures.makes vain
    (refl, inl (refl, refused, λ is. false≢true (c.if-not-is_busy.ensures.1 is), refl, refl)))

pub returns-in-Some-clause-begins : goal.returns-in-Some-clause-begins
returns-in-Some-clause-begins g c = λ is. absurd (false≢true (sym c.in-Some.ensures.unbegun ∙ is))

pub returns-in-Some-clause-refuses : goal.returns-in-Some-clause-refuses
returns-in-Some-clause-refuses g c = λ vain.
    let busy = c.if-not-is_busy.ensures.0 refl in
    carries_then g.D.Device _ _ _ _ _ _ _ _ _ (refused_later c.args.p _) c.loop-msync.invariant.0
    (carries_first g.D.Device _ _ _ _ _ _ _ _ _ _ (λ steps replies ends. (refl, inr (busy, ends)))
    c.make-begun.ensures.makes (ap reports_begun busy) c.in-Some.ensures.ends)

pub loop-msync-preserved : goal.loop-msync-preserved
loop-msync-preserved g c =
    let busy = c.if-not-is_busy.ensures.0 refl in (
      carries_then g.D.Device _ _ _ _ _ _ _ _ _ (waits_then c.args.p) c.loop-msync.invariant.0
          (carries_first g.D.Device _ _ _ _ _ _ _ _ _ _ (waits_one c.args.p _ busy) c.make-begun.ensures.makes
          (ap reports_begun busy) c.in_default.ensures.waits),
      c.wait.ensures.files ∙ c.make-begun.ensures.files ∙ c.loop-msync.invariant.1,
    )

pub loop-msync-smaller : goal.loop-msync-smaller
loop-msync-smaller g c = omega (
  arith,
  busy_keeps g.D.Device _ _ _ _ c.args.p _ (c.if-not-is_busy.ensures.0 refl) c.make-begun.ensures.makes,
  waited_fewer g.D.Device _ _ _ _ c.args.p c.in_default.ensures.waits.makes,
)
