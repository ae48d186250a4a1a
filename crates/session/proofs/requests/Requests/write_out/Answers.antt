use Rattle.std.proofs.Common.{refl, sym, ◌∙◌}
use Rattle.std.proofs.lemmas.Bool.{false≢true}
use Rattle.session.proofs.Carried.{carries_nothing, carries_one, carries_then}
use Rattle.session.proofs.Commits.{others_then, step_unmade, writes_one, writes_then}
use Rattle.session.proofs.Left.{flushed_fewer}
use Rattle.session.proofs.requests.Requests.write_out.Goals as goal

pub loop-flushed-init : goal.loop-flushed-init
loop-flushed-init g c = (carries_nothing g.D.Device _ _ _ tt, refl)

pub returns-then-is_committed-clause-writes : goal.returns-then-is_committed-clause-writes
returns-then-is_committed-clause-writes g c =
    carries_then g.D.Device _ _ _ _ _ _ _ _ _ (writes_then c.args.p c.args.mark _) c.loop-flushed.invariant.0
    (carries_one g.D.Device _ _ _ _ _ _ _ c.flush-flushed.ensures.makes tt (writes_one c.args.p c.args.mark _))

pub returns-then-is_committed-clause-ends : goal.returns-then-is_committed-clause-ends
returns-then-is_committed-clause-ends g c = λ other. absurd (other (c.if-is_committed.ensures.0 refl))

pub returns-then-not-is_flushed-clause-writes : goal.returns-then-not-is_flushed-clause-writes
returns-then-not-is_flushed-clause-writes g c =
    carries_then g.D.Device _ _ _ _ _ _ _ _ _ (writes_then c.args.p c.args.mark _) c.loop-flushed.invariant.0
    (carries_one g.D.Device _ _ _ _ _ _ _ c.flush-flushed.ensures.makes tt (writes_one c.args.p c.args.mark _))

pub returns-then-not-is_flushed-clause-ends : goal.returns-then-not-is_flushed-clause-ends
returns-then-not-is_flushed-clause-ends g c =
    λ other. step_unmade g.D.Device _ _ _ _ c.args.p _ c.flush-flushed.ensures.makes (sym c.if-not-is_flushed.ensures)

pub loop-flushed-preserved : goal.loop-flushed-preserved
loop-flushed-preserved g c = (
  carries_then g.D.Device _ _ _ _ _ _ _ _ _ (others_then c.args.p c.args.mark) c.loop-flushed.invariant.0
      (carries_one g.D.Device _ _ _ _ _ _ _ c.flush-flushed.ensures.makes tt (
        refl,
        (sym c.if-not-is_flushed.ensures, λ is. false≢true (c.if-is_committed.ensures.1 is)),
        tt,
      )),
  c.flush-flushed.ensures.files ∙ c.loop-flushed.invariant.1,
)

pub loop-flushed-smaller : goal.loop-flushed-smaller
loop-flushed-smaller g c =
    flushed_fewer g.D.Device _ _ _ _ c.args.p _ c.flush-flushed.ensures.makes (sym c.if-not-is_flushed.ensures)
