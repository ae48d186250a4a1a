use Rattle.std.proofs.Common.{inl, inr, refl, sym}
use Rattle.std.proofs.lemmas.Bool.{false≢true}
use Rattle.session.proofs.Carried.{carries_end, carries_one}
use Rattle.session.proofs.Commits.{refused_is, refused_unbegun, step_unmade}
use Rattle.session.proofs.requests.Requests.wait.Goals as goal

pub returns-then-is_flushed-clause-waits : goal.returns-then-is_flushed-clause-waits
returns-then-is_flushed-clause-waits g c = carries_one g.D.Device _ _ _ _ _ _ _ c.flush-flushed.ensures.makes tt
    (record {
      reply = c.flush-flushed.result;
      made = sym c.if-is_flushed.ensures;
      steps_are = refl;
      replies_are = refl;
    })

pub returns-then-is_nothing-clause-ends : goal.returns-then-is_nothing-clause-ends
returns-then-is_nothing-clause-ends g c = carries_end g.D.Device _ _ _ _ c.args.p _ _ c.flush-flushed.ensures.makes
    (inl (c.if-is_nothing.ensures.0 refl, refl))

pub returns-clause-ends : goal.returns-clause-ends
returns-clause-ends g c =
    let unmade = step_unmade g.D.Device _ _ _ _ c.args.p _ c.flush-flushed.ensures.makes
    (sym c.if-is_flushed.ensures) in
    carries_end g.D.Device _ _ _ _ c.args.p _ _ c.flush-flushed.ensures.makes
    (inr (refl, refused_is _ unmade (λ is. false≢true (c.if-is_nothing.ensures.1 is))))

pub returns-clause-unbegun : goal.returns-clause-unbegun
returns-clause-unbegun g c =
    let unmade = step_unmade g.D.Device _ _ _ _ c.args.p _ c.flush-flushed.ensures.makes
    (sym c.if-is_flushed.ensures) in
    refused_unbegun _ (refused_is _ unmade (λ is. false≢true (c.if-is_nothing.ensures.1 is)))
