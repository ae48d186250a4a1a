use Rattle.std.proofs.Common.{Bool, inl, inr, refl, sym, ◌∙◌, ap, subst}
use Rattle.std.proofs.lemmas.Bool.{false≢true}
use Rattle.machine.specs.declared.act.Reply.{Reply}
use Rattle.session.specs.declared.notes.Notes.{Notes}
use Rattle.session.specs.Commits.{IsLeftUnwritten, IsWritten, WritesUntil}
use Rattle.session.proofs.Carried.{carries_more, carries_nothing}
use Rattle.session.proofs.Commits.{mark_replied, mark_stops, marks_and}
use Rattle.session.proofs.Stretches.{not_false, not_true}
use Rattle.session.proofs.requests.Requests.commit.Goals as goal

abbrev has_unmarked : Notes → Bool
has_unmarked n = n.has_unmarked

pub returns-then-not-is_begun-clause-answers : goal.returns-then-not-is_begun-clause-answers
returns-then-not-is_begun-clause-answers g c = carries_more g.D.Device _ _ _ _ _ _ (mark_stops c.args.p _ _)
    (c.begin_mark-begun.ensures.refuses (sym c.if-not-is_begun.ensures))

pub change-changed-requires : goal.change-changed-requires
change-changed-requires g c = (_, (c.begin_mark-begun.ensures.begins (sym c.if-not-is_begun.ensures)).begins.held)

pub returns-in_default-clause-answers : goal.returns-in_default-clause-answers
returns-in_default-clause-answers g c =
    let begun = c.begin_mark-begun.ensures.begins (sym c.if-not-is_begun.ensures) in
    mark_replied _ (c.change-changed.ensures.made _ begun.begins.held) c.in_default.ensures.none

pub returns-then-not-before-clause-answers : goal.returns-then-not-before-clause-answers
returns-then-not-before-clause-answers g c =
    let none = ap has_unmarked (sym c.notes-before.ensures) ∙ not_true _ c.if-not-before.true in
    marks_and g.D.Device _ _ _ _ _ _ _ _ c.args.p c.in-Some.mark _ (IsWritten c.args.p c.in-Some.mark)
    c.in-Some.ensures.some (c.begin_mark-begun.ensures.begins (sym c.if-not-is_begun.ensures))
    c.change-changed.ensures.answers c.change-changed.ensures.over
    (carries_nothing g.D.Device _ _ _ (inl (none, refl, refl)))

pub returns-then-not-is_committed-clause-answers : goal.returns-then-not-is_committed-clause-answers
returns-then-not-is_committed-clause-answers g c =
    let mark = c.in-Some.mark in
    let some = ap has_unmarked (sym c.notes-before.ensures) ∙ not_false _ c.if-not-before.false in
    let unmade = c.write_out-written.ensures.ends (λ is. false≢true (c.if-not-is_committed.ensures.1 is)) in
    carries_more g.D.Device _ _ _ _ _ _ (λ steps replies it. (inr (mark, it), unmade))
    (marks_and g.D.Device _ _ _ _ _ _ _ _ c.args.p mark _ (IsLeftUnwritten c.args.p mark c.write_out-written.result)
    c.in-Some.ensures.some (c.begin_mark-begun.ensures.begins (sym c.if-not-is_begun.ensures))
    c.change-changed.ensures.answers c.change-changed.ensures.over
    (carries_more g.D.Device _ _ _ _ _ _ (λ steps replies writes. (some, writes, unmade))
    c.write_out-written.ensures.writes))

pub returns-clause-answers : goal.returns-clause-answers
returns-clause-answers g c =
    let mark = c.in-Some.mark in
    let some = ap has_unmarked (sym c.notes-before.ensures) ∙ not_false _ c.if-not-before.false in
    marks_and g.D.Device _ _ _ _ _ _ _ _ c.args.p mark _ (IsWritten c.args.p mark) c.in-Some.ensures.some
    (c.begin_mark-begun.ensures.begins (sym c.if-not-is_begun.ensures)) c.change-changed.ensures.answers
    c.change-changed.ensures.over (carries_more g.D.Device _ _ _ _ _ _ (λ steps replies writes.
    inr (
      some,
      subst (λ (r : Reply). WritesUntil c.args.p mark r steps replies) (c.if-not-is_committed.ensures.0 refl)
          writes,
    )) c.write_out-written.ensures.writes)
