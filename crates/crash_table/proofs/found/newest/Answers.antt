use Rattle.std.proofs.Common.{rules, ◌≡◌, ◌<◌, ◌+◌, ◌-◌, true, false, length}
use Rattle.std.proofs.Common.{map, Some, inl, refl, sym, ap, subst, ◌∙◌, arith}
use Rattle.std.specs.Prelude.{IsTrue}
use Rattle.std.proofs.lemmas.Option.{slice_get-get_or, get_or_from_slice_get}
use Rattle.machine.specs.declared.act.Reply.TheVariants.{Marked}
use Rattle.crash_table.specs.Marks.{NoneFrom}
use Rattle.crash_table.proofs.Newest.{none_before, none_at_last, newest_is, not_here}
use Rattle.crash_table.proofs.found.newest.Goals.{in-Marked+in_ok-kept+else-are_same, in_default}
use Rattle.crash_table.proofs.found.newest.Goals as goal

pub loop-before-preserved : goal.loop-before-preserved
loop-before-preserved g c = λ files shape steps kept.
    let replies = c.args.replies.now in
    let bytes = map (λ v. v.items) c.args.found.now in
    none_before files shape steps replies bytes (length replies) c.loop-before.before c.loop-before-test.true
    (c.loop-before.invariant files shape steps kept)
    (elim c.match-replies-at.branch [
      | in-Marked+in_ok-kept+else-are_same w ↦ not_here files shape steps replies bytes (length
          replies - 1 - c.loop-before.before) w.in_ok-kept.kept.now (w.in_ok-kept.ensures files shape steps kept)
          (λ alike. absurd (let no : false ≡ true = subst IsTrue w.if-are_same.false
          (w.are_same.ensures.1 (ap (map (λ v. v.items)) w.deref.ensures.value ∙ alike)) in cc))
      | in_default w ↦ λ number here same. w.in_default.not-Marked number
          (get_or_from_slice_get replies (length replies - 1 - c.loop-before.before) (Marked number) _ here)
    ])

pub returns : goal.returns
returns g c = λ files shape steps kept.
    inl (
      refl,
      none_at_last files shape steps c.args.replies.now (map (λ v. v.items) c.args.found.now)
          (length c.args.replies.now) c.loop-before.before c.loop-before-test.false
          (c.loop-before.invariant files shape steps kept),
    )

pub returns-then-are_same : goal.returns-then-are_same
returns-then-are_same g c = λ files shape steps kept.
    let replies = c.args.replies.now in
    let bytes = map (λ v. v.items) c.args.found.now in
    let at = length replies - 1 - c.loop-before.before in
    let below : c.loop-before.before < length replies = c.loop-before-test.true in
    let within : at < length replies = omega (arith, below) in
    let next : length replies - c.loop-before.before ≡ at + 1 = omega (arith, below) in
    let yes : IsTrue c.are_same.result = search rules in
    newest_is files shape steps replies bytes at c.in-Marked.number c.in_ok-kept.kept.now
    (c.in_ok-kept.ensures files shape steps kept)
    (slice_get-get_or replies at _ within ∙ ap Some c.in-Marked.is)
    (sym (ap (map (λ v. v.items)) c.deref.ensures.value) ∙ c.are_same.ensures.0 yes)
    (subst (λ i. NoneFrom files shape steps replies bytes i) next (c.loop-before.invariant files shape steps kept))
