use Rattle.std.proofs.Common.{rules, subst}
use Rattle.std.specs.Prelude.{IsTrue}
use Rattle.crash_table.specs.inside.Kept.{IsKept}
use Rattle.crash_table.proofs.Newest.{kept_alike}
use Rattle.crash_table.proofs.found.kept_of.Goals as goal

pub returns-in-Some : goal.returns-in-Some
returns-in-Some g c = λ files shape steps kept.
    let yes : IsTrue c.are_same_replies.result = search rules in
    let this = c.in-Some.ensures in
    kept_alike files shape steps c.args.first.now c.args.replies.now c.args.at c.in-Some.kept.now
    (c.are_same_replies.ensures.0 yes)
    (subst (λ i. IsKept files shape steps c.args.first.now i c.in-Some.kept.now) this.1
    (kept c.in-Some.kept.now this.0))
