use Rattle.std.proofs.Common.{◌≡◌, [], length, sym, ◌∙◌, ap, arith}
use Rattle.page_table.proofs.Dirties.{list_none, list_first}
use Rattle.page_table.proofs.dirty_pages.DirtyPagesIterator.next.Goals as goal

pub returns-in_err-page-clause-steps : goal.returns-in_err-page-clause-steps
returns-in_err-page-clause-steps c =
    let range = c.self.inside.range in
    let none : c.args.self.now ≡ [] =
    sym c.self.view_is
    ∙ list_none c.self.inside.words.now c.self.invariant.table range.start range.end c.in_err-page.ensures.first in
    rw c.from_residual.ensures (none, none)

-- the page that was found comes before those that are left
pub returns-clause-steps : goal.returns-clause-steps
returns-clause-steps c =
    let range = c.self.inside.range in
    sym c.self.view_is
    ∙ list_first c.self.inside.words.now c.self.invariant.table range.start range.end c.in_ok-page.page
    c.in_ok-page.ensures.small c.in_ok-page.ensures.first

-- and they are one fewer
pub returns-clause-goes : goal.returns-clause-goes
returns-clause-goes c =
    let range = c.self.inside.range in
    let fewer = ap length (sym c.self.view_is ∙ list_first c.self.inside.words.now c.self.invariant.table range.start
    range.end c.in_ok-page.page c.in_ok-page.ensures.small c.in_ok-page.ensures.first) in
    record { on = λ f. (tt, tt, omega (arith, fewer)); keeps = tt; rests = λ f. tt }
