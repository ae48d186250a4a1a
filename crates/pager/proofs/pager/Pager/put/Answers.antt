use Rattle.std.proofs.Common.{◌≡◌, None, ap, sym, ◌∙◌, subst}
use Rattle.page_entry.specs.declared.refusal.Refusal.TheVariants.{OutOfMemory}
use Rattle.journal.specs.Pages.{home_of}
use Rattle.pager.specs.State.{PagerState, is_full}
use Rattle.pager.specs.Calls.{page_refusal, put_refusal, RefusesPut}
use Rattle.pager.proofs.Setting.{ok_as, if_err, nothing_against}
use Rattle.pager.proofs.pager.Pager.put.Goals.{After-stage}
use Rattle.pager.proofs.pager.Pager.put.Goals as goal

-- nothing is against it
free : (g : _) (c : After-stage g) → put_refusal c.args.self.now c.args.page ≡ None
free g c =
    let s : PagerState g.row.D.Denot = c.args.self.now in
    nothing_against (page_refusal s.lengths c.args.page) s.write_outs.broken
    (is_full s.table s.most s.staged (home_of s.table c.args.page)) c.in_ok-home.ensures.ok
    (sym (c.if-is_broken.ensures ∙ ap (λ (p : PagerState g.row.D.Denot). p.write_outs.broken) c.self.view_is))
    (sym (ap (is_full s.table s.most s.staged) c.in_ok-home.ensures.home) ∙ sym c.is_full.ensures ∙ c.if-is_full.false)

pub returns-clause-ok : goal.returns-clause-ok
returns-clause-ok g c = ok_as c.stage.result _ (free g c)

pub returns-clause-refused : goal.returns-clause-refused
returns-clause-refused g c = if_err c.stage.result (λ why. why ≡ OutOfMemory) (RefusesPut c.args.self.now c.args.page)
    (λ why is. subst (RefusesPut c.args.self.now c.args.page) (sym is) (free g c)) c.stage.ensures.memory
