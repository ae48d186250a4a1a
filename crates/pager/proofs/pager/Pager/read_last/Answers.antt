use Rattle.std.proofs.Common.{◌≡◌, ◌%◌, true, Err, ap, sym, ◌∙◌, subst, eqb}
use Rattle.std.specs.Prelude.{IfErr, is_none, not, ◌&&◌}
use Rattle.std.proofs.lemmas.Bool.{and_from, ne_eqb}
use Rattle.std.proofs.lemmas.Result.{err_from_is_err_and}
use Rattle.page_entry.specs.declared.refusal.Refusal.TheVariants.{Device}
use Rattle.journal.specs.Pages.{home_of}
use Rattle.pager.specs.State.{PagerState, kept_bytes}
use Rattle.pager.specs.Calls.{end_page}
use Rattle.pager.proofs.pager.Pager.read_last.Goals as goal

pub returns-in_err-read_home-clause-fault : goal.returns-in_err-read_home-clause-fault
returns-in_err-read_home-clause-fault g c =
    let s : PagerState g.row.D.Denot = c.args.self.now in
    let p = err_from_is_err_and c.from_residual.result c.from_residual.ensures.1 in
    let home : c.last_block-home.result ≡ home_of s.table (end_page c.args.file c.args.from) =
    c.last_block-home.ensures.home
    ∙ ap (λ (q : PagerState g.row.D.Denot). home_of q.table (end_page c.args.file c.args.from)) c.self.view_is in
    let kept = ap is_none (sym (ap (kept_bytes s.staged s.records) home) ∙ c.if-not-copy_kept.ensures) in
    let inside = ap not (ne_eqb (c.args.from % 4096) 0 c.if-from-ne0.true) in
    subst (λ r. IfErr r (λ why. (why ≡ Device) × ((not (eqb (c.args.from % 4096) 0)
    && is_none (kept_bytes s.staged s.records (home_of s.table (end_page c.args.file c.args.from)))) ≡ true)))
    (sym (p.1 ∙ ap Err p.2))
    (c.in_err-read_home.ensures.fault, and_from (not (eqb (c.args.from % 4096) 0)) _ inside kept)
