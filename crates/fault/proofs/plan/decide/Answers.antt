use Rattle.std.proofs.Common.{◌≡◌, ◌*◌, ◌&&◌, not, leb, false, Some, sym, ap, subst, ◌∙◌, arith}
use Rattle.std.proofs.lemmas.Bool.{lt-leb}
use Rattle.mappings.specs.Places.{may_write}
use Rattle.checkpoint.specs.Backing.{page_at}
use Rattle.checkpoint.proofs.Public.{list_any-no_page}
use Rattle.fault.specs.Fault.{is_in_memory, copies_out}
use Rattle.fault.specs.inside.Frame.{IsPlanned}
use Rattle.fault.proofs.FixLaws.{copies_out-absent, planned-found, planned-absent}
use Rattle.fault.proofs.plan.decide.Goals as goal
use Rattle.fault.proofs.plan.decide.Goals.{After-page_at-page}

-- the access is allowed, and the page is in the file
may_go_on : (g : _) (c : After-page_at-page g)
    → ((c.args.fault.write && not (may_write c.args.fault.place.rights)) ≡ false)
    × (leb c.args.fault.length (4096 * c.args.fault.place.page) ≡ false)
may_go_on g c = (
  sym c.lacks_right.ensures ∙ c.if-lacks_right.false,
  lt-leb c.args.fault.length (4096 * c.args.fault.place.page)
      (omega (arith, c.if-fault-from.false, c.from.ensures)),
)

pub returns-in-Some : goal.returns-in-Some
returns-in-Some g c =
    let memory = c.args.frames.now in
    let fault = c.args.fault in
    let may = may_go_on g (goal.at.returns-in-Some g c).After-page_at-page in
    subst (IsPlanned memory c.args.checkpoint.now fault) (sym c.plan_for.ensures)
    (planned-found memory c.args.checkpoint.now fault may.0 may.1 c.in-Some.frame c.copies_out-copies.result
    (c.copies_out-copies.ensures
    ∙ ap (λ page. copies_out memory c.args.checkpoint.now page fault.write) c.page_at-page.ensures)
    (c.in-Some.ensures.found ∙ ap (λ page. Some page) c.page_at-page.ensures))

pub returns-in-None : goal.returns-in-None
returns-in-None g c =
    let memory = c.args.frames.now in
    let fault = c.args.fault in
    let may = may_go_on g (goal.at.returns-in-None g c).After-page_at-page in
    let absent : is_in_memory memory (page_at fault.place) ≡ false =
    list_any-no_page memory.frames (page_at fault.place)
    (λ frame holds. c.in-None.ensures.none frame (holds ∙ ap (λ page. Some page) (sym c.page_at-page.ensures))) in
    planned-absent memory c.args.checkpoint.now fault may.0 may.1 c.plan_to_read.result absent
    (copies_out-absent memory c.args.checkpoint.now fault may.0 may.1 c.requires absent) c.plan_to_read.ensures
