use Rattle.std.proofs.Common.{sym, subst}
use Rattle.spaces.proofs.Cleared.{ClearsEach, clears_none, clears_more, clears_room, clears_all}
use Rattle.spaces.proofs.space.clear_each.Goals as goal

pub loop-page-init : goal.loop-page-init
loop-page-init g c = (
  tt,
  tt,
  subst (ClearsEach c.args.table.now c.args.pages c.args.table.now)
      (sym c.into_iter-page-iterator.ensures.into_iter_gives)
      (clears_none c.args.table.now c.args.pages c.requires),
)

pub set-requires : goal.set-requires
set-requires g c =
    clears_room c.args.table.now c.loop-page.table c.args.pages c.next.new.self c.in-Some.page
    (subst (ClearsEach c.args.table.now c.args.pages c.loop-page.table) c.in-Some.ensures.steps c.loop-page.invariant.2)

pub loop-page-preserved : goal.loop-page-preserved
loop-page-preserved g c =
    let clears = subst (ClearsEach c.args.table.now c.args.pages c.loop-page.table) c.in-Some.ensures.steps
    c.loop-page.invariant.2 in (
      tt,
      tt,
      clears_more c.args.table.now c.loop-page.table c.set.new.self c.args.pages c.next.new.self c.in-Some.page
          c.absent.result clears c.absent.ensures c.set.ensures,
    )

pub returns : goal.returns
returns g c =
    clears_all c.args.table.now c.loop-page.table c.args.pages
    (subst (ClearsEach c.args.table.now c.args.pages c.loop-page.table) c.in-None.ensures.steps.0
    c.loop-page.invariant.2)
