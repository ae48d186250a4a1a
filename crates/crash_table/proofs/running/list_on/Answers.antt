use Rattle.std.proofs.Common.{inl, inr}
use Rattle.crash_table.specs.Calls.{listing_memory}
use Rattle.machine_log.specs.Opening.{HasShown}
use Rattle.crash_table.proofs.running.list_on.Goals as goal

pub returns-in-Ok-clause-calls : goal.returns-in-Ok-clause-calls
returns-in-Ok-clause-calls g c =
    let shown : HasShown listing_memory c.args.disk c.in-Ok.shown = record {
      opened = c.in-Ok.ensures.opened;
      fresh = c.in-Ok.ensures.fresh;
      table = c.in-Ok.ensures.shown;
    } in
    c.list_shown.ensures.calls c.args.disk shown

pub returns-in-Ok-clause-refused : goal.returns-in-Ok-clause-refused
returns-in-Ok-clause-refused g c =
    let shown : HasShown listing_memory c.args.disk c.in-Ok.shown = record {
      opened = c.in-Ok.ensures.opened;
      fresh = c.in-Ok.ensures.fresh;
      table = c.in-Ok.ensures.shown;
    } in
    c.list_shown.ensures.refused c.args.disk shown

pub returns-in-Err-clause-refused : goal.returns-in-Err-clause-refused
returns-in-Err-clause-refused g c =
    inr (inl (c.in-Err.refused.0, c.why_refused.ensures, c.in-Err.ensures.refused tt))
