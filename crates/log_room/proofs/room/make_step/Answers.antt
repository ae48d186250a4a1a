use Rattle.std.proofs.Common.{inl}
use Rattle.device.proofs.Public.{leaves_weaker}
use Rattle.log_commits.specs.Told.{IsNone}
use Rattle.log_commits.proofs.Public.{tells_by_byte}
use Rattle.log_room.proofs.Made.{step_end, step_first, step_keeps, step_later, step_log, step_stays}
use Rattle.log_room.proofs.room.make_step.Goals as goal

pub returns-clause-steps : goal.returns-clause-steps
returns-clause-steps g c =
    let disk = g.D.Device in
    let old = c.args.pager.now in
    let new = c.step.new.self in
    let result = c.step.result in
    let made = c.step.ensures in
    record {
      leads = record {
        log = step_log disk old new result made.value made.unchanged made.spent;
        len = made.len;
        honest = made.honest;
        later = step_later disk old new result made.may made.refused made.unchanged made.did made.failed;
        held = λ contents is. leaves_weaker (made.leaves contents is.honest is.over) (λ x left. left.up_to);
        leaves = λ contents is byte. leaves_weaker (made.leaves contents is.honest is.over) (λ x left.
            inl (left.recovers (tells_by_byte IsNone old.store.tail.log old.store.tail.number x byte)));
        first = λ text has. step_first disk old new g.met.D.Device.since_now text has result made.may made.refused
            made.unchanged made.did made.failed;
      };
      staged = made.staged;
      end = step_end disk old new g.met.D.Device.since_now result made.value made.spent made.may made.refused
          made.unchanged made.did made.failed;
      keeps = step_keeps disk old new result made.over;
      stays = step_stays disk old new result made.unchanged;
    }
