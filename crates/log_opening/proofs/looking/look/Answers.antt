use Rattle.std.proofs.Common.{ℕ, List, length, ap, subst, ◌∙◌}
use Rattle.log_recovery.specs.Reading.{HoldsFound}
use Rattle.log_opening.specs.inside.Keeping.{RefusesEpoch}
use Rattle.log_opening.proofs.Keeping.{sync_same}
use Rattle.log_opening.proofs.Looked.{nothing_synced, nothing_then, refuses_start, looked_at}
use Rattle.log_opening.proofs.looking.look.Goals as goal

pub returns-in-Ok-free_epoch-clause-unwritten : goal.returns-in-Ok-free_epoch-clause-unwritten
returns-in-Ok-free_epoch-clause-unwritten g c =
    nothing_then g.D.Device c.args.device.now c.read_log.new.device c.free_epoch.new.device
    (nothing_then g.D.Device c.args.device.now c.make_durable.new.device c.read_log.new.device
    (nothing_synced g.D.Device c.args.device.now c.make_durable.new.device _ c.make_durable.ensures)
    c.read_log.ensures.read) c.free_epoch.ensures.read

pub returns-in-Ok-free_epoch-clause-counted : goal.returns-in-Ok-free_epoch-clause-counted
returns-in-Ok-free_epoch-clause-counted g c =
    let did = c.in-Ok.ensures in
    let read = c.read_log.ensures.read in
    let more = c.free_epoch.ensures.read in
    record {
      honest = (
        λ h. did.honest.0 (read.honest.0 (more.honest.0 h)),
        λ h. more.honest.1 (read.honest.1 (did.honest.1 h)),
      );
      same_length = ap length more.same ∙ ap length read.same ∙ did.same_length;
      carried = more.carried ∙ read.carried ∙ did.carried;
      faults = c.in-Ok-free_epoch.ensures.faults ∙ c.in-Ok-read_log.ensures.faults ∙ did.faults;
    }

pub returns-in-Err-free_epoch-clause-refused : goal.returns-in-Err-free_epoch-clause-refused
returns-in-Err-free_epoch-clause-refused g c = λ honest.
    let log = c.args.log.now in
    let found = c.in-Ok-read_log.found in
    let synced = c.make_durable.ensures.honest.1 honest in
    let read = c.read_log.ensures.read in
    let same = sync_same g.D.Device c.args.device.now c.make_durable.new.device _ c.make_durable.ensures honest in
    let P : List ℕ → Type 0 = λ l. HoldsFound log found l in
    let Q : List ℕ → Type 0 = λ l. RefusesEpoch log found.start.epoch found.end_position found.end_number l
    c.in-Err-free_epoch.refusal in
    refuses_start log found (g.D.Device.seen c.args.device.now) c.in-Err-free_epoch.refusal
    (subst P same (c.in-Ok-read_log.ensures.holds synced)) c.in-Ok-read_log.ensures.found
    (subst Q (read.same ∙ same) (c.in-Err-free_epoch.ensures.refused (read.honest.1 synced)))

pub returns-in-Ok-free_epoch-clause-looked : goal.returns-in-Ok-free_epoch-clause-looked
returns-in-Ok-free_epoch-clause-looked g c = λ honest.
    let did = c.in-Ok.ensures in
    let synced = did.honest.1 honest in
    let read = c.read_log.ensures.read in
    let there = read.honest.1 synced in
    looked_at g.D.Device c.args.log.now c.in-Ok-read_log.found c.in-Ok-free_epoch.later c.args.device.now
    c.make_durable.new.device c.read_log.new.device c.free_epoch.new.device honest did read c.free_epoch.ensures.read
    c.in-Ok-read_log.ensures.found (c.in-Ok-read_log.ensures.holds synced) c.in-Ok-free_epoch.ensures.later
    (c.in-Ok-free_epoch.ensures.ends there) (c.in-Ok-free_epoch.ensures.first there)
