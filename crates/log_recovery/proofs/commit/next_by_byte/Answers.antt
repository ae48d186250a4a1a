use Rattle.std.proofs.Common.{◌∙◌, ℕ, List, get_or, ap, sym}
use Rattle.std.proofs.lemmas.Result.{err_from_is_err_and}
use Rattle.log_recovery.specs.Reading.{logged_of}
use Rattle.log_recovery.proofs.Commits.{refuses_open, refuses_seal, found_there, byte_seal, records_there}
use Rattle.log_recovery.proofs.commit.next_by_byte.Goals as goal

pub returns-in_err-commit-in-Open-clause-refused : goal.returns-in_err-commit-in-Open-clause-refused
returns-in_err-commit-in-Open-clause-refused g c = λ epoch honest.
    let p = err_from_is_err_and c.from_residual.result c.from_residual.ensures.1 in
    rw (p.1, p.2) (refuses_open c.args.log.now epoch c.args.position c.args.number c.args.left c.args.first.now
    (g.D.Device.seen c.args.device.now) c.in_err-commit-in-Open.field-0.0 c.requires.sealing
    (c.requires.first honest) (sym c.seal_at.ensures ∙ c.in-Open.ensures)
    (c.in_err-commit-in-Open.ensures.refused honest))

pub returns-in-Damaged-clause-refused : goal.returns-in-Damaged-clause-refused
returns-in-Damaged-clause-refused g c = λ epoch honest.
    let same = c.seal_at.ensures in
    refuses_seal c.args.log.now epoch c.args.position c.args.number c.args.left c.args.first.now
    (g.D.Device.seen c.args.device.now) c.requires.log c.requires.long c.requires.sealing (c.requires.first honest)
    (ap (λ (l : List ℕ). get_or l 0 0) (sym same) ∙ c.in-Damaged.ensures.0)
    (λ e. c.in-Damaged.ensures.1 (same ∙ e))

pub returns-in_ok-commit-in-Open-clause-found : goal.returns-in_ok-commit-in-Open-clause-found
returns-in_ok-commit-in-Open-clause-found g c = λ epoch honest.
    let bytes = g.D.Device.seen c.args.device.now in
    let commit = c.in_ok-commit-in-Open.commit in
    let e = c.in_ok-commit-in-Open.ensures in
    found_there c.args.log.now epoch c.args.position c.args.number c.args.left (logged_of commit) c.args.first.now bytes
    c.requires.log c.requires.long (c.requires.first honest) (e.described honest)
    (sym c.seal_at.ensures ∙ c.in-Open.ensures ∙ sym (byte_seal c.args.log.now.sealing epoch (logged_of commit)
    (records_there c.args.log.now c.args.position (logged_of commit) bytes) c.requires.sealing))
    e.placed.number e.placed.room
