use Rattle.std.proofs.Common.{ℕ, Option, subst, sym}
use Rattle.log_codec.specs.Chain.{LogEndsAt}
use Rattle.log_recovery.specs.declared.found.FoundCommit.{FoundCommit}
use Rattle.log_recovery.specs.Reading.{logged_of}
use Rattle.log_recovery.specs.inside.Commit.{FindsNext, RefusesNext}
use Rattle.log_recovery.proofs.LogEnds.{not_end, damaged_there}
use Rattle.log_recovery.proofs.ending.ends_at.Goals as goal

pub returns-in-Ok-Some-clause-ends : goal.returns-in-Ok-Some-clause-ends
returns-in-Ok-Some-clause-ends g c = λ honest.
    let log = c.args.log.now in
    let bytes = g.D.Device.seen c.args.device.now in
    let P : Option (FoundCommit g.row.A.Denot) → Type 0 =
    λ next. FindsNext log c.args.epoch c.args.position c.args.number c.ring-ring.result bytes next in
    let E : ℕ → Type 0 =
    λ n. LogEndsAt log.sealing log c.args.epoch c.args.position c.args.number n bytes in
    let found = subst P c.in-Ok-Some.field-0-is (c.in-Ok-Some.ensures.found honest) in (
      λ never. cc,
      λ ends. absurd (not_end log c.args.epoch c.args.position c.args.number c.ring-ring.result
          (logged_of c.in-Ok-Some.field-0-0) bytes c.ring-ring.ensures.log c.requires.long found
          (subst E (sym c.ring-ring.ensures.value) ends)),
    )

pub returns-clause-refused : goal.returns-clause-refused
returns-clause-refused g c = λ honest is.
    let log = c.args.log.now in
    let Q : ℕ → Type 0 = λ n. RefusesNext log c.args.epoch c.args.position c.args.number n
    (g.D.Device.seen c.args.device.now) c.in-Err.refusal in
    damaged_there log c.args.epoch c.args.position c.args.number log.ring (g.D.Device.seen c.args.device.now)
    c.in-Err.refusal (subst Q c.ring-ring.ensures.value (c.in-Err.ensures.refused honest)) is
