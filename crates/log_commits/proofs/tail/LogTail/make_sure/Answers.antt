use Rattle.std.specs.Prelude.{is_ok}
use Rattle.log_commits.proofs.Moving.{leaves_as_before, leaves_sync}
use Rattle.log_commits.proofs.tail.LogTail.make_sure.Goals as goal

pub returns-then-self-clause-leaves : goal.returns-then-self-clause-leaves
returns-then-self-clause-leaves g c = λ second contents chain held.
    leaves_as_before g.D.Device c.args.self.now contents second chain c.args.device.now held
    (g.met.D.Device.since_now c.args.device.now)

pub returns-then-is_err-clause-leaves : goal.returns-then-is_err-clause-leaves
returns-then-is_err-clause-leaves g c = λ second contents chain held.
    leaves_sync g.D.Device c.args.self.now contents second chain c.args.device.now held
    (is_ok c.make_durable.result) c.make_durable.ensures

pub returns-clause-leaves : goal.returns-clause-leaves
returns-clause-leaves g c = λ second contents chain held.
    leaves_sync g.D.Device c.args.self.now contents second chain c.args.device.now held
    (is_ok c.make_durable.result) c.make_durable.ensures
