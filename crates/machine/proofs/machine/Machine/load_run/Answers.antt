use Rattle.machine.proofs.Names.{◌≡◌, false, length, subst, Whole, StepsTaken, state_in}
use Rattle.cpu.specs.AtOnce.{frame_cached, count_at_once}
use Rattle.machine.specs.AtOnce.{load_steps, load_replies}
use Rattle.machine.proofs.machine.Machine.load_run.Goals as goal
use Rattle.machine.proofs.sound.Uses.{reachable}
use Rattle.machine.proofs.acts.AtOnce.{loads_at_once}

pub load_run-requires : goal.load_run-requires
load_run-requires g c =
    (c.self.inside.layers.spaces.map, reachable (state_in c.self.inside.layers) c.self.invariant.sound)

pub returns-clause-loaded : goal.returns-clause-loaded
returns-clause-loaded g c =
    let bytes = c.load_run.result.now in
    subst (λ (w : Whole g.row.D.Denot).
    StepsTaken g.D.Device w (load_steps c.args.p c.args.va bytes) (load_replies bytes) w) c.self.view_is
    (loads_at_once g.D.Device g.met.D.Device.since_now c.self.inside.layers c.args.p c.args.va c.args.count bytes
    c.self.invariant c.load_run.ensures.loaded)

pub returns-clause-count : goal.returns-clause-count
returns-clause-count g c =
    subst (λ (w : Whole g.row.D.Denot). length c.load_run.result.now
    ≡ count_at_once (frame_cached w.state.hardware.shootdown c.args.p c.args.va false) c.args.va c.args.count)
    c.self.view_is c.load_run.ensures.count
