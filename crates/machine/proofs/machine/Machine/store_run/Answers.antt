use Rattle.machine.proofs.Names.{take, subst, Whole, StepsTaken, state_in}
use Rattle.machine.specs.AtOnce.{store_steps, store_replies}
use Rattle.machine.proofs.machine.Machine.store_run.Goals as goal
use Rattle.machine.proofs.sound.Uses.{reachable}
use Rattle.machine.proofs.acts.AtOnce.{StoresTo, stores_at_once}

pub store_run-requires : goal.store_run-requires
store_run-requires g c =
    (c.self.inside.layers.spaces.map, reachable (state_in c.self.inside.layers) c.self.invariant.sound)

module _ (g : _) (c : goal.After-store_run g) where
  ran : StoresTo g.D.Device g.met.D.Device.since_now c.self.inside.layers c.args.p c.args.va
      (take c.store_run.result c.args.bytes.now) c.store_run.new.frames
  ran = stores_at_once g.D.Device g.met.D.Device.since_now c.self.inside.layers c.args.p c.args.va c.args.bytes.now
      c.store_run.result c.store_run.new.frames c.self.invariant c.store_run.ensures.count c.store_run.ensures.stored

pub invariant_of-self : goal.invariant_of-self
invariant_of-self g c = (ran g c).1

pub returns-clause-stored : goal.returns-clause-stored
returns-clause-stored g c =
    let bytes = take c.store_run.result c.args.bytes.now in
    subst (λ (w : Whole g.row.D.Denot). StepsTaken g.D.Device w (store_steps c.args.p c.args.va bytes)
    (store_replies bytes) (Rattle.machine.specs.inside.Layers.whole_in
    (record c.self.inside.layers { frames = c.store_run.new.frames }))) c.self.view_is (ran g c).0
