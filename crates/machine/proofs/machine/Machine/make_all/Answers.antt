use Rattle.machine.proofs.Names.{◌≡◌, ◌<◌, ◌+◌, ◌++◌, ◌∷◌, [], List, length, take, set, refl, subst, arith}
use Rattle.machine.proofs.Names.{common_steps, take_all, Reply, Step, StepsTaken}
use Rattle.machine.proofs.machine.Machine.make_all.Goals as goal
use Rattle.machine.proofs.code.Runs.{honest_taken, len_taken}

pub loop-i-init : goal.loop-i-init
loop-i-init g c = record { taken = refl; within = omega arith }

pub loop-i-preserved : goal.loop-i-preserved
loop-i-preserved g c =
    let i = c.loop-i.i in
    let within : i < length c.args.steps.now = c.loop-i-test.true in
    let steps : take (i + 1) c.args.steps.now ≡ take i c.args.steps.now ++ c.index-steps-i.result ∷ [] =
    grind (arith, common_steps) in
    let room : i < length c.loop-i.replies = omega arith in
    let reply = c.enter.result in
    let replies : take (i + 1) (set c.loop-i.replies i reply) ≡ take i c.loop-i.replies ++ reply ∷ [] =
    grind (arith, common_steps) in
    record {
      taken = rw (steps, replies) (c.enter.ensures.longer c.args.self.now _ _ c.loop-i.invariant.taken);
      within = omega arith;
    }

module _ (g : _) (c : goal.After-loop-i g) where
  -- all steps were made
  all : StepsTaken g.D.Device c.args.self.now c.args.steps.now c.loop-i.replies c.loop-i.self
  all =
      let steps : take c.loop-i.i c.args.steps.now ≡ c.args.steps.now =
      take_all c.loop-i.i c.args.steps.now (omega arith) in
      let replies : take c.loop-i.i c.loop-i.replies ≡ c.loop-i.replies =
      take_all c.loop-i.i c.loop-i.replies (omega arith) in
      subst (λ (answers : List Reply). StepsTaken g.D.Device c.args.self.now c.args.steps.now answers c.loop-i.self)
      replies
      (subst (λ (made : List Step). StepsTaken g.D.Device c.args.self.now made
      (take c.loop-i.i c.loop-i.replies) c.loop-i.self) steps c.loop-i.invariant.taken)

pub returns-clause-steps : goal.returns-clause-steps
returns-clause-steps g c = all g c

pub returns-clause-honest : goal.returns-clause-honest
returns-clause-honest g c =
    honest_taken g.D.Device c.args.self.now c.args.steps.now c.loop-i.replies c.loop-i.self (all g c)

pub returns-clause-len : goal.returns-clause-len
returns-clause-len g c = len_taken g.D.Device c.args.self.now c.args.steps.now c.loop-i.replies c.loop-i.self (all g c)
