use Rattle.machine.proofs.Names.{ℕ, ◌≡◌, List, sym, subst, Reply, Whole, Rules, WantsMemory, StepMade, state_in}
use Rattle.machine.proofs.Names.{whole_in, ActDone, DeviceAfter}
use Rattle.page_entry.specs.declared.refusal.Refusal.TheVariants as refusals
use Rattle.machine.specs.declared.act.Reply.TheVariants as replies
use Rattle.machine.proofs.machine.Machine.step.Goals as goal
use Rattle.machine.proofs.code.Stepping.{layers_kept, step_made, not_full, wants_memory}

pub invariant_of-self : goal.invariant_of-self
invariant_of-self g c =
    layers_kept g.D.Device c.self.inside.layers c.act.new.self c.args.step.now _ c.act.ensures c.self.invariant

module _ (g : _) (c : goal.After-reply_to g) where
  -- the layers did what was replied
  done : ActDone g.D.Device c.self.inside.layers c.args.step.now c.reply_to.result c.act.new.self
  done = subst (λ (r : Reply). ActDone g.D.Device c.self.inside.layers c.args.step.now r c.act.new.self)
      (sym c.reply_to.ensures) c.act.ensures

pub returns-clause-rules : goal.returns-clause-rules
returns-clause-rules g c =
    subst (λ (w : Whole g.row.D.Denot). (disk : List ℕ) × (disk' : List ℕ) × Rules w.state disk c.args.step.now
    c.reply_to.result (state_in c.act.new.self) disk') c.self.view_is (done g c).rules.some_disk

pub returns-clause-made : goal.returns-clause-made
returns-clause-made g c =
    subst (λ (w : Whole g.row.D.Denot). g.D.Device.is_honest w.device
    → StepMade g.D.Device w c.args.step.now c.reply_to.result (whole_in c.act.new.self)) c.self.view_is
    (step_made g.D.Device c.self.inside.layers c.act.new.self c.args.step.now c.reply_to.result (done g c))

pub returns-clause-device : goal.returns-clause-device
returns-clause-device g c =
    subst (λ (w : Whole g.row.D.Denot). DeviceAfter g.D.Device w.state c.args.step.now.p c.args.step.now.act
    c.reply_to.result w.device c.act.new.self.device) c.self.view_is (done g c).device

pub returns-clause-not_full : goal.returns-clause-not_full
returns-clause-not_full g c =
    not_full g.D.Device c.self.inside.layers c.act.new.self c.args.step.now c.reply_to.result (done g c)

pub returns-clause-memory : goal.returns-clause-memory
returns-clause-memory g c =
    subst (λ (w : Whole g.row.D.Denot). c.reply_to.result ≡ replies.Refused refusals.OutOfMemory
    → WantsMemory w.state c.args.step.now.p c.args.step.now.act) c.self.view_is
    (wants_memory g.D.Device c.self.inside.layers c.act.new.self c.args.step.now c.reply_to.result (done g c))
