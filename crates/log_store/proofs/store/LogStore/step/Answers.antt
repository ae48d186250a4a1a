use Rattle.std.proofs.Common.{sym, ap, ◌∙◌}
use Rattle.log_store.specs.Store.{StoreValue}
use Rattle.log_store.proofs.Steps.{made_at, stays_at, stays_begun}
use Rattle.log_store.proofs.store.LogStore.step.Goals as goal

pub returns-in-Resting-clause-over : goal.returns-in-Resting-clause-over
returns-in-Resting-clause-over g c =
    let at = sym (ap (λ (v : StoreValue). v.stage) c.self.view_is) ∙ c.in-Resting.is in
    stays_at g.D.Device at (stays_begun g.D.Device c.begin.result c.args.self.now c.begin.new.self c.args.device.now
    c.begin.ensures.value (g.met.D.Device.since_now c.args.device.now)
    (g.met.D.Device.seen_is_left c.args.device.now))

pub returns-then-is_done : goal.returns-then-is_done
returns-then-is_done g c =
    let at = sym (ap (λ (v : StoreValue). v.stage) c.self.view_is) ∙ c.in-Copying.is in record {
      step = made_at g.D.Device at c.write_start.ensures.step;
      over = stays_at g.D.Device at c.write_start.ensures.over;
    }

pub returns-else-is_done : goal.returns-else-is_done
returns-else-is_done g c =
    let at = sym (ap (λ (v : StoreValue). v.stage) c.self.view_is) ∙ c.in-Copying.is in
    record { step = made_at g.D.Device at c.copy.ensures.step; over = stays_at g.D.Device at c.copy.ensures.over }

pub returns-in-Written : goal.returns-in-Written
returns-in-Written g c =
    let at = sym (ap (λ (v : StoreValue). v.stage) c.self.view_is) ∙ c.in-Written.is in record {
      step = made_at g.D.Device at c.make_sure.ensures.step;
      over = stays_at g.D.Device at c.make_sure.ensures.over;
    }

pub returns-in-Sure : goal.returns-in-Sure
returns-in-Sure g c =
    let at = sym (ap (λ (v : StoreValue). v.stage) c.self.view_is) ∙ c.in-Sure.is in
    record { step = made_at g.D.Device at c.select.ensures.step; over = stays_at g.D.Device at c.select.ensures.over }
