use Rattle.std.proofs.Common.{◌≡◌, ◌<◌, ◌-◌, true, false, refl, sym, ◌∙◌, ap, subst, length, arith}
use Rattle.deferred_disk.specs.Carrying.{CarriedOut}
use Rattle.deferred_disk.specs.Deferred.{Deferred, as_memory, with_waiting}
use Rattle.device.specs.Memory.{seen_of}
use Rattle.deferred_disk.proofs.Carrying.{carried_none, carried_step, carried_stop}
use Rattle.deferred_disk.proofs.deferred.DeferredDisk.carry_out.Goals as goal

pub loop-left-init : goal.loop-left-init
loop-left-init g c = record {
  count = c.left_to_carry-left.ensures.count;
  taken = refl;
  carried = carried_none g.D.Device c.args.device.now c.args.self.now c.left_to_carry-left.ensures.few
      c.left_to_carry-left.ensures.within (g.met.D.Device.since_now c.args.device.now);
}

pub carry_one-requires-clause-some : goal.carry_one-requires-clause-some
carry_one-requires-clause-some g c = omega (arith, c.loop-left.invariant.count, c.loop-left-test.true)

pub carry_one-requires-clause-size : goal.carry_one-requires-clause-size
carry_one-requires-clause-size g c =
    c.loop-left.invariant.carried.same_length ∙ c.requires
    ∙ ap (λ (d : Deferred). length (seen_of (as_memory d))) (sym c.loop-left.invariant.taken)

pub loop-left-preserved : goal.loop-left-preserved
loop-left-preserved g c =
    let so_far = c.loop-left.invariant in
    let disk = c.args.self.now in
    let now = c.loop-left.self in
    let one = c.in-Ok.ensures in
    let some : 0 < now.waiting = omega (arith, so_far.count, c.loop-left-test.true) in
    let waits : c.carry_one.new.self.waiting ≡ now.waiting - 1 = ap (λ (d : Deferred). d.waiting) one.ok in
    record {
      count = omega (arith, so_far.count, waits, some);
      taken = one.ok ∙ ap (λ (d : Deferred). with_waiting d (now.waiting - 1)) so_far.taken
          ∙ ap (with_waiting disk) (sym waits);
      carried = subst (CarriedOut g.D.Device c.args.device.now disk true c.carry_one.new.device) (sym waits)
          (carried_step g.D.Device c.args.device.now disk c.left_to_carry-left.ensures.few
          c.left_to_carry-left.ensures.within c.loop-left.device now c.carry_one.new.device so_far.taken some
          so_far.carried one.did);
    }

pub returns-in-Err : goal.returns-in-Err
returns-in-Err g c =
    let so_far = c.loop-left.invariant in
    let disk = c.args.self.now in
    let now = c.loop-left.self in
    let one = c.in-Err.ensures in
    let some : 0 < now.waiting = omega (arith, so_far.count, c.loop-left-test.true) in
    let waits : c.carry_one.new.self.waiting ≡ now.waiting = ap (λ (d : Deferred). d.waiting) one.err in
    record {
      taken = one.err ∙ so_far.taken ∙ ap (with_waiting disk) (sym waits);
      ok = tt;
      err = omega (arith, waits, some);
      carried = subst (CarriedOut g.D.Device c.args.device.now disk false c.carry_one.new.device) (sym waits)
          (carried_stop g.D.Device c.args.device.now disk c.left_to_carry-left.ensures.few
          c.left_to_carry-left.ensures.within c.loop-left.device now c.carry_one.new.device so_far.taken some
          so_far.carried one.did);
    }

pub returns : goal.returns
returns g c =
    let so_far = c.loop-left.invariant in
    record {
      taken = so_far.taken;
      ok = omega (arith, so_far.count, c.loop-left-test.false);
      err = tt;
      carried = so_far.carried;
    }
