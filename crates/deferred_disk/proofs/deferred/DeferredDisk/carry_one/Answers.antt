use Rattle.std.proofs.Common.{sym, ◌∙◌, ap, length, subst, true, false}
use Rattle.deferred_disk.specs.Deferred.{Deferred, as_memory, oldest_call, done_by}
use Rattle.device.specs.Did.{Did}
use Rattle.device.specs.Memory.{seen_of}
use Rattle.deferred_disk.specs.inside.Waiting.{changes_of}
use Rattle.deferred_disk.proofs.Deferring.{front_is_oldest, within_log}
use Rattle.deferred_disk.proofs.deferred.DeferredDisk.carry_one.Goals as goal

pub make_first-requires : goal.make_first-requires
make_first-requires g c =
    within_log c.self.inside.past.first c.self.inside.past.changes (changes_of c.self.inside.log.items)
    (length (g.D.Device.seen c.args.device.now))
    (c.requires.size ∙ ap (λ (d : Deferred). length (seen_of (as_memory d))) (sym c.self.view_is))
    c.self.invariant.0.within c.self.invariant.0.waits

pub returns-in-Ok-clause-did : goal.returns-in-Ok-clause-did
returns-in-Ok-clause-did g c =
    let is = ap oldest_call (sym c.self.view_is)
    ∙ front_is_oldest c.self.inside.log.items c.self.inside.past.changes c.self.invariant.0.waits in
    subst (λ o. Did g.D.Device c.args.device.now (done_by o) true c.make_first.new.device) (sym is) c.in-Ok.ensures

pub returns-in-Err-clause-did : goal.returns-in-Err-clause-did
returns-in-Err-clause-did g c =
    let is = ap oldest_call (sym c.self.view_is)
    ∙ front_is_oldest c.self.inside.log.items c.self.inside.past.changes c.self.invariant.0.waits in
    subst (λ o. Did g.D.Device c.args.device.now (done_by o) false c.make_first.new.device) (sym is) c.in-Err.ensures
