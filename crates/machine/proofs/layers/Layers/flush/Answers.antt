use Rattle.std.proofs.Common.{rules}
use Rattle.machine.proofs.Names.{[], ◌∷◌, err_from_is_err_and, not_running, refuse_if, state_in}
use Rattle.page_entry.specs.declared.refusal.Refusal.TheVariants as refusals
use Rattle.machine.proofs.code.Refusals.{found}
use Rattle.machine.proofs.code.Flushes.{flushes_refused, flush_untouched, calm-not_running}
use Rattle.machine.proofs.layers.Layers.flush.Goals as goal

pub returns-in_err-admit-clause-rules : goal.returns-in_err-admit-clause-rules
returns-in_err-admit-clause-rules g c =
    let s = state_in c.args.self.now in
    let why = c.in_err-admit.ensures.err in
    let calm = calm-not_running s.hardware.shootdown c.args.p _ why in
    let first = found (not_running s.hardware.shootdown c.args.p)
    (refuse_if s.write_outs.broken refusals.Broken ∷ []) _ why in
    let p = err_from_is_err_and c.from_residual.result c.from_residual.ensures.1 in
    rw (p.1, p.2) (record {
      some_disk = ([], [], flushes_refused s c.args.p _ [] calm first);
      own_disk = λ h. flushes_refused s c.args.p _ _ calm first;
    })

pub returns-in_err-admit-clause-did : goal.returns-in_err-admit-clause-did
returns-in_err-admit-clause-did g c =
    let s = state_in c.args.self.now in
    let calm = calm-not_running s.hardware.shootdown c.args.p _ c.in_err-admit.ensures.err in
    let p = err_from_is_err_and c.from_residual.result c.from_residual.ensures.1 in
    rw (p.1, p.2) (flush_untouched g.D.Device g.met.D.Device.since_now s _ c.args.self.now.device calm)

pub returns-clause-rules : goal.returns-clause-rules
returns-clause-rules g c = c.step_write_outs.ensures.rules c.args.p (search rules)

pub returns-clause-did : goal.returns-clause-did
returns-clause-did g c = c.step_write_outs.ensures.did
