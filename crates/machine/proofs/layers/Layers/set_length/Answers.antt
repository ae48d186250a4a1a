use Rattle.machine.proofs.Names.{refl, sym, ap, ◌∙◌, err_from_is_err_and, None}
use Rattle.machine.proofs.Names.{Some, ShootdownState, with_shootdown, state_in}
use Rattle.machine.proofs.code.Parts.{quiet_begun}
use Rattle.machine.proofs.code.Resizes.{other_length_reason}
use Rattle.machine.proofs.layers.Layers.set_length.Goals as goal

pub returns-in_err-admit_resize-clause-rules : goal.returns-in_err-admit_resize-clause-rules
returns-in_err-admit_resize-clause-rules g c =
    let p =
    err_from_is_err_and c.from_residual-in_err-admit_resize.result c.from_residual-in_err-admit_resize.ensures.1 in
    rw (p.1, p.2) (λ disk. (
      other_length_reason (state_in c.args.self.now) c.args.p c.args.file c.args.length
          (Some c.in_err-admit_resize.field-0.0) c.in_ok-admit_free.ensures.ok c.in_ok-admit_length.ensures.ok
          (λ e. c.if-length-file_length.false (e ∙ sym c.file_length.ensures)) c.in_err-admit_resize.ensures.err,
      refl,
    ))

pub returns-clause-rules : goal.returns-clause-rules
returns-clause-rules g c = λ disk. (
  other_length_reason (state_in c.args.self.now) c.args.p c.args.file c.args.length None c.in_ok-admit_free.ensures.ok
      c.in_ok-admit_length.ensures.ok
      (λ e. c.if-length-file_length.false (e ∙ sym c.file_length.ensures)) c.in_ok-admit_resize.ensures.ok,
  (
    λ e. c.if-length-file_length.false (e ∙ sym c.file_length.ensures),
    ap (λ (s : ShootdownState). with_shootdown (state_in c.args.self.now) s) c.begin.ensures.begun,
  ),
)

pub returns-clause-quiet : goal.returns-clause-quiet
returns-clause-quiet g c = quiet_begun refl refl (ap (λ (s : ShootdownState). s.lock) c.begin.ensures.begun) tt
