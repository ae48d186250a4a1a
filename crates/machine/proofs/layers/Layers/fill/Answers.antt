use Rattle.machine.proofs.Names.{refl, err_from_is_err_and, hardware, IsQuiet}
use Rattle.machine.proofs.code.Parts.{quiet_same, fills_so, lock-fills}
use Rattle.machine.proofs.layers.Layers.fill.Goals.{After-fill}
use Rattle.machine.proofs.layers.Layers.fill.Goals as goal

-- the lock is as it was, and so is what is reserved
quiet : (g : _) (c : After-fill g)
    → IsQuiet c.args.self.now (record c.args.self.now { shootdown = c.fill.new.shootdown; spaces = c.fill.new.spaces })
quiet g c =
    quiet_same refl refl (lock-fills _ _ _ _ _ (c.fill.ensures.filled c.args.self.now.frames))
    c.fill.ensures.uses.still_prepared

pub returns-in_err-filled-clause-rules : goal.returns-in_err-filled-clause-rules
returns-in_err-filled-clause-rules g c =
    let p = err_from_is_err_and c.from_residual.result c.from_residual.ensures.1 in
    rw (p.1, p.2) (
      hardware c.fill.new.shootdown c.fill.new.spaces.map c.args.self.now.frames,
      c.in_err-filled.ensures.filled c.args.self.now.frames,
      refl,
    )

pub returns-in_err-filled-clause-quiet : goal.returns-in_err-filled-clause-quiet
returns-in_err-filled-clause-quiet g c = quiet g (goal.at.returns-in_err-filled-clause-quiet g c).After-fill

pub returns-clause-rules : goal.returns-clause-rules
returns-clause-rules g c = (
  hardware c.fill.new.shootdown c.fill.new.spaces.map c.args.self.now.frames,
  rw c.reply_if.ensures (fills_so _ _ _ _ _ (c.in_ok-filled.ensures.filled c.args.self.now.frames)),
  refl,
)

pub returns-clause-quiet : goal.returns-clause-quiet
returns-clause-quiet g c = quiet g (goal.at.returns-clause-quiet g c).After-fill
