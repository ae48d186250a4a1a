use Rattle.machine.proofs.Names.{refl, err_from_is_err_and, hardware, IsQuiet}
use Rattle.machine.proofs.code.Parts.{quiet_same, evicts_so, lock-evicts}
use Rattle.machine.proofs.layers.Layers.evict.Goals.{After-evict}
use Rattle.machine.proofs.layers.Layers.evict.Goals as goal

-- the lock is as it was, and so is what is reserved
quiet : (g : _) (c : After-evict g)
    → IsQuiet c.args.self.now (record c.args.self.now { shootdown = c.evict.new.shootdown })
quiet g c =
    quiet_same refl refl
    (lock-evicts _ _ _ _ _ (c.evict.ensures.evicted c.args.self.now.spaces.map c.args.self.now.frames)) refl

pub returns-in_err-evicted-clause-rules : goal.returns-in_err-evicted-clause-rules
returns-in_err-evicted-clause-rules g c =
    let p = err_from_is_err_and c.from_residual.result c.from_residual.ensures.1 in
    rw (p.1, p.2) (
      hardware c.evict.new.shootdown c.args.self.now.spaces.map c.args.self.now.frames,
      c.in_err-evicted.ensures.evicted c.args.self.now.spaces.map c.args.self.now.frames,
      refl,
    )

pub returns-in_err-evicted-clause-quiet : goal.returns-in_err-evicted-clause-quiet
returns-in_err-evicted-clause-quiet g c = quiet g (goal.at.returns-in_err-evicted-clause-quiet g c).After-evict

pub returns-clause-rules : goal.returns-clause-rules
returns-clause-rules g c = (
  hardware c.evict.new.shootdown c.args.self.now.spaces.map c.args.self.now.frames,
  rw c.reply_if.ensures
      (evicts_so _ _ _ _ _ (c.in_ok-evicted.ensures.evicted c.args.self.now.spaces.map c.args.self.now.frames)),
  refl,
)

pub returns-clause-quiet : goal.returns-clause-quiet
returns-clause-quiet g c = quiet g (goal.at.returns-clause-quiet g c).After-evict
