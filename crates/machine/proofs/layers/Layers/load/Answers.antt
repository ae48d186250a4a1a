use Rattle.machine.proofs.Names.{refl, err_from_is_err_and, hardware}
use Rattle.machine.proofs.layers.Layers.load.Goals as goal

pub returns-in_err-bytes-clause-rules : goal.returns-in_err-bytes-clause-rules
returns-in_err-bytes-clause-rules g c =
    let p = err_from_is_err_and c.from_residual.result c.from_residual.ensures.1 in
    rw (p.1, p.2) (
      hardware c.load.new.shootdown c.load.new.spaces.map c.args.self.now.frames,
      c.in_err-bytes.ensures.loaded,
      refl,
    )

pub returns-clause-rules : goal.returns-clause-rules
returns-clause-rules g c = (
  hardware c.load.new.shootdown c.load.new.spaces.map c.args.self.now.frames,
  rw c.of.ensures c.in_ok-bytes.ensures.loaded,
  refl,
)
