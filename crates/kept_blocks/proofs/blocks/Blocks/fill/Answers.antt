use Rattle.std.proofs.Common.{◌-◌, ap, ◌∙◌, arith}
use Rattle.kept_blocks.specs.Blocks.{Blocks, without_run}
use Rattle.kept_blocks.proofs.Changing.{without_zeros, err_as, on_err}
use Rattle.kept_blocks.proofs.blocks.Blocks.fill.Goals as goal

pub returns-in_err-block-clause-err : goal.returns-in_err-block-clause-err
returns-in_err-block-clause-err g c = err_as c.from_residual-in_err-block.result _
    (ap (λ (b : Blocks). without_run b c.args.low c.args.high) c.in_ok-put_zeros.ensures.ok
    ∙ without_zeros c.args.low c.args.high c.args.self.now c.args.low (c.args.high - c.args.low) (omega arith)
    (omega (arith, c.requires)))

pub returns-clause-err : goal.returns-clause-err
returns-clause-err g c = on_err c.put.result _ _
    (λ e. ap (λ (b : Blocks). without_run b c.args.low c.args.high) (e ∙ c.in_ok-put_zeros.ensures.ok)
    ∙ without_zeros c.args.low c.args.high c.args.self.now c.args.low (c.args.high - c.args.low) (omega arith)
    (omega (arith, c.requires))) c.put.ensures.err
