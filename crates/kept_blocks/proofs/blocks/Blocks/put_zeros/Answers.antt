use Rattle.std.proofs.Common.{◌≡◌, ◌+◌, ◌-◌, suc, ap, ◌∙◌, arith}
use Rattle.volume_codec.specs.Text.{zeros}
use Rattle.kept_blocks.specs.Blocks.{Blocks, with_home, with_zeros, without_run}
use Rattle.kept_blocks.proofs.Changing.{without_zeros, err_as}
use Rattle.kept_blocks.proofs.blocks.Blocks.put_zeros.Goals as goal

pub loop-home-init : goal.loop-home-init
loop-home-init g c = record {
  low = omega arith;
  high = c.requires;
  blocks = let none : 0 ≡ c.args.low - c.args.low = omega arith in ap (with_zeros c.args.self.now c.args.low) none;
}

pub returns-in_err-block-clause-err : goal.returns-in_err-block-clause-err
returns-in_err-block-clause-err g c =
    let i = c.loop-home.invariant in
    err_as c.from_residual.result _
    (ap (λ (b : Blocks). without_run b c.args.low c.args.high) i.blocks
    ∙ without_zeros c.args.low c.args.high c.args.self.now c.args.low (c.loop-home.home - c.args.low)
    (omega arith) (omega (arith, i.low, i.high)))

pub returns-in_err-put-clause-err : goal.returns-in_err-put-clause-err
returns-in_err-put-clause-err g c =
    let i = c.loop-home.invariant in
    err_as c.from_residual-in_err-put.result _
    (ap (λ (b : Blocks). without_run b c.args.low c.args.high) (c.in_err-put.ensures.err ∙ i.blocks)
    ∙ without_zeros c.args.low c.args.high c.args.self.now c.args.low (c.loop-home.home - c.args.low)
    (omega arith) (omega (arith, i.low, i.high)))

pub loop-home-preserved : goal.loop-home-preserved
unfolding zeros
loop-home-preserved g c =
    let i = c.loop-home.invariant in
    let more : suc (c.loop-home.home - c.args.low) ≡ c.loop-home.home + 1 - c.args.low = omega (arith, i.low) in
    let place : c.loop-home.home ≡ c.args.low + (c.loop-home.home - c.args.low) = omega (arith, i.low) in
    let bytes : c.in_ok-block.block.value ≡ zeros 4096 = c.in_ok-block.ensures.ok in
    record {
      low = omega (arith, i.low);
      high = omega (arith, c.loop-home-test.true);
      blocks = c.in_ok-put.ensures.ok ∙ (λ k. with_home (i.blocks k) (place k) (bytes k))
          ∙ ap (with_zeros c.args.self.now c.args.low) more;
    }

pub returns-clause-ok : goal.returns-clause-ok
returns-clause-ok g c =
    let i = c.loop-home.invariant in
    let end : c.loop-home.home ≡ c.args.high = omega (arith, i.high, c.loop-home-test.false) in
    i.blocks ∙ ap (λ n. with_zeros c.args.self.now c.args.low (n - c.args.low)) end
