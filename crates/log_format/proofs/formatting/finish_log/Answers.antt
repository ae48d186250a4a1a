use Rattle.std.proofs.Common.{subst, List, ℕ}
use Rattle.std.specs.Prelude.{is_ok}
use Rattle.new_volume.specs.Formatting.{DidAll, super_works}
use Rattle.log_format.proofs.formatting.finish_log.Goals as goal

pub returns-clause-did : goal.returns-clause-did
returns-clause-did g c =
    let P : List ℕ → Type 0 = λ block.
    DidAll g.D.Device c.args.device.now (super_works block) (is_ok c.finish_new.result) c.finish_new.new.device in
    subst P c.to_block-block.ensures.text c.finish_new.ensures
