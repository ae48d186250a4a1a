use Rattle.std.proofs.Common.{refl, inl, inr}
use Rattle.std.specs.Prelude.{is_ok}
use Rattle.new_volume.proofs.Calls.{did_last}
use Rattle.new_volume.proofs.formatting.finish_new.Goals as goal

pub returns-in-Err-write_at : goal.returns-in-Err-write_at
returns-in-Err-write_at g c = inr (c.make_durable.new.device, c.in-Ok.ensures, inl (refl, c.in-Err-write_at.ensures))

pub returns : goal.returns
returns g c = inr (
  c.make_durable.new.device,
  c.in-Ok.ensures,
  inr (
    c.write_at.new.device,
    c.in-Ok-write_at.ensures,
    did_last g.D.Device (is_ok c.make_durable-2.result) c.make_durable-2.ensures,
  ),
)
