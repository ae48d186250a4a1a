use Rattle.std.proofs.Common.{inr}
use Rattle.log_commits.proofs.commit.open_at.Goals as goal

pub returns : goal.returns
returns g c = inr (
  c.make_durable.new.device,
  c.in-Ok.ensures,
  inr (c.write_at.new.device, c.in-Ok-write_at.ensures, c.finish.ensures),
)
