use Rattle.log_store.proofs.Stores.{opened}
use Rattle.log_store.proofs.laws.opened_store.Goals as goal

pub returns : goal.returns
returns g c = opened g.D.Device c.args._device.now
