use Rattle.crashes_command.proofs.Writing.{where_ok}
use Rattle.crashes_command.proofs.text.write_call.Goals as goal

pub returns : goal.returns
returns g c = where_ok c.write.result (λ is. (_, is)) c.write.ensures.bytes
