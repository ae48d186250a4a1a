use Rattle.std.proofs.lemmas.Result.{on_ok_weaker}
use Rattle.inspection.proofs.log_text.write_log.Goals as goal

pub returns : goal.returns
returns g c = on_ok_weaker c.writeln.result (λ is. is) c.writeln.ensures.bytes
