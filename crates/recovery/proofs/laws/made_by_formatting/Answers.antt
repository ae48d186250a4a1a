use Rattle.recovery.proofs.Blank.{formatted_made}
use Rattle.recovery.proofs.laws.made_by_formatting.Goals as goal

pub returns : goal.returns
returns g c = λ layout slots files old new honest formatted.
    formatted_made g.D.Device layout slots files old new honest formatted
