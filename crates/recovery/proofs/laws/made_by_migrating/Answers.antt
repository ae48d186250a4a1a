use Rattle.recovery.proofs.Migrated.{migrated_made}
use Rattle.recovery.proofs.laws.made_by_migrating.Goals as goal

pub returns : goal.returns
returns g c = λ slots volume before after honest has.
    migrated_made g.D.Device g.E.Device slots volume before after honest has
