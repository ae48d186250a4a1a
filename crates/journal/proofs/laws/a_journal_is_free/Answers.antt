use Rattle.std.proofs.Common.{ap, ◌∙◌}
use Rattle.volume_codec.specs.Layout.{GeometryValue}
use Rattle.journal.specs.WriteOuts.{shares_syncs}
use Rattle.journal.proofs.Counting.{always_free}
use Rattle.journal.proofs.KeptConsistent.{consistent}
use Rattle.journal.proofs.laws.a_journal_is_free.Goals as goal

pub returns : goal.returns
returns g c v outs old new s shared none =
    let is = consistent g.D.Device v s in
    always_free outs is.sound (ap (λ (x : GeometryValue). shares_syncs x.layout) is.geometry ∙ shared) none
