use Rattle.std.proofs.Common.{ℕ, List, Option, ap, ◌∙◌, sym}
use Rattle.std.specs.Prelude.{unwrap_or}
use Rattle.volume_codec.specs.Text.{zeros}
use Rattle.pager.specs.State.{record_for}
use Rattle.pager.proofs.pager.record_for.Goals as goal

pub returns-in-None-newest : goal.returns-in-None-newest
unfolding zeros
returns-in-None-newest g c =
    ap (λ (o : Option (List ℕ)). unwrap_or o (zeros 4096)) c.in-None-newest.ensures
    ∙ ap (record_for c.args.records.now) (sym c.in-Some.is)

pub returns-in-None : goal.returns-in-None
unfolding zeros
returns-in-None g c = ap (record_for c.args.records.now) (sym c.in-None.is)
