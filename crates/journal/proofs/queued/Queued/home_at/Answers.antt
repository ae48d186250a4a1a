use Rattle.std.proofs.Common.{◌≡◌, ◌<◌, length, get_or, ◌∙◌, subst, sym}
use Rattle.std.proofs.lemmas.List.{get_or_default}
use Rattle.volume_codec.specs.Layout.{IsHome}
use Rattle.journal.specs.WriteOut.{IsBatch}
use Rattle.journal.specs.inside.Queued.{QueuedWriteOut}
use Rattle.journal.proofs.Written.{home_at}
use Rattle.journal.proofs.queued.Queued.home_at.Goals as goal

pub returns-clause-home : goal.returns-clause-home
returns-clause-home g c geometry batch =
    let items = c.self.inside.homes.items in
    let lt : c.args.place < length items =
    subst (λ f. c.args.place < length f.write_out.batch.homes) (sym c.self.view_is) c.requires in
    let same : c.index.result.now ≡ get_or items c.args.place 0 =
    c.index.ensures
    ∙ get_or_default items c.args.place c.index.result.now 0 lt in
    let own : IsBatch geometry (record { journal = c.self.inside.journal; mark = c.self.inside.mark; homes = items }) =
    subst (λ (w : QueuedWriteOut). IsBatch geometry w.write_out.batch) (sym c.self.view_is) batch in
    subst (IsHome geometry) (sym same) (home_at geometry items c.args.place own.described.homes lt)
