use Rattle.std.proofs.Common.{◌≡◌, false, subst, sym, ap, ◌∙◌, arith}
use Rattle.volume_codec.specs.Layout.{block_at}
use Rattle.log_codec.specs.Log.{LogValue}
use Rattle.log_volume.specs.Super.{log_of}
use Rattle.log_commits.specs.Tail.{TailValue, tail_at}
use Rattle.log_store.specs.Store.{StoreValue, IsStoreOver, fresh_store}
use Rattle.log_files.proofs.files.LogFiles.over.Goals as goal

pub returns-clause-over : goal.returns-clause-over
returns-clause-over g c = λ only has selected.
    let o = c.args.opened in
    let device = c.args.device in
    let contents = block_at (g.D.Device.seen device) in
    let store_is : c.new-store.result ≡ fresh_store (tail_at (log_of o.table) o.start false) o.second =
    c.new-store.ensures ∙ ap (λ (t : TailValue). fresh_store t o.second)
    (c.new.ensures ∙ ap (λ (l : LogValue). tail_at l o.start false) c.log.ensures.value) in
    let same = ap (λ (v : StoreValue). v.tail.log.blocks) store_is in
    c.new-2.ensures.over contents
    (subst (λ (v : StoreValue). IsStoreOver g.D.Device v contents device) (sym store_is)
    (c.opened_store.ensures (log_of o.table) o.start o.second false only has selected))
    (omega (arith, c.requires.long, same))
