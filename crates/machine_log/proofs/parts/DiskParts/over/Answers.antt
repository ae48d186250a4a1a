use Rattle.std.proofs.Common.{◌≡◌, ℕ, List, [], false, length, subst, sym, ap, ◌∙◌, arith}
use Rattle.device.specs.Memory.{content_after}
use Rattle.volume_codec.specs.Layout.{GeometryValue, block_at}
use Rattle.volume_codec.specs.Recovery.{RecoversTo}
use Rattle.machine_log.specs.Shown.{ShownValue}
use Rattle.log_codec.specs.Log.{LogValue}
use Rattle.log_volume.specs.Super.{log_of}
use Rattle.log_commits.specs.Tail.{EndsAtTail, TailValue, tail_at}
use Rattle.log_store.specs.Store.{StoreValue, IsStoreOver, fresh_store}
use Rattle.machine_log.proofs.OpenedDisk.{kept_as, files_of_shown}
use Rattle.machine_log.specs.inside.Keeping.{IsKeptDisk}
use Rattle.machine_log.proofs.Working.{works_of}
use Rattle.machine_log.proofs.parts.DiskParts.over.Goals.{After-new-3}
use Rattle.machine_log.proofs.parts.DiskParts.over.Goals as goal

kept : (g : _) (c : After-new-3 g) → IsKeptDisk g.D.Device c.args.opened.table c.args.table c.args.opened.start
    c.begin-past.result.first c.begin-past.result.changes c.begin-past.result.moments c.new-3.result c.new-2.result
    false
kept g c =
    let o = c.args.opened in
    let device = c.args.device in
    let contents = block_at (g.D.Device.seen device) in
    let whole = sym (ap length c.to_block-shown.ensures) ∙ c.has_whole_block.ensures in
    let past = c.begin-past.ensures in
    let store_is : c.new-store.result ≡ fresh_store (tail_at (log_of o.table) o.start false) o.second =
    c.new-store.ensures ∙ ap (λ (t : TailValue). fresh_store t o.second)
    (c.new.ensures ∙ ap (λ (l : LogValue). tail_at l o.start false) c.log.ensures.value) in
    kept_as g.D.Device o.table c.args.table device c.requires.shown whole c.to_block-first.ensures.says.fits
    c.requires.long o.start o.second c.requires.opened (λ l since. g.met.D.Device.since_now device l since)
    c.new-3.result c.new-store.result c.new-2.result c.begin-past.result.first c.begin-past.result.changes
    c.begin-past.result.moments c.new-3.ensures.value (ap (λ (s : StoreValue). s.tail.log) store_is)
    (ap (λ (s : StoreValue). s.tail.number) store_is)
    (c.new-2.ensures ∙ ap (λ (p : GeometryValue). let s : ShownValue =
    record { geometry = p; blocks = []; opened = [] } in s) c.geometry.ensures.value)
    past.0 past.1 past.2
    (λ opened. (
      c.new-3.ensures.over contents
          (subst (λ (s : StoreValue). IsStoreOver g.D.Device s contents device) (sym store_is)
          (c.opened_store.ensures (log_of o.table) o.start o.second false opened.synced opened.log opened.selected))
          (omega (arith, c.requires.long, ap (λ (s : StoreValue). s.tail.log.blocks) store_is)),
      subst (λ (s : StoreValue). EndsAtTail s.tail (g.D.Device.seen device)) (sym store_is)
          (c.held_log.ensures.ends_at_start (log_of o.table) o.start false (g.D.Device.seen device) opened.log),
    ))

pub invariant_of-result : goal.invariant_of-result
invariant_of-result g c = kept g (goal.at.invariant_of-result g c).After-new-3

pub returns-clause-works : goal.returns-clause-works
returns-clause-works g c =
    let past = c.begin-past.result in
    works_of g.D.Device g.met.D.Device.since_now g.met.D.Device.now_is_since c.one_reading.ensures.contents
    c.one_reading.ensures.files c.args.opened.table c.args.table c.args.opened.start past.first past.changes
    past.moments
    c.new-3.result
    c.new-2.result 0 0 (kept g (goal.at.returns-clause-works g c).After-new-3)

pub returns-clause-files : goal.returns-clause-files
returns-clause-files g c = λ honest old files says recovered to.
    let v = c.args.opened.table in
    let past = c.begin-past.ensures in
    let whole = sym (ap length c.to_block-shown.ensures) ∙ c.has_whole_block.ensures in
    subst (λ (l : List ℕ). RecoversTo l files)
    (sym (ap (content_after c.begin-past.result.first) past.1 ∙ past.0))
    (files_of_shown v c.args.table (g.D.Device.seen c.args.device) c.requires.shown whole c.requires.long
    c.to_block-first.ensures.says.fits c.one_log_super.ensures.one
    (λ contents others bytes b recovers other home.
    c.one_log.ensures.contents (log_of v) contents others bytes b c.log.ensures.log recovers other home)
    old files says recovered to)
