use Rattle.std.proofs.Common.{◌≡◌, Bool, false, ap, subst, sym, ◌∙◌, length, arith, refl}
use Rattle.device.specs.Memory.{seen_of}
use Rattle.std.proofs.lemmas.Bool.{both_ways}
use Rattle.device.proofs.Public.{ok_map}
use Rattle.volume_codec.specs.Layout.{IsHome, block_at, first_home}
use Rattle.volume_codec.specs.Super.{block_count, geometry_of}
use Rattle.machine_log.specs.Shown.{HasHomeBlock}
use Rattle.log_codec.specs.Log.{first_log_home}
use Rattle.log_codec.specs.Chain.{IsLogHome}
use Rattle.log_volume.specs.Super.{log_of}
use Rattle.machine_log.specs.Serving.{volume_home}
use Rattle.log_pager.specs.Pager.{LogPagerValue, contents_put}
use Rattle.log_codec.specs.Log.{LogValue}
use Rattle.machine_log.specs.Disk.{LogDiskValue}
use Rattle.machine_log.specs.inside.Keeping.{IsKeptDisk, changed}
use Rattle.machine_log.proofs.Kept.{kept_read, as_told}
use Rattle.machine_log.proofs.Reading.{by_err, by_ok, home_bytes, home_within, none_put_bytes}
use Rattle.machine_log.proofs.parts.DiskParts.read_home.Goals.{in-Ok, in-Err}
use Rattle.machine_log.proofs.parts.DiskParts.read_home.Goals as goal

pub moved_home-requires-clause-high : goal.moved_home-requires-clause-high
moved_home-requires-clause-high g c = omega (arith, c.requires.within, c.firsts-firsts.ensures.fits)

pub invariant_of-self : goal.invariant_of-self
invariant_of-self g c =
    let d = c.self.inside in
    let past = c.with_calls-self-inside in
    let after = c.read-outcome.new.self in
    let state = c.read-outcome.ensures.state in
    let alone = c.read-outcome.ensures.alone in
    let K : Bool → Type 0 = λ failed. IsKeptDisk g.D.Device d.volume d.table d.log_start d.past.first d.past.changes
    d.past.moments
    d.pager d.shown failed in
    let kept : K false = subst K c.if-self.false c.self.invariant in
    as_told g.D.Device d.volume d.table d.log_start d.past.first d.past.changes d.past.moments after d.shown d.failed
    false
    (length d.past.changes) past.result.first past.result.changes past.result.moments c.device.result.now past.ensures
    c.device.ensures c.if-self.false (omega arith)
    (kept_read g.D.Device g.met.D.Device.since_now g.met.D.Device.now_is_since d.volume d.table d.log_start d.past.first
    d.past.changes d.past.moments d.pager d.shown kept after
    (ap (λ (p : LogPagerValue _). p.store) state)
    (ap (λ (p : LogPagerValue _). p.staged) state ∙ kept.none_put refl)
    alone.time.later alone.honest.0 alone.left
    (λ contents honest over. c.read-outcome.ensures.over contents honest over) alone.time)

pub returns-clause-bytes : goal.returns-clause-bytes
returns-clause-bytes g c = λ honest.
    let d = c.self.inside in
    let block = c.args.block in
    let seen = seen_of (changed d.past.first d.past.changes) in
    let below : g.D.Device.is_honest d.pager.device =
    subst (λ (d : LogDiskValue _). g.D.Device.is_honest d.device) (sym c.self.view_is) honest in
    let over = c.self.invariant.over below c.if-self.false in
    let table = c.self.invariant.table in
    let low : first_home d.table.layout d.table.slots ≡ c.firsts-firsts.result.shown =
    ap (λ (d : LogDiskValue _). first_home d.table.layout d.table.slots) c.self.view_is
    ∙ sym c.firsts-firsts.ensures.shown in
    let first : first_log_home d.volume.ring ≡ c.firsts-firsts.result.volume =
    ap (λ (d : LogDiskValue _). first_log_home d.volume.ring) c.self.view_is ∙ sym c.firsts-firsts.ensures.volume in
    let place : c.moved_home.result ≡ volume_home d.volume d.table block =
    omega (arith, c.moved_home.ensures, c.if-block-firsts.false, low, first) in
    let home : IsHome (geometry_of d.table) block = record {
      low = omega (arith, c.if-block-firsts.false, low);
      high = omega (arith, c.requires.within, ap (λ (d : LogDiskValue _). block_count d.table) c.self.view_is);
    } in
    let there : IsLogHome d.pager.store.tail.log c.moved_home.result =
    subst (λ (g : LogValue). IsLogHome g c.moved_home.result) (sym c.self.invariant.log)
    (subst (IsLogHome (log_of d.volume)) (sym place) (home_within d.volume d.table block table home)) in
    let lacks : HasHomeBlock d.shown.opened block → ⊥ =
    λ has. both_ways c.has_record_of.result c.if-has_record_of.false (c.has_record_of.ensures.1 has) in
    let is : contents_put over.contents d.pager.staged c.moved_home.result
    ≡ block_at (seen_of c.args.self.now.memory) block =
    none_put_bytes over.contents d.pager.staged c.moved_home.result (c.self.invariant.none_put c.if-self.false)
    ∙ ap over.contents place
    ∙ home_bytes c.recovered_from.ensures.no_record g.D.Device d.volume d.table d.pager d.shown seen over block home
    lacks
    ∙ ap (λ (d : LogDiskValue _). block_at (seen_of d.memory) block) c.self.view_is in
    let read = ok_map c.read-outcome.result (λ e. e ∙ is)
    (c.read-outcome.ensures.bytes over.contents below over.over there) in
    let same = c.read-outcome.new.buffer ≡ block_at (seen_of c.args.self.now.memory) block in
    elim c.match-outcome.branch [
      | in-Ok w ↦ by_ok same c.read-outcome.result c.match-outcome.result w.in-Ok.field-0 tt w.in-Ok.is w.result-is read
      | in-Err w ↦ by_err same c.match-outcome.result _ w.result-is
    ]
