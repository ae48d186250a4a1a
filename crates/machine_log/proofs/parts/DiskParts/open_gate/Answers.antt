use Rattle.std.proofs.Common.{◌≡◌, ◌+◌, ◌*◌, ◌≤◌, ◌∷◌, Bool, false, not, length, inr, refl, sym, ap, subst, ◌∙◌, arith}
use Rattle.std.specs.Prelude.{◌↔◌, IfSome, is_ok}
use Rattle.device.specs.Memory.{seen_of}
use Rattle.device.specs.Memory.DiskChange.{write}
use Rattle.volume_codec.specs.Layout.{GeometryValue, first_home, gate_block}
use Rattle.machine_log.specs.Shown.{MayOpen}
use Rattle.log_codec.specs.Log.{first_log_home}
use Rattle.log_pager.specs.Pager.{LogPagerValue}
use Rattle.machine_log.specs.Disk.{LogDiskValue}
use Rattle.machine_log.specs.inside.Keeping.{IsKeptDisk, changed}
use Rattle.machine_log.proofs.Committed.{committed}
use Rattle.machine_log.proofs.Gated.{kept_commit}
use Rattle.machine_log.proofs.Kept.{as_told, err_not, kept_failed, write_fits, writes_told}
use Rattle.machine_log.proofs.parts.DiskParts.open_gate.Goals as goal

pub invariant_of-self : goal.invariant_of-self
invariant_of-self g c =
    let d = c.self.inside in
    let put = c.put_batch in
    let K : Bool → Type 0 = λ failed. IsKeptDisk g.D.Device d.volume d.table d.log_start d.past.first d.past.changes
    d.past.moments d.pager d.shown failed in
    kept_failed g.D.Device g.met.D.Device.since_now g.met.D.Device.now_is_since d.volume d.table d.log_start
    d.past.first d.past.changes d.past.moments d.pager d.shown (subst K c.if-self.false c.self.invariant) put.new.pager
    put.new.shown put.ensures.staged

pub invariant_of-self-2 : goal.invariant_of-self-2
invariant_of-self-2 g c =
    let d = c.self.inside in
    let past = c.with_write-self-inside in
    let put = c.put_batch in
    let made = c.commit_with_room-outcome in
    let at = c.args.at in
    let bytes = c.args.bytes.now in
    let batch = c.in-Ok-Some.batch in
    let K : Bool → Type 0 = λ failed. IsKeptDisk g.D.Device d.volume d.table d.log_start d.past.first d.past.changes
    d.past.moments
    d.pager d.shown failed in
    let kept : K false = subst K c.if-self.false c.self.invariant in
    let found : (batch.journal ≡ c.args.journal) × MayOpen d.shown batch =
    subst (λ o. IfSome o (λ b. (b.journal ≡ c.args.journal) × MayOpen d.shown b)) c.in-Ok-Some.field-0-is
    c.in-Ok-Some.ensures in
    let place : 4096 * gate_block d.shown.geometry.slots batch.journal ≡ at =
    ap (λ j. 4096 * gate_block d.shown.geometry.slots j) found.0
    ∙ ap (λ (g : GeometryValue). 4096 * gate_block g.slots c.args.journal) (kept.shows refl).geometry
    ∙ ap (λ (d : LogDiskValue _). 4096 * gate_block d.table.slots c.args.journal) c.self.view_is
    ∙ sym c.requires.at in
    let fits : at + length bytes ≤ length (seen_of (changed d.past.first d.past.changes)) =
    write_fits at c.self.view_is c.requires.fits (ap length c.requires.byte) in
    let low : c.firsts-firsts.result.shown ≡ first_home d.table.layout d.table.slots =
    c.firsts-firsts.ensures.shown
    ∙ ap (λ (d : LogDiskValue _). first_home d.table.layout d.table.slots) (sym c.self.view_is) in
    let first : c.firsts-firsts.result.volume ≡ first_log_home d.volume.ring =
    c.firsts-firsts.ensures.volume ∙ ap (λ (d : LogDiskValue _). first_log_home d.volume.ring) (sym c.self.view_is) in
    let failed : c.is_err-self-inside.result ≡ not (is_ok made.result) =
    c.is_err-self-inside.ensures.value ∙ err_not made.result in
    as_told g.D.Device d.volume d.table d.log_start d.past.first (write at bytes ∷ d.past.changes) d.past.moments
    made.new.pager put.new.shown c.is_err-self-inside.result c.is_err-self-inside.result (length d.past.changes + 1)
    past.result.first past.result.changes past.result.moments c.device.result.now past.ensures c.device.ensures refl
    (omega arith)
    (kept_commit g.D.Device g.met.D.Device.since_now g.met.D.Device.now_is_since d.volume d.table d.log_start
    d.past.first d.past.changes d.past.moments d.pager d.shown kept batch found.1 c.firsts-firsts.result.shown
    c.firsts-firsts.result.volume at bytes low first place c.requires.byte c.one_reading.ensures.contents
    (is_ok made.result) c.is_err-self-inside.result made.new.pager put.new.shown
    (committed g.D.Device d.pager d.shown batch c.firsts-firsts.result.shown c.firsts-firsts.result.volume
    put.new.pager made.new.pager put.new.shown made.result (is_ok made.result) refl put.ensures.staged
    found.1.is_batch.described.homes.some c.in_ok-put_batch.ensures.put put.ensures.over
    c.in_ok-put_batch.ensures.opened
    c.in_ok-put_batch.ensures.opens made.ensures.log made.ensures.value made.ensures.honest made.ensures.later
    made.ensures.number made.ensures.over made.ensures.ended made.ensures.held made.ensures.leaves made.ensures.first)
    failed fits)

pub returns : goal.returns
returns g c =
    let d = c.self.inside in
    let past = c.with_write-self-inside in
    let put = c.put_batch in
    let made = c.commit_with_room-outcome in
    let device = ap (λ (p : LogPagerValue _). p.device) put.ensures.staged in
    inr (writes_told g.D.Device d.volume d.table d.log_start d.past.first d.past.changes d.past.moments d.calls d.faults
    d.pager.device made.new.pager.device c.device.result.now c.args.self.now (write c.args.at c.args.bytes.now)
    past.result.first past.result.changes past.result.moments c.self.view_is past.ensures c.device.ensures
    (subst (λ x. g.D.Device.moment x ≤ g.D.Device.moment made.new.pager.device) device made.ensures.later)
    (subst (λ x. g.D.Device.is_honest made.new.pager.device ↔ g.D.Device.is_honest x) device made.ensures.honest))
