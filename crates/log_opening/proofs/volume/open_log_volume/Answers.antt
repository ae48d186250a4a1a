use Rattle.std.proofs.Common.{ℕ, List, sym, subst}
use Rattle.device.specs.Device.{LeavesOnly}
use Rattle.log_codec.specs.Log.{LogValue, first_log_home}
use Rattle.log_codec.specs.Chain.{contents_of_log}
use Rattle.log_volume.specs.Super.{log_of}
use Rattle.log_recovery.specs.Reading.{HoldsFound, chain_of}
use Rattle.log_opening.specs.Opening.{OpensLog, LeftByLogOpening}
use Rattle.log_opening.specs.Volume.{LeftByOpeningVolume}
use Rattle.log_opening.specs.inside.Keeping.{IsLookedAt}
use Rattle.log_opening.proofs.Opened.{opened_before}
use Rattle.log_opening.proofs.Volumes.{crash_finishing, counted_then, counted_ok, found_recovers, lengths_home}
use Rattle.log_opening.proofs.Volumes.{lengths_behind}
use Rattle.log_opening.proofs.volume.open_log_volume.Goals.{After-finish}
use Rattle.log_opening.proofs.volume.open_log_volume.Goals as goal

crash_after : (g : _) (c : After-finish g) → g.D.Device.is_honest c.args.device.now
    → LeavesOnly g.D.Device.moment g.D.Device.left_since c.args.device.now c.finish.new.device
    (LeftByOpeningVolume g.D.Device c.args.device.now)
crash_after g c honest =
    let found = c.in-Ok.found in
    let is = c.in-Ok.ensures.found honest in
    let mid = c.find_volume.new.device in
    let new = c.finish.new.device in
    let log = c.log-log.ensures.value in
    let L : LogValue → Type 0 = λ l. IsLookedAt g.D.Device l found.looked.found found.looked.next mid in
    let C : LogValue → Type 0 =
    λ l. LeavesOnly g.D.Device.moment g.D.Device.left_since mid new (LeftByLogOpening g.D.Device l mid) in
    crash_finishing g.D.Device found.table c.args.device.now mid new honest c.find_volume.ensures.unwritten
    is.super_block (subst C log (c.finish.ensures.crash (subst L (sym log) is.looked)))

pub returns-in-Err-finish-clause-crash : goal.returns-in-Err-finish-clause-crash
returns-in-Err-finish-clause-crash g c = crash_after g (goal.at.returns-in-Err-finish-clause-crash g c).After-finish

pub returns-clause-crash : goal.returns-clause-crash
returns-clause-crash g c = crash_after g (goal.at.returns-clause-crash g c).After-finish

pub returns-clause-counted : goal.returns-clause-counted
returns-clause-counted g c =
    counted_then g.D.Device c.args.device.now c.find_volume.new.device c.finish.new.device c.in-Ok.found _
    c.in-Ok.ensures.counted
    (counted_ok g.D.Device c.find_volume.new.device c.finish.new.device c.in-Ok-finish.field-0 _
    c.in-Ok-finish.ensures.counted)

pub returns-clause-opened : goal.returns-clause-opened
returns-clause-opened g c = λ honest.
    let found = c.in-Ok.found in
    let table = found.table in
    let is = c.in-Ok.ensures.found honest in
    let old = c.args.device.now in
    let mid = c.find_volume.new.device in
    let new = c.finish.new.device in
    let bytes = g.D.Device.seen old in
    let next = found.looked.next in
    let log = c.log-log.ensures.value in
    let same = c.find_volume.ensures.unwritten.same honest in
    let L : LogValue → Type 0 = λ l. IsLookedAt g.D.Device l found.looked.found next mid in
    let O : LogValue → Type 0 = λ l. OpensLog g.D.Device l mid next new in
    let opened : OpensLog g.D.Device (log_of table) old next new =
    opened_before g.D.Device (log_of table) old mid new next same
    (subst O log (c.in-Ok-finish.ensures.opened (subst L (sym log) is.looked))) in
    let holds : HoldsFound (log_of table) found.looked.found bytes =
    subst (λ (l : List ℕ). HoldsFound (log_of table) found.looked.found l) same is.looked.holds in
    let contents =
    contents_of_log (log_of table) found.looked.found.start.position (chain_of found.looked.found.commits.items)
    bytes in
    let recovers = found_recovers (log_of table) found.looked.found bytes holds in
    record {
      super_block = is.super_block;
      opened = opened;
      lengths_are = lengths_behind g.D.Device table found.lengths.items contents old new next
          (λ others other. c.one_log.ensures.contents (log_of table) contents others bytes (first_log_home table.ring)
          c.log-log.ensures.log recovers other (lengths_home table c.log-log.ensures.log)) is.lengths_are opened;
    }
