use Rattle.std.proofs.Common.{◌≡◌, ◌≢◌, ℕ, ◌+◌, ◌<◌, List, length, get_or, nat_eq, sym, ap, subst, ◌∙◌, arith}
use Rattle.indexmap.specs.IndexMap.{get}
use Rattle.log_codec.specs.Log.{ring_block}
use Rattle.log_codec.specs.Chain.{IsLogHome, records_position, newest_or}
use Rattle.log_recovery.specs.Reading.{logged_of}
use Rattle.log_opening.proofs.Keeping.{home_at, all_at, copy_keeps_unless, writes_then, same_then, same_did}
use Rattle.log_opening.proofs.Keeping.{records_more}
use Rattle.log_opening.proofs.homes.write_records.Goals as goal

pub copy_unless-requires-clause-to : goal.copy_unless-requires-clause-to
copy_unless-requires-clause-to g c =
    let d = logged_of c.args.commit.now in
    let i = c.loop-i.i in
    let same = c.deref-homes.ensures.value in
    let lt : i < length d.homes = omega (arith, c.loop-i-test.true, ap length same) in
    let home = home_at c.args.log.now d i c.requires.logged lt in
    let at : get_or c.deref-homes.result.now i 0 ≡ get_or d.homes i 0 = ap (λ (l : List ℕ). get_or l i 0) same in
    omega (arith, home.high, at, c.requires.long, c.loop-i.invariant.same.same_length)

pub returns-in-Err-clause-keeps : goal.returns-in-Err-clause-keeps
returns-in-Err-clause-keeps g c = λ s chain second logged.
    let log = c.args.log.now in
    let d = logged_of c.args.commit.now in
    let i = c.loop-i.i in
    let same = c.deref-homes.ensures.value in
    let lt : i < length d.homes = omega (arith, c.loop-i-test.true, ap length same) in
    let h : ℕ = get_or c.deref-homes.result.now i 0 in
    let at : get_or d.homes i 0 ≡ h = sym (ap (λ (l : List ℕ). get_or l i 0) same) in
    let home = subst (IsLogHome log) at (home_at log d i c.requires.logged lt) in
    let P : ℕ → Type 0 = λ b. newest_or log.ring b s.position chain b ≢ b in
    let one = subst P at (all_at P d.homes i logged lt) in
    let len = c.loop-i.invariant.same.same_length in
    let record_low = c.block_behind-record.ensures in
    writes_then g.D.Device log s chain second c.args.device.now c.loop-i.device c.copy_unless.new.device
    c.loop-i.invariant.same.honest.1 (c.loop-i.invariant.keeps s chain second logged)
    (copy_keeps_unless g.D.Device log s chain second c.loop-i.device c.copy_unless.new.device
    c.block_behind-record.result h c.is_younger-skip.result _ (g.met.D.Device.since_now c.loop-i.device)
    c.copy_unless.ensures home one
    (omega (arith, record_low.low, record_low.log.some_homes, c.requires.long, len))
    (omega (arith, c.requires.long, len)))

pub loop-i-preserved : goal.loop-i-preserved
loop-i-preserved g c =
    let log = c.args.log.now in
    let d = logged_of c.args.commit.now in
    let p = records_position c.args.commit.now.position d in
    let i = c.loop-i.i in
    let inv = c.loop-i.invariant in
    let did = c.copy_unless.ensures in
    let same = c.deref-homes.ensures.value in
    let lt : i < length d.homes = omega (arith, c.loop-i-test.true, ap length same) in
    let h : ℕ = get_or c.deref-homes.result.now i 0 in
    let r : ℕ = c.block_behind-record.result in
    let at : get_or d.homes i 0 ≡ h = sym (ap (λ (l : List ℕ). get_or l i 0) same) in
    let home = subst (IsLogHome log) at (home_at log d i c.requires.logged lt) in
    let len = inv.same.same_length in
    let record_low = c.block_behind-record.ensures in
    let there : r ≡ ring_block log.ring (p + i) =
    record_low.value ∙ ap (ring_block log.ring) (omega (arith, c.requires.head)) in
    record {
      copied = λ honest. records_more log p (get nat_eq c.args.youngest.now) c.args.place g.D.Device c.loop-i.device
          c.copy_unless.new.device r h i c.is_younger-skip.result d (g.D.Device.seen c.args.device.now) c.in-Ok.ensures
          (inv.same.honest.1 honest) record_low.log c.requires.logged lt (sym at) there
          (omega (arith, c.requires.long, len)) c.is_younger-skip.ensures.0 (inv.copied honest);
      keeps = λ s chain second logged.
          let P : ℕ → Type 0 = λ b. newest_or log.ring b s.position chain b ≢ b in
          let one = subst P at (all_at P d.homes i logged lt) in
          writes_then g.D.Device log s chain second c.args.device.now c.loop-i.device c.copy_unless.new.device
          inv.same.honest.1 (inv.keeps s chain second logged)
          (copy_keeps_unless g.D.Device log s chain second c.loop-i.device c.copy_unless.new.device r h
          c.is_younger-skip.result _ (g.met.D.Device.since_now c.loop-i.device) did home one
          (omega (arith, record_low.low, record_low.log.some_homes, c.requires.long, len))
          (omega (arith, c.requires.long, len)));
      same = same_then g.D.Device c.args.device.now c.loop-i.device c.copy_unless.new.device inv.same
          (same_did g.D.Device c.loop-i.device c.copy_unless.new.device _ _ did);
      faults = c.in-Ok.ensures.faults ∙ inv.faults;
    }
