use Rattle.std.proofs.Common.{◌≡◌, ◌<◌, List, ℕ, arith, ap, subst, length, get_or}
use Rattle.machine_log.specs.inside.Committing.{ArePut, moved_home}
use Rattle.machine_log.proofs.Committed.{home_at, none_put, puts_none, puts_more}
use Rattle.machine_log.proofs.committing.put_records.Goals as goal

pub loop-place-init : goal.loop-place-init
loop-place-init g c = none_put c.args.shown.now c.args.batch.now c.args.firsts.shown c.args.firsts.volume g.D.Device
    c.args.pager.now c.requires.empty

pub moved_home-requires-clause-low : goal.moved_home-requires-clause-low
moved_home-requires-clause-low g c =
    let at = home_at c.args.shown.now.geometry c.args.batch.now _ c.loop-place.place c.requires.batch
    c.homes-home-items.ensures c.loop-place-test.true in
    omega (arith, at.low, c.requires.low)

pub moved_home-requires-clause-high : goal.moved_home-requires-clause-high
moved_home-requires-clause-high g c =
    let at = home_at c.args.shown.now.geometry c.args.batch.now _ c.loop-place.place c.requires.batch
    c.homes-home-items.ensures c.loop-place-test.true in
    omega (arith, at.high, c.requires.high)

pub returns-in_default-clause-staged : goal.returns-in_default-clause-staged
returns-in_default-clause-staged g c = c.loop-place.invariant.staged

pub returns-in_default-clause-over : goal.returns-in_default-clause-over
returns-in_default-clause-over g c = c.loop-place.invariant.over

pub returns-in-Err-clause-staged : goal.returns-in-Err-clause-staged
returns-in-Err-clause-staged g c =
    (puts_none c.args.shown.now c.args.batch.now c.args.firsts.shown c.args.firsts.volume g.D.Device c.args.pager.now
    c.loop-place.place c.loop-place.pager c.put.new.self c.in-Err.ensures.unchanged c.loop-place.invariant).staged

pub returns-in-Err-clause-over : goal.returns-in-Err-clause-over
returns-in-Err-clause-over g c =
    (puts_none c.args.shown.now c.args.batch.now c.args.firsts.shown c.args.firsts.volume g.D.Device c.args.pager.now
    c.loop-place.place c.loop-place.pager c.put.new.self c.in-Err.ensures.unchanged c.loop-place.invariant).over

pub loop-place-preserved : goal.loop-place-preserved
loop-place-preserved g c =
    let batch = c.args.batch.now in
    let low = c.args.firsts.shown in
    let first = c.args.firsts.volume in
    let n = c.loop-place.place in
    let same = c.homes-home-items.ensures in
    let moved : List ℕ → ℕ = λ homes. moved_home first low (get_or homes n 0) in
    let at : c.moved_home.result ≡ moved batch.homes = subst (λ h. c.moved_home.result ≡ moved h) same
    c.moved_home.ensures in
    puts_more c.args.shown.now batch low first g.D.Device c.args.pager.now n c.moved_home.result c.loop-place.pager
    c.put.new.self c.in-Some.record.now c.requires.batch c.requires.low
    (subst (λ (l : List ℕ). n < length l) same c.loop-place-test.true) c.in-Some.ensures at c.in-Ok.ensures.put
    c.put.ensures.over c.loop-place.invariant

pub returns-clause-put : goal.returns-clause-put
returns-clause-put g c =
    let done : c.loop-place.place ≡ length c.args.batch.now.homes =
    omega (arith, c.loop-place-test.false, c.loop-place.auto.place-end, ap length c.homes-home-items.ensures) in
    subst (λ n. ArePut c.args.shown.now c.args.batch.now c.args.firsts.shown c.args.firsts.volume n
    c.loop-place.pager.staged) done c.loop-place.invariant.put

pub returns-clause-staged : goal.returns-clause-staged
returns-clause-staged g c = c.loop-place.invariant.staged

pub returns-clause-over : goal.returns-clause-over
returns-clause-over g c = c.loop-place.invariant.over
