use Rattle.std.proofs.Common.{◌≡◌, ◌*◌, not, length, refl, ap, ◌∙◌, arith}
use Rattle.device.proofs.Public.{done_seen}
use Rattle.log_codec.specs.Start.{start_block}
use Rattle.log_recovery.specs.Reading.{chain_of}
use Rattle.log_opening.specs.inside.Keeping.{WritesKeeping}
use Rattle.log_opening.proofs.Keeping.{writes_then, writes_sync, sync_same, start_keeps, ready_by, length-start_text}
use Rattle.log_opening.proofs.Looked.{on_ok_by}
use Rattle.log_opening.proofs.switching.prepare.Goals.{After-write_at}
use Rattle.log_opening.proofs.switching.prepare.Goals as goal

pub returns-in-Err-clause-keeps : goal.returns-in-Err-clause-keeps
returns-in-Err-clause-keeps g c = c.write_homes.ensures.keeps c.args.found.now.second

-- the place and the size of the start that is written
start_at : (g : _) (c : After-write_at g)
    → 4096 * c.from-at.result ≡ 4096 * start_block (not c.args.found.now.second)
start_at g c = ap (λ n. 4096 * n) (c.from-at.ensures ∙ c.start_block_of.ensures)

start_size : (g : _) (c : After-write_at g) → length c.encode_start.result ≡ 4096
start_size g c = ap length c.encode_start.ensures ∙ length-start_text c.args.next.now

-- a start that doesn't count is written behind the records
start_written : (g : _) (c : After-write_at g)
    → WritesKeeping g.D.Device c.args.log.now c.args.found.now.start (chain_of c.args.found.now.commits.items)
    c.args.found.now.second c.args.device.now c.write_at.new.device
start_written g c =
    let log = c.args.log.now in
    let found = c.args.found.now in
    let chain = chain_of found.commits.items in
    let same = c.write_homes.ensures.same in
    writes_then g.D.Device log found.start chain found.second c.args.device.now c.write_homes.new.device
    c.write_at.new.device same.honest.1 (c.write_homes.ensures.keeps found.second)
    (start_keeps g.D.Device log found.start chain found.second c.write_homes.new.device c.write_at.new.device
    (4096 * c.from-at.result) c.encode_start.result _ c.write_at.ensures c.ring-ring.ensures.log (start_at g c)
    (start_size g c) (omega (arith, c.requires.long, same.same_length)))

pub returns-in-Err-write_at-clause-keeps : goal.returns-in-Err-write_at-clause-keeps
returns-in-Err-write_at-clause-keeps g c =
    start_written g (goal.at.returns-in-Err-write_at-clause-keeps g c).After-write_at

pub returns-in-Ok-write_at-clause-keeps : goal.returns-in-Ok-write_at-clause-keeps
returns-in-Ok-write_at-clause-keeps g c =
    let log = c.args.log.now in
    let found = c.args.found.now in
    writes_then g.D.Device log found.start (chain_of found.commits.items) found.second c.args.device.now
    c.write_at.new.device c.make_durable.new.device
    (λ h. c.write_at.ensures.honest.1 (c.write_homes.ensures.same.honest.1 h))
    (start_written g (goal.at.returns-in-Ok-write_at-clause-keeps g c).After-write_at)
    (writes_sync g.D.Device log found.start (chain_of found.commits.items) found.second c.write_at.new.device
    c.make_durable.new.device _ c.make_durable.ensures
    (sync_same g.D.Device c.write_at.new.device c.make_durable.new.device _ c.make_durable.ensures))

pub returns-in-Ok-write_at-clause-ready : goal.returns-in-Ok-write_at-clause-ready
returns-in-Ok-write_at-clause-ready g c = λ honest.
    let a = (goal.at.returns-in-Ok-write_at-clause-ready g c).After-write_at in
    let log = c.args.log.now in
    let found = c.args.found.now in
    let same = c.write_homes.ensures.same in
    let mid = same.honest.1 honest in
    let is = sync_same g.D.Device c.write_at.new.device c.make_durable.new.device _ c.make_durable.ensures
    (c.write_at.ensures.honest.1 mid) ∙ done_seen c.in-Ok-write_at.ensures mid refl in
    let keeps = returns-in-Ok-write_at-clause-keeps g c in
    on_ok_by c.make_durable.result (λ ok. ready_by log found.start (chain_of found.commits.items) found.second
    c.args.next.now (4096 * c.from-at.result) c.encode_start.result (g.D.Device.seen c.args.device.now)
    (g.D.Device.seen c.write_homes.new.device) (g.D.Device.seen c.make_durable.new.device) c.ring-ring.ensures.log
    (c.in-Ok.ensures.copied honest) (keeps.seen honest) is (start_at g a) c.encode_start.ensures (start_size g a)
    (omega (arith, c.requires.long, same.same_length)))
