use Rattle.std.proofs.lemmas.List.{take_all}
use Rattle.std.proofs.Common.{Option, nat_eq, ◌≤◌, ℕ, ◌+◌, ◌<◌, List, length, take, drop, sym, subst, ◌∙◌, arith}
use Rattle.indexmap.specs.IndexMap.{get}
use Rattle.log_codec.specs.Commit.{LogDescriptor}
use Rattle.log_codec.specs.Chain.{records_position}
use Rattle.log_recovery.specs.declared.found.FoundCommit.{FoundCommit}
use Rattle.log_recovery.specs.Reading.{logged_of, chain_of}
use Rattle.log_opening.specs.inside.Keeping.{HasRecords, HasHomesBut}
use Rattle.log_opening.proofs.Keeping.{writes_then, same_then, homes_more, has_home, homes_all, length-chain}
use Rattle.log_opening.proofs.Keeping.{placed_at, split_at, are_logged}
use Rattle.log_opening.proofs.homes.write_homes.Goals as goal

pub write_records-requires-clause-head : goal.write_records-requires-clause-head
write_records-requires-clause-head g c =
    let found = c.args.found.now in
    (placed_at c.args.log.now found.start.position found.commits.items c.index.result.now c.loop-i.i
    c.requires.found.placed (omega (arith, c.loop-i-test.true, c.len-i-end.ensures)) c.index.ensures).1

pub write_records-requires-clause-logged : goal.write_records-requires-clause-logged
write_records-requires-clause-logged g c =
    let found = c.args.found.now in
    (placed_at c.args.log.now found.start.position found.commits.items c.index.result.now c.loop-i.i
    c.requires.found.placed (omega (arith, c.loop-i-test.true, c.len-i-end.ensures)) c.index.ensures).2

pub returns-in-Err-clause-keeps : goal.returns-in-Err-clause-keeps
returns-in-Err-clause-keeps g c = λ second.
    let log = c.args.log.now in
    let found = c.args.found.now in
    let cs = found.commits.items in
    let i = c.loop-i.i in
    let commit = c.index.result.now in
    let lt : i < length cs = omega (arith, c.loop-i-test.true, c.len-i-end.ensures) in
    let placed = placed_at log found.start.position cs commit i c.requires.found.placed lt c.index.ensures in
    let split = split_at log cs commit i lt c.index.ensures in
    writes_then g.D.Device log found.start (chain_of cs) second c.args.device.now c.loop-i.device
    c.write_records.new.device c.loop-i.invariant.same.honest.1 (c.loop-i.invariant.keeps second)
    (c.write_records.ensures.keeps found.start (chain_of cs) second
    (are_logged log found.start (chain_of cs) (chain_of (take i cs)) (chain_of (drop (i + 1) cs)) (logged_of commit)
    c.ring-ring.ensures.log placed.2 split.0))

pub loop-i-preserved : goal.loop-i-preserved
loop-i-preserved g c =
    let log = c.args.log.now in
    let found = c.args.found.now in
    let cs = found.commits.items in
    let i = c.loop-i.i in
    let inv = c.loop-i.invariant in
    let commit = c.index.result.now in
    let d = logged_of commit in
    let old = g.D.Device.seen c.args.device.now in
    let mid = g.D.Device.seen c.loop-i.device in
    let new = g.D.Device.seen c.write_records.new.device in
    let p = found.start.position in
    let young : ℕ → Option ℕ = get nat_eq c.args.youngest.now in
    let lt : i < length cs = omega (arith, c.loop-i-test.true, c.len-i-end.ensures) in
    let placed = placed_at log p cs commit i c.requires.found.placed lt c.index.ensures in
    let split = split_at log cs commit i lt c.index.ensures in
    let P : ℕ → Type 0 = λ q. HasRecords log (records_position q d) d.homes young i mid new in
    let Q : List LogDescriptor → Type 0 = λ l. HasHomesBut log p l young (i + 1) old new in
    record {
      copied = λ honest. subst Q (sym split.1) (homes_more log p (chain_of (take i cs)) d young i old mid new
          c.ring-ring.ensures.log
          (λ b is. has_home cs commit i b lt c.index.ensures (c.requires.places b i is)) (inv.copied honest)
          (subst P placed.0 (c.in-Ok.ensures.copied (inv.same.honest.1 honest))));
      keeps = λ second. writes_then g.D.Device log found.start (chain_of cs) second c.args.device.now c.loop-i.device
          c.write_records.new.device inv.same.honest.1 (inv.keeps second)
          (c.write_records.ensures.keeps found.start (chain_of cs) second
          (are_logged log found.start (chain_of cs) (chain_of (take i cs)) (chain_of (drop (i + 1) cs)) d
          c.ring-ring.ensures.log placed.2 split.0));
      same = same_then g.D.Device c.args.device.now c.loop-i.device c.write_records.new.device inv.same
          c.write_records.ensures.same;
      faults = c.in-Ok.ensures.faults ∙ inv.faults;
    }

pub returns-clause-copied : goal.returns-clause-copied
returns-clause-copied g c = λ honest.
    let log = c.args.log.now in
    let cs = c.args.found.now.commits.items in
    let i = c.loop-i.i in
    let young : ℕ → Option ℕ = get nat_eq c.args.youngest.now in
    let old = g.D.Device.seen c.args.device.now in
    let new = g.D.Device.seen c.loop-i.device in
    let p = c.args.found.now.start.position in
    let all : length cs ≤ i = omega (arith, c.loop-i-test.false, c.len-i-end.ensures) in
    let P : List (FoundCommit g.row.A.Denot) → Type 0 = λ l. HasHomesBut log p (chain_of l) young i old new in
    homes_all log p (chain_of cs) young i old new c.requires.places (omega (arith, all, length-chain cs))
    (subst P (take_all i cs all) (c.loop-i.invariant.copied honest))
