use Rattle.std.proofs.Common.{◌∙◌, ◌*◌, ◌≤◌, ℕ, List, length, sym, subst, arith}
use Rattle.std.proofs.lemmas.Result.{err_from_is_err_and}
use Rattle.log_codec.specs.declared.start.LogStart.{LogStart}
use Rattle.log_codec.specs.Start.{HasLogStart}
use Rattle.log_recovery.specs.inside.Commit.{RefusesNext, HoldsChain}
use Rattle.log_recovery.proofs.Commits.{start_there, refuses_log}
use Rattle.log_recovery.proofs.OnlyReading.{reads_then}
use Rattle.log_recovery.proofs.reading.read_log.Goals as goal

pub returns-in_err-found-clause-refused : goal.returns-in_err-found-clause-refused
returns-in_err-found-clause-refused g c = λ honest.
    let p = err_from_is_err_and c.from_residual-in_err-found.result c.from_residual-in_err-found.ensures.1 in
    let bytes = g.D.Device.seen c.args.device.now in
    let log = c.args.log.now in
    let start = c.in-Some.start in
    let first = c.in_ok-selecting.ensures in
    let second = c.in_ok-block.ensures in
    let read = reads_then first.read second.read in
    let there = start_there log.ring start bytes (g.D.Device.seen c.read_block.new.device) c.in_ok-selecting.selecting
    c.in_ok-block.block c.start_block_of.result c.is_second-second.result (first.bytes honest) first.read.same
    c.is_second-second.ensures c.start_block_of.ensures (second.bytes (first.read.honest.1 honest))
    c.in-Some.ensures.some in
    let P : List ℕ → Type 0 = λ l. RefusesNext log start.epoch start.position start.number log.ring l
    c.in_err-found.field-0.0 in
    rw (p.1, p.2) (refuses_log log start bytes c.in_err-found.field-0.0 c.block_count.ensures.log there.1
    (subst P read.same (c.in_err-found.ensures.refused (read.honest.1 honest))))

pub returns-clause-holds : goal.returns-clause-holds
returns-clause-holds g c = λ honest.
    let bytes = g.D.Device.seen c.args.device.now in
    let log = c.args.log.now in
    let start = c.in-Some.start in
    let first = c.in_ok-selecting.ensures in
    let second = c.in_ok-block.ensures in
    let read = reads_then first.read second.read in
    let found = c.in_ok-found.found in
    let same = c.in_ok-found.ensures.same in
    let there = start_there log.ring start bytes (g.D.Device.seen c.read_block.new.device) c.in_ok-selecting.selecting
    c.in_ok-block.block c.start_block_of.result c.is_second-second.result (first.bytes honest) first.read.same
    c.is_second-second.ensures c.start_block_of.ensures (second.bytes (first.read.honest.1 honest))
    c.in-Some.ensures.some in
    let S : LogStart → Type 0 = λ s. HasLogStart log.ring s bytes in
    let P : List ℕ → Type 0 = λ l. HoldsChain log found l in
    let long : 4096 * log.blocks ≤ length bytes = omega (arith, c.block_count.ensures.value) in
    record {
      selected = same.0 ∙ there.0;
      log = record {
        long = long;
        start = subst S (sym same.1) there.1;
        commits = subst P read.same (c.in_ok-found.ensures.chain (read.honest.1 honest));
      };
    }

pub returns-clause-read : goal.returns-clause-read
returns-clause-read g c =
    reads_then (reads_then c.in_ok-selecting.ensures.read c.in_ok-block.ensures.read) c.in_ok-found.ensures.read
