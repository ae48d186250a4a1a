use Rattle.std.proofs.Common.{◌<◌, ◌∙◌, ◌+◌, length, arith}
use Rattle.std.proofs.lemmas.List.{length-set}
use Rattle.chunked_list.proofs.ChunkLaws.{closed}
use Rattle.chunked_list.proofs.chunks.close_at.Goals as goal

pub loop-number-preserved : goal.loop-number-preserved
loop-number-preserved g c =
    let before = c.loop-number.invariant in
    let chunks = c.loop-number.chunks.items in
    let n = c.loop-number.number in
    let within : n + 1 < length chunks =
    omega (arith, before.chunks, c.requires.within, c.loop-number.auto.number, c.loop-number-test.true) in
    let step = closed chunks (c.args.count + 1) n (n + 1) c.pop_first-next.result c.index_mut.result.now
    c.index_mut-in-loop-number.result.now c.pop_first-next.new.self c.push_last.new.self (omega arith)
    before.hole within c.index_mut.ensures.value c.pop_first-next.ensures
    c.index_mut-in-loop-number.ensures.value c.push_last.ensures in
    record {
      hole = step.0;
      same = step.1 ∙ before.same;
      chunks = length-set _ _ _ ∙ length-set _ _ _ ∙ before.chunks;
    }
