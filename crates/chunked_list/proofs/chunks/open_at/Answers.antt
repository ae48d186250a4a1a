use Rattle.std.proofs.Common.{◌≡◌, ◌<◌, ◌∙◌, ◌+◌, ◌-◌, subst, length, arith}
use Rattle.std.proofs.lemmas.List.{length-set}
use Rattle.chunked_list.specs.inside.Chunks.{HasHole}
use Rattle.chunked_list.proofs.ChunkLaws.{opened}
use Rattle.chunked_list.proofs.chunks.open_at.Goals as goal

pub loop-number-preserved : goal.loop-number-preserved
loop-number-preserved g c =
    let before = c.loop-number.invariant in
    let chunks = c.loop-number.chunks.items in
    let n = c.loop-number.number - 1 in
    let at : c.loop-number.number ≡ n + 1 = omega (arith, c.loop-number-test.true) in
    let within : n + 1 < length chunks =
    omega (arith, before.chunks, c.requires.within, c.loop-number.auto.number, c.loop-number-test.true) in
    let step = opened chunks (c.args.count + 1) n (n + 1) c.pop_last-last.result c.index_mut.result.now
    c.index_mut-in-loop-number.result.now c.pop_last-last.new.self c.push_first.new.self (omega arith)
    (subst (HasHole chunks (c.args.count + 1)) at before.hole) within c.index_mut.ensures.value c.pop_last-last.ensures
    c.index_mut-in-loop-number.ensures.value c.push_first.ensures in
    record {
      hole = step.0;
      same = step.1 ∙ before.same;
      from = omega (arith, c.loop-number-test.true);
      chunks = length-set _ _ _ ∙ length-set _ _ _ ∙ before.chunks;
    }
